-- Frames that are sent: posted one after another, each with its line.
use Rattle.std.proofs.Common.{◌≡◌, ℕ, suc, ◌+◌, ◌<◌, List, [], ◌∷◌, ◌++◌, length, take, drop}
use Rattle.std.proofs.Common.{get_or}
use Rattle.std.proofs.Common.{sym, ap, ap₂, subst, ◌∙◌, append_assoc, append-nil, length-append}
use Rattle.std.proofs.Common.{arith, Some}
use Rattle.std.proofs.lemmas.Slice.Zip.{AllZip-long}
use Rattle.std.proofs.lemmas.List.{take_more}
use Rattle.std.proofs.Math.Seq.{drop-cons}
use Rattle.std.proofs.lemmas.List.Elements.{All-from_recursion}
use Rattle.std.specs.List.{AllByRecursion, AllZip}
use Rattle.chain_core.specs.declared.Sent.{Sent}
use Rattle.chain_core.specs.{Machine}
use Rattle.lab.specs.declared.delivery.Posted.{Posted}
use Rattle.lab.specs.declared.report.Line.{Line}
use Rattle.lab.specs.OutcomeLines.{sent_line, sent_lines}
use Rattle.lab.specs.Posting.{FramesFollow, HasPosted, IsPosted}

-- two pairs of lists, joined
pub zip_both : {A B : Type 0} (R : A → B → Type 0) (xs ys : List A) (us vs : List B) →
    AllZip R xs us → AllZip R ys vs → AllZip R (xs ++ ys) (us ++ vs)
zip_both R [] ys [] vs first second = second
zip_both R [] ys (u ∷ us) vs first second = absurd first
zip_both R (x ∷ xs) ys [] vs first second = absurd first
zip_both R (x ∷ xs) ys (u ∷ us) vs first second =
    (first.0, zip_both R xs ys us vs first.1 second)

-- nothing is sent
pub posted_none : (x : ℕ) (old : List Posted) → HasPosted old x [] old
posted_none x old = record { more = []; whole = sym (append-nil old); each = tt }

-- frames are posted, and then others
pub posted_both : (x : ℕ) (a b c : List Posted) (first second : List Sent) → HasPosted a x first b →
    HasPosted b x second c → HasPosted a x (first ++ second) c
posted_both x a b c first second f s = record {
  more = f.more ++ s.more;
  whole = s.whole ∙ ap (λ (l : List Posted). l ++ s.more) f.whole
      ∙ append_assoc a f.more s.more;
  each = zip_both (IsPosted x) f.more s.more first second f.each s.each;
}

-- so many more
pub posted-length : (x : ℕ) (old new : List Posted) (sent : List Sent) → HasPosted old x sent new →
    length new ≡ length old + length sent
posted-length x old new sent k =
    ap length k.whole ∙ length-append old k.more
    ∙ ap (λ n. length old + n) (sym (AllZip-long (IsPosted x) k.more sent k.each))

-- one frame more, of those to be sent
pub posted_next : (node : ℕ) (a b c : List Posted) (sent : List Sent) (i : ℕ) (x : Sent) →
    i < length sent → x ≡ get_or sent i x → HasPosted a node (take i sent) b →
    HasPosted b node (x ∷ []) c → HasPosted a node (take (i + 1) sent) c
posted_next node a b c sent i x within is f s =
    subst (λ (l : List Sent). HasPosted a node l c)
    (ap (λ (y : Sent). take i sent ++ y ∷ []) is ∙ sym (take_more sent i x within))
    (posted_both node a b c (take i sent) (x ∷ []) f s)

-- .. and one line more
pub trace_next : (node : ℕ) (b c : List Posted) (sent : List Sent) (i : ℕ) (x : Sent)
    (lines : List Line) → i < length sent → x ≡ get_or sent i x → HasPosted b node (x ∷ []) c →
    (lines ++ sent_line (length b + 1) x ∷ []) ++ sent_lines (length c) (drop (i + 1) sent)
    ≡ lines ++ sent_lines (length b) (drop i sent)
trace_next node b c sent i x lines within is k =
    let more : length c ≡ suc (length b) = omega (arith, posted-length node b c (x ∷ []) k) in
    let next : length b + 1 ≡ suc (length b) = omega arith in
    let later : suc i ≡ i + 1 = omega arith in
    append_assoc lines (sent_line (length b + 1) x ∷ []) (sent_lines (length c) (drop (i + 1) sent))
    ∙ ap₂ (λ (n m : ℕ). lines ++ sent_line n x ∷ sent_lines m (drop (i + 1) sent))
    next more
    ∙ ap (λ (l : List Sent). lines ++ sent_lines (length b) l)
    (sym (drop-cons sent i x within
    ∙ ap₂ (λ (y : Sent) (n : ℕ). y ∷ drop n sent) (sym is) later))

-- posted frames of a node have it as their sender
posted_from : (x : ℕ) (more : List Posted) (sent : List Sent) → AllZip (IsPosted x) more sent →
    AllByRecursion (λ it. it.from ≡ x) more
posted_from x [] sent each = tt
posted_from x (p ∷ more) [] each = absurd each
posted_from x (p ∷ more) (s ∷ sent) each = (each.0.from, posted_from x more sent each.1)

-- so the frames that a node posts follow
pub frames_of : (x : ℕ) (n : Machine) (old new : List Posted) (sent : List Sent) →
    HasPosted old x sent new → FramesFollow (Some (x, n)) old new
frames_of x n old new sent k = (
  k.more,
  k.whole,
  All-from_recursion (λ it. it.from ≡ x) k.more (posted_from x k.more sent k.each),
)
