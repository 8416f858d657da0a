-- What arrived determines what is received.
use Rattle.std.proofs.Common.{◌≡◌, ◌⊎◌, ◌∙◌, ℕ, List, [], ◌∷◌, ◌++◌, Option, Some, None, inl, inr}
use Rattle.std.proofs.Common.{ap, ap₂, arith, drop, get_or, refl, sym}
use Rattle.std.proofs.lemmas.Bool.{cases_lt}
use Rattle.link_messages.specs.declared.Frame.{Frame}
use Rattle.link_messages.specs.{frame_bytes}
use Rattle.link_messages.specs.Stream.{OneSpelling}
use Rattle.carriers.specs.declared.sending.Received.{Received}
use Rattle.carriers.specs.declared.sending.Received.TheVariants as received
use Rattle.carriers.specs.Carriers.{IsReadFrom, IsReceived, IsReceivedOf}

-- two lists of bytes are the same, or differ
same_number : (j k : ℕ) → (j ≡ k) ⊎ (j ≡ k → ⊥)
same_number j k = elim (cases_lt j k) [
  | inl l ↦ inr (λ e. omega (arith, l, e))
  | inr m ↦ elim (cases_lt k j)
      [ inl l ↦ inr (λ e. omega (arith, l, e)) | inr l ↦ inl (omega (arith, m, l)) ]
]

same_bytes : (a b : List ℕ) → (a ≡ b) ⊎ (a ≡ b → ⊥)
same_bytes [] [] = inl refl
same_bytes [] (y ∷ b) = inr (λ e. cc)
same_bytes (x ∷ a) [] = inr (λ e. cc)
same_bytes (x ∷ a) (y ∷ b) = elim (same_number x y) [
  | inl first ↦ elim (same_bytes a b) [
    | inl rest ↦ inl (ap₂ (λ (n : ℕ) (l : List ℕ). n ∷ l) first rest)
    | inr differ ↦ inr (λ e. differ (ap (λ (l : List ℕ). drop 1 l) e))
  ]
  | inr differ ↦ inr (λ e. differ (ap (λ (l : List ℕ). get_or l 0 0) e))
]

same_arrived : (got : Option (List ℕ)) (own : List ℕ) → (got ≡ Some own) ⊎ (got ≡ Some own → ⊥)
same_arrived None own = inr (λ e. cc)
same_arrived (Some bytes) own = elim (same_bytes bytes own) [
  | inl same ↦ inl (ap (λ (l : List ℕ). Some l) same)
  | inr differ ↦ inr (λ e. differ (cc))
]

-- of bytes that were read one thing is read
read_once : OneSpelling → (bytes : List ℕ) (one other : Received) → IsReadFrom bytes one →
    IsReadFrom bytes other → one ≡ other
read_once spells bytes (received.Frame a) (received.Frame b) is so =
    ap (λ (f : Frame). received.Frame f)
    (spells a b [] [] is.0 so.0 (ap (λ (l : List ℕ). l ++ []) (sym is.1 ∙ so.1))).0
read_once spells bytes (received.Frame a) received.Unreadable is so = absurd (so a is)
read_once spells bytes (received.Frame a) received.Lost is so = absurd so
read_once spells bytes received.Unreadable (received.Frame b) is so = absurd (is b so)
read_once spells bytes received.Unreadable received.Unreadable is so = refl
read_once spells bytes received.Unreadable received.Lost is so = absurd so
read_once spells bytes received.Lost other is so = absurd is

pub read_same : OneSpelling → (got : Option (List ℕ)) (one other : Received) →
    IsReceived got one → IsReceived got other → one ≡ other
read_same spells None one other is so = is ∙ sym so
read_same spells (Some bytes) one other is so = read_once spells bytes one other is so

pub sent_same : OneSpelling → (frame : Frame) (got : Option (List ℕ)) (one other : Received) →
    IsReceivedOf frame got one → IsReceivedOf frame got other → one ≡ other
sent_same spells frame got one other is so = elim (same_arrived got (frame_bytes frame)) [
  | inl own ↦ is.0 own ∙ sym (so.0 own)
  | inr differ ↦ read_same spells got one other (is.1 differ) (so.1 differ)
]
