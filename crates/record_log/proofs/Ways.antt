-- The records that a file represents during an append.
use Rattle.std.proofs.Common.{◌≡◌, ◌≢◌, ℕ, ◌+◌, ◌^◌, ◌<◌, ◌≤◌, List, [], ◌∷◌, ◌++◌, length, get_or}
use Rattle.std.proofs.Common.{take, drop, refl, sym, ap, subst, ◌∙◌, inl, inr, append_assoc}
use Rattle.std.proofs.Common.{length-append, arith}
use Rattle.std.specs.Int.{w32, to_be_bytes}
use Rattle.std.proofs.lemmas.Bool.{cases_eq}
use Rattle.std.proofs.Math.Seq.{get_or-append_seam}
use Rattle.std.proofs.lemmas.List.{take_at, drop_at, take-append-drop, length-take, take_more}
use Rattle.record_log.specs.Grammar.{IsClosed, entry, Represents, end_of}
use Rattle.record_log.specs.Gate.{pushed, behind_of}
use Rattle.record_log.specs.Logs.{IsOldOrNew}
use Rattle.record_log.proofs.Fronts.{Front, front_closed, front_push}
use Rattle.record_log.proofs.Pushes.{IsPartlyPushed, pushed_is}

-- the bytes of records are their text and a closed gate
pub front_of : (bytes : List ℕ) (records : List (List ℕ)) → Represents bytes records
    → (rest : List ℕ) × Front bytes records rest × IsClosed rest
front_of bytes [] s = (bytes, refl, s)
front_of bytes (first ∷ others) s =
    let below = front_of s.0 others s.3 in
    (below.0, (s.0, s.1, s.2, below.1), below.2)

-- their text, whatever follows it
pub record Text (bytes : List ℕ) (records : List (List ℕ)) (rest : List ℕ) (at : ℕ) : Type 0 where
  pub text : List ℕ
  pub parts : bytes ≡ text ++ rest
  pub size : end_of at records ≡ at + length text
  pub again : (other : List ℕ) → Front (text ++ other) records other

-- records at the front of bytes have a text
pub text_of : (at : ℕ) (bytes : List ℕ) (records : List (List ℕ)) (rest : List ℕ)
    → Front bytes records rest → Text bytes records rest at
text_of at bytes [] rest f =
    record { text = []; parts = f; size = omega arith; again = λ other. refl }
text_of at bytes (first ∷ others) rest f =
    let below = text_of (at + 5 + length first) f.0 others rest f.3 in
    record {
      text = entry first ++ below.text;
      parts =
          f.2 ∙ ap (λ (b : List ℕ). entry first ++ b) below.parts
          ∙ sym (append_assoc (entry first) below.text rest);
      size = omega (arith, below.size, length-append (entry first) below.text);
      again = λ other.
          let regrouped = append_assoc (entry first) below.text other in
          (below.text ++ other, f.1, regrouped, below.again other);
    }

-- the log's gate, and the records of other bytes with the same front
pub record Gate (bytes : List ℕ) (start gate : ℕ) (records : List (List ℕ)) : Type 0 where
  pub within : gate < length bytes
  pub closed : get_or bytes gate 0 ≢ 1
  pub again : (other rest : List ℕ) → other ≡ take gate bytes ++ rest
      → Front (drop start other) records rest

-- the gate is where the last record ends
pub gate_at : (bytes : List ℕ) (start gate : ℕ) (records : List (List ℕ)) → start ≤ length bytes
    → Represents (drop start bytes) records → gate ≡ start + end_of 0 records
    → Gate bytes start gate records
gate_at bytes start gate records inside stands is =
    let front = front_of (drop start bytes) records stands in
    let t = text_of 0 (drop start bytes) records front.0 front.1 in
    let head = take start bytes in
    let head_is : length head ≡ start = omega (arith, length-take start bytes) in
    let gate_value = front.2.0 in
    let rest = front.2.1 in
    let parts : bytes ≡ (head ++ t.text) ++ (gate_value ∷ rest) =
    sym (take-append-drop start bytes)
    ∙ ap (λ (b : List ℕ). head ++ b) (t.parts ∙ ap (λ (r : List ℕ). t.text ++ r) front.2.3)
    ∙ sym (append_assoc head t.text (gate_value ∷ rest)) in
    let size : length (head ++ t.text) ≡ gate =
    omega (arith, length-append head t.text, head_is, t.size, is) in
    let before : take gate bytes ≡ head ++ t.text =
    ap (take gate) parts ∙ take_at (head ++ t.text) (gate_value ∷ rest) gate size in
    let value : get_or bytes gate 0 ≡ gate_value =
    ap (λ (b : List ℕ). get_or b gate 0) parts
    ∙ at_end (head ++ t.text) rest gate gate_value size in
    record {
      within =
          omega (arith, ap length parts, length-append (head ++ t.text) (gate_value ∷ rest), size);
      closed = λ e. front.2.2 (sym value ∙ e);
      again = λ other behind is_other.
          let parts : other ≡ head ++ (t.text ++ behind) =
          is_other ∙ ap (λ (f : List ℕ). f ++ behind) before ∙ append_assoc head t.text behind in
          let text_is : drop start other ≡ t.text ++ behind =
          ap (drop start) parts ∙ drop_at head (t.text ++ behind) start head_is in
          subst (λ (b : List ℕ). Front b records behind) (sym text_is) (t.again behind);
    }
  where
    at_end : (front rest : List ℕ) (n value : ℕ) → length front ≡ n
        → get_or (front ++ (value ∷ rest)) n 0 ≡ value
    at_end front rest n value len =
        subst (λ (k : ℕ). get_or (front ++ (value ∷ rest)) k 0 ≡ value) len
        (get_or-append_seam front value rest 0)

-- the byte 0 is a closed gate
closed_zero : (rest : List ℕ) → IsClosed (0 ∷ rest)
closed_zero rest = (0, rest, (λ e. absurd cc), refl)

-- with the gate open the record is one more
opened_stands : (bytes : List ℕ) (start gate : ℕ) (records : List (List ℕ)) (one : List ℕ)
    → length one < 2 ^ 32 → Gate bytes start gate records → (c rest : List ℕ)
    → c ≡ take gate bytes ++ (1 ∷ (behind_of one ++ rest))
    → Represents (drop start c) (records ++ one ∷ [])
opened_stands bytes start gate records one short g c rest is =
    let text = to_be_bytes w32 (length one) in
    let regrouped : behind_of one ++ rest ≡ (text ++ one) ++ (0 ∷ rest) =
    append_assoc (text ++ one) (0 ∷ []) rest in
    let before = g.again c (1 ∷ (behind_of one ++ rest)) is in
    let front = front_push (drop start c) records (1 ∷ (behind_of one ++ rest)) one (0 ∷ rest)
    before short (ap (λ (b : List ℕ). 1 ∷ b) regrouped) in
    front_closed (drop start c) (records ++ one ∷ []) (0 ∷ rest) front (closed_zero rest)

-- with it closed the others stand, whatever follows
closed_stands : (bytes : List ℕ) (start gate : ℕ) (records : List (List ℕ))
    → Gate bytes start gate records → (c : List ℕ) (value : ℕ) (rest : List ℕ) → value ≢ 1
    → c ≡ take gate bytes ++ (value ∷ rest) → Represents (drop start c) records
closed_stands bytes start gate records g c value rest shut is =
    front_closed (drop start c) records (value ∷ rest) (g.again c (value ∷ rest) is)
    (value, rest, shut, refl)

-- a content on the way represents the records, with or without the new one
pub way_stands : (bytes : List ℕ) (start gate : ℕ) (records : List (List ℕ)) (one : List ℕ)
    → length one < 2 ^ 32 → Gate bytes start gate records → (c : List ℕ)
    → IsPartlyPushed bytes gate (behind_of one) c → IsOldOrNew start records one c
way_stands bytes start gate records one short g c (inl same) =
    let value = get_or bytes gate 0 in
    let rest = drop (gate + 1) c in
    let is : c ≡ take gate bytes ++ (value ∷ rest) =
    sym (take-append-drop (gate + 1) c)
    ∙ ap (λ (f : List ℕ). f ++ rest) (same ∙ take_more bytes gate 0 g.within)
    ∙ append_assoc (take gate bytes) (value ∷ []) rest in
    inl (closed_stands bytes start gate records g c value rest g.closed is)
way_stands bytes start gate records one short g c (inr way) =
    let behind = behind_of one ++ way.1 in
    elim (cases_eq way.0 1) [
      | inl open_gate ↦ (
          let is = way.2 ∙ ap (λ (v : ℕ). take gate bytes ++ (v ∷ behind)) open_gate in
          inr (opened_stands bytes start gate records one short g c way.1 is)
          )
      | inr shut ↦ inl (closed_stands bytes start gate records g c way.0 behind shut way.2)
    ]

-- the content after all four calls represents one record more
pub pushed_stands : (bytes : List ℕ) (start gate : ℕ) (records : List (List ℕ)) (one : List ℕ)
    → length one < 2 ^ 32 → Gate bytes start gate records
    → Represents (drop start (pushed bytes gate (behind_of one))) (records ++ one ∷ [])
pushed_stands bytes start gate records one short g =
    opened_stands bytes start gate records one short g (pushed bytes gate (behind_of one))
    (drop (gate + 1 + length (behind_of one)) bytes) (pushed_is bytes gate (behind_of one) g.within)
