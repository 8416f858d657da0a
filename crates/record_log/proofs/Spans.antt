-- Where a record's bytes are.
use Rattle.std.proofs.Common.{◌≡◌, ℕ, zero, suc, ◌+◌, ◌-◌, ◌^◌, ◌<◌, ◌≤◌, min, List, [], ◌∷◌, ◌++◌}
use Rattle.std.proofs.Common.{length, take, drop, Some}
use Rattle.std.proofs.Common.{refl, sym, ap, subst, ◌∙◌, inl, inr, append_assoc, length-append}
use Rattle.std.proofs.Common.{arith}
use Rattle.std.specs.Prelude.{IsSomeAnd, IsNone, slice_get}
use Rattle.std.specs.Prelude.{slice_index_or}
use Rattle.std.specs.Int.{w32, to_be_bytes}
use Rattle.std.proofs.lemmas.List.{take_at, drop_at, drop-drop, length-drop}
use Rattle.disk.specs.declared.DiskError.{DiskError}
use Rattle.disk.specs.declared.DiskError.TheVariants as disk'
use Rattle.disk.specs.{IsEnvironmental, State, Slot, seen}
use Rattle.disk.specs.Calls.{IsRefusalOf}
use Rattle.record_log.specs.declared.error.LogError.TheVariants as log'
use Rattle.record_log.specs.declared.log.Log.{Log}
use Rattle.record_log.specs.Grammar.{Represents, entry, ends_from}
use Rattle.record_log.specs.Error.{log_error}
use Rattle.record_log.specs.Logs.{LogHolds, IsPart}

-- record number i of those that begin at a place: its bytes, and what stands around them
pub record Span (bytes : List ℕ) (at : ℕ) (records : List (List ℕ)) (i : ℕ) : Type 0 where
  pub one : List ℕ
  pub front : List ℕ
  pub rest : List ℕ
  pub is : slice_get records i ≡ Some one
  pub parts : bytes ≡ front ++ (one ++ rest)
  pub begin : at + length front ≡ slice_index_or (at ∷ ends_from at records) i 0 + 5
  pub end : slice_index_or (ends_from at records) i 0 ≡ at + length front + length one

-- each record has its bytes in their place
pub span_of : (bytes : List ℕ) (at : ℕ) (records : List (List ℕ)) (i : ℕ) →
    Represents bytes records → i < length records → Span bytes at records i
span_of bytes at [] i s within = absurd (omega (arith, within))
span_of bytes at (first ∷ others) zero s within =
    let head = 1 ∷ to_be_bytes w32 (length first) in
    record {
      one = first;
      front = head;
      rest = s.0;
      is = refl;
      parts = s.2 ∙ append_assoc head first s.0;
      begin = refl;
      end = refl;
    }
span_of bytes at (first ∷ others) (suc i) s within =
    let below = span_of s.0 (at + 5 + length first) others i s.3 (omega arith) in
    let size = length-append (entry first) below.front in
    record {
      one = below.one;
      front = entry first ++ below.front;
      rest = below.rest;
      is = below.is;
      parts =
          s.2 ∙ ap (λ (b : List ℕ). entry first ++ b) below.parts
          ∙ sym (append_assoc (entry first) below.front (below.one ++ below.rest));
      begin = omega (arith, below.begin, size);
      end = omega (arith, below.end, size);
    }

-- there are as many ends as records
length-ends : (at : ℕ) (records : List (List ℕ)) → length (ends_from at records) ≡ length records
length-ends at [] = refl
length-ends at (first ∷ others) = ap suc (length-ends (at + 5 + length first) others)

-- The place and the length of a record's bytes as the code computes them are those of the record.
module _ (bytes ends : List ℕ) (records : List (List ℕ)) (i begin len : ℕ)
    (stands : Represents bytes records) (ends_are : ends ≡ ends_from 0 records)
    (short : length bytes < 2 ^ 64) (within : i < length ends)
    (begin_is : begin ≡ min (slice_index_or (0 ∷ ends) i 0 + 5) (2 ^ 64 - 1))
    (len_is : len ≡ slice_index_or ends i 0 - begin) where
  span : Span bytes 0 records i
  span =
      span_of bytes 0 records i stands
      (omega (arith, within, ap length ends_are, length-ends 0 records))

  -- where the record's bytes begin and end
  record Place : Type 0 where
    pub front : length span.front ≡ begin
    pub size : length span.one ≡ len
    pub fits : begin + len ≤ length bytes

  -- it is where the code looks
  place : Place
  place =
      let s = span in
      let before = ap (λ (e : List ℕ). slice_index_or (0 ∷ e) i 0) ends_are in
      let behind = ap (λ (e : List ℕ). slice_index_or e i 0) ends_are in
      let begins = s.begin in
      let last = s.end in
      let size : length bytes ≡ length s.front + (length s.one + length s.rest) =
      ap length s.parts ∙ length-append s.front (s.one ++ s.rest)
      ∙ ap (λ (k : ℕ). length s.front + k) (length-append s.one s.rest) in
      let front : length s.front ≡ begin =
      omega (arith, begins, before, begin_is, size, short) in
      let one : length s.one ≡ len = omega (arith, len_is, last, behind, front) in
      record { front = front; size = one; fits = omega (arith, size, front, one) }

  -- the bytes there are the record
  pub taken : (part : List ℕ) → part ≡ take len (drop begin bytes) →
      slice_get records i ≡ Some part
  taken part is =
      let s = span in
      let p = place in
      let moved : drop begin bytes ≡ s.one ++ s.rest =
      ap (drop begin) s.parts ∙ drop_at s.front (s.one ++ s.rest) begin p.front in
      s.is ∙ ap Some (sym (is ∙ ap (take len) moved ∙ take_at s.one s.rest len p.size))

  -- so are those that are split off, wherever bytes may end
  pub split_off : (rest part : List ℕ) (from size : ℕ) → from ≡ min begin (length bytes) →
      rest ≡ drop from bytes → size ≡ min len (length rest) → part ≡ take size rest →
      slice_get records i ≡ Some part
  split_off rest part from size from_is rest_is size_is is =
      let p = place in
      let there : from ≡ begin = omega (arith, from_is, p.fits) in
      let left : rest ≡ drop begin bytes =
      rest_is ∙ ap (λ (k : ℕ). drop k bytes) there in
      let whole : size ≡ len =
      omega (arith, size_is, p.fits, ap length left, length-drop begin bytes) in
      taken part (is ∙ ap (λ (k : ℕ). take k rest) whole ∙ ap (take len) left)

-- The same of a record in its file.
module _ (disk : State) (log : Log) (records : List (List ℕ)) (i begin len at : ℕ)
    (h : LogHolds disk log records) (within : i < length log.ends.items)
    (begin_is : begin ≡ min (slice_index_or (0 ∷ log.ends.items) i 0 + 5) (2 ^ 64 - 1))
    (len_is : len ≡ slice_index_or log.ends.items i 0 - begin)
    (at_is : at ≡ min (log.start + begin) (2 ^ 64 - 1)) where
  -- the bytes from the log's first place on are short
  short : length (drop log.start h.bytes) < 2 ^ 64
  short = omega (arith, length-drop log.start h.bytes, h.fits)

  -- where the record begins and ends, in the file
  record InFile : Type 0 where
    pub start : log.start + begin ≡ at
    pub fits : at + len ≤ length h.bytes

  in_file : InFile
  in_file =
      let p = place (drop log.start h.bytes) log.ends.items records i begin len h.stands h.ends
      short within begin_is len_is in
      let cut = length-drop log.start h.bytes in
      let start : log.start + begin ≡ at = omega (arith, at_is, p.fits, cut, h.fits, h.start) in
      record { start = start; fits = omega (arith, p.fits, cut, start, h.start) }

  -- the bytes that are read there are the record
  pub given : (part : List ℕ) → IsPart disk log.file at len part → slice_get records i ≡ Some part
  given part read =
      let P : List ℕ → Type 0 = λ it. (at + len ≤ length it) × (part ≡ take len (drop at it)) in
      let parts : P h.bytes = subst (λ (slot : Slot). IsSomeAnd (seen slot) P) h.sure read in
      let moved : drop at h.bytes ≡ drop begin (drop log.start h.bytes) =
      ap (λ (k : ℕ). drop k h.bytes) (sym in_file.start)
      ∙ sym (drop-drop begin log.start h.bytes) in
      taken (drop log.start h.bytes) log.ends.items records i begin len h.stands h.ends short
      within begin_is len_is part (parts.1 ∙ ap (take len) moved)

  -- a record that a log has is there to be read
  pub there : (e : DiskError) → IsRefusalOf e disk log.file (at + len) →
      IsEnvironmental (log'.Disk disk'.Failed) log'.Memory (log_error e)
  there disk'.Failed why = inl refl
  there disk'.NoFile why =
      let gone : IsNone (Some h.bytes) = subst (λ (slot : Slot). IsNone (seen slot)) h.sure why in
      absurd cc
  there disk'.Short why =
      let p = in_file in
      let P : List ℕ → Type 0 = λ it. length it < at + len in
      let short : P h.bytes = subst (λ (slot : Slot). IsSomeAnd (seen slot) P) h.sure why in
      absurd (omega (arith, short, p.fits))
  there disk'.Memory why = inr refl
