-- A file that is torn, place by place.
use Rattle.std.proofs.Common.{◌≡◌, ◌≢◌, ℕ, zero, suc, ◌+◌, ◌/◌, ◌%◌, ◌<◌, ◌≤◌}
use Rattle.std.proofs.Common.{List, [], ◌∷◌, length, map, Some, Bool, true, false}
use Rattle.std.proofs.Common.{refl, sym, ap, subst, ◌∙◌, inl, inr, arith}
use Rattle.std.specs.Prelude.{slice_get, slice_set, slice_index, if◌then◌else◌}
use Rattle.std.specs.List.{enumerate_from}
use Rattle.std.specs.Option.{option_map}
use Rattle.std.proofs.Math.Nat.{mod-add-div, add-mul-mod_self_left}
use Rattle.std.proofs.lemmas.Bool.{cases_lt}
use Rattle.std.proofs.lemmas.Grind.{common_steps}
use Rattle.std.proofs.Common.{add-one, get_or}
use Rattle.std.proofs.Math.ListN.{length-set}
use Rattle.std.proofs.lemmas.Option.{gets, slice_get-get_or}
use Rattle.std.proofs.lemmas.Nat.{mod_below}
use Rattle.disk.specs.declared.pending_write.PendingWrite.{PendingWrite}
use Rattle.disk.specs.Crashes.{is_unsynced, unsynced_before, torn, torn_byte}
use Rattle.disk.specs.PlacesLemmas.{same_bytes, get-past}

-- a byte that was put is there
get-set_here : (bytes : List ℕ) (place byte : ℕ) → place < length bytes
    → slice_get (slice_set bytes place byte) place ≡ Some byte
get-set_here bytes place byte lt = grind (arith, common_steps, gets)

-- no other byte changes
get-set_other : (bytes : List ℕ) (place byte other : ℕ) → other ≢ place
    → slice_get (slice_set bytes place byte) other ≡ slice_get bytes other
get-set_other bytes place byte other apart = grind (arith, common_steps, gets)

-- a place of bytes that a function makes by place and byte
get-enumerated : (f : ℕ × ℕ → ℕ) (from : ℕ) (bytes : List ℕ) (place : ℕ)
    → slice_get (map f (enumerate_from from bytes)) place
    ≡ option_map (λ byte. f (from + place, byte)) (slice_get bytes place)
get-enumerated f from [] place = refl
get-enumerated f from (x ∷ bytes) zero = ap (λ (n : ℕ). Some (f (n, x))) (omega arith)
get-enumerated f from (x ∷ bytes) (suc place) =
    get-enumerated f (from + 1) bytes place
    ∙ ap (λ (n : ℕ). option_map (λ byte. f (n, byte)) (slice_get bytes place)) (omega arith)

-- the byte of a torn file at a place
pub get-torn : (end : ℕ) (touches : List PendingWrite) (junk bytes : List ℕ) (place : ℕ) → 0 <
    length junk
    → slice_get (torn end touches junk bytes) place
    ≡ option_map (λ byte. torn_byte end touches junk (place, byte)) (slice_get bytes place)
get-torn end touches [] bytes place some = absurd (omega (arith, some))
get-torn end touches (first ∷ junk) bytes place some =
    get-enumerated (torn_byte end touches (first ∷ junk)) 0 bytes place
    ∙ ap (λ (n : ℕ). option_map (λ byte. torn_byte end touches (first ∷ junk) (n, byte))
    (slice_get bytes place))
    (omega arith)

-- one byte more
mod_more : (n m : ℕ) → (n % m + 1) % m ≡ (n + 1) % m
mod_more n m =
    sym (ap (λ (k : ℕ). k % m) (omega (arith, mod-add-div n m))
    ∙ add-mul-mod_self_left (n % m + 1) m (n / m))

-- the next place has one more unsynced place before it, or as many
unsynced_before_unsynced : (end : ℕ) (touches : List PendingWrite) (place : ℕ)
    → is_unsynced end touches place ≡ true
    → unsynced_before end touches (place + 1) ≡ unsynced_before end touches place + 1
unsynced_before_unsynced end touches place unsynced =
    ap (unsynced_before end touches) (add-one place)
    ∙ ap (λ (b : Bool). unsynced_before end touches place + (if b then 1 else 0)) unsynced

-- a synced place adds none
unsynced_before_synced : (end : ℕ) (touches : List PendingWrite) (place : ℕ)
    → is_unsynced end touches place ≡ false
    → unsynced_before end touches (place + 1) ≡ unsynced_before end touches place
unsynced_before_synced end touches place stays =
    ap (unsynced_before end touches) (add-one place)
    ∙ ap (λ (b : Bool). unsynced_before end touches place + (if b then 1 else 0)) stays
    ∙ omega arith

-- the file is torn up to this place, and is as it was behind it
pub record IsTornTo (end : ℕ) (touches : List PendingWrite) (junk old bytes : List ℕ)
    (place next : ℕ) : Type 0 where
  pub junk_part : next ≡ unsynced_before end touches place % length junk
  pub size : length bytes ≡ length old
  pub torn_part : (k : ℕ) → k < place → slice_get bytes k ≡ slice_get (torn end touches junk old) k
  pub old_part : (k : ℕ) → place ≤ k → slice_get bytes k ≡ slice_get old k

-- the next junk byte is one of the junk
pub junk_within : (end : ℕ) (touches : List PendingWrite) (junk old bytes : List ℕ) (place next : ℕ)
    → 0 < length junk
    → IsTornTo end touches junk old bytes place next → next < length junk
junk_within end touches junk old bytes place next some so_far =
    omega (
      arith,
      so_far.junk_part,
      mod_below (unsynced_before end touches place) (length junk)
          some,
    )

-- the torn byte at a place of the old bytes
torn_at : (b : Bool) (end : ℕ) (touches : List PendingWrite) (junk old : List ℕ) (place : ℕ)
    → 0 < length junk
    → place < length old → is_unsynced end touches place ≡ b
    → slice_get (torn end touches junk old) place
    ≡ Some (if b then slice_index junk (unsynced_before end touches place % length junk)
    else get_or old place 0)
torn_at b end touches junk old place some within is =
    get-torn end touches junk old place some
    ∙ ap (option_map (λ byte. torn_byte end touches junk (place, byte)))
    (slice_get-get_or old place 0 within)
    ∙ ap (λ (t : Bool). Some
    (if t then slice_index junk (unsynced_before end touches place % length junk)
    else get_or old place 0)) is

module _ (end : ℕ) (touches : List PendingWrite) (junk old : List ℕ) (some : 0 < length junk) where
  pub torn_start : IsTornTo end touches junk old old 0 0
  torn_start = record {
    junk_part = omega (arith, mod_below 0 (length junk) some);
    size = refl;
    torn_part = λ k lt. absurd (omega (arith, lt));
    old_part = λ k le. refl;
  }

  pub torn_unsynced : (bytes : List ℕ) (place next : ℕ) → place < length old
      → is_unsynced end touches place ≡ true → IsTornTo end touches junk old bytes place next
      → IsTornTo end touches junk old (slice_set bytes place (slice_index junk next)) (place + 1)
      ((next + 1) % length junk)
  torn_unsynced bytes place next within unsynced so_far = record {
    junk_part = ap (λ (n : ℕ). (n + 1) % length junk) so_far.junk_part
        ∙ mod_more (unsynced_before end touches place) (length junk)
        ∙ ap (λ (n : ℕ). n % length junk)
        (sym (unsynced_before_unsynced end touches place unsynced));
    size = length-set bytes place (slice_index junk next) ∙ so_far.size;
    torn_part = λ k lt. elim (cases_lt k place) [
      | inl below ↦ get-set_other bytes place (slice_index junk next) k
          (λ e. omega (arith, e, below))
          ∙ so_far.torn_part k below
      | inr above ↦ subst
          (λ (n : ℕ). slice_get (slice_set bytes place (slice_index junk next)) n
          ≡ slice_get (torn end touches junk old) n)
          (omega (arith, lt, above))
          (get-set_here bytes place (slice_index junk next) (omega (arith, within, so_far.size))
          ∙ ap (λ (n : ℕ). Some (slice_index junk n)) so_far.junk_part
          ∙ sym (torn_at true end touches junk old place some within unsynced))
    ];
    old_part = λ k le. get-set_other bytes place (slice_index junk next) k
        (λ e. omega (arith, e, le))
        ∙ so_far.old_part k (omega (arith, le));
  }

  pub torn_synced : (bytes : List ℕ) (place next : ℕ) → place < length old
      → is_unsynced end touches place ≡ false → IsTornTo end touches junk old bytes place next
      → IsTornTo end touches junk old bytes (place + 1) next
  torn_synced bytes place next within stays so_far = record {
    junk_part = so_far.junk_part
        ∙ ap (λ (n : ℕ). n % length junk) (sym (unsynced_before_synced end touches place stays));
    size = so_far.size;
    torn_part = λ k lt. elim (cases_lt k place) [
      | inl below ↦ so_far.torn_part k below
      | inr above ↦ subst (λ (n : ℕ). slice_get bytes n ≡ slice_get (torn end touches junk old) n)
          (omega (arith, lt, above)) (so_far.old_part place (omega arith)
          ∙ slice_get-get_or old place 0 within
          ∙ sym (torn_at false end touches junk old place some within stays))
    ];
    old_part = λ k le. so_far.old_part k (omega (arith, le));
  }

  pub torn_all : (bytes : List ℕ) (next : ℕ) → IsTornTo end touches junk old bytes (length old) next
      → bytes ≡ torn end touches junk old
  torn_all bytes next done =
      same_bytes bytes (torn end touches junk old) (λ k. elim (cases_lt k (length old)) [
        | inl lt ↦ done.torn_part k lt
        | inr past ↦ get-past bytes k (omega (arith, past, done.size))
            ∙ sym (get-torn end touches junk old k some
            ∙ ap (option_map (λ byte. torn_byte end touches junk (k, byte))) (get-past old k past))
      ])
