-- What a crash with some junk leaves is one of the outcomes that the model allows.
use Rattle.std.proofs.Common.{◌≡◌, ℕ, ◌<◌, ◌≤◌, List, [], ◌∷◌, length, Option, Some, None}
use Rattle.std.proofs.Common.{Bool, true, false, refl, sym, ap, subst, ◌∙◌, inl, inr, arith}
use Rattle.std.specs.Prelude.{◌+◌, slice_get, nat_le, nat_lt, ◌&&◌}
use Rattle.std.specs.Option.{option_map}
use Rattle.std.proofs.Math.Bool.{or-true}
use Rattle.std.proofs.lemmas.Bool.{or_cases}
use Rattle.std.proofs.lemmas.Bool.Decides.{nat_tests}
use Rattle.disk.specs.declared.pending_write.PendingWrite.{PendingWrite}
use Rattle.disk.specs.declared.pending_write.PendingWrite.TheVariants.{Wrote, Cut}
use Rattle.disk.specs.declared.junk.Junk.{Junk}
use Rattle.disk.specs.declared.junk.Junk.TheVariants.{Old, New, Bytes}
use Rattle.disk.specs.States.{Slot, Absent, Fresh, Kept, State, seen, contents}
use Rattle.disk.specs.States.{MakesUnsynced, IsUnsynced, AgreesOutside, IsFileOutcome}
use Rattle.disk.specs.States.{IsCrashOutcome, IsDurable}
use Rattle.disk.specs.Memory.{KeptAgrees, AllKeptAgree}
use Rattle.disk.specs.Crashes.{makes_unsynced, is_unsynced, torn, torn_byte, crash_outcome, durable}
use Rattle.disk.specs.Crashes.{crashed, CrashOutcome}
use Rattle.std.proofs.Common.{map}
use Rattle.std.specs.Prelude.{is_some}
use Rattle.std.specs.List.{AllByRecursion}
use Rattle.disk.proofs.Numbers.{SaysNothing}
use Rattle.disk.proofs.Tears.{get-torn}

-- ---- the tests say what the facts say

-- the meaning of a test of two numbers
le_is : (a b : ℕ) → nat_le a b ≡ true → a ≤ b
le_is a b is = grind (arith, nat_tests)

-- the meaning of another test
lt_is : (a b : ℕ) → nat_lt a b ≡ true → a < b
lt_is a b is = grind (arith, nat_tests)

-- the meaning of two tests together
both_are : (x y : Bool) → (x && y) ≡ true → (x ≡ true) × (y ≡ true)
both_are true y is = (refl, is)
both_are false y is = absurd cc

-- a write or cut that passes the test makes the place unsynced
makes_unsynced_is : (touch : PendingWrite) (end place : ℕ) → makes_unsynced touch end place ≡ true
    → MakesUnsynced touch end place
makes_unsynced_is (Wrote at len) end place is =
    elim (or_cases (nat_le at place && nat_lt place (at + len)) (nat_le end place) is) [
      | inl both ↦ let parts = both_are (nat_le at place) (nat_lt place (at + len)) both in
          inl (le_is at place parts.0, lt_is place (at + len) parts.1)
      | inr past ↦ inr (le_is end place past)
    ]
makes_unsynced_is (Cut len) end place is = le_is len place is

-- a place that passes the test is unsynced
pub is_unsynced_is : (end : ℕ) (touches : List PendingWrite) (place : ℕ) → is_unsynced end touches
    place ≡ true
    → IsUnsynced end touches place
is_unsynced_is end [] place is = absurd cc
is_unsynced_is end (touch ∷ touches) place is =
    elim (or_cases (makes_unsynced touch end place) (is_unsynced end touches place) is) [
      | inl here ↦ inl (makes_unsynced_is touch end place here)
      | inr later ↦ inr (is_unsynced_is end touches place later)
    ]

-- two numbers that pass a test
is_le : (a b : ℕ) → a ≤ b → nat_le a b ≡ true
is_le a b le = grind (arith, nat_tests)

-- the meaning of another test
is_lt : (a b : ℕ) → a < b → nat_lt a b ≡ true
is_lt a b lt = grind (arith, nat_tests)

-- a write or cut that makes the place unsynced passes the test
is_makes_unsynced : (touch : PendingWrite) (end place : ℕ) → MakesUnsynced touch end place
    → makes_unsynced touch end place ≡ true
is_makes_unsynced (Wrote at len) end place (inl inside) =
    rw (is_le at place inside.0, is_lt place (at + len) inside.1) refl
is_makes_unsynced (Wrote at len) end place (inr past) =
    rw (is_le end place past) (or-true (nat_le at place && nat_lt place (at + len)))
is_makes_unsynced (Cut len) end place past = is_le len place past

-- an unsynced place passes the test
pub is_is_unsynced : (end : ℕ) (touches : List PendingWrite) (place : ℕ)
    → IsUnsynced end touches place → is_unsynced end touches place ≡ true
is_is_unsynced end [] place unsynced = absurd unsynced
is_is_unsynced end (touch ∷ touches) place (inl here) =
    rw (is_makes_unsynced touch end place here) refl
is_is_unsynced end (touch ∷ touches) place (inr later) =
    rw (is_is_unsynced end touches place later) (or-true (makes_unsynced touch end place))

-- a synced place does not pass the test
synced_is : (b : Bool) (end : ℕ) (touches : List PendingWrite) (place : ℕ) → is_unsynced end touches
    place ≡ b
    → (IsUnsynced end touches place → ⊥) → b ≡ false
synced_is true end touches place is stays = absurd (stays (is_unsynced_is end touches place is))
synced_is false end touches place is stays = refl

-- ---- a torn file keeps its synced places

-- junk changes no synced place
torn_agrees : (end : ℕ) (touches : List PendingWrite) (junk bytes : List ℕ)
    → AgreesOutside end touches (torn end touches junk bytes) bytes
torn_agrees end touches [] bytes = λ place stays. refl
torn_agrees end touches (first ∷ junk) bytes = λ place stays.
    let is : is_unsynced end touches place ≡ false =
    synced_is (is_unsynced end touches place) end touches place refl stays in
    get-torn end touches (first ∷ junk) bytes place (omega arith)
    ∙ kept_byte end touches (first ∷ junk) place (slice_get bytes place) is
  where
    kept_byte : (end : ℕ) (touches : List PendingWrite) (junk : List ℕ) (place : ℕ)
        (found : Option ℕ)
        → is_unsynced end touches place ≡ false
        → option_map (λ byte. torn_byte end touches junk (place, byte)) found ≡ found
    kept_byte end touches junk place None is = refl
    kept_byte end touches junk place (Some byte) is = rw is refl

-- ---- each outcome is allowed

-- each junk leaves an outcome of the slot
left_allowed : (junk : Junk) (slot : Slot) → KeptAgrees slot → IsFileOutcome slot
    (crash_outcome junk slot)
left_allowed Old (Absent back) agrees = inr refl
left_allowed Old (Fresh bytes back) agrees = tt
left_allowed Old (Kept bytes kept touches) agrees = agrees
left_allowed New (Absent back) agrees = inl refl
left_allowed New (Fresh bytes back) agrees = tt
left_allowed New (Kept bytes kept touches) agrees = λ place stays. refl
left_allowed (Bytes junk) (Absent back) agrees = inl refl
left_allowed (Bytes junk) (Fresh bytes back) agrees = tt
left_allowed (Bytes junk) (Kept bytes kept touches) agrees =
    torn_agrees (length kept) touches junk bytes

-- a durable slot reads as the crash left it
seen-sure : (left : Option (List ℕ)) → seen (durable left) ≡ left
seen-sure None = refl
seen-sure (Some bytes) = refl

-- each crash outcome is allowed
pub crashes_allowed : (junk : Junk) (old new : State) → AllKeptAgree old → CrashOutcome junk old new
    → IsCrashOutcome old (contents new)
crashes_allowed junk old new all crashes = λ file.
    subst (IsFileOutcome (old file))
    (sym (ap seen (crashes file) ∙ seen-sure (crash_outcome junk (old file))))
    (left_allowed junk (old file) (all file))

-- every crash outcome is durable
pub crashed_is_durable : (junk : Junk) (slot : Slot) → IsDurable (crashed junk slot)
crashed_is_durable junk slot = is_sure (crash_outcome junk slot)
  where
    is_sure : (left : Option (List ℕ)) → IsDurable (durable left)
    is_sure None = refl
    is_sure (Some bytes) = (refl, refl)

-- where nothing was, nothing is left
pub crashed_none : (junk : Junk) → crashed junk (Absent None) ≡ Absent None
crashed_none Old = refl
crashed_none New = refl
crashed_none (Bytes junk) = refl

-- a slot without a file after a crash says nothing
pub crashed_says : (junk : Junk) (slots : List (ℕ × Slot))
    → AllByRecursion SaysNothing (map (λ e. (e.0, crashed junk e.1)) slots)
crashed_says junk [] = tt
crashed_says junk (one ∷ others) = (says (crash_outcome junk one.1), crashed_says junk others)
  where
    says : (left : Option (List ℕ)) → is_some (seen (durable left)) ≡ false → durable left ≡ Absent
        None
    says None is = refl
    says (Some bytes) is = absurd cc
