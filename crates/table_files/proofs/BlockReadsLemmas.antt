-- What a read of a block has found.
use Rattle.std.proofs.Common.{◌≡◌, ◌+◌, ◌≤◌, ◌<◌, ℕ, arith, List, [], ◌∷◌, length, take, drop}
use Rattle.std.proofs.Common.{false, is_some}
use Rattle.std.proofs.Math.Logic.{∥∥₁_elim}
use Rattle.std.proofs.Common.{Option, Some, None, Result, Err, refl, sym, ap, subst, ◌∙◌}
use Rattle.std.specs.Prelude.{IsSomeAnd, IsNone, MatchOption}
use Rattle.std.proofs.lemmas.List.{length-take, length-drop}
use Rattle.kv_types.specs.{Entry}
use Rattle.disk.specs.{State, seen}
use Rattle.disk.specs.Calls.{IsRefusalOf}
use Rattle.disk.specs.declared.DiskError.{DiskError}
use Rattle.disk.specs.declared.DiskError.TheVariants.{Failed, NoFile, Short, Memory}
use Rattle.table_format.specs.{IsBlock, IsCheckedBlock, file_error}
use Rattle.byte_fields.specs.declared.format.Format.{Format}
use Rattle.table_format.specs.declared.FileError.{FileError}
use Rattle.table_files.specs.declared.block.CheckedBlock.{CheckedBlock}
use Rattle.table_files.specs.BlockReads.{IsPartAt, BlockAnswer}

-- what never holds has one proof at most
never_twice : IsProp ⊥
never_twice x y = absurd x

-- a block has bytes
not_empty : (format : Format) (entries : List Entry) → IsBlock format [] entries → ⊥
not_empty format entries b = let e = ap (λ (l : List ℕ). length l) b.spelled in omega arith

-- a part with bytes ends within the file
ends_within : (bytes part : List ℕ) (place : ℕ) → take (length part) (drop place bytes) ≡ part
    → length bytes < place + length part → length part ≡ 0
ends_within bytes part place is short =
    let same = ap (λ (l : List ℕ). length l) is in
    omega (arith, same, length-take (length part) (drop place bytes), length-drop place bytes)

no_bytes : (part : List ℕ) → length part ≡ 0 → part ≡ []
no_bytes [] e = refl
no_bytes (x ∷ xs) e = absurd (omega (arith, e))

-- what was read is the only part of its length that the file has there
pub read_is : (file : Option (List ℕ)) (place n : ℕ) (into : List ℕ)
    → IsSomeAnd file (λ bytes. (place + n ≤ length bytes) × (into ≡ take n (drop place bytes)))
    → (part : List ℕ) → length part ≡ n → IsPartAt file place part → part ≡ into
read_is None place n into reads part len at = absurd reads
read_is (Some bytes) place n into reads part len at =
    let is : take (length part) (drop place bytes) ≡ part = cc in
    sym is ∙ ap (λ (k : ℕ). take k (drop place bytes)) len ∙ sym reads.1

-- it is no block where the check found none
pub none_is_block : {T : Type 0} (format : Format) (found : Option T) (Q : List Entry → T → Type 0)
    (into : List ℕ)
    → is_some found ≡ false
    → ((entries : List Entry) → IsBlock format into entries → MatchOption found ⊥ (Q entries))
    → ∥ IsCheckedBlock format into ∥₁ → ⊥
none_is_block format None Q into none one checked =
    ∥∥₁_elim checked never_twice (λ it. one it.0 it.1)
none_is_block format (Some x) Q into none one checked = absurd cc

-- a file that is absent or ends before the part has no block there
no_file : (file : Option (List ℕ)) (place : ℕ) (part : List ℕ) → IsNone file
    → IsPartAt file place part → ⊥
no_file None place part none at = cc
no_file (Some bytes) place part none at = cc

short_file : (file : Option (List ℕ)) (place : ℕ) (format : Format) (part : List ℕ)
    → IsSomeAnd file (λ bytes. length bytes < place + length part)
    → IsPartAt file place part → ∥ IsCheckedBlock format part ∥₁ → ⊥
short_file None place format part short at checked = absurd short
short_file (Some bytes) place format part short at checked =
    let is : take (length part) (drop place bytes) ≡ part = cc in
    let empty = no_bytes part (ends_within bytes part place is short) in
    ∥∥₁_elim checked never_twice
    (λ it. not_empty format it.0 (subst (λ (p : List ℕ). IsBlock format p it.0) empty it.1))

-- what a refused read says
pub refused : (e : DiskError) (disk : State) (file place len : ℕ) (format : Format)
    (result : Result CheckedBlock FileError) → result ≡ Err (file_error e)
    → IsRefusalOf e disk file (place + len) → BlockAnswer disk file place len format result
refused e disk file place len format result is refusal =
    subst (λ (r : Result CheckedBlock FileError). BlockAnswer disk file place len format r)
    (sym is) (answer e refusal)
  where
    answer : (e : DiskError) → IsRefusalOf e disk file (place + len)
        → BlockAnswer disk file place len format (Err (file_error e))
    answer Failed refusal = tt
    answer NoFile refusal = λ part length at. no_file (seen (disk file)) place part refusal at.0
    answer Short refusal = λ part len_is at.
        short_file (seen (disk file)) place format part
        (subst (λ (n : ℕ). IsSomeAnd (seen (disk file)) (λ bytes. length bytes < place + n))
        (sym len_is) refusal) at.0 at.1
    answer Memory refusal = tt
