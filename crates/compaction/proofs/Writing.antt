-- What the writer of outputs keeps.
use Rattle.std.proofs.Common.{◌≡◌, ◌≢◌, ℕ, ◌+◌, ◌<◌, ◌≤◌, List, [], ◌∷◌, ◌++◌, length, Option, Some}
use Rattle.std.proofs.Common.{None}
use Rattle.std.proofs.Common.{Bool, true, false, All, IfSome, inl, inr, refl, sym, ap, subst, ◌∙◌}
use Rattle.std.proofs.Common.{arith}
use Rattle.std.proofs.Common.{Result, Ok, Err, get_or}
use Rattle.std.specs.Prelude.{◌&&◌, IsErrAnd, IsErrOf, IsNone, MatchResult, is_ok, is_some}
use Rattle.std.specs.Global.{Vec}
use Rattle.std.specs.List.{AllZip}
use Rattle.std.proofs.Common.{Contains, cond, map}
use Rattle.kv_types.specs.OrderLemmas.{among_of_All}
use Rattle.version_edits.specs.Versions.{are_once}
use Rattle.std.specs.Option.{option_map}
use Rattle.std.proofs.lemmas.Bool.{cases_Bool, cond-false, cond-true, cond_both, le-leb}
use Rattle.std.proofs.lemmas.Bool.{true≢false}
use Rattle.std.proofs.lemmas.List.{map-append}
use Rattle.std.proofs.lemmas.List.Elements.{All-push, Contains-push_cases}
use Rattle.std.proofs.lemmas.List.Elements.{All-head, All-tail, All-weaker}
use Rattle.disk.specs.declared.Disk.{Ghosts}
use Rattle.disk.specs.{Absent, Fresh, IsSame, Kept, Slot, State, seen}
use Rattle.kv_types.specs.{Entry}
use Rattle.version_edits.specs.declared.TableLine.{TableLine}
use Rattle.version_edits.specs.{IsTableLine}
use Rattle.table_format.specs.{CanFollow}
use Rattle.table_builder.specs.{Builds, BuildsNothing, IsFresh, data_size}
use Rattle.compaction.specs.declared.error.MergeError.{MergeError}
use Rattle.compaction.specs.declared.error.MergeError.TheVariants as merge
use Rattle.compaction.specs.declared.open_output.OpenOutput.{OpenOutput}
use Rattle.compaction.specs.declared.writer.OutputWriter.{OutputWriter}
use Rattle.compaction.specs.Outputs.{HaveOwnNumbers, IsOpenFile, HoldsOpen, IsOutput}
use Rattle.compaction.specs.Outputs.{AreUnused, IsOutputFile, UsesNumbers, WriterHolds}
use Rattle.compaction.specs.Outputs.{HoldsNothing, IsSameBeyond, WritesOnly, open_file}
use Rattle.compaction.specs.WrittenTables.{Written, cut_before, has_new_key, is_cut}
use Rattle.compaction.proofs.Calls.{writes_as, writes_wider}
use Rattle.compaction.proofs.Once.{Differ, differ_once, once_differ, rises_append}

-- ---- the cut

-- where the open table has its data, the key decides
pub cut_is : (target : ℕ) (before : Option Entry) (opened : List Entry) (entry : Entry) (r : Bool)
    → 0 < target → target ≤ data_size opened → r ≡ has_new_key before entry
    → r ≡ is_cut target before opened entry
cut_is target before [] entry r some large is = absurd (omega (arith, some, large))
cut_is target before (x ∷ xs) entry r some large is =
    is ∙ sym (ap (λ (b : Bool). b && has_new_key before entry)
    (le-leb target (data_size (x ∷ xs)) large))

-- ---- answers

pub ok_told : {T E : Type 0} (result : Result T E) {x : T} → result ≡ Ok x → is_ok result ≡ true
ok_told (Ok y) is = refl
ok_told (Err e) is = absurd cc

-- ---- files

pub none_fresh : (slot : Slot) → IsNone (seen slot) → IsFresh slot []
none_fresh (Absent back) none = refl
none_fresh (Fresh bytes back) none = absurd (true≢false none)
none_fresh (Kept bytes kept touches) none = absurd (true≢false none)

-- complete outputs whose files are as they were
output_kept : (old new : State) (level : ℕ) (line : TableLine) (entries : List Entry)
    → new line.file ≡ old line.file → IsOutput old level line entries
    → IsOutput new level line entries
output_kept old new level line entries same it = record {
  at = it.at;
  table = record {
    bytes = it.table.bytes;
    durable = same ∙ it.table.durable;
    represents = it.table.represents;
  };
  len = it.len;
  least = it.least;
  greatest = it.greatest;
  proper = it.proper;
}

pub outputs_kept : (old new : State) (level : ℕ) (lines : List TableLine)
    (tables : List (List Entry)) → All (λ line. new line.file ≡ old line.file) lines
    → AllZip (IsOutput old level) lines tables → AllZip (IsOutput new level) lines tables
outputs_kept old new level [] [] same zip = tt
outputs_kept old new level [] (t ∷ ts) same zip = absurd zip
outputs_kept old new level (l ∷ ls) [] same zip = absurd zip
outputs_kept old new level (l ∷ ls) (t ∷ ts) same zip = (
  output_kept old new level l t (All-head (λ line. new line.file ≡ old line.file) l ls same) zip.0,
  outputs_kept old new level ls ts (All-tail (λ line. new line.file ≡ old line.file) l ls same)
      zip.1,
)

pub zip_push : {A B : Type 0} (R : A → B → Type 0) (xs : List A) (ys : List B) (x : A) (y : B)
    → AllZip R xs ys → R x y → AllZip R (xs ++ x ∷ []) (ys ++ y ∷ [])
zip_push R [] [] x y zip r = (r, tt)
zip_push R [] (z ∷ ys) x y zip r = absurd zip
zip_push R (w ∷ xs) [] x y zip r = absurd zip
zip_push R (w ∷ xs) (z ∷ ys) x y zip r = (zip.0, zip_push R xs ys x y zip.1 r)

-- ---- the open table

-- the builder of the open table has its entries
pub open_builds : (disk : State) (current : Option OpenOutput) (output : OpenOutput)
    (entries : List Entry) → current ≡ Some output → HoldsOpen disk current entries
    → Builds (disk output.file) output.builder entries
open_builds disk current output entries is open_it =
    subst (λ (o : Option OpenOutput). HoldsOpen disk o entries) is open_it

-- no table is open
pub not_open : (disk : State) (current : Option OpenOutput) (entries : List Entry)
    → is_some current ≡ false → HoldsOpen disk current entries → entries ≡ []
not_open disk None entries none it = it
not_open disk (Some output) entries none it = absurd (true≢false none)

-- its file
pub open_at : (current : Option OpenOutput) (output : OpenOutput) (file : ℕ)
    → current ≡ Some output → output.file ≡ file
    → option_map (λ it. it.file) current ≡ Some file
open_at current output file is same =
    ap (option_map (λ (it : OpenOutput). it.file)) is ∙ ap Some same

-- which no complete output has, and which was given
pub open_numbered : (writer : OutputWriter) (next_file : ℕ) (output : OpenOutput)
    → writer.current ≡ Some output → HaveOwnNumbers writer next_file
    → (output.file < next_file) × All (λ line. line.file ≢ output.file) writer.closed.items
open_numbered writer next_file output is numbered =
    subst (λ (o : Option ℕ). IfSome o (λ file. (file < next_file)
    × All (λ line. line.file ≢ file) writer.closed.items))
    (open_at writer.current output output.file is refl) numbered.current

-- so the complete outputs are as they were where its file alone changed
pub closed_kept : (old new : State) (writer : OutputWriter) (next_file : ℕ) (output : OpenOutput)
    (it : Written) → writer.current ≡ Some output → WriterHolds old next_file writer it
    → IsSameBeyond (λ one. output.file ≡ one) old new
    → AllZip (IsOutput new writer.level) writer.closed.items it.closed
closed_kept old new writer next_file output it is w spares =
    let apart = (open_numbered writer next_file output is w.numbered).1 in
    outputs_kept old new writer.level writer.closed.items it.closed
    (All-weaker (λ line. line.file ≢ output.file) (λ line. new line.file ≡ old line.file)
    (λ line differs. spares line.file (λ same. differs (sym same))) writer.closed.items apart)
    w.closed

-- where nothing was written to the open table, its builder counts none
pub none_added : (writer : OutputWriter) (output : OpenOutput) (slots : State) (next_file : ℕ)
    (it : Written) (count : ℕ) → writer.current ≡ Some output
    → WriterHolds slots next_file writer it
    → ((slot : Slot) (entries : List Entry) → Builds slot output.builder entries
    → count ≡ length entries) → it.opened ≡ [] → count ≡ 0
none_added writer output slots next_file it count is w counts none =
    counts (slots output.file) it.opened
    (open_builds slots writer.current output it.opened is w.current) ∙ ap length none

-- a builder that builds nothing is not that of a writer
pub lost : (writer : OutputWriter) (output : OpenOutput) (disk : State) (next_file : ℕ)
    (it : Written) → writer.current ≡ Some output → BuildsNothing output.builder
    → WriterHolds disk next_file writer it → ⊥
lost writer output disk next_file it is nothing w =
    nothing (disk output.file) it.opened
    (open_builds disk writer.current output it.opened is w.current)

-- ---- numbers

pub numbers_more : (lines : List TableLine) (next_file : ℕ)
    → All (λ line. line.file < next_file) lines → All (λ line. line.file < next_file + 1) lines
numbers_more lines next_file all =
    All-weaker (λ line. line.file < next_file) (λ line. line.file < next_file + 1)
    (λ line lt. omega (arith, lt)) lines all

pub numbers_apart : (lines : List TableLine) (next_file : ℕ)
    → All (λ line. line.file < next_file) lines → All (λ line. line.file ≢ next_file) lines
numbers_apart lines next_file all =
    All-weaker (λ line. line.file < next_file) (λ line. line.file ≢ next_file)
    (λ line lt same. omega (arith, lt, same)) lines all

-- ---- the device

-- calls on the file of the open table are the writer's
pub writes_own : {D : Type 0} (g : Ghosts D) (writer : OutputWriter) (output : OpenOutput)
    (next_file : ℕ) → writer.current ≡ Some output → {old new : D} {told : Type 0}
    → WritesOnly g (λ one. output.file ≡ one) old new told (BuildsNothing output.builder)
    → WritesOnly g (IsOpenFile writer) old new told (HoldsNothing g old next_file writer)
writes_own g writer output next_file is {old = old} w =
    writes_wider g (IsOpenFile writer) (λ one. output.file ≡ one)
    (λ file same. open_at writer.current output file is same)
    (writes_as g (λ one. output.file ≡ one) (λ x. x, λ x. x)
    (λ nothing it honest held. lost writer output (g.state old) next_file it is nothing held) w)

-- files from a number on are as they were where only the open table changed
pub unused_kept : (old new : State) (writer : OutputWriter) (next_file : ℕ)
    → HaveOwnNumbers writer next_file → IsSameBeyond (IsOpenFile writer) old new
    → AreUnused old next_file
    → AreUnused new next_file
unused_kept old new writer next_file numbered spares unused file le =
    let apart : IsOpenFile writer file → ⊥ = λ is.
    let below = (subst (λ (o : Option ℕ). IfSome o (λ one. (one < next_file)
    × All (λ line. line.file ≢ one) writer.closed.items)) is numbered.current).0 in
    omega (arith, below, le) in
    subst (λ (slot : Slot). IsNone (seen slot)) (sym (spares file apart)) (unused file le)

-- ---- the files of outputs

abbrev line_file : TableLine → ℕ
line_file line = line.file

-- ---- file numbers that are used

-- none is used, where the files are those of before
pub uses_none : (old new : OutputWriter) (next_file : ℕ)
    → ((file : ℕ) → IsOpenFile new file → IsOpenFile old file)
    → ((file : ℕ) → IsOutputFile new file → IsOutputFile old file)
    → {most : ℕ} → UsesNumbers most old next_file new next_file
uses_none old new next_file opened outputs {most = most} = record {
  rises = omega arith;
  within = omega arith;
  few = λ few. few;
  own = λ file mine. elim mine [ inl is ↦ inl (opened file is) | inr late ↦ inr late ];
  outputs = λ file output. inl (outputs file output);
}

-- the writer has the same tables
pub uses_same : (old new : OutputWriter) (next_file : ℕ) → new.current ≡ old.current
    → new.closed ≡ old.closed → {most : ℕ} → UsesNumbers most old next_file new next_file
uses_same old new next_file current closed {most = most} =
    uses_none old new next_file opened outputs {most = most}
  where
    opened : (file : ℕ) → IsOpenFile new file → IsOpenFile old file
    opened file is = sym (ap (option_map (λ (it : OpenOutput). it.file)) current) ∙ is

    outputs : (file : ℕ) → IsOutputFile new file → IsOutputFile old file
    outputs file (inl is) = inl (opened file is)
    outputs file (inr there) =
        inr (subst (λ (v : Vec TableLine). Contains (map line_file v.items) file) closed there)

-- so many numbers are used at most, where fewer are
pub uses_few : (old new : OutputWriter) (first next : ℕ) {few most : ℕ} → few ≤ most
    → UsesNumbers few old first new next → UsesNumbers most old first new next
uses_few old new first next le it =
    let within = it.within in record {
      rises = it.rises;
      within = omega (arith, within, le);
      few = it.few;
      own = it.own;
      outputs = it.outputs;
    }

-- one call behind another
pub uses_then : (old mid new : OutputWriter) (first next last : ℕ) {some more : ℕ}
    → UsesNumbers some old first mid next → UsesNumbers more mid next new last
    → {most : ℕ} → most ≡ some + more → UsesNumbers most old first new last
uses_then old mid new first next last {some = some} {more = more} one two {most = most} is =
    let low = one.rises in
    let high = two.rises in
    let early = one.within in
    let late = two.within in
    record {
      rises = omega (arith, low, high);
      within = omega (arith, early, late, is);
      few = λ few. two.few (one.few few);
      own = λ file mine. one.own file (two.own file mine);
      outputs = λ file output. elim (two.outputs file output) [
        | inl before ↦ one.outputs file before
        | inr late ↦ inr (omega (arith, low, late))
      ];
    }

-- complete outputs have different files, and the open one another
pub once_pushed : (lines : List TableLine) (line : TableLine) (file : ℕ)
    → are_once (map line_file lines) ≡ true → All (λ one. one.file ≢ file) lines
    → line.file ≡ file → are_once (map line_file (lines ++ line ∷ [])) ≡ true
once_pushed lines line file once apart named = differ_once line_file (lines ++ line ∷ [])
    (rises_append (Differ line_file) lines (line ∷ []) (once_differ line_file lines once)
    (λ y a. absurd a, tt) (λ x y in_x in_y same. elim in_y [
      | inl is ↦ among_of_All (λ (one : TableLine). one.file ≢ file) lines x apart in_x
          (same ∙ ap line_file (sym is) ∙ named)
      | inr none ↦ absurd none
    ]))

-- each line is proper, where those of before and the one that may be pushed are
pub push_proper : (lines pushed : List TableLine) (line : TableLine) (ok : Bool)
    → pushed ≡ cond ok (lines ++ line ∷ []) lines → All IsTableLine lines → IsTableLine line
    → All IsTableLine pushed
push_proper lines pushed line ok is each one = elim (cases_Bool ok) [
  | inl pushes ↦ subst (λ (l : List TableLine). All IsTableLine l)
      (sym (is ∙ cond-true _ _ _ pushes)) (All-push IsTableLine lines line each one)
  | inr fails ↦ subst (λ (l : List TableLine). All IsTableLine l)
      (sym (is ∙ cond-false _ _ _ fails)) each
]

-- the file of a complete output was that of an output, where the one that is pushed was open
pub push_outputs : (old : OutputWriter) (pushed : List TableLine) (line : TableLine)
    (output : OpenOutput) (file : ℕ) → pushed ≡ old.closed.items ++ line ∷ []
    → old.current ≡ Some output → line.file ≡ output.file
    → Contains (map line_file pushed) file → IsOutputFile old file
push_outputs old pushed line output file is current named there =
    elim (Contains-push_cases (map line_file old.closed.items) line.file file
    (subst (λ (l : List ℕ). Contains l file)
    (ap (map line_file) is ∙ map-append line_file old.closed.items (line ∷ [])) there)) [
      | inl before ↦ inr before
      | inr same ↦ inl (ap (option_map (λ (it : OpenOutput). it.file)) current
          ∙ ap (λ n. Some n) (sym named ∙ same))
    ]

-- the same files
pub same_writes : (old new : State) (writer : OutputWriter) (next_file : ℕ) (it : Written)
    → IsSame old new → WriterHolds old next_file writer it → WriterHolds new next_file writer it
same_writes old new writer next_file it same w = record {
  before = w.before;
  closed = outputs_kept old new writer.level writer.closed.items it.closed
      (λ k d lt. same (get_or writer.closed.items k d).file) w.closed;
  current = same_open writer.current w.current;
  numbered = w.numbered;
}
  where
    same_open : (current : Option OpenOutput) → HoldsOpen old current it.opened
        → HoldsOpen new current it.opened
    same_open None is = is
    same_open (Some output) builds =
        subst (λ (slot : Slot). Builds slot output.builder it.opened) (sym (same output.file))
        builds

pub same_unused : (old new : State) (next_file : ℕ) → IsSame old new → AreUnused old next_file
    → AreUnused new next_file
same_unused old new next_file same unused file le =
    subst (λ (slot : Slot). IsNone (seen slot)) (sym (same file)) (unused file le)

-- ---- refusals

-- no file is open
pub none_open : (disk : State) (writer : OutputWriter) (entries : List Entry)
    → open_file writer ≡ None → HoldsOpen disk writer.current entries → entries ≡ []
none_open disk writer entries none it = not_open disk writer.current entries
    (by_case writer.current none) it
  where
    by_case : (current : Option OpenOutput) → option_map (λ one. one.file) current ≡ None
        → is_some current ≡ false
    by_case None is = refl
    by_case (Some output) is = absurd cc

pub zip_length : {A B : Type 0} (R : A → B → Type 0) (xs : List A) (ys : List B)
    → AllZip R xs ys → length xs ≡ length ys
zip_length R [] [] zip = refl
zip_length R [] (y ∷ ys) zip = absurd zip
zip_length R (x ∷ xs) [] zip = absurd zip
zip_length R (x ∷ xs) (y ∷ ys) zip =
    let rest = zip_length R xs ys zip.1 in omega (arith, rest)

-- an entry that can stand behind all can stand behind none
pub cut_follows : (target : ℕ) (it : Written) (entry : Entry) → CanFollow it.opened entry
    → CanFollow (cut_before target it entry).opened entry
cut_follows target it entry follows =
    cond_both (is_cut target it.before it.opened entry) _ _
    (λ (w : Written). CanFollow w.opened entry) (λ is. tt) (λ is. follows)

-- ---- what was told

pub refuses : {T E : Type 0} (result : Result T E) {e : E} (P : T → Type 0) (Q : E → Type 0)
    → IsErrAnd result (λ s. s ≡ e) → Q e → MatchResult result P Q
refuses (Ok x) P Q told q = absurd told
refuses (Err s) P Q told q = subst Q (sym told) q

pub told_more : {T E : Type 0} (P P' : T → Type 0) (Q Q' : E → Type 0) (result : Result T E)
    → ((x : T) → P x → P' x) → ((e : E) → Q e → Q' e) → MatchResult result P Q
    → MatchResult result P' Q'
told_more P P' Q Q' (Ok x) yes_more no_more told = yes_more x told
told_more P P' Q Q' (Err e) yes_more no_more told = no_more e told

pub full_told : {T : Type 0} (result : Result T MergeError) (e : MergeError) → e ≡ merge.Full
    → IsErrAnd result (λ s. s ≡ e) → IsErrOf result merge.Disk → ⊥
full_told (Ok x) e is told fails = absurd told
full_told (Err s) e is told fails =
    let failed : s ≡ merge.Disk = cc in
    let full : merge.Full ≡ merge.Disk = sym is ∙ sym told ∙ failed in
    cc
