use Rattle.std.proofs.Common.{◌≡◌, ◌∙◌, ◌+◌, sym, subst, rules, List, ℕ, arith, length}
use Rattle.std.proofs.lemmas.List.{take_at}
use Rattle.disk.specs.{seen}
use Rattle.disk.specs.Calls.{IsRefusalOf}
use Rattle.disk.specs.StillLemmas.{still, still_same}
use Rattle.table_format.specs.{IsCheckedBlock, entries_bytes}
use Rattle.table_files.specs.LentFiles.{one_call}
use Rattle.table_files.proofs.BlockReadsLemmas.{read_is, none_is_block, refused}
use Rattle.table_files.proofs.read.read_block.Goals as goal

-- a read leaves nothing new
pub returns-in_err-bytes-clause-still : goal.returns-in_err-bytes-clause-still
returns-in_err-bytes-clause-still g c = λ honest. still _ _

pub returns-in_err-read-clause-still : goal.returns-in_err-read-clause-still
returns-in_err-read-clause-still g c = λ honest.
    still_same (still (g.D.Disk.state c.args.disk.now) (g.D.Disk.past c.args.disk.now))
    (c.read.ensures.passes honest).moment (c.read.ensures.kept.disk.files honest)

pub returns-then-is_none-clause-still : goal.returns-then-is_none-clause-still
returns-then-is_none-clause-still g c = λ honest.
    still_same (still (g.D.Disk.state c.args.disk.now) (g.D.Disk.past c.args.disk.now))
    (c.read.ensures.passes honest).moment (c.read.ensures.kept.disk.files honest)

pub returns-in_err-new-clause-still : goal.returns-in_err-new-clause-still
returns-in_err-new-clause-still g c = λ honest.
    still_same (still (g.D.Disk.state c.args.disk.now) (g.D.Disk.past c.args.disk.now))
    (c.read.ensures.passes honest).moment (c.read.ensures.kept.disk.files honest)

pub returns-clause-still : goal.returns-clause-still
returns-clause-still g c = λ honest.
    still_same (still (g.D.Disk.state c.args.disk.now) (g.D.Disk.past c.args.disk.now))
    (c.read.ensures.passes honest).moment (c.read.ensures.kept.disk.files honest)

-- and is one call
pub returns-in_err-read-clause-calls : goal.returns-in_err-read-clause-calls
returns-in_err-read-clause-calls g c = λ honest.
    one_call c.read.result (length (g.D.Disk.past c.args.disk.now))
    (length (g.D.Disk.past c.read.new.self)) (c.read.ensures.passes honest).counts

pub returns-then-is_none-clause-calls : goal.returns-then-is_none-clause-calls
returns-then-is_none-clause-calls g c = λ honest.
    one_call c.read.result (length (g.D.Disk.past c.args.disk.now))
    (length (g.D.Disk.past c.read.new.self)) (c.read.ensures.passes honest).counts

pub returns-in_err-new-clause-calls : goal.returns-in_err-new-clause-calls
returns-in_err-new-clause-calls g c = λ honest.
    one_call c.read.result (length (g.D.Disk.past c.args.disk.now))
    (length (g.D.Disk.past c.read.new.self)) (c.read.ensures.passes honest).counts

pub returns-clause-calls : goal.returns-clause-calls
returns-clause-calls g c = λ honest.
    one_call c.read.result (length (g.D.Disk.past c.args.disk.now))
    (length (g.D.Disk.past c.read.new.self)) (c.read.ensures.passes honest).counts

-- a read that is refused
pub returns-in_err-read-clause-answers : goal.returns-in_err-read-clause-answers
returns-in_err-read-clause-answers g c = λ honest.
    refused c.in_err-read.field-0.0 (g.D.Disk.state c.args.disk.now) c.args.file c.args.place
    c.args.len c.args.format c.from_residual-in_err-read.result (search rules)
    (subst (λ (n : ℕ). IsRefusalOf c.in_err-read.field-0.0 (g.D.Disk.state c.args.disk.now)
    c.args.file (c.args.place + n)) (c.deref_mut.ensures.len ∙ c.in_ok-bytes.ensures.len)
    (c.in_err-read.ensures.reads honest))

-- what was read is no block
pub returns-then-is_none-clause-answers : goal.returns-then-is_none-clause-answers
returns-then-is_none-clause-answers g c = λ honest part len at.
    let same : c.deref.result.now ≡ c.read.new.into =
    c.deref.ensures.value ∙ take_at c.read.new.into _ c.in_ok-bytes.bytes.len
    (search (arith, c.read.auto.into, c.deref_mut.ensures.len)) in
    let is = read_is (seen (g.D.Disk.state c.args.disk.now c.args.file)) c.args.place
    (length c.deref_mut.result.now) c.read.new.into (c.in_ok-read.ensures.reads honest) part
    (len ∙ sym (c.deref_mut.ensures.len ∙ c.in_ok-bytes.ensures.len)) at.0 in
    none_is_block c.args.format c.entries_of.result
    (λ entries text. text.now ≡ entries_bytes c.args.format entries) c.deref.result.now
    c.if-is_none.ensures
    c.entries_of.ensures.one
    (subst (λ (p : List ℕ). ∥ IsCheckedBlock c.args.format p ∥₁) (is ∙ sym same) at.1)
