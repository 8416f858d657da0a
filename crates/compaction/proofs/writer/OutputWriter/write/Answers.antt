use Rattle.std.proofs.Common.{inl, inr, length, ℕ, refl, subst, sym}
use Rattle.compaction.specs.Outputs.{HasNoPlace, IsOpenFile, IsOutput, IsOwnFile, AreUnused}
use Rattle.compaction.specs.Outputs.{WriteRefusal, WriterHolds}
use Rattle.compaction.specs.WrittenTables.{cut_before, with_written}
use Rattle.table_format.specs.{lent_entry}
use Rattle.compaction.proofs.Calls.{answered, passed_on, writes_as, writes_behind, writes_done}
use Rattle.compaction.proofs.Calls.{writes_wider}
use Rattle.compaction.proofs.Writing.{cut_follows, full_told, none_open, refuses, told_more}
use Rattle.compaction.proofs.Writing.{unused_kept, uses_none, uses_then, zip_length}
use Rattle.compaction.proofs.writer.OutputWriter.write.Goals as goal

-- ---- the open table is not completed

pub returns-in_err-cut-clause-writes : goal.returns-in_err-cut-clause-writes
returns-in_err-cut-clause-writes g c =
    let writer = c.args.self.now in
    let next = c.args.next_file.now in
    writes_as g.D.Disk (IsOwnFile writer next)
    (passed_on c.cut.result c.in_err-cut.field-0.0 c.from_residual.result c.in_err-cut.was
    c.from_residual.ensures.1)
    (λ lost it honest w unused. lost it honest w)
    (writes_wider g.D.Disk (IsOwnFile writer next) (IsOpenFile writer) (λ file is. inl is)
    (c.cut.ensures.writes next))

pub returns-in_err-cut-clause-written : goal.returns-in_err-cut-clause-written
returns-in_err-cut-clause-written g c = λ it honest w unused follows.
    let entry = lent_entry c.args.entry in
    refuses c.from_residual.result _ (WriteRefusal c.args.tables c.args.next_file.now
    (cut_before c.args.self.now.target it entry) entry) c.from_residual.ensures.1
    (inl (c.in_err-cut.ensures.cut c.args.next_file.now it entry honest w refl))

-- ---- none is begun

pub returns-in_err-begin-clause-writes : goal.returns-in_err-begin-clause-writes
returns-in_err-begin-clause-writes g c =
    let writer = c.args.self.now in
    let next = c.args.next_file.now in
    writes_done g.D.Disk (IsOwnFile writer next) (answered c.cut.result c.in_ok-cut.was)
    (full_told c.from_residual-in_err-begin.result c.in_err-begin.field-0.0
    c.in_err-begin.ensures.full.0 c.from_residual-in_err-begin.ensures.1)
    (writes_wider g.D.Disk (IsOwnFile writer next) (IsOpenFile writer) (λ file is. inl is)
    (c.cut.ensures.writes next))

pub returns-in_err-begin-clause-written : goal.returns-in_err-begin-clause-written
returns-in_err-begin-clause-written g c = λ it honest w unused follows.
    let entry = lent_entry c.args.entry in
    let next = c.args.next_file.now in
    let mid = g.D.Disk.state c.cut.new.disk in
    let cut = cut_before c.args.self.now.target it entry in
    let w1 = c.in_ok-cut.ensures.cut next it entry honest w refl in
    let full = c.in_err-begin.ensures.full in
    let empty = none_open mid c.cut.new.self cut.opened full.1 w1.current in
    let place = subst (λ (n : ℕ). HasNoPlace c.args.tables c.begin.new.next_file n)
    (zip_length (IsOutput mid c.cut.new.self.level) c.cut.new.self.closed.items cut.closed
    w1.closed) (subst (λ (n : ℕ). HasNoPlace c.args.tables n
    (length c.cut.new.self.closed.items)) (sym full.4) full.2) in
    refuses c.from_residual-in_err-begin.result _
    (WriteRefusal c.args.tables c.begin.new.next_file cut entry)
    c.from_residual-in_err-begin.ensures.1 (inr (full.0, inl (empty, place)))

-- ---- the entry is added

pub returns-clause-writes : goal.returns-clause-writes
returns-clause-writes g c =
    let writer = c.args.self.now in
    let next = c.args.next_file.now in
    let entry = lent_entry c.args.entry in
    let old = g.D.Disk.state c.args.disk.now in
    let mid = g.D.Disk.state c.cut.new.disk in
    let own = IsOwnFile writer next in
    let cut = c.cut.ensures.writes next in
    writes_behind g.D.Disk own (answered c.cut.result c.in_ok-cut.was)
    (λ lost it honest w unused.
    let w1 = c.in_ok-cut.ensures.cut next it entry honest w refl in
    let unused1 = unused_kept old mid writer next w.numbered (cut.kept.files honest) unused in
    let w2 = c.in_ok-begin.ensures.begun mid (cut_before writer.target it entry) w1 unused1 in
    lost (cut_before writer.target it entry) (cut.kept.honest.1 honest) w2.0)
    (writes_wider g.D.Disk own (IsOpenFile writer) (λ file is. inl is) cut)
    (writes_wider g.D.Disk own (IsOpenFile c.begin.new.self)
    (λ file is. elim (c.begin.ensures.numbers.own file (inl is)) [
      | inl early ↦ inl (c.cut.ensures.open file early)
      | inr late ↦ inr late
    ])
    (c.add.ensures.writes c.begin.new.next_file))

pub returns-clause-written : goal.returns-clause-written
returns-clause-written g c = λ it honest w unused follows.
    let writer = c.args.self.now in
    let next = c.args.next_file.now in
    let later = c.begin.new.next_file in
    let entry = lent_entry c.args.entry in
    let old = g.D.Disk.state c.args.disk.now in
    let mid = g.D.Disk.state c.cut.new.disk in
    let new = g.D.Disk.state c.add.new.disk in
    let cut = cut_before writer.target it entry in
    let calls = c.cut.ensures.writes next in
    let honest1 = calls.kept.honest.1 honest in
    let w1 = c.in_ok-cut.ensures.cut next it entry honest w refl in
    let unused1 = unused_kept old mid writer next w.numbered (calls.kept.files honest) unused in
    let w2 = c.in_ok-begin.ensures.begun mid cut w1 unused1 in
    told_more (λ _. WriterHolds new later c.add.new.self (with_written cut entry))
    (λ _. WriterHolds new later c.add.new.self (with_written cut entry))
    _ (WriteRefusal c.args.tables later cut entry) c.add.result (λ x h. h)
    (λ e h. elim h [
      | inl external ↦ inl external
      | inr full ↦ inr (full.0, inr full.1)
    ])
    (c.add.ensures.added later cut honest1 w2.0 c.in_ok-begin.ensures.some
    (cut_follows writer.target it entry follows))

-- ---- no file from the next number on

pub returns-in_err-cut-clause-unused : goal.returns-in_err-cut-clause-unused
returns-in_err-cut-clause-unused g c = λ it honest w unused.
    unused_kept (g.D.Disk.state c.args.disk.now) (g.D.Disk.state c.cut.new.disk) c.args.self.now
    c.args.next_file.now w.numbered
    ((c.cut.ensures.writes c.args.next_file.now).kept.files honest) unused

pub returns-in_err-begin-clause-unused : goal.returns-in_err-begin-clause-unused
returns-in_err-begin-clause-unused g c = λ it honest w unused.
    let mid = g.D.Disk.state c.cut.new.disk in
    let next = c.args.next_file.now in
    subst (λ (n : ℕ). AreUnused mid n) (sym c.in_err-begin.ensures.full.4)
    (unused_kept (g.D.Disk.state c.args.disk.now) mid c.args.self.now next w.numbered
    ((c.cut.ensures.writes next).kept.files honest) unused)

pub returns-clause-unused : goal.returns-clause-unused
returns-clause-unused g c = λ it honest w unused.
    let writer = c.args.self.now in
    let next = c.args.next_file.now in
    let later = c.begin.new.next_file in
    let entry = lent_entry c.args.entry in
    let old = g.D.Disk.state c.args.disk.now in
    let mid = g.D.Disk.state c.cut.new.disk in
    let new = g.D.Disk.state c.add.new.disk in
    let calls = c.cut.ensures.writes next in
    let w1 = c.in_ok-cut.ensures.cut next it entry honest w refl in
    let unused1 = unused_kept old mid writer next w.numbered (calls.kept.files honest) unused in
    let w2 = c.in_ok-begin.ensures.begun mid (cut_before writer.target it entry) w1 unused1 in
    unused_kept mid new c.begin.new.self later w2.0.numbered
    ((c.add.ensures.writes later).kept.files (calls.kept.honest.1 honest)) w2.1

-- ---- numbers

pub returns-in_err-cut-clause-numbers : goal.returns-in_err-cut-clause-numbers
returns-in_err-cut-clause-numbers g c = uses_none c.args.self.now c.cut.new.self
    c.args.next_file.now c.cut.ensures.open c.cut.ensures.outputs

pub returns-in_err-begin-clause-numbers : goal.returns-in_err-begin-clause-numbers
returns-in_err-begin-clause-numbers g c = uses_then c.args.self.now c.cut.new.self
    c.begin.new.self c.args.next_file.now c.args.next_file.now c.begin.new.next_file
    (uses_none c.args.self.now c.cut.new.self c.args.next_file.now c.cut.ensures.open
    c.cut.ensures.outputs {most = 0}) c.begin.ensures.numbers refl

pub returns-clause-numbers : goal.returns-clause-numbers
returns-clause-numbers g c =
    let begun = uses_then c.args.self.now c.cut.new.self c.begin.new.self c.args.next_file.now
    c.args.next_file.now c.begin.new.next_file (uses_none c.args.self.now c.cut.new.self
    c.args.next_file.now c.cut.ensures.open c.cut.ensures.outputs {most = 0})
    c.begin.ensures.numbers {most = 1} refl in
    uses_then c.args.self.now c.begin.new.self c.add.new.self c.args.next_file.now
    c.begin.new.next_file c.begin.new.next_file begun (uses_none c.begin.new.self c.add.new.self
    c.begin.new.next_file c.add.ensures.open c.add.ensures.outputs {most = 0}) refl
