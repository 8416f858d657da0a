use Rattle.std.proofs.Common.{◌≡◌, ◌<◌, ℕ, ap₂, subst, sym, Some}
use Rattle.std.specs.List.{slice_get}
use Rattle.byte_fields.specs.{StoredKey}
use Rattle.memtable.specs.declared.version.Version.{Version}
use Rattle.memtable.specs.Maps.{edits_put, version_entry, versions_at}
use Rattle.memtable.specs.Tables.{TableHolds}
use Rattle.memtable.proofs.Adds.{adds, still_limited, still_rising}
use Rattle.memtable.proofs.Bools.{not_true}
use Rattle.memtable.proofs.memtable.Memtable.add.Goals as goal

pub put_all-requires : goal.put_all-requires
unfolding TableHolds
put_all-requires c q i v e =
    subst (λ n. v.number < n) (sym c.get.ensures.same)
    (c.requires (not_true c.if-self.false) (version_entry q v) (i, e))

pub invariant_of-self-2 : goal.invariant_of-self-2
unfolding TableHolds
invariant_of-self-2 c =
    let old = c.args.self.now in
    let map = c.put_all.new.map in
    let given = edits_put c.edits-edits.result.now c.mark-mark.result in
    let puts = c.in_ok-self.ensures.puts in
    let is_new = c.requires (not_true c.if-self.false) in
    let below = λ (q : StoredKey) (i : ℕ) (v : Version)
    (e : slice_get (versions_at old.map q) i ≡ Some v).
    subst (λ n. v.number < n) (sym c.get.ensures.same) (is_new (version_entry q v) (i, e)) in
    record {
      rising = λ _. still_rising old.map map c.get.result given puts (old.rising c.if-self.false)
          below;
      limits = λ _. still_limited old.map map c.args.number c.args.batch.now
          c.get.ensures.limit
          (old.limits c.if-self.false)
          c.edits-edits.ensures.batch.each (adds old.map map c.args.number c.get.result
          c.args.batch.now given c.get.ensures.same
          (ap₂ edits_put c.edits-edits.ensures.edits c.mark-mark.ensures.mark) puts);
    }

pub returns-clause-adds : goal.returns-clause-adds
unfolding TableHolds
returns-clause-adds c =
    adds c.args.self.now.map c.put_all.new.map c.args.number c.get.result c.args.batch.now
    (edits_put c.edits-edits.result.now c.mark-mark.result) c.get.ensures.same
    (ap₂ edits_put c.edits-edits.ensures.edits c.mark-mark.ensures.mark)
    c.in_ok-self.ensures.puts
