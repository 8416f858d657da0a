use Rattle.std.proofs.lemmas.Grind.{common_steps}
use Rattle.std.proofs.Common.{◌≡◌, refl, sym, subst, ap, ◌∙◌, arith}
use Rattle.compaction.proofs.Calls.{memory_told, refused, writes_nothing}
use Rattle.compaction.proofs.Steps.{cursor_failed, cursor_works, writes_read}
use Rattle.std.proofs.Common.{List, Some, ◌+◌, map, option_map}
use Rattle.std.specs.Prelude.{filter, nat_lt}
use Rattle.std.specs.Global.{Vec}
use Rattle.store_model.specs.{KeyRange}
use Rattle.version_edits.specs.declared.TableLine.{TableLine}
use Rattle.version_edits.specs.{IsVersion, NodeVersion}
use Rattle.compaction.specs.Inputs.{lent_range, line_name}
use Rattle.compaction.specs.Merges.{table_name}
use Rattle.compaction.specs.Plans.{is_line_input, model_plan, range_of}
use Rattle.compaction.specs.Survivors.{AreDeeperLines}
use Rattle.compaction.proofs.Merging.{begin_stops, deeper_zip, inputs_early, names_zip, walk_first}
use Rattle.compaction.proofs.Numbers.{begins, no_outputs}
use Rattle.compaction.proofs.Shapes.{names_proper}
use Rattle.compaction.specs.WalksLemmas.{alike_through}
use Rattle.compaction.proofs.Writing.{refuses}
use Rattle.compaction.proofs.merge.Merge.begin.Goals as goal

-- the names are those of tables of the version
pub invariant_of-result : goal.invariant_of-result
invariant_of-result g c =
    let tables = c.args.version.now.version.tables in
    let there = ap (λ (v : NodeVersion). v.version.tables) c.version.view_is in
    let same : c.deref-2.result.now ≡ tables = cc (c.deref-2.ensures.value, there) in
    let test = is_line_input c.args.plan (lent_range c.in-Some.range) in
    let names = c.in_ok-gone.gone.items in
    let it = names_proper c.args.version.now.version test names
    (subst (λ (v : NodeVersion). IsVersion v.version) c.version.view_is c.version.invariant)
    (subst (λ (l : List TableLine). names ≡ map line_name (filter test l)) same
    c.in_ok-gone.ensures) in
    record { few = it.0; named = it.1 }

pub returns-in_default-clause-reads : goal.returns-in_default-clause-reads
returns-in_default-clause-reads g c =
    writes_nothing _ (λ file. ⊥) c.args.files.now (refused (λ e. cc))

pub returns-in_err-gone-clause-reads : goal.returns-in_err-gone-clause-reads
returns-in_err-gone-clause-reads g c =
    writes_nothing _ (λ file. ⊥) c.args.files.now
    (memory_told c.from_residual.result c.from_residual.ensures.1)

pub returns-in_err-deeper-clause-reads : goal.returns-in_err-deeper-clause-reads
returns-in_err-deeper-clause-reads g c =
    writes_nothing _ (λ file. ⊥) c.args.files.now
    (memory_told c.from_residual-in_err-deeper.result c.from_residual-in_err-deeper.ensures.1)

pub returns-in_err-first-clause-reads : goal.returns-in_err-first-clause-reads
returns-in_err-first-clause-reads g c =
    writes_read _ (λ file. ⊥) c.first.result
    (cursor_failed c.first.result c.in_err-first.field-0.0 c.from_residual-in_err-first.result
    c.in_err-first.was c.from_residual-in_err-first.ensures.1) c.first.ensures.device

pub returns-clause-reads : goal.returns-clause-reads
returns-clause-reads g c =
    writes_read _ (λ file. ⊥) c.first.result (cursor_works c.first.result c.in_ok-first.was)
    c.first.ensures.device

pub returns-in_err-first-clause-begun : goal.returns-in_err-first-clause-begun
returns-in_err-first-clause-begun g c =
    λ meant tables range honest zip is cursors le unused.
    refuses c.from_residual-in_err-first.result _ _ c.from_residual-in_err-first.ensures.1
    (begin_stops _ _ _ _ _ c.first.result c.in_err-first.field-0.0
    (λ intact. let it = intact c.args.files.now (honest, λ file there. refl) in
    (it.0, c.new-union.ensures.sound it.0 c.args.files.now it.1 it.2, it.3))
    c.first.ensures.causes c.in_err-first.was)

pub returns-clause-begun : goal.returns-clause-begun
returns-clause-begun g c =
    λ meant tables range honest zip is cursors le unused.
    let version = c.args.version.now.version in
    let plan = c.args.plan in
    let there = ap (λ (v : NodeVersion). v.version.tables) c.version.view_is in
    let t1 : c.deref.result.now ≡ version.tables = cc (c.deref.ensures.value, there) in
    let t2 : c.deref-2.result.now ≡ version.tables = cc (c.deref-2.ensures.value, there) in
    let t3 : c.deref-3.result.now ≡ version.tables = cc (c.deref-3.ensures.value, there) in
    let lawful = subst (λ (v : NodeVersion). IsVersion v.version) c.version.view_is
    c.version.invariant in
    let some : Some (lent_range c.in-Some.range) ≡ Some range =
    sym (ap (option_map lent_range) c.in-Some.is) ∙ c.range.ensures
    ∙ ap (λ (l : List TableLine). range_of plan l) t1 ∙ is in
    let same : lent_range c.in-Some.range ≡ range = cc in
    let inputs = (model_plan plan range tables).inputs in
    let walk = walk_first _ _ c.are_lawful.ensures meant inputs c.args.files.now
    c.first.new.source c.args.next_file c.new-union.result c.first.new.self c.new-writer.result
    c.in_ok-first.field-0 c.first.result honest
    (c.new-union.ensures.sound meant c.args.files.now cursors.sound cursors.disjoint)
    (alike_through _ _ _ (c.new-union.ensures.entries meant c.args.files.now) cursors.alike)
    (λ a b serves. c.new-union.ensures.suits a b (cursors.reads a b serves))
    (inputs_early plan range version tables c.args.next_file lawful zip le) unused
    c.new-writer.ensures.none.0 c.new-writer.ensures.empty c.first.ensures.moves
    c.first.ensures.device c.first.ensures.finds c.in_ok-first.was in
    let rules = c.new-writer.ensures.rules in
    let lines : c.new-writer.result.deeper.items
    ≡ filter (λ line. nat_lt (plan.level + 1) line.level) version.tables =
    ap (λ (v : Vec TableLine). v.items) rules.3 ∙ c.in_ok-deeper.ensures
    ∙ ap (λ (l : List TableLine). filter (λ line. nat_lt (plan.level + 1) line.level) l) t3 in
    let names : c.in_ok-gone.gone.items ≡ map table_name inputs =
    c.in_ok-gone.ensures
    ∙ ap (λ (l : List TableLine).
    map line_name (filter (is_line_input plan (lent_range c.in-Some.range)) l)) t2
    ∙ ap (λ (r : KeyRange). map line_name (filter (is_line_input plan r) version.tables)) same
    ∙ names_zip plan range version.tables tables zip in
    let level = rules.2 in (
      record {
        merging = record {
          works = λ f. cc;
          walk = walk.0;
          deeper = subst (λ (l : List TableLine). AreDeeperLines (model_plan plan range tables) l)
              (sym lines) (deeper_zip plan range version.tables tables zip);
          level = omega (arith, level);
          same_floor = rules.0 ∙ ap (λ (v : NodeVersion). v.version.floor) c.version.view_is;
          gone = names;
          numbers = begins plan range version tables lawful zip c.args.next_file
              c.new-writer.result le c.new-writer.ensures.none.0 c.new-writer.ensures.none.1;
        };
        none = walk.1;
      },
      λ intact. walk.2 (λ other at. let it = intact other at in
          (it.0, c.new-union.ensures.sound it.0 other it.1 it.2, it.3)),
    )

pub returns-clause-first : goal.returns-clause-first
returns-clause-first g c = (
  refl,
  no_outputs c.new-writer.result c.new-writer.ensures.none.0 c.new-writer.ensures.none.1,
)

pub returns-clause-aims : goal.returns-clause-aims
returns-clause-aims g c = c.new-writer.ensures.rules.1

pub returns-in_default-clause-first : goal.returns-in_default-clause-first
returns-in_default-clause-first g c = grind (arith, common_steps)

pub returns-in_default-clause-aims : goal.returns-in_default-clause-aims
returns-in_default-clause-aims g c = grind (arith, common_steps)

pub returns-in_default-clause-begun : goal.returns-in_default-clause-begun
returns-in_default-clause-begun g c = grind (arith, common_steps)

pub returns-in_err-gone-clause-first : goal.returns-in_err-gone-clause-first
returns-in_err-gone-clause-first g c = grind (arith, common_steps)

pub returns-in_err-gone-clause-aims : goal.returns-in_err-gone-clause-aims
returns-in_err-gone-clause-aims g c = grind (arith, common_steps)

pub returns-in_err-gone-clause-begun : goal.returns-in_err-gone-clause-begun
returns-in_err-gone-clause-begun g c = grind (arith, common_steps)

pub returns-in_err-deeper-clause-first : goal.returns-in_err-deeper-clause-first
returns-in_err-deeper-clause-first g c = grind (arith, common_steps)

pub returns-in_err-deeper-clause-aims : goal.returns-in_err-deeper-clause-aims
returns-in_err-deeper-clause-aims g c = grind (arith, common_steps)

pub returns-in_err-deeper-clause-begun : goal.returns-in_err-deeper-clause-begun
returns-in_err-deeper-clause-begun g c = grind (arith, common_steps)

pub returns-in_err-first-clause-first : goal.returns-in_err-first-clause-first
returns-in_err-first-clause-first g c = grind (arith, common_steps)

pub returns-in_err-first-clause-aims : goal.returns-in_err-first-clause-aims
returns-in_err-first-clause-aims g c = grind (arith, common_steps)
