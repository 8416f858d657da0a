use Rattle.std.proofs.Common.{Some, None, sym, ap, subst, ◌∙◌}
use Rattle.std.specs.Option.{option_copied}
use Rattle.memtable.specs.Versions.{all_of, IsLastUpTo}
use Rattle.memtable.specs.Tables.{TableHolds}
use Rattle.memtable.proofs.Gets.{found_rising, newest, none_there, all_newer}
use Rattle.memtable.proofs.memtable.Memtable.get.Goals as goal

pub get-version-requires : goal.get-version-requires
get-version-requires c =
    (c.in-Some-last_up_to.ensures (found_rising c.args.self.now.map c.args.key.now
    c.in-Some.versions.now c.in-Some.ensures.value (c.args.self.now.rising c.if-self.false))).0

-- a value
pub returns-in-Some-value-clause-found :
    goal.returns-in-Some-value-clause-found
unfolding TableHolds
returns-in-Some-value-clause-found c =
    newest c.args.self.now.map c.args.key.now c.in-Some.versions.now c.args.at c.get-2.result
    c.in-Some-last_up_to.place c.get-version.result.now (Some c.in-Some-value.value)
    c.get-2.ensures.same c.in-Some.ensures.value (c.args.self.now.rising c.if-self.false)
    c.in-Some-last_up_to.ensures c.get-version.ensures c.in-Some-value.is

-- a deletion
pub returns-in-None-clause-found : goal.returns-in-None-clause-found
unfolding TableHolds
returns-in-None-clause-found c = (
  c.get-version.result.now.number,
  newest c.args.self.now.map c.args.key.now c.in-Some.versions.now c.args.at c.get-2.result
      c.in-Some-last_up_to.place c.get-version.result.now None c.get-2.ensures.same
      c.in-Some.ensures.value (c.args.self.now.rising c.if-self.false)
      c.in-Some-last_up_to.ensures c.get-version.ensures c.in-None.is,
)

-- the key has no entry
pub returns-in_default-clause-found : goal.returns-in_default-clause-found
unfolding TableHolds
returns-in_default-clause-found c =
    none_there c.args.self.now.map c.args.key.now c.args.at
    (sym (ap option_copied c.in_default.is) ∙ c.get.ensures.value)

-- all entries of the key are newer
pub returns-in_default-last_up_to-clause-found : goal.returns-in_default-last_up_to-clause-found
unfolding TableHolds
returns-in_default-last_up_to-clause-found c =
    all_newer c.args.self.now.map c.args.key.now c.in-Some.versions.now c.args.at c.get-2.result
    c.get-2.ensures.same c.in-Some.ensures.value (c.args.self.now.rising c.if-self.false)
    (λ up. subst (IsLastUpTo (all_of c.in-Some.versions.now) c.get-2.result)
    c.in_default-last_up_to.is (c.last_up_to.ensures up))
