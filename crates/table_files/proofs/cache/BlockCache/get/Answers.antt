use Rattle.std.proofs.Common.{◌≡◌, ◌∙◌, sym, ap, subst, Some}
use Rattle.std.specs.Map.{lookup}
use Rattle.std.specs.Option.{option_copied}
use Rattle.std.specs.Ordering.{nat_cmp}
use Rattle.std.specs.BTreeMap.{get}
use Rattle.table_files.specs.Kept.{NumbersAreBelow, IsKeptBlock}
use Rattle.table_files.proofs.KeptLemmas.{Blocks, is_key, found_kept, promoted_kept, promoted_below}
use Rattle.table_files.proofs.cache.BlockCache.get.Goals as goal

-- the block was only moved to the front
pub invariant_of-self : goal.invariant_of-self
invariant_of-self c =
    let old = c.args.self.now in
    record {
      apart = old.apart;
      used = subst (λ (l : Blocks). NumbersAreBelow old.numbers l.entries old.next)
          (sym c.promote.ensures.entries)
          (promoted_below old.numbers old.blocks.entries _ old.next old.used);
    }

-- it is kept under the file's number
pub returns-clause-found : goal.returns-clause-found
returns-clause-found c =
    let old = c.args.self.now in
    let known : get nat_cmp old.numbers c.args.file ≡ Some c.in-Some.number.now =
    sym c.get.ensures.value ∙ ap option_copied c.in-Some.is in
    let found : lookup (is_key (c.in-Some.number.now, c.args.place)) old.blocks.entries
    ≡ Some c.in-Some-peek.block.now =
    sym c.peek.ensures ∙ ap option_copied c.in-Some-peek.is in
    found_kept old.numbers old.blocks.entries c.args.file c.in-Some.number.now c.args.place
    c.args.format c.in-Some-peek.block.now c.in_ok-found.found known found
    (c.is_same.ensures.0 c.if-not-is_same.false) c.in_ok-found.ensures.1

pub returns-clause-keeps : goal.returns-clause-keeps
returns-clause-keeps c = λ file place format bytes k.
    let old = c.args.self.now in
    promoted_kept old.numbers old.blocks.entries _ file place format bytes
    (subst (λ (l : Blocks). IsKeptBlock old.numbers l.entries file place format bytes)
    c.promote.ensures.entries k)
