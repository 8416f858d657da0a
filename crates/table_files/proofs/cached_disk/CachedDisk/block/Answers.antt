use Rattle.std.proofs.Common.{refl, subst, sym}
use Rattle.disk.specs.StillLemmas.{still}
use Rattle.std.specs.Rc.{rc_slice_items}
use Rattle.byte_fields.specs.declared.format.Format.{Format}
use Rattle.table_files.specs.BlockReads.{IsBlockAt}
use Rattle.table_files.proofs.BlocksStay.{blocks_stay, blocks_and_one, same_block}
use Rattle.table_files.proofs.cached_disk.CachedDisk.block.Goals as goal

-- a look into the cache makes no device call
pub returns-in_err-block-clause-still : goal.returns-in_err-block-clause-still
returns-in_err-block-clause-still g c = λ honest. still _ _

pub returns-then-len-clause-still : goal.returns-then-len-clause-still
returns-then-len-clause-still g c = λ honest. still _ _

-- and adds no block
pub invariant_of-self : goal.invariant_of-self
invariant_of-self g c = record {
  checked = λ honest.
      let old = c.args.self.now in
      let disk = g.D.Disk.state old.disk in
      blocks_stay disk disk old.cache c.get.new.self (old.checked honest) (λ file. refl)
      c.get.ensures.keeps;
}

pub invariant_of-self-then-len : goal.invariant_of-self-then-len
invariant_of-self-then-len g c = record {
  checked = λ honest.
      let old = c.args.self.now in
      let disk = g.D.Disk.state old.disk in
      blocks_stay disk disk old.cache c.get.new.self (old.checked honest) (λ file. refl)
      c.get.ensures.keeps;
}

-- a read changes nothing
pub invariant_of-self-in-Break-branch-3 : goal.invariant_of-self-in-Break-branch-3
invariant_of-self-in-Break-branch-3 g c = record {
  checked = λ honest.
      let old = c.args.self.now in
      let was = c.read_block.ensures.kept.honest.0 honest in
      blocks_stay (g.D.Disk.state old.disk) (g.D.Disk.state c.read_block.new.disk) old.cache
      c.get.new.self (old.checked was) (c.read_block.ensures.kept.files was) c.get.ensures.keeps;
}

-- the block that was read stands there, and was checked
pub invariant_of-self-2 : goal.invariant_of-self-2
invariant_of-self-2 g c = record {
  checked = λ honest.
      let old = c.args.self.now in
      let was = c.read_block.ensures.kept.honest.0 honest in
      let disk = g.D.Disk.state c.read_block.new.disk in
      let right = blocks_stay (g.D.Disk.state old.disk) disk old.cache c.get.new.self
      (old.checked was) (c.read_block.ensures.kept.files was) c.get.ensures.keeps in
      let answer = c.in_ok-block-2.ensures.answers was in
      let block = rc_slice_items c.in_ok-block-2.block.bytes in
      let kind = c.in_ok-block-2.block.format in
      let there = subst (λ (k : Format). IsBlockAt (g.D.Disk.state old.disk) c.args.file
      c.args.place k block) (sym answer.2) answer.1 in
      blocks_and_one disk c.get.new.self c.keep.new.self c.args.file c.args.place kind block
      right
      (same_block (g.D.Disk.state old.disk) disk c.args.file c.args.place kind block
      (c.read_block.ensures.kept.files was c.args.file) there) c.keep.ensures;
}
