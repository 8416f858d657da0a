use Rattle.std.proofs.Common.{◌∙◌, inl, inr}
use Rattle.table_files.proofs.KeptLemmas.{put_below, put_kept}
use Rattle.table_files.proofs.cache.BlockCache.keep.Goals as goal

-- the block has the number of its file
pub invariant_of-self : goal.invariant_of-self
invariant_of-self c =
    let old = c.number_of.new.self in
    record {
      apart = old.apart;
      used = put_below old.numbers old.blocks c.put.new.self c.put.result c.args.file
          c.in-Some.number c.args.place c.in-Ok.copy c.in-Some.ensures.number
          (record { entries = c.put.ensures.entries; err = c.put.ensures.err }) old.next old.used;
    }

pub returns-in-Ok : goal.returns-in-Ok
returns-in-Ok c = λ f p format bytes k.
    let old = c.number_of.new.self in
    elim (put_kept old.numbers old.blocks c.put.new.self c.put.result c.args.file c.in-Some.number
    c.args.place c.in-Ok.copy c.in-Some.ensures.number
    (record { entries = c.put.ensures.entries; err = c.put.ensures.err }) old.apart f p format bytes
    k) [
      | inl was ↦ inl (c.number_of.ensures.keeps f p format bytes was)
      | inr new ↦ inr (new.0, new.1, new.2 ∙ c.in-Ok.ensures.0, new.3 ∙ c.in-Ok.ensures.1)
    ]
