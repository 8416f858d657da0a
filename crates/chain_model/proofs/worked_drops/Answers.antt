use Rattle.std.proofs.Common.{refl}
use Rattle.chain_model.proofs.worked_drops.Goals as goal

pub returns : goal.returns
returns c = record {
  too_much = refl;
  too_early = refl;
  stranger_tells = refl;
  stranger_sends = refl;
  later_epoch = refl;
  nobody_left_out = refl;
  node_added = refl;
  not_newer = refl;
  reply_to_a_client = refl;
  no_frame = refl;
  old_and_bad = refl;
  removed_and_no_head = refl;
  removed_and_later_epoch = refl;
  later_epoch_of_stranger = refl;
  stranger_with_bad_ack = refl;
  too_old_and_too_new = refl;
  too_old_and_too_many = refl;
  too_new_and_too_many = refl;
  removed_and_too_many = refl;
  removed_and_not_open = refl;
}
