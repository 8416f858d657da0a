-- Small frames, spelled out.
use Rattle.std.specs.Prelude.{◌≡◌, [], ◌∷◌, codes}
use Rattle.kv_types.specs.declared.Edit.TheVariants.{Put}
use Rattle.kv_types.specs.{BatchContent, marked, unmarked}
use Rattle.kv_types.specs as batch
use Rattle.link_messages.specs.declared.frame.Frame.{Frame}
use Rattle.link_messages.specs.declared.frame.Frame.TheVariants as frame
use Rattle.link_messages.specs.Spelling.{frame_bytes}

-- a=1
abbrev pub one_put : BatchContent
one_put = unmarked (Put (codes "a") (codes "1") ∷ [])

-- a=1, with mark 7, 1
abbrev pub marked_put : BatchContent
marked_put = marked 7 1 (Put (codes "a") (codes "1") ∷ [])

-- node 1 forwards batch 1 in epoch 0
abbrev pub first_forward : Frame
first_forward = frame.Forward 0 1 1 one_put

-- node 3 has batch 1 in epoch 0, and knows it to be committed
abbrev pub first_ack : Frame
first_ack = frame.Ack 0 3 1 1

-- the bytes of a batch of one put, and of two frames
pub record FrameExamples : Type 0 where
  pub put : batch.batch_bytes one_put ≡ 0 ∷ 1 ∷ 1 ∷ 0 ∷ 1 ∷ 97 ∷ 0 ∷ 1 ∷ 49 ∷ []
  pub forward : frame_bytes first_forward
      ≡ 0 ∷ 0 ∷ 0 ∷ 24 ∷ 1 ∷ 0 ∷ 0 ∷ 0 ∷ 0 ∷ 0 ∷ 1 ∷ 0 ∷ 0 ∷ 0 ∷ 0 ∷ 0 ∷ 0 ∷ 0 ∷ 1 ∷ 0 ∷ 1 ∷ 1
      ∷ 0 ∷ 1
      ∷ 97 ∷ 0 ∷ 1 ∷ 49 ∷ []
  pub marked : frame_bytes (frame.Forward 0 1 1 marked_put)
      ≡ 0 ∷ 0 ∷ 0 ∷ 42 ∷ 1 ∷ 0 ∷ 0 ∷ 0 ∷ 0 ∷ 0 ∷ 1 ∷ 0 ∷ 0 ∷ 0 ∷ 0 ∷ 0 ∷ 0 ∷ 0 ∷ 1
      ∷ 0 ∷ 0 ∷ 0 ∷ 0 ∷ 0 ∷ 0 ∷ 0 ∷ 0 ∷ 0 ∷ 7 ∷ 0 ∷ 0 ∷ 0 ∷ 0 ∷ 0 ∷ 0 ∷ 0 ∷ 1
      ∷ 0 ∷ 1 ∷ 1 ∷ 0 ∷ 1 ∷ 97 ∷ 0 ∷ 1 ∷ 49 ∷ []
  pub ack : frame_bytes first_ack
      ≡ 0 ∷ 0 ∷ 0 ∷ 23 ∷ 2 ∷ 0 ∷ 0 ∷ 0 ∷ 0 ∷ 0 ∷ 3 ∷ 0 ∷ 0 ∷ 0 ∷ 0 ∷ 0 ∷ 0 ∷ 0 ∷ 1 ∷ 0 ∷ 0 ∷ 0
      ∷ 0 ∷ 0
      ∷ 0 ∷ 0 ∷ 1 ∷ []
