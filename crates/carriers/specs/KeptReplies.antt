-- Replies as a list of lines keeps them.
use Rattle.node.specs.declared.Reply.{Reply}
use Rattle.node.specs.declared.Reply.TheVariants as reply
use Rattle.carriers.specs.declared.kept_reply.ReplyForm.{ReplyForm}
use Rattle.carriers.specs.declared.kept_reply.ReplyForm.TheVariants.{Committed, Other}

-- the reply tells that a batch is committed
abbrev pub IsCommit : Reply → Type 0
IsCommit (reply.Committed request number) = Unit {0}
IsCommit _ = ⊥

-- the reply that is kept in this form
abbrev pub kept_reply : ReplyForm → Reply
kept_reply (Committed request number) = reply.Committed request number
kept_reply (Other it) = it.value
