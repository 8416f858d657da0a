-- What the client hears of the replies of a node, which a carrier carries one after another.
use Rattle.std.specs.Prelude.{◌≡◌, ℕ, List, ◌++◌, Option, filter_map, flat_map, map}
use Rattle.carriers.specs.{IsHeard, Transmission}
use Rattle.node.specs.declared.Reply.{Reply}
use Rattle.lab.specs.declared.report.Line.{Line}
use Rattle.lab.specs.declared.report.Line.TheVariants as line
use Rattle.lab.specs.Transmissions.{reply_sent}

-- a reply that was carried: what arrived of its bytes, and what the client heard by that
pub record CarriedReply : Type 0 where
  pub reply : Reply
  pub got : Option (List ℕ)
  pub heard : Option Reply
  pub is : IsHeard reply got heard

-- those that the client heard, in order
abbrev pub replies_heard : List CarriedReply → List Reply
replies_heard each = filter_map (λ it. it.heard) each

-- what these replies of a node ask of the carrier, and what arrived of each
abbrev pub replies_carried : ℕ → List CarriedReply → List Transmission
replies_carried node each = flat_map (λ it. reply_sent node it.reply (λ bytes. it.got)) each

-- The carrier was asked for each reply of a node, in order, and for nothing else. Each that the
-- client heard has a line behind those that there were.
pub record RepliesFollow (asks : List Transmission → Type 0) (node : ℕ) (replies : List Reply)
    (before now : List Line) : Type 0
  where
    pub each : List CarriedReply
    pub of : map (λ it. it.reply) each ≡ replies
    pub asked : asks (replies_carried node each)
    pub lines : now ≡ before ++ map (λ reply. line.Replied reply) (replies_heard each)
