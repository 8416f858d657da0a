use Rattle.carriers.proofs.Determined.{read_same, sent_same}
use Rattle.carriers.proofs.laws.one_received.Goals as goal

pub returns : goal.returns
returns c = record {
  any = read_same c.one_spelling.ensures.one;
  sent = sent_same c.one_spelling.ensures.one;
}
