use Rattle.std.proofs.Common.{◌+◌, ◌%◌, ap, ◌∙◌}
use Rattle.bloom.proofs.Walking.{next_probe}
use Rattle.bloom.proofs.hashes.Probes.advance.Goals as goal

pub returns : goal.returns
returns c = λ bits hashes i at.
    let walk = c.args.self.now in record {
      among = at.among;
      place = c.sum_of-self.ensures ∙ ap (λ n. (walk.place + walk.step) % n) at.among
          ∙ next_probe bits hashes i walk.place walk.step at.place at.step;
      step = at.step;
    }
