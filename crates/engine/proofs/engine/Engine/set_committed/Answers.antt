use Rattle.std.proofs.Common.{refl, rules}
use Rattle.engine.specs.Engines.{IsInMemory, WasMeantInMemory}
use Rattle.engine.proofs.engine.Engine.set_committed.Goals as goal

-- neither the disk nor the store changes
pub returns-clause-stays : goal.returns-clause-stays
unfolding IsInMemory WasMeantInMemory
returns-clause-stays g c = record {
  ended = search rules;
  work = refl;
  reads = λ list r. record {
    honest = r.honest;
    works = r.works;
    represents = r.represents;
    count = r.count;
    inside = r.inside;
  };
  holds = λ list h. record {
    reads = record {
      honest = h.reads.honest;
      works = h.reads.works;
      represents = h.reads.represents;
      count = h.reads.count;
      inside = h.reads.inside;
    };
    crash = h.crash;
  };
  meant = λ list m. record {
    honest = m.honest;
    works = m.works;
    represents = m.represents;
    crash = m.crash;
    count = m.count;
    inside = m.inside;
  };
}
