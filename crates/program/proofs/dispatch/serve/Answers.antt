use Rattle.std.proofs.Common.{◌∙◌, codes, map, refl, sym}
use Rattle.std.proofs.lemmas.Bool.{false≢true}
use Rattle.program.proofs.Commands.{never_both, never_dump, never_loop, path_names}
use Rattle.program.proofs.dispatch.serve.Goals as goal

-- words that name `loop` have no folder of a dump or an upgrade, and are none that leave the input
-- for its sake
pub returns-then-is_named-clause-folders : goal.returns-then-is_named-clause-folders
returns-then-is_named-clause-folders g c =
    let words = map (λ w. w.now) c.args.words.now in
    record {
      dumped = λ folder found. absurd (never_both words
          (sym c.is_named.ensures ∙ c.if-is_named.true) (path_names (codes "dump") words folder
          found));
      upgraded = λ folder found. absurd (never_loop words
          (sym c.is_named.ensures ∙ c.if-is_named.true) (path_names (codes "upgrade") words folder
          found));
    }

pub returns-then-is_named-clause-left : goal.returns-then-is_named-clause-left
returns-then-is_named-clause-left g c =
    let words = map (λ w. w.now) c.args.words.now in
    record {
      dump = λ named. absurd (never_both words (sym c.is_named.ensures ∙ c.if-is_named.true) named);
      upgrade = λ named. absurd (never_loop words (sym c.is_named.ensures ∙ c.if-is_named.true)
          named);
      usage = c.serve_loop.ensures.usage;
    }

-- nothing of the input was read
pub returns-then-is_named-2-clause-folders : goal.returns-then-is_named-2-clause-folders
returns-then-is_named-2-clause-folders g c =
    let words = map (λ w. w.now) c.args.words.now in
    record {
      dumped = λ folder named. (refl, c.serve_dump.ensures.dumped folder named);
      upgraded = λ folder found. absurd (never_dump words
          (sym c.is_named-2.ensures ∙ c.if-is_named-2.true) (path_names (codes "upgrade") words
          folder found));
    }

-- words that do not name `dump` have no folder of one
pub returns-then-is_named-3-clause-folders : goal.returns-then-is_named-3-clause-folders
returns-then-is_named-3-clause-folders g c =
    record {
      dumped = λ folder found. absurd (false≢true (sym c.if-is_named-2.false
          ∙ c.is_named-2.ensures ∙ path_names (codes "dump") (map (λ w. w.now) c.args.words.now)
          folder found));
      upgraded = λ folder named. (refl, c.serve_upgrade.ensures.upgraded folder named);
    }

-- nor those that do not name `upgrade`
pub returns-clause-folders : goal.returns-clause-folders
returns-clause-folders g c =
    record {
      dumped = λ folder found. absurd (false≢true (sym c.if-is_named-2.false
          ∙ c.is_named-2.ensures ∙ path_names (codes "dump") (map (λ w. w.now) c.args.words.now)
          folder found));
      upgraded = λ folder found. absurd (false≢true (sym c.if-is_named-3.false
          ∙ c.is_named-3.ensures ∙ path_names (codes "upgrade")
          (map (λ w. w.now) c.args.words.now) folder found));
    }
