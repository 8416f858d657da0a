use Rattle.std.proofs.Common.{List, ◌++◌, ◌∷◌, [], ◌∙◌, sym, ap, ap₂, arith}
use Rattle.memtable.specs.declared.version.Version.{Version}
use Rattle.memtable.specs.Versions.{all_of}
use Rattle.memtable.proofs.VersionLists.{with_new, without, lacks_other, has_same}
use Rattle.memtable.proofs.version.Versions.push.Goals as goal

pub returns-then-self-version-clause-all : goal.returns-then-self-version-clause-all
returns-then-self-version-clause-all c =
    sym (without (all_of c.args.self.now) c.args.version
    (has_same c.args.self.now c.args.version.number (search (arith, c.if-self-version.true))))

pub returns-then-self-version-clause-is_added : goal.returns-then-self-version-clause-is_added
returns-then-self-version-clause-is_added c =
    sym (has_same c.args.self.now c.args.version.number
    (search (arith, c.if-self-version.true)))

pub returns-clause-all : goal.returns-clause-all
returns-clause-all c =
    let newest = c.args.version in
    ap₂ (λ (older : List Version) (last : Version). older ++ last ∷ []) c.in_ok-push.ensures.items
    c.replace-before.ensures.after
    ∙ (ap (λ before. (c.args.self.now.older.items ++ before ∷ []) ++ newest ∷ [])
    c.replace-before.ensures.value
    ∙ sym (with_new (all_of c.args.self.now) newest
    (lacks_other c.args.self.now newest.number (search (arith, c.if-self-version.false)))))

pub returns-clause-is_added : goal.returns-clause-is_added
returns-clause-is_added c =
    sym (lacks_other c.args.self.now c.args.version.number
    (search (arith, c.if-self-version.false)))
