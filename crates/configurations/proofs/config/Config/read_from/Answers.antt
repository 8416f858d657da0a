use Rattle.std.proofs.Common.{◌-◌, ◌∙◌, sym, subst, length, take, drop, get_or}
use Rattle.configurations.specs.Configs.{IsConfig}
use Rattle.configurations.proofs.Spelling.{fields_of, enough, same_ids}
use Rattle.configurations.proofs.config.Config.read_from.Goals as goal

-- a configuration's ids are not too few
pub returns-in_default-2-clause-each : goal.returns-in_default-2-clause-each
returns-in_default-2-clause-each c = λ ids rest config is.
    let bytes = c.args.bytes.now in
    let fields = fields_of bytes ids rest config is in
    absurd (enough (get_or bytes 0 0) (take (length bytes - 1) (drop 1 bytes)) ids rest fields
    (rw c.in_default-2.is at c.in_ok-ids.ensures))

-- .. they are what is read
pub returns-in-Ok-clause-each : goal.returns-in-Ok-clause-each
returns-in-Ok-clause-each c = λ ids rest config is.
    let bytes = c.args.bytes.now in
    let fields = fields_of bytes ids rest config is in
    let same = same_ids (get_or bytes 0 0) (take (length bytes - 1) (drop 1 bytes)) ids rest
    c.in-Some.ids.items c.in-Some.rest.now config fields
    (rw c.in-Some.is at c.in_ok-ids.ensures) in
    (c.in-Ok.ensures.made.0 ∙ same.0, same.1)

-- .. and are not refused
pub returns-in_default-error : goal.returns-in_default-error
returns-in_default-error c = record {
  found = tt;
  each = λ ids rest config is.
      let bytes = c.args.bytes.now in
      let fields = fields_of bytes ids rest config is in
      let same = same_ids (get_or bytes 0 0) (take (length bytes - 1) (drop 1 bytes)) ids rest
      c.in-Some.ids.items c.in-Some.rest.now config fields
      (rw c.in-Some.is at c.in_ok-ids.ensures) in
      absurd (c.in_default-error.not-Memory (c.in-Err.ensures.each (subst IsConfig (sym same.0)
      config)));
}
