use Rattle.std.proofs.Common.{◌≡◌, ◌∷◌, ◌-◌, drop, sym, ap, subst}
use Rattle.std.proofs.Common.{true, false, ◌∙◌, refl}
use Rattle.byte_fields.specs.{StoredKey, row_key}
use Rattle.kv_types.specs.Entries.{row_edit}
use Rattle.kv_types.specs.Maps.{key_of, last_edit, value_put}
use Rattle.memtable.specs.Maps.{added, edits_put, versions_at}
use Rattle.memtable.specs.Versions.{lacks}
use Rattle.memtable.specs.Sizes.{edits_size, capped_sum}
use Rattle.memtable.proofs.Puts.{counted, from_last, lacks_added, row_edit-key, row_edit-value}
use Rattle.memtable.proofs.Puts.{turned}
use Rattle.memtable.proofs.put.put_all.Goals as goal

-- the edit has an entry
pub loop-i-preserved-then-branch : goal.loop-i-preserved-then-branch
loop-i-preserved-then-branch c =
    let at = c.loop-i in
    let edit = c.index-edits-i.result in
    let edits = c.args.edits.now in
    let mark = c.args.mark in
    let key = c.in_ok-key.key in
    let of_edit : key ≡ key_of (row_edit edit) =
    c.in_ok-key.ensures ∙ c.stored.ensures ∙ ap row_key c.key.ensures ∙ sym (row_edit-key edit) in
    let left : c.in_ok-value.value ≡ value_put (row_edit edit) =
    c.in_ok-value.ensures ∙ sym (row_edit-value edit) in
    let old = λ (q : StoredKey). versions_at c.args.map.now q in
    let rest = edits_put (drop at.i edits) mark in
    let is : row_edit edit ∷ rest ≡ edits_put (drop (at.i - 1) edits) mark =
    ap (λ es. edits_put es mark)
    (sym (from_last edits at.i edit c.loop-i-test.true at.auto.i c.index-edits-i.is)) in
    let seen = sym c.if-branch.true ∙ c.in_ok-put.ensures.is_added
    ∙ ap (λ vs. lacks vs c.args.number) (at.invariant.puts key)
    ∙ lacks_added (old key) c.args.number (last_edit rest key) (c.requires key) in record {
      puts = λ q. subst
          (λ es. versions_at c.put.new.map q ≡ added (old q) c.args.number (last_edit es q)) is
          (turned (row_edit edit) rest q key (old q) (versions_at at.map q)
          (versions_at c.put.new.map q) c.args.number c.in_ok-value.value of_edit left
          (c.requires q)
          (at.invariant.puts q) (c.in_ok-put.ensures.puts q));
      bytes = subst
          (λ es. c.saturating_add-bytes.result ≡ capped_sum c.args.bytes (edits_size es)) is
          (counted (row_edit edit) rest key c.args.bytes at.bytes c.saturating_add-bytes.result true
          of_edit seen at.invariant.bytes
          (c.saturating_add-bytes.ensures ∙ ap (capped_sum at.bytes) c.size_of.ensures));
    }

-- a later edit of the key hides it
pub loop-i-preserved : goal.loop-i-preserved
loop-i-preserved c =
    let at = c.loop-i in
    let edit = c.index-edits-i.result in
    let edits = c.args.edits.now in
    let mark = c.args.mark in
    let key = c.in_ok-key.key in
    let of_edit : key ≡ key_of (row_edit edit) =
    c.in_ok-key.ensures ∙ c.stored.ensures ∙ ap row_key c.key.ensures ∙ sym (row_edit-key edit) in
    let left : c.in_ok-value.value ≡ value_put (row_edit edit) =
    c.in_ok-value.ensures ∙ sym (row_edit-value edit) in
    let old = λ (q : StoredKey). versions_at c.args.map.now q in
    let rest = edits_put (drop at.i edits) mark in
    let is : row_edit edit ∷ rest ≡ edits_put (drop (at.i - 1) edits) mark =
    ap (λ es. edits_put es mark)
    (sym (from_last edits at.i edit c.loop-i-test.true at.auto.i c.index-edits-i.is)) in
    let seen = sym c.if-branch.false ∙ c.in_ok-put.ensures.is_added
    ∙ ap (λ vs. lacks vs c.args.number) (at.invariant.puts key)
    ∙ lacks_added (old key) c.args.number (last_edit rest key) (c.requires key) in record {
      puts = λ q. subst
          (λ es. versions_at c.put.new.map q ≡ added (old q) c.args.number (last_edit es q)) is
          (turned (row_edit edit) rest q key (old q) (versions_at at.map q)
          (versions_at c.put.new.map q) c.args.number c.in_ok-value.value of_edit left
          (c.requires q)
          (at.invariant.puts q) (c.in_ok-put.ensures.puts q));
      bytes = subst (λ es. at.bytes ≡ capped_sum c.args.bytes (edits_size es)) is
          (counted (row_edit edit) rest key c.args.bytes at.bytes at.bytes false of_edit seen
          at.invariant.bytes refl);
    }
