use Rattle.std.proofs.Common.{List, ℕ, arith, Err, Ok, None, inl, refl, sym, subst, ◌∙◌}
use Rattle.std.proofs.lemmas.Result.{err_from_is_err_and}
use Rattle.std.specs.Rc.{rc_slice_items}
use Rattle.bloom.specs.{CoversHashed, hashes_of}
use Rattle.byte_fields.specs.{lent_key}
use Rattle.disk.specs.{IsEnvironmental}
use Rattle.disk.specs.StillLemmas.{still}
use Rattle.merge_iter.specs.{spot}
use Rattle.table_format.specs.{filter_key}
use Rattle.table_format.specs.declared.FileError.TheVariants as reading
use Rattle.sorted_table.specs.Meant.{IsBlockAtLine}
use Rattle.sorted_table.specs.Open.{LookupFinds}
use Rattle.sorted_table.proofs.BlockNumbers.{some_of}
use Rattle.sorted_table.proofs.CursorMoves.{when_false}
use Rattle.sorted_table.proofs.FilterLemmas.{denied_unseen}
use Rattle.sorted_table.proofs.FirstBlocks.{ok_part}
use Rattle.sorted_table.proofs.KeptDisk.{kept_alike, kept_uncalled}
use Rattle.sorted_table.proofs.LinesLemmas.{lines_early}
use Rattle.sorted_table.proofs.MeantLemmas.{environmental, never_damaged}
use Rattle.sorted_table.proofs.OpenLookups.{block_at, by_line, found_as, line_answers, lines_of}
use Rattle.sorted_table.proofs.OpenLookups.{none_behind, not_denied}
use Rattle.sorted_table.proofs.TableLookups.{no_block, not_device, told_alike}
use Rattle.sorted_table.proofs.table.Table.get_hashed.Goals as goal

-- the filter denies the key
pub returns-then-denies : goal.returns-then-denies
returns-then-denies g c = record {
  kept = kept_uncalled _ (λ e. cc);
  found = λ entries honest s.
      denied_unseen c.args.self.now.format entries s.represents.filter (lent_key c.args.key)
      c.args.at
      c.filters_cover.ensures
      s.represents.exact
      (subst (λ (f : List ℕ). CoversHashed f (hashes_of (filter_key c.args.self.now.format
      (lent_key c.args.key))) → ⊥) s.filter
      (subst (λ (h : ℕ × ℕ). CoversHashed c.args.self.now.filter.items h → ⊥) c.requires
      (c.denies.ensures.denied.0 c.if-denies.true)));
  checked = λ honest opened.
      inl (
        subst (λ (h : ℕ × ℕ). CoversHashed c.args.self.now.filter.items h → ⊥) c.requires
            (c.denies.ensures.denied.0 c.if-denies.true),
        refl,
      );
  meant = λ honest meant entries s agree.
      denied_unseen c.args.self.now.format entries s.represents.filter (lent_key c.args.key)
      c.args.at
      c.filters_cover.ensures
      s.represents.exact
      (subst (λ (f : List ℕ). CoversHashed f (hashes_of (filter_key c.args.self.now.format
      (lent_key c.args.key))) → ⊥) s.filter
      (subst (λ (h : ℕ × ℕ). CoversHashed c.args.self.now.filter.items h → ⊥) c.requires
      (c.denies.ensures.denied.0 c.if-denies.true)));
  unread = λ denied. refl;
  calls = λ honest. omega arith;
  still = λ honest. still _ _;
}

-- all blocks end before the key and number
pub returns-then-number-lines : goal.returns-then-number-lines
returns-then-number-lines g c = record {
  kept = kept_uncalled _ (λ e. cc);
  found = λ entries honest s.
      let lines = c.deref-lines.result.now in
      no_block c.args.self.now.format s.bytes entries s.represents lines (lent_key c.args.key)
      c.args.at
      (c.deref-lines.ensures.value ∙ s.lines)
      (λ rising. lines_early lines (spot (lent_key c.args.key) c.args.at) c.line_place-number.result
      (omega (arith, c.if-number-lines.true)) (c.line_place-number.ensures.place rising));
  checked = λ honest opened.
      let file = g.D.Disk.state c.args.files.now.disk c.args.self.now.file in
      let n = c.line_place-number.result in
      let covers = not_denied c.args.self.now.filter.items
      (filter_key c.args.self.now.format (lent_key c.args.key)) c.args.hashes
      c.denies.result c.requires c.denies.ensures.covered c.if-denies.false in
      by_line file c.args.self.now c.deref-lines.result.now (lent_key c.args.key) c.args.at n (Ok
      None) opened
      covers c.deref-lines.ensures.value c.line_place-number.ensures.place
      (none_behind c.args.self.now.format file c.deref-lines.result.now (lent_key c.args.key)
      c.args.at n
      (omega (arith, c.if-number-lines.true)));
  meant = λ honest meant entries s agree.
      let lines = c.deref-lines.result.now in
      no_block c.args.self.now.format s.bytes entries s.represents lines (lent_key c.args.key)
      c.args.at
      (c.deref-lines.ensures.value ∙ s.lines)
      (λ rising. lines_early lines (spot (lent_key c.args.key) c.args.at) c.line_place-number.result
      (omega (arith, c.if-number-lines.true)) (c.line_place-number.ensures.place rising));
  unread = λ denied. refl;
  calls = λ honest. omega arith;
  still = λ honest. still _ _;
}

-- the block was not read
pub returns-in_err-block : goal.returns-in_err-block
returns-in_err-block g c = record {
  kept =
      let same = told_alike c.in_err-block.field-0.0 c.from_residual.result
      c.from_residual.ensures.1 in
      kept_alike _ _ same.0 same.1 c.in_err-block.ensures.device.kept;
  found = λ entries honest s.
      let lines = c.deref-lines.result.now in
      let n = c.line_place-number.result in
      let file = g.D.Disk.state c.args.files.now.disk c.args.self.now.file in
      let at = some_of lines n (omega (arith, c.if-number-lines.false)) in
      let t = lines_of file c.args.self.now entries lines s c.deref-lines.ensures.value in
      let b = block_at c.args.self.now.format file lines t n at.0 at.1 in
      let e = c.in_err-block.field-0.0 in
      let why = environmental e
      (never_damaged c.args.self.now.format file lines t n at.0 e b at.1
      (c.in_err-block.ensures.answers honest)) in
      let p = err_from_is_err_and c.from_residual.result c.from_residual.ensures.1 in
      rw (p.1, p.2) why;
  checked = λ honest opened.
      let covers = not_denied c.args.self.now.filter.items
      (filter_key c.args.self.now.format (lent_key c.args.key)) c.args.hashes
      c.denies.result c.requires c.denies.ensures.covered c.if-denies.false in
      let file = g.D.Disk.state c.args.files.now.disk c.args.self.now.file in
      let why = by_line file c.args.self.now c.deref-lines.result.now
      (lent_key c.args.key) c.args.at
      c.line_place-number.result (Err c.in_err-block.field-0.0) opened covers
      c.deref-lines.ensures.value
      c.line_place-number.ensures.place (
        omega (arith, c.if-number-lines.false),
        c.in_err-block.ensures.answers honest,
      ) in
      let p = err_from_is_err_and c.from_residual.result c.from_residual.ensures.1 in
      rw (p.1, p.2) why;
  meant = λ honest meant entries s agree.
      let p = err_from_is_err_and c.from_residual.result c.from_residual.ensures.1 in
      rw p.1 tt;
  unread = λ denied.
      absurd (denied (when_false c.denies.result _ c.if-denies.false c.denies.ensures.covered));
  calls = c.in_err-block.ensures.calls;
  still = c.in_err-block.ensures.device.still;
}

-- what the block has of the key
pub returns : goal.returns
returns g c = record {
  kept =
      kept_alike _ _ (λ e. cc) (λ e. absurd (not_device _ c.find_in.result c.find_in.ensures e))
      c.in_ok-block.ensures.device.kept;
  found = λ entries honest s.
      found_as (g.D.Disk.state c.args.files.now.disk c.args.self.now.file) c.args.self.now entries s
      c.deref-lines.result.now c.line_place-number.result (lent_key c.args.key) c.args.at
      c.in_ok-block.block
      c.find_in.result c.deref-lines.ensures.value
      (omega (arith, c.if-number-lines.false)) c.line_place-number.ensures.place
      c.in_ok-block.ensures.read_in (c.in_ok-block.ensures.answers honest)
      c.find_in.ensures;
  checked = λ honest opened.
      let covers = not_denied c.args.self.now.filter.items
      (filter_key c.args.self.now.format (lent_key c.args.key)) c.args.hashes
      c.denies.result c.requires c.denies.ensures.covered c.if-denies.false in
      let file = g.D.Disk.state c.args.files.now.disk c.args.self.now.file in
      let lines = c.deref-lines.result.now in
      let n = c.line_place-number.result in
      let at = some_of lines n (omega (arith, c.if-number-lines.false)) in
      by_line file c.args.self.now lines (lent_key c.args.key) c.args.at n c.find_in.result opened
      covers
      c.deref-lines.ensures.value c.line_place-number.ensures.place
      (line_answers c.args.self.now.format file lines n at.0 (lent_key c.args.key) c.args.at
      c.in_ok-block.block c.find_in.result at.1 (c.in_ok-block.ensures.answers honest)
      c.in_ok-block.ensures.read_in c.find_in.ensures);
  meant = λ honest meant entries s agree.
      let file = g.D.Disk.state c.args.files.now.disk c.args.self.now.file in
      let lines = c.deref-lines.result.now in
      let n = c.line_place-number.result in
      let part = rc_slice_items c.in_ok-block.block.bytes in
      let mine = rc_slice_items c.args.self.now.lines in
      let format = c.args.self.now.format in
      let read : IsBlockAtLine format mine n file part = subst
      (λ l. IsBlockAtLine format l n file part)
      c.deref-lines.ensures.value (c.in_ok-block.ensures.answers honest) in
      let here : IsBlockAtLine format lines n meant part = subst
      (λ l. IsBlockAtLine format l n meant part)
      (sym c.deref-lines.ensures.value) (agree n part read) in
      ok_part (LookupFinds entries (lent_key c.args.key) c.args.at)
      (IsEnvironmental reading.Disk reading.Memory)
      c.find_in.result
      (found_as meant c.args.self.now entries s
      lines n (lent_key c.args.key) c.args.at c.in_ok-block.block
      c.find_in.result c.deref-lines.ensures.value
      (omega (arith, c.if-number-lines.false)) c.line_place-number.ensures.place
      c.in_ok-block.ensures.read_in here
      c.find_in.ensures);
  unread = λ denied.
      absurd (denied (when_false c.denies.result _ c.if-denies.false c.denies.ensures.covered));
  calls = c.in_ok-block.ensures.calls;
  still = c.in_ok-block.ensures.device.still;
}
