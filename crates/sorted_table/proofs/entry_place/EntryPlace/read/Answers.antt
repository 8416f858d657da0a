use Rattle.std.proofs.Common.{None, Some, ap, arith}
use Rattle.std.specs.Option.{option_map}
use Rattle.table_format.specs.{lent_entry}
use Rattle.table_files.specs.EntryReadsLemmas.{none_behind}
use Rattle.sorted_table.proofs.EntryPlacesLemmas.{is_entry_from, read_stands}
use Rattle.sorted_table.proofs.entry_place.EntryPlace.read.Goals as goal

pub returns-then-start-bytes : goal.returns-then-start-bytes
returns-then-start-bytes c = none_behind c.args.format c.args.bytes.now c.args.start
    c.if-start-bytes.true

pub overflow_sub-end : goal.overflow_sub-end
overflow_sub-end c =
    let it = c.in_ok-entry in
    let stands = read_stands c.args.format c.args.bytes.now c.args.start (lent_entry it.entry)
    it.rest.now
    (λ i. omega (arith, c.type_inv.bytes i)) c.if-start-bytes.false it.ensures in
    omega (arith, stands.within)

pub overflow_add-result : goal.overflow_add-result
overflow_add-result c =
    let it = c.in_ok-entry in
    let stands = read_stands c.args.format c.args.bytes.now c.args.start (lent_entry it.entry)
    it.rest.now
    (λ i. omega (arith, c.type_inv.bytes i)) c.if-start-bytes.false it.ensures in
    omega (arith, stands.within, c.len.ensures, c.front_size.ensures.size)

pub overflow_sub-result : goal.overflow_sub-result
overflow_sub-result c =
    let it = c.in_ok-entry in
    let stands = read_stands c.args.format c.args.bytes.now c.args.start (lent_entry it.entry)
    it.rest.now
    (λ i. omega (arith, c.type_inv.bytes i)) c.if-start-bytes.false it.ensures in
    (rw c.in-Some.is at stands.value).0

pub returns-in-Some : goal.returns-in-Some
returns-in-Some c =
    let it = c.in_ok-entry in
    rw c.front_size.ensures.size (
    is_entry_from c.args.format c.args.bytes.now c.args.start (lent_entry it.entry) it.rest.now
    c.space.result c.len.result (Some c.in-Some.value.now) (λ i. omega (arith, c.type_inv.bytes i))
    c.if-start-bytes.false it.ensures c.space.ensures c.len.ensures
    (ap (option_map (λ v. v.now)) c.in-Some.is))

pub returns-in-None : goal.returns-in-None
returns-in-None c =
    let it = c.in_ok-entry in
    rw c.front_size.ensures.size (
    is_entry_from c.args.format c.args.bytes.now c.args.start (lent_entry it.entry) it.rest.now
    c.space.result c.len.result None (λ i. omega (arith, c.type_inv.bytes i))
    c.if-start-bytes.false it.ensures c.space.ensures c.len.ensures
    (ap (option_map (λ v. v.now)) c.in-None.is))
