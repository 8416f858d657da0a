-- The slots represent one version at most.
use Rattle.std.proofs.Common.{◌≡◌, ℕ, ◌≤◌, List, [], ◌∷◌, drop, map}
use Rattle.std.proofs.Common.{Option, Some, None, All, refl, sym, ap, subst, ◌∙◌, arith}
use Rattle.std.specs.Prelude.{IsSomeAnd}
use Rattle.std.specs.Int.{w16, from_be_bytes, to_be_bytes}
use Rattle.std.proofs.lemmas.Nat.{from_be_bytes-to_be_bytes_2}
use Rattle.std.proofs.lemmas.List.Elements.{All-head, All-tail}
use Rattle.configurations.specs.{IsId}
use Rattle.disk.specs.{Contents}
use Rattle.record_log.specs.{RecordsAreUnique}
use Rattle.version_edits.specs.{StoreVersion, NodeVersion, Change, empty, after_all}
use Rattle.version_edits.specs.{IsChangeIn, ChangesDiffer, change_text_in}
use Rattle.version_edits.specs.{HistoriesAreLawful, IsVersion}
use Rattle.byte_fields.specs.declared.format.Format.{Format}
use Rattle.byte_fields.specs.declared.format.Format.TheVariants as formats
use Rattle.manifest.specs.Slots.{HasHeadIn, IsSlotIn, ManifestRepresentsIn, SlotsRepresentIn}
use Rattle.manifest.specs.Slots.{log_start, slot_head}
use Rattle.manifest.specs.Laws.{FormatOneIsOld, FormatsAreApart, VersionIsOne, VersionsAreLawful}
use Rattle.manifest.specs.Laws.{VersionsAreLawfulIn}
use Rattle.manifest.proofs.Counting.{counting_by, counts_in, one_counts, represent_counts}
use Rattle.manifest.proofs.Slots.{some_as}
use Rattle.manifest.specs.Slots.{HasOldHead}

-- ---- heads

pub same_id : (g h id other : ℕ) → id ≤ 65535 → other ≤ 65535
    → slot_head g id ≡ slot_head h other → id ≡ other
same_id g h id other is are same =
    let e : from_be_bytes w16 (to_be_bytes w16 id) ≡ from_be_bytes w16 (to_be_bytes w16 other) =
    ap (λ (l : List ℕ). from_be_bytes w16 (drop 11 l)) same in
    sym (from_be_bytes-to_be_bytes_2 id (omega (arith, is))) ∙ e
    ∙ from_be_bytes-to_be_bytes_2 other (omega (arith, are))

-- a head of a format has one id
pub same_head : (format : Format) (g h id other : ℕ) (bytes : List ℕ)
    → id ≤ 65535 → other ≤ 65535
    → HasHeadIn format g id bytes → HasHeadIn format h other bytes → id ≡ other
same_head formats.One g h id other bytes is are a b =
    let e : from_be_bytes w16 (to_be_bytes w16 id) ≡ from_be_bytes w16 (to_be_bytes w16 other) =
    ap (λ (l : List ℕ). from_be_bytes w16 (drop 9 l)) (sym a.1 ∙ b.1) in
    sym (from_be_bytes-to_be_bytes_2 id (omega (arith, is))) ∙ e
    ∙ from_be_bytes-to_be_bytes_2 other (omega (arith, are))
same_head formats.Two g h id other bytes is are a b = same_id g h id other is are (sym a ∙ b)

-- one open slot has one head and one list
same_slot : RecordsAreUnique → (format : Format) (file : Option (List ℕ)) (g h id other : ℕ)
    (records others : List (List ℕ))
    → IsId id → IsId other → IsSomeAnd file (IsSlotIn format g id records)
    → IsSomeAnd file (IsSlotIn format h other others) → (id ≡ other) × (records ≡ others)
same_slot unique format None g h id other records others is are a b = absurd a
same_slot unique format (Some bytes) g h id other records others is are a b = (
  same_head format g h id other bytes is.1 are.1 a.head b.head,
  unique (drop (log_start format) bytes) records others a.log b.log,
)

pub one_records : RecordsAreUnique
    → (format : Format) (id other : ℕ) (records others : List (List ℕ)) (left : Contents)
    → IsId id → IsId other → SlotsRepresentIn format id records left
    → SlotsRepresentIn format other others left → (id ≡ other) × (records ≡ others)
one_records unique format id other records others left is are a b =
    let one = represent_counts format id records left a in
    let two = represent_counts format other others left b in
    let same : a.slot ≡ b.slot = one_counts left
    (counting_by format a.slot a.generation id one.0)
    (counting_by format b.slot b.generation other two.0) one.1 two.1 in
    same_slot unique format (left b.slot) a.generation b.generation id other records others is are
    (subst (λ (f : ℕ). IsSomeAnd (left f) (IsSlotIn format a.generation id records)) same
    a.counting)
    b.counting

-- ---- edits

pub one_list_of : ChangesDiffer → (format : Format) (cs ds : List Change)
    → All (IsChangeIn format) cs → All (IsChangeIn format) ds
    → map (change_text_in format) cs ≡ map (change_text_in format) ds → cs ≡ ds
one_list_of differ format [] [] each all same = refl
one_list_of differ format [] (d ∷ ds) each all same = absurd cc
one_list_of differ format (c ∷ cs) [] each all same = absurd cc
one_list_of differ format (c ∷ cs) (d ∷ ds) each all same =
    let text : change_text_in format c ≡ change_text_in format d = cc same in
    let texts : map (change_text_in format) cs ≡ map (change_text_in format) ds = cc same in
    let first : c ≡ d =
    differ format c d (All-head (IsChangeIn format) c cs each)
    (All-head (IsChangeIn format) d ds all) text in
    let others : cs ≡ ds =
    one_list_of differ format cs ds (All-tail (IsChangeIn format) c cs each)
    (All-tail (IsChangeIn format) d ds all) texts in
    cc (first, others)

one_version_in : ChangesDiffer → RecordsAreUnique → (format : Format) (a b : NodeVersion)
    (left : Contents) → ManifestRepresentsIn format a left → ManifestRepresentsIn format b left
    → a ≡ b
one_version_in differ unique format a b left h k =
    let same = one_records unique format a.id b.id (map (change_text_in format) h.changes)
    (map (change_text_in format) k.changes) left
    h.id k.id h.records k.records in
    let changes : h.changes ≡ k.changes =
    one_list_of differ format h.changes k.changes h.each k.each same.1 in
    let version : a.version ≡ b.version = h.is ∙ ap (after_all empty) changes ∙ sym k.is in
    let first : a ≡ record { id = b.id; version = a.version } =
    ap (λ (i : ℕ). named i a.version) same.0 in
    first ∙ ap (λ (v : StoreVersion). named b.id v) version
  where
    named : ℕ → StoreVersion → NodeVersion
    named i v = record { id = i; version = v }

pub one_version : ChangesDiffer → RecordsAreUnique → VersionIsOne
one_version differ unique a b left h k = one_version_in differ unique formats.Two a b left h k

-- in one format
pub formats_apart : ChangesDiffer → RecordsAreUnique → FormatsAreApart
formats_apart differ unique format other a b left h k =
    let new = represent_counts format a.id (map (change_text_in format) h.changes) left h.records in
    let same : other ≡ format =
    counts_in (counting_by format h.records.slot h.records.generation a.id new.0) left new.1 other
    b.id (map (change_text_in other) k.changes) k.records in (
      sym same,
      one_version_in differ unique format a b left h
          (subst (λ (f : Format). ManifestRepresentsIn f b left) same k),
    )

-- and format 1 is the old one
pub format_1_is_old : FormatOneIsOld
format_1_is_old named left h = record {
  slot = h.records.slot;
  one = h.records.one;
  generation = h.records.generation;
  limit = h.records.limit;
  id = named.id;
  counting = some_as (left h.records.slot)
      (IsSlotIn formats.One h.records.generation named.id
      (map (change_text_in formats.One) h.changes))
      (HasOldHead h.records.generation named.id) (λ bytes slot. slot.head) h.records.counting;
  other = h.records.other;
}

pub each_is_lawful : HistoriesAreLawful → VersionsAreLawfulIn
each_is_lawful lawful format named left h =
    subst IsVersion (sym h.is)
    (lawful format h.changes (record { some = h.some; each = h.each; fit = h.fit }))

pub versions_are_lawful : HistoriesAreLawful → VersionsAreLawful
versions_are_lawful lawful named left h = each_is_lawful lawful formats.Two named left h
