-- The version of an open manifest outlasts a crash, and calls on other files.
use Rattle.std.proofs.Common.{◌≡◌, ℕ, List, ◌∙◌, map, subst, sym}
use Rattle.disk.specs.{State}
use Rattle.record_log.specs.{LogHolds, file_of}
use Rattle.manifest.specs.declared.slot_pair.SlotPair.{SlotPair}
use Rattle.version_edits.specs.{change_text}
use Rattle.byte_fields.specs.declared.format.Format.TheVariants as formats
use Rattle.manifest.specs.Holds.{SlotsHold}
use Rattle.manifest.specs.Laws.{HeldVersionIsLeft, HeldVersionStays}
use Rattle.manifest.specs.Slots.{IsSlotFile, other_slot}
use Rattle.manifest.proofs.Records.{has_old, other_one}

module _ (disk : State) (slots : SlotPair) (id : ℕ) (records : List (List ℕ))
    (h : SlotsHold disk slots id records) where
  pub slots_stay : (other : State) → ((slot : ℕ) → IsSlotFile slot → other slot ≡ disk slot)
      → SlotsHold other slots id records
  slots_stay other same =
      let file : other (file_of slots.log) ≡ disk (file_of slots.log) =
      same (file_of slots.log) (subst IsSlotFile (sym h.at.in_file) h.one) in
      let log : LogHolds other slots.log records = record {
        bytes = h.log.bytes;
        sure = file ∙ h.log.sure;
        start = h.log.start;
        fits = h.log.fits;
        stands = h.log.stands;
        ends = h.log.ends;
        end = h.log.end;
      } in
      record {
        one = h.one;
        is_id = h.is_id;
        limit = h.limit;
        at = h.at;
        log = log;
        head = h.head;
        other_bytes = h.other_bytes;
        other_sure = same (other_slot slots.slot) (other_one slots.slot h.one) ∙ h.other_sure;
        other = h.other;
        gate = h.gate;
      }

pub version_is_left : HeldVersionIsLeft
version_is_left disk manifest named left h outcomes = record {
  id = h.id;
  changes = h.changes;
  some = h.some;
  each = h.each;
  fit = h.fit;
  is = h.is;
  records = has_old formats.Two disk manifest.slots named.id
      (map change_text h.changes) h.records left outcomes;
}

pub version_stays : HeldVersionStays
version_stays disk other manifest named h same = record {
  works = h.works;
  knows = h.knows;
  id = h.id;
  changes = h.changes;
  some = h.some;
  each = h.each;
  fit = h.fit;
  is = h.is;
  records = slots_stay disk manifest.slots named.id
      (map change_text h.changes) h.records other same;
}
