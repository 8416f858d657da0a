-- Where a cursor over a map stands.
use Rattle.std.specs.Prelude.{◌≡◌, ◌<◌, length, slice_get, Option, Some, None, Bool, true}
use Rattle.std.specs.Prelude.{false}
use Rattle.std.specs.BTreeMap.{get}
use Rattle.byte_fields.specs.{StoredKey, stored_cmp}
use Rattle.merge_iter.specs.{Position, On, Off, Broken}
use Rattle.memtable.specs.declared.version.Version.{Version}
use Rattle.memtable.specs.declared.place.VersionPlace.{VersionPlace}
use Rattle.memtable.specs.Versions.{all_of}
use Rattle.memtable.specs.Maps.{VersionMap, version_entry}

-- the place is one of the map's
pub record IsVersionPlace (map : VersionMap) (place : VersionPlace) : Type 0 where
  pub found : get stored_cmp map place.key.now ≡ Some place.versions.now
  pub within : place.at < length (all_of place.versions.now)

-- on a version of the key
abbrev pub position_on : StoredKey → Option Version → Position
position_on key None = Off
position_on key (Some version) = On (version_entry key version)

-- on the version at the place
abbrev pub place_position : VersionPlace → Position
place_position place = position_on place.key.now (slice_get (all_of place.versions.now) place.at)

-- at a place, if there is one
abbrev pub maybe_position : Option VersionPlace → Position
maybe_position None = Off
maybe_position (Some place) = place_position place

-- on none where a refusal came before
abbrev pub cursor_position : Bool → Option VersionPlace → Position
cursor_position has_failed (Some place) = place_position place
cursor_position true None = Broken
cursor_position false None = Off
