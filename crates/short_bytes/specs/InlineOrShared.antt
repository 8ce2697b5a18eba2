-- The bytes of a byte string, and where they stand.
use Rattle.std.specs.Prelude.{ℕ, List, ◌<◌, length}
use Rattle.std.specs.Arc.{arc_value}
use Rattle.short_bytes.specs.declared.short_bytes.Place.{Place}
use Rattle.short_bytes.specs.declared.short_bytes.Place.TheVariants.{Here, Away}

abbrev pub bytes_in : {A : Type 0} → Place A → List ℕ
bytes_in (Here bytes) = bytes
bytes_in (Away block) = (arc_value block).items

-- only bytes that are too many for their place stand elsewhere
abbrev pub IsPlaced : {A : Type 0} → Place A → Type 0
IsPlaced (Here bytes) = Unit
IsPlaced (Away block) = 22 < length (arc_value block).items
