-- Marks of places: a list of places is searched only where a mark says that the one looked for may stand there.
use Rattle.std.specs.Prelude.{◌≡◌, ◌%◌, ℕ, Bool, true, false, List, length, get_or}
use Rattle.std.specs.List.{AllByRecursion}

-- a place has the mark that its remainder names
abbrev pub is_place_marked : List Bool → ℕ → Bool
is_place_marked marks place = get_or marks (place % length marks) false

-- each of some places has its mark; others may have it too
abbrev pub AreMarked : List Bool → List ℕ → Type 0
AreMarked marks places = AllByRecursion (λ p. is_place_marked marks p ≡ true) places
