-- Cuts of a column, and the pivots that they become (Database Cracking, Idreos, Kersten and Manegold, CIDR 2007).
use Rattle.std.specs.Prelude.{◌≡◌, ◌+◌, ◌<◌, ◌≤◌, ◌<ℤ◌, ◌≤ℤ◌, ◌⊎◌, ℕ, ℤ, Bool, true, false, int_lt, List, [], ◌∷◌, ◌++◌, length, map, Any, Contains, if◌then◌else◌}
use Rattle.std.specs.List.{list_any}
use Rattle.std.specs.Ordering.{int_eq}
use Rattle.score_bounds.specs.declared.ranges_and_cuts.Cut.{Cut}
use Rattle.score_bounds.specs.declared.ranges_and_cuts.Cut.TheVariants.{Start, At, End}

-- a cut lies below another: Start is the lowest, End the highest, and numbers lie between them in their order
abbrev pub is_before : Cut → Cut → Bool
is_before Start Start = false
is_before Start (At w) = true
is_before Start End = true
is_before (At v) Start = false
is_before (At v) (At w) = int_lt v w
is_before (At v) End = true
is_before End Start = false
is_before End (At w) = false
is_before End End = false

-- the values of pivots
abbrev pub values : List (ℤ × ℕ) → List ℤ
values ps = map (λ p. p.0) ps

-- the value that a cut has, if it is one at a number
abbrev pub cut_values : Cut → List ℤ
cut_values Start = []
cut_values (At v) = v ∷ []
cut_values End = []

-- the value that a cut adds to those of the pivots: none for the two ends, and none where it is a pivot's already
abbrev pub new_values : Cut → List ℤ → List ℤ
new_values Start vs = []
new_values (At v) vs = if list_any (λ u. int_eq u v) vs then [] else v ∷ []
new_values End vs = []

-- how many pivots there are with two cuts
abbrev pub count_with_cuts : Cut → Cut → List (ℤ × ℕ) → ℕ
count_with_cuts first second ps = length ps + length (new_values first (values ps)) + length (new_values second (values ps))

-- the values with those that two cuts add
abbrev pub values_with_cuts : Cut → Cut → List ℤ → List ℤ
values_with_cuts first second vs = new_values second vs ++ (new_values first vs ++ vs)

-- the place of a cut among the rows: that of its pivot, or an end of the column
abbrev pub StandsAt : Cut → List (ℤ × ℕ) → ℕ → ℕ → Type 0
StandsAt Start ps rows_len place = place ≡ 0
StandsAt (At v) ps rows_len place = Contains ps (v, place)
StandsAt End ps rows_len place = place ≡ rows_len

-- the place k lies outside the piece of the value v: a pivot stands between them
abbrev pub IsApart : ℤ → List (ℤ × ℕ) → ℕ → Type 0
IsApart v ps k = Any (λ p. ((p.0 ≤ℤ v) × (k < p.1)) ⊎ ((v <ℤ p.0) × (p.1 ≤ k))) ps

-- the place k lies outside the piece that a cut cracks; a cut at an end or at a pivot cracks none
abbrev pub IsUncracked : Cut → List (ℤ × ℕ) → ℕ → Type 0
IsUncracked Start ps k = Unit {0}
IsUncracked (At v) ps k = (list_any (λ u. int_eq u v) (values ps) ≡ true) ⊎ IsApart v ps k
IsUncracked End ps k = Unit {0}
