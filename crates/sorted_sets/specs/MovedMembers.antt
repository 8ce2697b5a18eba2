-- The effect of a change: the members that a command names and whose scores it changes, and what each has afterwards. A record
-- of the effect says what became of a set, whatever was asked for.
use Rattle.std.specs.Prelude.{ℕ, ℤ, Bool, true, false, not, List, [], ◌∷◌, map, Option, None, Some}
use Rattle.std.specs.List.{filter}
use Rattle.std.specs.Ordering.{int_eq}
use Rattle.std.specs.Str.{bytes_eq}
use Rattle.std.specs.FinMap as fin
use Rattle.zset_core.specs.SortedSet.{Members}
use Rattle.sorted_sets.specs.SetAndOwnerViews.{SetView, Next}
use Rattle.zset_commands.specs.AbstractCommand.{Meaning}
use Rattle.zset_commands.specs.RequestLimits.{names_in}

-- two scores are the same; None is that of no member
abbrev pub same_score : Option ℤ → Option ℤ → Bool
same_score None None = true
same_score None (Some b) = false
same_score (Some a) None = false
same_score (Some a) (Some b) = int_eq a b

-- a member has another score in the new set than in the old one, or is in one of them alone
abbrev pub differs : Members → Members → List ℕ → Bool
differs old new name = not (same_score (fin.get old name) (fin.get new name))

-- each name once, where it first stands
abbrev pub once : List (List ℕ) → List (List ℕ)
once [] = []
once (name ∷ names) = name ∷ filter (λ other. not (bytes_eq other name)) (once names)

-- those of some names that differ, each once
abbrev pub moved_names : Members → Members → List (List ℕ) → List (List ℕ)
moved_names old new names = once (filter (differs old new) names)

-- each member that a command names and that differs once it is made, in the order in which the command first names them, with
-- the score that it has then, None where it is gone
abbrev pub effect : Members → Members → Meaning → List (List ℕ × Option ℤ)
effect old new meaning = map (λ name. (name, fin.get new name)) (moved_names old new (names_in meaning))

-- the effect of what a set has prepared; where nothing is prepared there is none
abbrev pub effect_of_next : Members → Option Next → List (List ℕ × Option ℤ)
effect_of_next members None = []
effect_of_next members (Some next) = effect members next.members next.meaning

abbrev pub prepared_effect : SetView → List (List ℕ × Option ℤ)
prepared_effect set = effect_of_next set.members set.next
