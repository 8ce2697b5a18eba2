-- Pairs of the program: scores with the bytes of members that stand elsewhere.
use Rattle.std.specs.Prelude.{ℕ, ℤ, List, map}
use Rattle.std.specs.Borrow.{Bor}
use Rattle.std.specs.declared.cmp.Ordering.{Ordering}
use Rattle.zset_core.specs.SortedSet.{Pair, pair_cmp}
use Rattle.sorted_sets.specs.MembersWithStagedScores.{Entry, current_score}

-- a score, and a member's bytes
abbrev pub Shown : Type 0
Shown = ℤ × Bor (List ℕ)

abbrev pub pair_of : Shown → Pair
pair_of p = (p.0, p.1.now)

abbrev pub pairs_of : List Shown → List Pair
pairs_of ps = map pair_of ps

-- their order in a listing
abbrev pub shown_cmp : Shown → Shown → Ordering
shown_cmp a b = pair_cmp (pair_of a) (pair_of b)

-- the pairs of entries, in the entries' order
abbrev pub entry_pairs : List Entry → List Pair
entry_pairs entries = map (λ (e : Entry). (current_score e.1, e.0)) entries
