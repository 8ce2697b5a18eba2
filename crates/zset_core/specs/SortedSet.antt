-- Sorted sets: finite maps from members to scores, and the listing of a range of scores.
use Rattle.std.specs.Prelude.{◌≡◌, ◌<ℤ◌, ◌⊎◌, ℕ, Bool, true, ℤ, List, map}
use Rattle.std.specs.declared.cmp.Ordering.{Ordering}
use Rattle.std.specs.declared.cmp.Ordering.TheVariants.{Less}
use Rattle.std.specs.List.{filter}
use Rattle.std.specs.Ordering.{nat_cmp, int_cmp, ordering_then}
use Rattle.std.specs.Cmp.Lexicographic.{slice_cmp}
use Rattle.std.specs.FinMap.{FinMap, entries}
use Rattle.std.specs.FinMap as fin

-- the order of byte strings: by the first byte in which they differ, a prefix before what goes on
abbrev pub bytes_cmp : List ℕ → List ℕ → Ordering
bytes_cmp = slice_cmp nat_cmp

-- a sorted set: each member, a byte string, with its score
abbrev pub Members : Type 0
Members = FinMap bytes_cmp ℤ

-- a score with its member
abbrev pub Pair : Type 0
Pair = ℤ × List ℕ

-- the order of a listing: by score, equal scores by the bytes of their members (Redis command page of ZRANGEBYSCORE)
abbrev pub pair_cmp : Pair → Pair → Ordering
pair_cmp a b = ordering_then (int_cmp a.0 b.0) (bytes_cmp a.1 b.1)

-- the pairs of a set
unfoldable pub pairs : Members → List Pair
pairs members = map (λ entry. (entry.1, entry.0)) (entries members)

-- the members of pairs
abbrev pub names_of : List Pair → List (List ℕ)
names_of ps = map (λ p. p.1) ps

-- pairs as the keys of a finite map
abbrev pub marks : List Pair → List (Pair × Unit {0})
marks ps = map (λ p. (p, tt)) ps

-- the pairs whose score passes a test, once each, in the order of a listing: the keys of the finite map that has them as its keys
unfoldable pub listing : (ℤ → Bool) → Members → List Pair
listing test members = fin.keys (fin.from_entries {R = pair_cmp} (marks (filter (λ p. test p.0) (pairs members))))

-- a pair stands before another: its score is lower, or it is the same and the member's bytes are
abbrev pub IsListedBefore : Pair → Pair → Type 0
IsListedBefore a b = (a.0 <ℤ b.0) ⊎ ((a.0 ≡ b.0) × (bytes_cmp a.1 b.1 ≡ Less))

-- the listing of all scores
abbrev pub whole : Members → List Pair
whole members = listing (λ _. true) members
