-- A walk over the keys of a world, each next one by the one before it.
use Rattle.std.proofs.Common.{◌≡◌, ℕ, ◌<◌, Bool, true, false, cond, ◌&&◌, ◌||◌, List, [], ◌∷◌, ◌++◌, length, drop, map, Option, None, Some, IsSome, refl, sym, ap, subst, ◌∙◌, arith}
use Rattle.std.specs.Prelude.{slice_get, T}
use Rattle.std.specs.List.{AllByRecursion, list_any, find}
use Rattle.std.specs.List.Sorted.{IsStrictlySortedBy}
use Rattle.std.specs.Ordering.{eq_by_cmp, is_eq, is_lt, ordering_reverse}
use Rattle.std.specs.declared.cmp.Ordering.{Ordering}
use Rattle.std.specs.declared.cmp.Ordering.TheVariants.{Less, Equal, Greater}
use Rattle.std.specs.Cmp.{eq_by_cmp_equiv}
use Rattle.std.specs.FinMap as fin
use Rattle.std.specs.FinMap.{is_sorted}
use Rattle.std.specs.FinMap.Entries.{below_all}
use Rattle.zset_core.specs.SortedSet.{Members, bytes_cmp}
use Rattle.zset_core.specs.SetsByKey.{World, key_behind}
use Rattle.sorted_sets.proofs.CallerLemmas.{total}
use Rattle.log_records.proofs.WholeListing.{later}

-- the names from one on
abbrev pub from_name : List (List ℕ) → List ℕ → List (List ℕ)
from_name [] key = []
from_name (name ∷ names) key = cond (eq_by_cmp bytes_cmp name key) (name ∷ names) (from_name names key)

-- the names that a walk has before it, by the next one
abbrev pub left_from : List (List ℕ) → Option (List ℕ) → List (List ℕ)
left_from names None = []
left_from names (Some key) = from_name names key

abbrev NamesRise : List (List ℕ) → Type 0
NamesRise names = IsStrictlySortedBy bytes_cmp names

first : (a b : Bool) → T (a && b) → T a
first true b h = tt
first false b h = h

second : (a b : Bool) → T (a && b) → T b
second true b h = h
second false b h = absurd h

less : (o : Ordering) → T (is_lt o) → o ≡ Less
less Less h = refl
less Equal h = absurd h
less Greater h = absurd h

keys_below : (k : List ℕ) (es : List (List ℕ × Members)) → T (below_all bytes_cmp k es) → AllByRecursion (λ y. bytes_cmp k y ≡ Less) (map (λ e. e.0) es)
keys_below k [] h = tt
keys_below k (e ∷ es) h = (less (bytes_cmp k e.0) (first (is_lt (bytes_cmp k e.0)) (below_all bytes_cmp k es) h), keys_below k es (second (is_lt (bytes_cmp k e.0)) (below_all bytes_cmp k es) h))

entries_rise : (es : List (List ℕ × Members)) → T (is_sorted bytes_cmp es) → NamesRise (map (λ e. e.0) es)
unfolding IsStrictlySortedBy
entries_rise [] h = tt
entries_rise (e ∷ es) h = (keys_below e.0 es (first (below_all bytes_cmp e.0 es) (is_sorted bytes_cmp es) h), entries_rise es (second (below_all bytes_cmp e.0 es) (is_sorted bytes_cmp es) h))

keys_rise : (world : World) → NamesRise (fin.keys world)
keys_rise world = entries_rise (fin.entries world) (fin.entries_sorted world)

inner : (P : List ℕ → Type 0) (done : List (List ℕ)) (key : List ℕ) (rest : List (List ℕ)) → AllByRecursion P (done ++ key ∷ rest) → P key
inner P [] key rest each = each.0
inner P (d ∷ done) key rest each = inner P done key rest each.1

not_behind : (d key : List ℕ) → bytes_cmp d key ≡ Less → is_lt (bytes_cmp key d) ≡ false
not_behind d key below = ap is_lt (total.antisymm key d ∙ ap ordering_reverse below)

not_itself : (key : List ℕ) → is_lt (bytes_cmp key key) ≡ false
not_itself key = by (bytes_cmp key key) ((eq_by_cmp_equiv total).refl key)
  where
    by : (o : Ordering) → is_eq o ≡ true → is_lt o ≡ false
    by Less h = let no : false ≡ true = h in cc
    by Equal h = refl
    by Greater h = refl

-- the first of the names behind one
first_of : (key : List ℕ) (rest : List (List ℕ)) → AllByRecursion (λ y. bytes_cmp key y ≡ Less) rest → find (λ name. is_lt (bytes_cmp key name)) rest ≡ slice_get rest 0
first_of key [] each = refl
first_of key (r ∷ rest) each = ap (λ o. cond (is_lt o) (Some r) (find (λ name. is_lt (bytes_cmp key name)) rest)) each.0

behind_in : (done : List (List ℕ)) (key : List ℕ) (rest : List (List ℕ)) → NamesRise (done ++ key ∷ rest) → find (λ name. is_lt (bytes_cmp key name)) (done ++ key ∷ rest) ≡ slice_get rest 0
unfolding IsStrictlySortedBy
behind_in [] key rest rises = ap (λ b. cond b (Some key) (find (λ name. is_lt (bytes_cmp key name)) rest)) (not_itself key) ∙ first_of key rest rises.0
behind_in (d ∷ done) key rest rises =
    ap (λ b. cond b (Some d) (find (λ name. is_lt (bytes_cmp key name)) (done ++ key ∷ rest))) (not_behind d key (inner (λ y. bytes_cmp d y ≡ Less) done key rest rises.0)) ∙ behind_in done key rest rises.1

left_in : (done : List (List ℕ)) (key : List ℕ) (rest : List (List ℕ)) → NamesRise (done ++ key ∷ rest) → from_name (done ++ key ∷ rest) key ≡ key ∷ rest
unfolding IsStrictlySortedBy
left_in [] key rest rises = ap (λ b. cond b (key ∷ rest) (from_name rest key)) ((eq_by_cmp_equiv total).refl key)
left_in (d ∷ done) key rest rises =
    ap (λ o. cond (is_eq o) (d ∷ (done ++ key ∷ rest)) (from_name (done ++ key ∷ rest) key)) (inner (λ y. bytes_cmp d y ≡ Less) done key rest rises.0) ∙ left_in done key rest rises.1

module _ (world : World) where
  pub next_key : (done : List (List ℕ)) (key : List ℕ) (rest : List (List ℕ)) → fin.keys world ≡ done ++ key ∷ rest → key_behind (fin.keys world) (Some key) ≡ slice_get rest 0
  next_key done key rest cut =
      ap (λ (l : List (List ℕ)). key_behind l (Some key)) cut ∙ behind_in done key rest (subst NamesRise cut (keys_rise world))

  pub left_is : (done rest : List (List ℕ)) → fin.keys world ≡ done ++ rest → left_from (fin.keys world) (slice_get rest 0) ≡ rest
  left_is done [] cut = refl
  left_is done (key ∷ rest) cut = ap (λ (l : List (List ℕ)). from_name l key) cut ∙ left_in done key rest (subst NamesRise cut (keys_rise world))

  pub there_is : (done : List (List ℕ)) (key : List ℕ) (rest : List (List ℕ)) → fin.keys world ≡ done ++ key ∷ rest → IsSome (fin.get world key)
  there_is done key rest cut = fin.contains_key-keys world key ∙ ap (list_any (eq_by_cmp bytes_cmp key)) cut ∙ found done
    where
      found : (done : List (List ℕ)) → list_any (eq_by_cmp bytes_cmp key) (done ++ key ∷ rest) ≡ true
      found [] = ap (λ b. b || list_any (eq_by_cmp bytes_cmp key) rest) ((eq_by_cmp_equiv total).refl key)
      found (d ∷ done) = later (eq_by_cmp bytes_cmp key d) (found done)

-- the first of the names that are left
pub headed : (rest : List (List ℕ)) (key : List ℕ) → Some key ≡ slice_get rest 0 → rest ≡ key ∷ drop 1 rest
headed [] key h = let no : Some key ≡ None = h in cc
headed (r ∷ rest) key h = let same : key ≡ r = cc in ap (λ (k : List ℕ). k ∷ rest) (sym same)

pub ended : (rest : List (List ℕ)) → None ≡ slice_get rest 0 → rest ≡ []
ended [] h = refl
ended (r ∷ rest) h = let no : None ≡ Some r = h in cc

pub shorter : (rest : List (List ℕ)) (key : List ℕ) → rest ≡ key ∷ drop 1 rest → length (drop 1 rest) < length rest
shorter [] key h = let no : [] ≡ key ∷ [] = h in cc
shorter (r ∷ rest) key h = omega arith
