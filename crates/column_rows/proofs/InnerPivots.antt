-- Pivots that are among others, and those that are shown.
use Rattle.std.proofs.Common.{◌≡◌, ◌==◌, ◌&&◌, ◌<◌, ◌≤◌, ◌+◌, ℕ, zero, suc, ℤ, Bool, true, false, Any, List, ◌∷◌, length, get_or, set, inl, inr, sym, ◌∙◌, subst, ap, refl, arith, Contains, IsPermutation}
use Rattle.std.specs.List.{list_any}
use Rattle.std.specs.Ordering.{int_eq}
use Rattle.std.proofs.lemmas.Bool.{cases_lt, cases_Bool, false≢true}
use Rattle.std.proofs.lemmas.Bool.Decides.{Decides-eqb, Decides-int_eq}
use Rattle.std.proofs.lemmas.List.Folds.{Any-from_list_any, list_any_at}
use Rattle.std.proofs.lemmas.Map.Views.{Contains-from_any}
use Rattle.std.proofs.lemmas.List.{get_or-map, get_or_default, get_or-set_same, get_or-set_other, length-map}
use Rattle.std.proofs.lemmas.List.Sorted.{Contains-permutation, IsPermutation-sym}
use Rattle.crack_kernel.specs.PartedRows.{IsBelow, IsFrom, IsParted}
use Rattle.crack_kernel.specs.PivotList.{IsNewValue, IsRising, ObeysPivots}
use Rattle.score_bounds.specs.declared.ranges_and_cuts.Cut.{Cut}
use Rattle.score_bounds.specs.declared.ranges_and_cuts.Cut.TheVariants.{Start, At, End}
use Rattle.score_bounds.specs.declared.ranges_and_cuts.Range.{Range}
use Rattle.column_rows.specs.RangeAnswer.{IsAnswer, IsSettled, low_cut, high_cut}
use Rattle.column_rows.specs.Content.{ColumnState}
use Rattle.column_rows.specs.RangeCutsAsPivots.{is_before, values, new_values, StandsAt}
use Rattle.column_rows.proofs.Values.{list_any-pivot}
use Rattle.column_rows.proofs.Selection.{Contains-one_place}
use Rattle.column_rows.specs.ShownPivots.{AreFound, HasCut, IsAmong, same_pivot, shown_of}

both_true : (a b : Bool) → (a && b) ≡ true → (a ≡ true) × (b ≡ true)
both_true true b is = (refl, is)
both_true false b is = absurd (false≢true is)

same_pivot-is : (p q : ℤ × ℕ) → same_pivot p q ≡ true → p ≡ q
same_pivot-is p q same =
    let both = both_true (int_eq p.0 q.0) (p.1 == q.1) same in
    let value : p.0 ≡ q.0 = (Decides-int_eq p.0 q.0).0 both.0 in
    let place : p.1 ≡ q.1 = (Decides-eqb p.1 q.1).0 both.1 in
    ap (λ (v : ℤ). (v, p.1)) value ∙ ap (λ (k : ℕ). (q.0, k)) place

is-same_pivot : (p q : ℤ × ℕ) → p ≡ q → same_pivot p q ≡ true
is-same_pivot p q same =
    let value : int_eq p.0 q.0 ≡ true = (Decides-int_eq p.0 q.0).1 (ap (λ (r : ℤ × ℕ). r.0) same) in
    let place : (p.1 == q.1) ≡ true = (Decides-eqb p.1 q.1).1 (ap (λ (r : ℤ × ℕ). r.1) same) in
    ap (λ (b : Bool). b && (p.1 == q.1)) value ∙ place

-- pivots that are found among others are among them
pub among_found : (ps qs : List (ℤ × ℕ)) → AreFound ps qs → IsAmong ps qs
among_found ps qs found p there = Contains-from_any {eq = same_pivot} same_pivot-is p qs (found p there)

-- and the converse
pub found_among : (ps qs : List (ℤ × ℕ)) → IsAmong ps qs → AreFound ps qs
found_among ps qs among p there =
    let at : Contains qs p = among p there in
    list_any_at (same_pivot p) qs at.0 p at.1 (is-same_pivot p (get_or qs at.0 p) (sym at.2))

-- a pivot's value is among the values
pub value_among : (ps : List (ℤ × ℕ)) (p : ℤ × ℕ) → Contains ps p → Contains (values ps) p.0
value_among ps p (k, within, is) =
    (k, omega (arith, length-map ps (λ (q : ℤ × ℕ). q.0)), get_or-map (λ (q : ℤ × ℕ). q.0) ps k p p.0 within ∙ ap (λ (q : ℤ × ℕ). q.0) is)

-- and each value is a pivot's
pub among_value : (ps : List (ℤ × ℕ)) (v : ℤ) → Contains (values ps) v → (place : ℕ) × Contains ps (v, place)
among_value ps v (k, within, is) =
    let in' : k < length ps = omega (arith, length-map ps (λ (q : ℤ × ℕ). q.0)) in
    let q : ℤ × ℕ = get_or ps k (v, 0) in
    let value : q.0 ≡ v = sym (get_or-map (λ (q : ℤ × ℕ). q.0) ps k (v, 0) v in') ∙ is in
    (q.1, subst (λ (w : ℤ). Contains ps (w, q.1)) value (k, in', get_or_default ps k q (v, 0) in'))

-- the values of pivots that are among others are among the others' values
pub values_among : (ps qs : List (ℤ × ℕ)) → IsAmong ps qs → (v : ℤ) → Contains (values ps) v → Contains (values qs) v
values_among ps qs among v there =
    let found = among_value ps v there in
    value_among qs (v, found.0) (among (v, found.0) found.1)

-- no new value is there
pub none_new : (ps : List (ℤ × ℕ)) (u v : ℤ) → u ≡ v → IsNewValue u ps → Contains (values ps) v → ⊥
none_new ps u v same new there =
    let found = among_value ps v there in
    let k : ℕ = found.1.0 in
    new k (v, found.0) found.1.1 (ap (λ (q : ℤ × ℕ). q.0) found.1.2 ∙ sym same)

-- the law goes over to pivots that are among others
pub ObeysPivots-among : (ps qs : List (ℤ × ℕ)) (rows : List (ℤ × List ℕ)) → IsAmong ps qs → ObeysPivots qs rows → IsRising ps → length ps ≤ 4096 → ObeysPivots ps rows
ObeysPivots-among ps qs rows among law rising few = record {
  parted = λ k d h.
      let p : ℤ × ℕ = get_or ps k d in
      let there : Contains qs p = among p (k, h, get_or_default ps k p d h) in
      subst (λ (q : ℤ × ℕ). IsParted (IsBelow q.0) (IsFrom q.0) rows q.1) there.2 (law.parted there.0 p there.1);
  rising = rising;
  few = few;
}

-- one more pivot has its place among others
pub among_more : (ps qs rs : List (ℤ × ℕ)) (i place : ℕ) (v : ℤ) → i < length ps → qs ≡ set ps i (v, place)
    → ((k : ℕ) (d : ℤ × ℕ) → k < i → Contains rs (get_or ps k d)) → Contains rs (v, place)
    → (k : ℕ) (d : ℤ × ℕ) → k < i + 1 → Contains rs (get_or qs k d)
among_more ps qs rs i place v within is before here k d h =
    elim (cases_lt k i) [
      | inl low ↦ rw (is, get_or-set_other ps i k (v, place) d (λ e. absurd (omega arith))) (before k d low)
      | inr from ↦ let same : k ≡ i = omega arith in rw (is, same, get_or-set_same ps i (v, place) d within) here
    ]

-- a cut adds at most one value
pub new_values_one : (cut : Cut) (vs : List ℤ) → length (new_values cut vs) ≤ 1
new_values_one Start vs = omega arith
new_values_one End vs = omega arith
new_values_one (At v) vs = elim (cases_Bool (list_any (λ u. int_eq u v) vs)) [ inl t ↦ rw t (omega arith) | inr f ↦ rw f (omega arith) ]

-- and no more than it adds to fewer values
pub new_values_less : (cut : Cut) (ps qs : List (ℤ × ℕ)) → ((v : ℤ) → Contains (values ps) v → Contains (values qs) v)
    → length (new_values cut (values qs)) ≤ length (new_values cut (values ps))
new_values_less Start ps qs kept = omega arith
new_values_less End ps qs kept = omega arith
new_values_less (At v) ps qs kept =
    elim (cases_Bool (list_any (λ u. int_eq u v) (values ps))) [
      | inr f ↦ let one = new_values_one (At v) (values qs) in rw f one
      | inl t ↦
          let any : Any (λ u. int_eq u v ≡ true) (values ps) = Any-from_list_any (λ u. int_eq u v) (values ps) t in
          let is : any.1 ≡ v = (Decides-int_eq any.1 v).0 any.4 in
          let there : Contains (values ps) v = subst (λ (u : ℤ). Contains (values ps) u) is (any.0, any.2, get_or_default (values ps) any.0 any.1 any.1 any.2 ∙ any.3) in
          let found = among_value qs v (kept v there) in
          rw (list_any-pivot v found.0 qs found.1) (omega arith)
    ]

added : (u v : ℤ) (place : ℕ) (old ps : List (ℤ × ℕ)) → u ≡ v → IsAmong old ps → Contains ps (v, place) → (p : ℤ × ℕ) → Contains ((u, place) ∷ old) p → Contains ps p
added u v place old ps same among at p (zero, within, is) = subst (λ (q : ℤ × ℕ). Contains ps q) is (subst (λ (w : ℤ). Contains ps (w, place)) (sym same) at)
added u v place old ps same among at p (suc k, within, is) = among p (k, omega arith, is)

-- a pivot more is among others, if its cut stands there
pub among_added : (cut : Cut) (u v : ℤ) (place : ℕ) (old new ps : List (ℤ × ℕ)) → cut ≡ At v → u ≡ v → IsPermutation ((u, place) ∷ old) new
    → IsAmong old ps → StandsAt cut ps place place → IsAmong new ps
among_added cut u v place old new ps is same moved among stands p there =
    let at : Contains ps (v, place) = rw is at stands in
    let back : Contains ((u, place) ∷ old) p = Contains-permutation new ((u, place) ∷ old) p (IsPermutation-sym ((u, place) ∷ old) new moved) there in
    added u v place old ps same among at p back

-- a cut's own place
pub StandsAt-own : (cut : Cut) (ps : List (ℤ × ℕ)) (n place : ℕ) → StandsAt cut ps n place → StandsAt cut ps place place
StandsAt-own Start ps n place at = at
StandsAt-own (At v) ps n place at = at
StandsAt-own End ps n place at = refl

-- a cut whose value is among those of some pivots has its place there
pub StandsAt-shown : (cut : Cut) (ps qs : List (ℤ × ℕ)) (n place : ℕ) → IsAmong ps qs → IsRising qs → HasCut cut (values ps) → StandsAt cut qs n place → StandsAt cut ps n place
StandsAt-shown Start ps qs n place among rising has at = at
StandsAt-shown End ps qs n place among rising has at = at
StandsAt-shown (At v) ps qs n place among rising has at =
    let found = among_value ps v has in
    let same : found.0 ≡ place = Contains-one_place v found.0 place qs rising (among (v, found.0) found.1) at in
    subst (λ (q : ℕ). Contains ps (v, q)) same found.1

pub HasCut-kept : (cut : Cut) (ps qs : List (ℤ × ℕ)) → IsAmong ps qs → HasCut cut (values ps) → HasCut cut (values qs)
HasCut-kept Start ps qs among has = tt
HasCut-kept End ps qs among has = tt
HasCut-kept (At v) ps qs among has = values_among ps qs among v has

pub HasCut-at : (cut : Cut) (v : ℤ) (vs : List ℤ) → cut ≡ At v → Contains vs v → HasCut cut vs
HasCut-at cut v vs is there = rw is there

pub HasCut-added : (cut : Cut) (u v : ℤ) (place : ℕ) (old new : List (ℤ × ℕ)) → cut ≡ At v → u ≡ v → IsPermutation ((u, place) ∷ old) new → HasCut cut (values new)
HasCut-added cut u v place old new is same moved =
    let there : Contains new (u, place) = Contains-permutation ((u, place) ∷ old) new (u, place) moved (0, omega arith, refl) in
    HasCut-at cut v (values new) is (subst (λ (w : ℤ). Contains (values new) w) same (value_among new (u, place) there))

-- a column whose rows moved within their pieces answers as before
pub IsAnswer-same : (old new : ColumnState) (range : Range) (a : ℕ × ℕ) → new.pivots ≡ old.pivots → length new.rows ≡ length old.rows → new.insertions ≡ old.insertions → new.deletions ≡ old.deletions
    → IsAnswer old range a → IsAnswer new range a
IsAnswer-same old new range a pivots long insertions deletions answer =
    elim (cases_Bool (is_before (low_cut range) (high_cut range))) [
      | inl order ↦
          let s : IsSettled old range a = rw order at answer in
          let t : IsSettled new range a =
          record {
            low = rw (pivots, long) s.low;
            high = rw (pivots, long) s.high;
            insertions = rw insertions s.insertions;
            deletions = rw deletions s.deletions;
          } in
          rw order t
      | inr reversed ↦ let same : a ≡ (0, 0) = rw reversed at answer in rw reversed same
    ]

-- the pivots that are shown keep their values where their own list and the list of all do
pub values_shown : (apart : Bool) (kept kept' all all' : List (ℤ × ℕ)) → values kept' ≡ values kept → values all' ≡ values all → values (shown_of apart kept' all') ≡ values (shown_of apart kept all)
values_shown true kept kept' all all' own whole = own
values_shown false kept kept' all all' own whole = whole

-- where the shown pivots have a list of their own, its pivots are among all
pub among_own : (apart : Bool) (kept all : List (ℤ × ℕ)) → apart ≡ true → AreFound (shown_of apart kept all) all → IsAmong kept all
among_own true kept all own found = among_found kept all found
among_own false kept all own found = absurd (false≢true own)

-- and so are their values, while all keep theirs
pub own_values : (apart : Bool) (kept all all' : List (ℤ × ℕ)) → AreFound (shown_of apart kept all) all → values all' ≡ values all
    → apart ≡ true → (v : ℤ) → Contains (values kept) v → Contains (values all') v
own_values apart kept all all' found same own v there =
    subst (λ (vs : List ℤ). Contains vs v) (sym same) (values_among kept all (among_own apart kept all own found) v there)

-- pivots that are shown stay so while all pivots do
pub found_same : (apart : Bool) (kept all all' : List (ℤ × ℕ)) → all' ≡ all → AreFound (shown_of apart kept all) all → AreFound (shown_of apart kept all') all'
found_same apart kept all all' same found = rw same found

-- and while there are more of them
pub found_more : (apart : Bool) (kept all all' : List (ℤ × ℕ)) → IsAmong all all' → AreFound (shown_of apart kept all) all → AreFound (shown_of apart kept all') all'
found_more true kept all all' more found = found_among kept all' (λ p there. more p (among_found kept all found p there))
found_more false kept all all' more found = found_among all' all' (λ p there. there)

-- a list of the shown pivots' own stays while others come to all
pub shown_own : (apart : Bool) (kept all all' : List (ℤ × ℕ)) → apart ≡ true → shown_of apart kept all' ≡ shown_of apart kept all
shown_own true kept all all' own = refl
shown_own false kept all all' own = absurd (false≢true own)

-- which list the shown pivots are
pub shown_is_own : (apart : Bool) (kept all : List (ℤ × ℕ)) → apart ≡ true → shown_of apart kept all ≡ kept
shown_is_own true kept all own = refl
shown_is_own false kept all own = absurd (false≢true own)

pub shown_is_all : (apart : Bool) (kept all : List (ℤ × ℕ)) → apart ≡ false → shown_of apart kept all ≡ all
shown_is_all true kept all one = absurd (false≢true (sym one))
shown_is_all false kept all one = refl

-- a list of their own that is among all serves as that of the shown pivots
pub found_own : (apart : Bool) (kept all : List (ℤ × ℕ)) → IsAmong kept all → AreFound (shown_of apart kept all) all
found_own true kept all among = found_among kept all among
found_own false kept all among = found_among all all (λ p there. there)
