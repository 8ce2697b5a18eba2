-- The values of pivots: which a cut adds, and which are there.
use Rattle.std.proofs.Common.{◌≡◌, ℕ, suc, ℤ, int_lt, Bool, true, false, ◌||◌, Any, ◌<◌, List, [], ◌∷◌, ◌++◌, length, get_or, inl, inr, sym, ◌∙◌, subst, refl, ap, arith, IsPermutation, Contains, Option, None, Some, is_some, MatchOption}
use Rattle.std.specs.List.{list_any}
use Rattle.std.specs.Ordering.{int_eq}
use Rattle.std.proofs.lemmas.Bool.{cases_Bool, false≢true}
use Rattle.std.proofs.lemmas.Int.{ints}
use Rattle.std.proofs.lemmas.Bool.Decides.{Decides-int_eq}
use Rattle.std.proofs.lemmas.List.{get_or-map, get_or_default, length-map}
use Rattle.std.proofs.lemmas.List.Folds.{Any-from_list_any, list_any-append, list_any_at, list_any_none}
use Rattle.std.proofs.lemmas.List.Sorted.{Contains-permutation, IsPermutation-map, list_any-IsPermutation}
use Rattle.score_bounds.specs.declared.ranges_and_cuts.Cut.{Cut}
use Rattle.score_bounds.specs.declared.ranges_and_cuts.Cut.TheVariants.{Start, At, End}
use Rattle.crack_kernel.specs.PivotList.{IsNewValue}
use Rattle.column_rows.specs.RangeCutsAsPivots.{is_before, values, cut_values, new_values, StandsAt, IsApart, IsUncracked}

value_at : (ps : List (ℤ × ℕ)) (k : ℕ) (d : ℤ) (e : ℤ × ℕ) → k < length ps → get_or (values ps) k d ≡ (get_or ps k e).0
value_at ps k d e h = get_or-map (λ (p : ℤ × ℕ). p.0) ps k e d h

-- a new value is not found among the values
pub list_any-new : (v : ℤ) (ps : List (ℤ × ℕ)) → IsNewValue v ps → list_any (λ u. int_eq u v) (values ps) ≡ false
list_any-new v ps new =
    list_any_none (λ u. int_eq u v) (values ps)
    (λ k d h.
    let within : k < length ps = omega (arith, length-map ps (λ (p : ℤ × ℕ). p.0)) in
    let is : get_or (values ps) k d ≡ (get_or ps k (d, 0)).0 = value_at ps k d (d, 0) within in
    elim (cases_Bool (int_eq (get_or (values ps) k d) v)) [
      | inl t ↦ absurd (new k (d, 0) within (sym is ∙ (Decides-int_eq (get_or (values ps) k d) v).0 t))
      | inr f ↦ f
    ])

-- a pivot's value is found among them
pub list_any-pivot : (v : ℤ) (place : ℕ) (ps : List (ℤ × ℕ)) → Contains ps (v, place) → list_any (λ u. int_eq u v) (values ps) ≡ true
list_any-pivot v place ps (k, within, is) =
    let long : k < length (values ps) = omega (arith, length-map ps (λ (p : ℤ × ℕ). p.0)) in
    let here : get_or (values ps) k v ≡ v = value_at ps k v (v, place) within ∙ ap (λ (p : ℤ × ℕ). p.0) is in
    list_any_at (λ u. int_eq u v) (values ps) k v long ((Decides-int_eq (get_or (values ps) k v) v).1 here)

pub new_values-new : (cut : Cut) (v : ℤ) (ps : List (ℤ × ℕ)) → cut ≡ At v → IsNewValue v ps → new_values cut (values ps) ≡ v ∷ []
new_values-new cut v ps is new = rw (is, list_any-new v ps new) refl

pub new_values-pivot : (cut : Cut) (v : ℤ) (place : ℕ) (ps : List (ℤ × ℕ)) → cut ≡ At v → Contains ps (v, place) → new_values cut (values ps) ≡ []
new_values-pivot cut v place ps is there = rw (is, list_any-pivot v place ps there) refl

pub Contains-cons : {X : Type 0} (y : X) (xs : List X) (x : X) → Contains xs x → Contains (y ∷ xs) x
Contains-cons y xs x (k, within, is) = (suc k, omega arith, is)

-- what a pivot that was added changes
pub values-added : (cut : Cut) (v u : ℤ) (place : ℕ) (old new : List (ℤ × ℕ)) → cut ≡ At v → u ≡ v → IsNewValue v old → IsPermutation ((u, place) ∷ old) new
    → IsPermutation (new_values cut (values old) ++ values old) (values new)
values-added cut v u place old new is same fresh moved =
    let moved_values : IsPermutation (u ∷ values old) (values new) = IsPermutation-map (λ (p : ℤ × ℕ). p.0) ((u, place) ∷ old) new moved in
    rw (new_values-new cut v old is fresh) (subst (λ (w : ℤ). IsPermutation (w ∷ values old) (values new)) same moved_values)

pub StandsAt-added : (cut : Cut) (v u : ℤ) (place n : ℕ) (old new : List (ℤ × ℕ)) → cut ≡ At v → u ≡ v → IsPermutation ((u, place) ∷ old) new → StandsAt cut new n place
StandsAt-added cut v u place n old new is same moved =
    let there : Contains new (u, place) = Contains-permutation ((u, place) ∷ old) new (u, place) moved (0, omega arith, refl) in
    rw is (subst (λ (w : ℤ). Contains new (w, place)) same there)

pub Contains-added : (u : ℤ) (place : ℕ) (old new : List (ℤ × ℕ)) → IsPermutation ((u, place) ∷ old) new → (p : ℤ × ℕ) → Contains old p → Contains new p
Contains-added u place old new moved p there = Contains-permutation ((u, place) ∷ old) new p moved (Contains-cons (u, place) old p there)

-- a value that is below another is not that one
lt-other : (v w : ℤ) → int_lt v w ≡ true → int_eq v w ≡ false
lt-other v w below = grind (arith, ints)

-- the first cut adds nothing that the second adds too
pub new_values-other : (first second : Cut) (vs ws : List ℤ) → is_before first second ≡ true → IsPermutation (new_values first vs ++ vs) ws → new_values second ws ≡ new_values second vs
new_values-other first Start vs ws below moved = refl
new_values-other first End vs ws below moved = refl
new_values-other Start (At w) vs ws below moved = rw (list_any-IsPermutation (λ u. int_eq u w) vs ws moved) refl
new_values-other End (At w) vs ws below moved = rw (list_any-IsPermutation (λ u. int_eq u w) vs ws moved) refl
new_values-other (At v) (At w) vs ws below moved =
    let is = λ (u : ℤ). int_eq u w in
    let same : list_any is (new_values (At v) vs ++ vs) ≡ list_any is ws = list_any-IsPermutation is (new_values (At v) vs ++ vs) ws moved in
    let parts : list_any is (new_values (At v) vs ++ vs) ≡ (list_any is (new_values (At v) vs) || list_any is vs) = list_any-append is (new_values (At v) vs) vs in
    let none : list_any is (new_values (At v) vs) ≡ false =
    elim (cases_Bool (list_any (λ u. int_eq u v) vs)) [ inl t ↦ rw t refl | inr f ↦ rw (f, lt-other v w below) refl ] in
    let e : list_any is ws ≡ list_any is vs = sym same ∙ parts ∙ ap (λ (b : Bool). b || list_any is vs) none in
    rw e refl

-- where there is no pivot a cut adds its value
pub new_values-nil : (cut : Cut) → new_values cut [] ≡ cut_values cut
new_values-nil Start = refl
new_values-nil (At v) = refl
new_values-nil End = refl

-- a cut's place stays when pivots are added
pub StandsAt-kept : (cut : Cut) (ps qs : List (ℤ × ℕ)) (m n place : ℕ) → m ≡ n → ((p : ℤ × ℕ) → Contains ps p → Contains qs p) → StandsAt cut ps m place → StandsAt cut qs n place
StandsAt-kept Start ps qs m n place same kept at = at
StandsAt-kept (At v) ps qs m n place same kept at = kept (v, place) at
StandsAt-kept End ps qs m n place same kept at = at ∙ same

-- what lies outside the piece of a cut does so when pivots are added
pub IsUncracked-kept : (cut : Cut) (ps qs : List (ℤ × ℕ)) (k : ℕ) → ((p : ℤ × ℕ) → Contains ps p → Contains qs p) → IsUncracked cut ps k → IsUncracked cut qs k
IsUncracked-kept Start ps qs k kept outside = outside
IsUncracked-kept End ps qs k kept outside = outside
IsUncracked-kept (At v) ps qs k kept outside =
    elim outside [
      | inl found ↦
          let any : Any (λ u. int_eq u v ≡ true) (values ps) = Any-from_list_any (λ u. int_eq u v) (values ps) found in
          let i : ℕ = any.0 in
          let long : i < length (values ps) = any.2 in
          let within : i < length ps = omega (arith, length-map ps (λ (p : ℤ × ℕ). p.0)) in
          let p : ℤ × ℕ = get_or ps i (any.1, 0) in
          let is : p.0 ≡ any.1 = sym (value_at ps i any.1 (any.1, 0) within) ∙ any.3 in
          let value : p.0 ≡ v = is ∙ (Decides-int_eq any.1 v).0 any.4 in
          let there : Contains ps p = (i, within, get_or_default ps i p (any.1, 0) within) in
          let there' : Contains ps (v, p.1) = subst (λ (u : ℤ). Contains ps (u, p.1)) value there in
          inl (list_any-pivot v p.1 qs (kept (v, p.1) there'))
      | inr (i, p, within, is, side) ↦
          let new : Contains qs p = kept p (i, within, is) in
          inr (new.0, p, new.1, new.2, side)
    ]

-- a cut at a value that is no pivot's cracks the value's piece
pub IsApart-new : (v : ℤ) (ps : List (ℤ × ℕ)) (k : ℕ) → IsNewValue v ps → IsUncracked (At v) ps k → IsApart v ps k
IsApart-new v ps k new outside =
    elim outside [
      | inl found ↦ absurd (false≢true (sym (list_any-new v ps new) ∙ found))
      | inr apart ↦ apart
    ]

-- a value that is not found is new
pub IsNewValue-none : (r : Option ℕ) (u v : ℤ) (ps : List (ℤ × ℕ)) → u ≡ v → MatchOption r (IsNewValue u ps) (λ place. Contains ps (u, place)) → is_some r ≡ false → IsNewValue v ps
IsNewValue-none None u v ps same new none = subst (λ (w : ℤ). IsNewValue w ps) same new
IsNewValue-none (Some place) u v ps same found none = absurd (false≢true (sym none))
