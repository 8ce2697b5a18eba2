-- Rows between two places leave by a gap that is carried to an end.
use Rattle.std.proofs.Common.{◌≡◌, ℕ, ℤ, pos, true, ◌+◌, ◌-◌, ◌<◌, ◌≤◌, ◌<ℤ◌, ◌≤ℤ◌, int_lt, List, [], ◌∷◌, ◌++◌, length, length-take, length-drop, get_or, take, drop, map, replicate, count_by, sym, ◌∙◌, subst, refl, ap, arith}
use Rattle.std.specs.List.{AllWithin}
use Rattle.std.proofs.lemmas.Int.{ints}
use Rattle.std.proofs.lemmas.Bool.Decides.{nat_tests}
use Rattle.std.proofs.lemmas.List.{ext_get_or, get_or-take, get_or-drop, get_or-replicate, get_or-map, length-map, length-replicate, take-append-drop}
use Rattle.crack_kernel.specs.RowBag.{Test, SameBag}
use Rattle.crack_kernel.specs.PartedRows.{IsBelow, IsFrom, IsParted}
use Rattle.crack_kernel.specs.PivotList.{ObeysPivots, closed_up}
use Rattle.column_rows.specs.ClosedUp.{closed_up_pivots, closed_up_rows}
use Rattle.column_rows.specs.RangeCutsAsPivots.{values}
use Rattle.column_rows.specs.MergeGap.{AllParted, HasGap, blank}
use Rattle.column_rows.proofs.Blanks.{count_append}
use Rattle.column_rows.proofs.Counts.{count_alike, count_all, count_none}
use Rattle.column_rows.proofs.Gaps.{length-values, ObeysPivots-values}
use Rattle.column_rows.proofs.Removal.{ObeysPivots-closed_up}

-- blank rows in the places of those between two others, counted
pub count_widened : (p : Test) (xs ys : List (ℤ × List ℕ)) (from to : ℕ) → from ≤ to → to ≤ length xs → length ys ≡ length xs
    → ((k : ℕ) (d : ℤ × List ℕ) → (from ≤ k → to ≤ k) → get_or ys k d ≡ get_or xs k d) → AllWithin (λ r. r ≡ blank) ys from to
    → count_by p ys ≡ count_by p (closed_up_rows from to xs) + count_by p (replicate (to - from) blank)
count_widened p xs ys from to order within len others blanks =
    let tail : drop from ys ≡ replicate (to - from) blank ++ drop to ys =
    let mid : take (to - from) (drop from ys) ≡ replicate (to - from) blank =
    ext_get_or blank (take (to - from) (drop from ys)) (replicate (to - from) blank)
    (omega (arith, length-take (to - from) (drop from ys), length-drop from ys, length-replicate (to - from) blank))
    (λ k h. let l : k < to - from = omega (arith, h, length-take (to - from) (drop from ys)) in
    get_or-take (to - from) (drop from ys) k blank l ∙ get_or-drop from ys k blank ∙ blanks (from + k) blank (omega arith) (omega arith) ∙ sym (get_or-replicate (to - from) k blank blank l)) in
    let rest : drop (to - from) (drop from ys) ≡ drop to ys =
    ext_get_or blank (drop (to - from) (drop from ys)) (drop to ys)
    (omega (arith, length-drop (to - from) (drop from ys), length-drop from ys, length-drop to ys))
    (λ k h. get_or-drop (to - from) (drop from ys) k blank ∙ get_or-drop from ys (to - from + k) blank
    ∙ ap (λ (m : ℕ). get_or ys m blank) (let e : from + (to - from + k) ≡ to + k = omega arith in e) ∙ sym (get_or-drop to ys k blank)) in
    sym (take-append-drop (to - from) (drop from ys)) ∙ ap (λ (z : List (ℤ × List ℕ)). z ++ drop (to - from) (drop from ys)) mid ∙ ap (λ (z : List (ℤ × List ℕ)). replicate (to - from) blank ++ z) rest in
    let front : take from ys ≡ take from xs =
    ext_get_or blank (take from ys) (take from xs) (omega (arith, length-take from ys, length-take from xs))
    (λ k h. let l : k < from = omega (arith, h, length-take from ys) in get_or-take from ys k blank l ∙ others k blank (λ f. absurd (omega arith)) ∙ sym (get_or-take from xs k blank l)) in
    let back : drop to ys ≡ drop to xs =
    ext_get_or blank (drop to ys) (drop to xs) (omega (arith, length-drop to ys, length-drop to xs))
    (λ k h. get_or-drop to ys k blank ∙ others (to + k) blank (λ f. omega arith) ∙ sym (get_or-drop to xs k blank)) in
    let whole = ap (λ (z : List (ℤ × List ℕ)). count_by p z) (sym (take-append-drop from ys)) in
    let a = count_append p (take from ys) (drop from ys) in
    let b = ap (λ (z : List (ℤ × List ℕ)). count_by p z) tail in
    let c = count_append p (replicate (to - from) blank) (drop to ys) in
    let d = count_append p (take from xs) (drop to xs) in
    let f = ap (λ (z : List (ℤ × List ℕ)). count_by p z) front in
    let e = ap (λ (z : List (ℤ × List ℕ)). count_by p z) back in
    omega (arith, whole, a, b, c, d, e, f)

-- the test of a score below v
below : ℤ → Test
below v r = int_lt r.0 v

-- the place that parts rows by v is how many of them are below it
below_count : (v : ℤ) (xs : List (ℤ × List ℕ)) (place : ℕ) → IsParted (IsBelow v) (IsFrom v) xs place → count_by (below v) xs ≡ place
unfolding below
below_count v xs place parted =
    let within : place ≤ length xs = parted.within in
    let front : count_by (λ r. int_lt r.0 v) (take place xs) ≡ count_by (λ r. true) (take place xs) =
    count_alike (λ r. int_lt r.0 v) (λ r. true) (take place xs)
    (λ k d h. let l : k < place = omega (arith, h, length-take place xs) in
    let same = get_or-take place xs k d l in
    let low : (get_or xs k d).0 <ℤ v = parted.before k d (omega arith) l in
    rw same (grind (arith, ints))) in
    let all = count_all (take place xs) in
    let none : count_by (λ r. int_lt r.0 v) (drop place xs) ≡ 0 =
    count_none (λ r. int_lt r.0 v) (drop place xs)
    (λ k d h. let l : place + k < length xs = omega (arith, h, length-drop place xs) in
    let same = get_or-drop place xs k d in
    let high : v ≤ℤ (get_or xs (place + k) d).0 = parted.behind (place + k) d (omega arith) l in
    rw same (grind (arith, ints))) in
    let whole = ap (λ (z : List (ℤ × List ℕ)). count_by (λ r. int_lt r.0 v) z) (sym (take-append-drop place xs)) in
    let parts = count_append (λ r. int_lt r.0 v) (take place xs) (drop place xs) in
    omega (arith, front, all, none, whole, parts, length-take place xs)

-- so by the pivot law values and rows, as a bag, determine the pivots
pub same_pivots : (ps qs : List (ℤ × ℕ)) (xs ys : List (ℤ × List ℕ)) → ObeysPivots ps xs → ObeysPivots qs ys → values qs ≡ values ps → SameBag ys xs → qs ≡ ps
unfolding below
same_pivots ps qs xs ys law law' same bag =
    let long : length qs ≡ length ps = length-values ps qs same in
    ext_get_or (pos 0, 0) qs ps long
    (λ k h.
    let e : ℤ × ℕ = (pos 0, 0) in
    let h' : k < length ps = omega (arith, h, long) in
    let value : (get_or qs k e).0 ≡ (get_or ps k e).0 =
    sym (get_or-map (λ (p : ℤ × ℕ). p.0) qs k e (pos 0) h) ∙ ap (λ (vs : List ℤ). get_or vs k (pos 0)) same ∙ get_or-map (λ (p : ℤ × ℕ). p.0) ps k e (pos 0) h' in
    let a = below_count (get_or ps k e).0 xs (get_or ps k e).1 (law.parted k e h') in
    let parted : IsParted (IsBelow (get_or ps k e).0) (IsFrom (get_or ps k e).0) ys (get_or qs k e).1 =
    subst (λ (v : ℤ). IsParted (IsBelow v) (IsFrom v) ys (get_or qs k e).1) value (law'.parted k e h) in
    let b = below_count (get_or ps k e).0 ys (get_or qs k e).1 parted in
    let place : (get_or qs k e).1 ≡ (get_or ps k e).1 = sym b ∙ bag (below (get_or ps k e).0) ∙ a in
    ap (λ (v : ℤ). (v, (get_or qs k e).1)) value ∙ ap (λ (n : ℕ). ((get_or ps k e).0, n)) place)

pub values-closed_up : (from to : ℕ) (ps : List (ℤ × ℕ)) → values (closed_up_pivots from to ps) ≡ values ps
values-closed_up from to [] = refl
values-closed_up from to (p ∷ ps) = ap (λ (vs : List ℤ). p.0 ∷ vs) (values-closed_up from to ps)

-- rows left, in whatever order the pieces have them: the pivots close up
pub pivots-closed_up : (ps qs : List (ℤ × ℕ)) (xs ys : List (ℤ × List ℕ)) (from to : ℕ) → from ≤ to → to ≤ length xs → ObeysPivots ps xs
    → AllParted qs ys → values qs ≡ values ps → SameBag ys (closed_up_rows from to xs) → (ObeysPivots qs ys) × (qs ≡ closed_up_pivots from to ps)
pivots-closed_up ps qs xs ys from to order within law parted same bag =
    let law' = ObeysPivots-values ps qs xs ys same law parted in (
      law',
      same_pivots (closed_up_pivots from to ps) qs (closed_up_rows from to xs) ys (ObeysPivots-closed_up ps xs from to order within law) law'
          (same ∙ sym (values-closed_up from to ps)) bag,
    )

-- a gap that was carried to the first place is cut off
pub HasGap-cut_first : (ps : List (ℤ × ℕ)) (xs : List (ℤ × List ℕ)) (by : ℕ) → HasGap ps xs 0 0 by → AllParted (closed_up_pivots 0 by ps) (drop by xs)
HasGap-cut_first ps xs by g k d h =
    let new : ℤ × ℕ → ℤ × ℕ = λ p. (p.0, closed_up 0 by p.1) in
    let long : length (map new ps) ≡ length ps = length-map ps new in
    let h' : k < length ps = omega (arith, h, long) in
    let is : get_or (map new ps) k d ≡ new (get_or ps k d) = get_or-map new ps k d d h' in
    let high : by ≤ (get_or ps k d).1 = g.above k d (omega arith) h' in
    let inside : (get_or ps k d).1 ≤ length xs = g.inside k d h' in
    let place : closed_up 0 by (get_or ps k d).1 ≡ (get_or ps k d).1 - by = grind (arith, nat_tests) in
    let left = length-drop by xs in
    let parted : IsParted (IsBelow (get_or ps k d).0) (IsFrom (get_or ps k d).0) (drop by xs) ((get_or ps k d).1 - by) =
    record {
      within = omega (arith, left);
      before = λ j r l u. rw (get_or-drop by xs j r) ((g.parted k d h' (by + j) r (omega (arith, left)) (λ f. omega arith)).0 (omega arith));
      behind = λ j r l u. rw (get_or-drop by xs j r) ((g.parted k d h' (by + j) r (omega (arith, left)) (λ f. omega arith)).1 (omega arith));
    } in
    rw (is, place) parted
