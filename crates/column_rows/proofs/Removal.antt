-- Rows between two places leave, those behind them close up, and the pivots with them.
use Rattle.std.proofs.Common.{◌≡◌, ℕ, ℤ, pos, [], Bool, true, false, not, ◌&&◌, ◌+◌, ◌-◌, ◌<◌, ◌≤◌, List, ◌++◌, length, length-take, length-drop, length-append, get_or, take, drop, map, count_by, cond, inl, inr, sym, ◌∙◌, subst, refl, ap, arith, Contains}
use Rattle.std.specs.List.{between}
use Rattle.std.proofs.lemmas.Int.{ints}
use Rattle.std.proofs.lemmas.Bool.{cases_Bool, cases_lt}
use Rattle.std.proofs.lemmas.Bool.Decides.{nat_tests}
use Rattle.std.proofs.lemmas.List.{get_or_append_left, get_or-append_right, get_or_default, get_or-take, get_or-drop, get_or-map, length-map}
use Rattle.std.proofs.lemmas.List.Edits.{split_between}
use Rattle.std.proofs.lemmas.List.Sums.{sum_by-append}
use Rattle.score_bounds.specs.declared.ranges_and_cuts.Cut.{Cut}
use Rattle.score_bounds.specs.declared.ranges_and_cuts.Cut.TheVariants.{Start, At, End}
use Rattle.score_bounds.specs.declared.ranges_and_cuts.Range.{Range}
use Rattle.crack_kernel.specs.RowBag.{Test, IsSubBag, SameBag}
use Rattle.crack_kernel.specs.PartedRows.{IsBelow, IsFrom, IsParted}
use Rattle.crack_kernel.specs.PivotList.{ArePlacedInOrder, ObeysPivots, closed_up}
use Rattle.column_rows.specs.ClosedUp.{closed_up_pivots, closed_up_rows}
use Rattle.column_rows.specs.Content.{ColumnState, content_count, has_score_in}
use Rattle.column_rows.specs.RangeCutsAsPivots.{is_before, StandsAt}
use Rattle.column_rows.specs.RangeAnswer.{HoldsRange, IsAnswer, IsSettled, low_cut, high_cut}
use Rattle.column_rows.specs.ShownPivots.{AreFound, IsAmong}
use Rattle.column_rows.proofs.Counts.{count_all, count_and_le, count_none, count_split}
use Rattle.column_rows.proofs.InnerPivots.{among_found, found_among}

-- a pivot's place, once the rows between two places are gone
record AtGap (from to place new : ℕ) : Type 0 where
  low : place ≤ from → new ≡ place
  inside : from ≤ place → place ≤ to → new ≡ from
  high : to ≤ place → new ≡ place - (to - from)

at_gap : (from to place : ℕ) → from ≤ to → AtGap from to place (closed_up from to place)
at_gap from to place order = record {
  low = grind (arith, nat_tests);
  inside = grind (arith, nat_tests);
  high = grind (arith, nat_tests);
}

-- which row stands at a place then
closed_up-before : (rows : List (ℤ × List ℕ)) (from to k : ℕ) (d : ℤ × List ℕ) → from ≤ to → to ≤ length rows → k < from → get_or (closed_up_rows from to rows) k d ≡ get_or rows k d
closed_up-before rows from to k d order within low =
    get_or_append_left (take from rows) (drop to rows) d k (omega (arith, length-take from rows)) ∙ get_or-take from rows k d low

closed_up-behind : (rows : List (ℤ × List ℕ)) (from to k : ℕ) (d : ℤ × List ℕ) → from ≤ to → to ≤ length rows → from ≤ k → get_or (closed_up_rows from to rows) k d ≡ get_or rows (to + (k - from)) d
closed_up-behind rows from to k d order within high =
    get_or-append_right (take from rows) (drop to rows) from k d (omega (arith, length-take from rows)) high ∙ get_or-drop to rows (k - from) d

pub closed_up-length : (rows : List (ℤ × List ℕ)) (from to : ℕ) → from ≤ to → to ≤ length rows → length (closed_up_rows from to rows) + (to - from) ≡ length rows
closed_up-length rows from to order within = omega (arith, length-append (take from rows) (drop to rows), length-take from rows, length-drop to rows)

-- a row that is left stands before the pivot's place as it stood before, and otherwise not
stood_before : (from to place new k : ℕ) → from ≤ to → AtGap from to place new → k < new → (k < from → k < place) × (from ≤ k → to + (k - from) < place)
stood_before from to place new k order gap lt =
    elim (cases_lt from place) [
      | inr under ↦ let e = gap.low (omega arith) in ((λ h. omega (arith, e)), (λ h. absurd (omega (arith, e))))
      | inl above ↦ elim (cases_lt place to) [
        | inl inside ↦ let e = gap.inside (omega arith) (omega arith) in ((λ h. omega arith), (λ h. absurd (omega (arith, e))))
        | inr behind ↦ let e = gap.high (omega arith) in ((λ h. omega arith), (λ h. omega (arith, e)))
      ]
    ]

stood_behind : (from to place new k : ℕ) → from ≤ to → AtGap from to place new → new ≤ k → (k < from → place ≤ k) × (from ≤ k → place ≤ to + (k - from))
stood_behind from to place new k order gap le =
    elim (cases_lt from place) [
      | inr under ↦ let e = gap.low (omega arith) in ((λ h. omega (arith, e)), (λ h. omega arith))
      | inl above ↦ elim (cases_lt place to) [
        | inl inside ↦ let e = gap.inside (omega arith) (omega arith) in ((λ h. absurd (omega (arith, e))), (λ h. omega arith))
        | inr behind ↦ let e = gap.high (omega arith) in ((λ h. absurd (omega (arith, e))), (λ h. omega (arith, e)))
      ]
    ]

fits_gap : (from to place new n : ℕ) → from ≤ to → to ≤ n + (to - from) → place ≤ n + (to - from) → AtGap from to place new → new ≤ n
fits_gap from to place new n order within le gap =
    elim (cases_lt from place) [
      | inr under ↦ let e = gap.low (omega arith) in omega (arith, e)
      | inl above ↦ elim (cases_lt place to) [
        | inl inside ↦ let e = gap.inside (omega arith) (omega arith) in omega (arith, e)
        | inr behind ↦ let e = gap.high (omega arith) in omega (arith, e)
      ]
    ]

-- a pivot parts the rows that are left
parted_closed_up : (v : ℤ) (rows : List (ℤ × List ℕ)) (from to place new : ℕ) → from ≤ to → to ≤ length rows → AtGap from to place new → IsParted (IsBelow v) (IsFrom v) rows place
    → IsParted (IsBelow v) (IsFrom v) (closed_up_rows from to rows) new
parted_closed_up v rows from to place new order within gap parted =
    let long = closed_up-length rows from to order within in
    let at : place ≤ length rows = parted.within in
    record {
      within = fits_gap from to place new (length (closed_up_rows from to rows)) order (omega (arith, long)) (omega (arith, long)) gap;
      before = λ k d h lt.
          let stood = stood_before from to place new k order gap lt in
          elim (cases_lt k from) [
            | inl low ↦ rw (closed_up-before rows from to k d order within low) (parted.before k d (omega arith) (stood.0 low))
            | inr high ↦ rw (closed_up-behind rows from to k d order within high) (parted.before (to + (k - from)) d (omega arith) (stood.1 high))
          ];
      behind = λ k d h lt.
          let stood = stood_behind from to place new k order gap h in
          elim (cases_lt k from) [
            | inl low ↦ rw (closed_up-before rows from to k d order within low) (parted.behind k d (stood.0 low) (omega arith))
            | inr high ↦ rw (closed_up-behind rows from to k d order within high) (parted.behind (to + (k - from)) d (stood.1 high) (omega (arith, long)))
          ];
    }

moved_pivot : ℕ → ℕ → ℤ × ℕ → ℤ × ℕ
moved_pivot from to p = (p.0, closed_up from to p.1)

-- the pivot law, once the rows between two places are gone
pub ObeysPivots-closed_up : (ps : List (ℤ × ℕ)) (rows : List (ℤ × List ℕ)) (from to : ℕ) → from ≤ to → to ≤ length rows → ObeysPivots ps rows
    → ObeysPivots (closed_up_pivots from to ps) (closed_up_rows from to rows)
unfolding moved_pivot
ObeysPivots-closed_up ps rows from to order within law =
    let new : List (ℤ × ℕ) = map (moved_pivot from to) ps in
    let long : length new ≡ length ps = length-map ps (moved_pivot from to) in
    record {
      parted = λ k d h.
          let is : get_or new k d ≡ moved_pivot from to (get_or ps k d) = get_or-map (moved_pivot from to) ps k d d (omega (arith, long)) in
          rw is (parted_closed_up (get_or ps k d).0 rows from to (get_or ps k d).1 _ order within (at_gap from to (get_or ps k d).1 order) (law.parted k d (omega (arith, long))));
      rising = λ i j d h lt.
          let at : get_or new i d ≡ moved_pivot from to (get_or ps i d) = get_or-map (moved_pivot from to) ps i d d (omega (arith, long)) in
          let at' : get_or new j d ≡ moved_pivot from to (get_or ps j d) = get_or-map (moved_pivot from to) ps j d d (omega (arith, long)) in
          rw (at, at') (law.rising i j d h (omega (arith, long)));
      few = omega (arith, long, law.few);
    }

-- a pivot that was there is there with the place that it has then
pub Contains-closed_up : (from to : ℕ) (ps : List (ℤ × ℕ)) (v : ℤ) (place : ℕ) → Contains ps (v, place) → Contains (closed_up_pivots from to ps) (v, closed_up from to place)
unfolding moved_pivot
Contains-closed_up from to ps v place (k, within, is) = (
  k,
  omega (arith, length-map ps (moved_pivot from to)),
  get_or-map (moved_pivot from to) ps k (v, place) (v, closed_up from to place) within ∙ ap (moved_pivot from to) is,
)

among_closed_up : (from to : ℕ) (ps qs : List (ℤ × ℕ)) → IsAmong ps qs → IsAmong (closed_up_pivots from to ps) (closed_up_pivots from to qs)
unfolding moved_pivot
among_closed_up from to ps qs among p (k, within, is) =
    let in' : k < length ps = omega (arith, length-map ps (moved_pivot from to)) in
    let q : ℤ × ℕ = get_or ps k p in
    let moved : moved_pivot from to q ≡ p = sym (get_or-map (moved_pivot from to) ps k p p in') ∙ is in
    let there : Contains qs q = among q (k, in', get_or_default ps k q p in') in
    subst (λ (x : ℤ × ℕ). Contains (closed_up_pivots from to qs) x) moved (Contains-closed_up from to qs q.0 q.1 there)

-- the shown pivots are among all once both have closed up
pub found_closed_up : (from to : ℕ) (kept all : List (ℤ × ℕ)) → AreFound kept all → AreFound (closed_up_pivots from to kept) (closed_up_pivots from to all)
found_closed_up from to kept all found = found_among _ _ (among_closed_up from to kept all (among_found kept all found))

-- the answer, once the rows between its places are gone: both cuts stand at the first of them
gap_ends : (from to : ℕ) → from ≤ to → (closed_up from to from ≡ from) × (closed_up from to to ≡ from)
gap_ends from to order = ((at_gap from to from order).low (omega arith), (at_gap from to to order).inside order (omega arith))

StandsAt-first : (cut : Cut) (ps : List (ℤ × ℕ)) (from to n n' : ℕ) → from ≤ to → to ≤ n → n' + (to - from) ≡ n → StandsAt cut ps n from → StandsAt cut (closed_up_pivots from to ps) n' from
StandsAt-first Start ps from to n n' order within long at = at
StandsAt-first (At v) ps from to n n' order within long at =
    subst (λ (q : ℕ). Contains (closed_up_pivots from to ps) (v, q)) (gap_ends from to order).0 (Contains-closed_up from to ps v from at)
StandsAt-first End ps from to n n' order within long at = omega arith

StandsAt-second : (cut : Cut) (ps : List (ℤ × ℕ)) (from to n n' : ℕ) → from ≤ to → to ≤ n → n' + (to - from) ≡ n → StandsAt cut ps n to → StandsAt cut (closed_up_pivots from to ps) n' from
StandsAt-second Start ps from to n n' order within long at = omega arith
StandsAt-second (At v) ps from to n n' order within long at =
    subst (λ (q : ℕ). Contains (closed_up_pivots from to ps) (v, q)) (gap_ends from to order).1 (Contains-closed_up from to ps v to at)
StandsAt-second End ps from to n n' order within long at = omega arith

-- the rows of a range left a column
pub record IsClosedUp (old new : ColumnState) (answer : ℕ × ℕ) : Type 0 where
  pub rows : SameBag new.rows (closed_up_rows answer.0 answer.1 old.rows)
  pub pivots : new.pivots ≡ closed_up_pivots answer.0 answer.1 old.pivots
  pub insertions : new.insertions ≡ old.insertions
  pub deletions : new.deletions ≡ old.deletions

pub IsAnswer-closed_up : (old new : ColumnState) (range : Range) (a : ℕ × ℕ) → IsClosedUp old new a → HoldsRange old range a → IsAnswer old range a → IsAnswer new range (a.0, a.0)
IsAnswer-closed_up old new range a gone holds answer =
    let closed = closed_up-length old.rows a.0 a.1 holds.order holds.within in
    let all = gone.rows (λ r. true) in
    let long : length new.rows + (a.1 - a.0) ≡ length old.rows = omega (arith, closed, all, count_all new.rows, count_all (closed_up_rows a.0 a.1 old.rows)) in
    elim (cases_Bool (is_before (low_cut range) (high_cut range))) [
      | inl order ↦
          let s : IsSettled old range a = rw order at answer in
          let t : IsSettled new range (a.0, a.0) =
          record {
            low = rw gone.pivots (StandsAt-first (low_cut range) old.pivots a.0 a.1 (length old.rows) (length new.rows) holds.order holds.within long s.low);
            high = rw gone.pivots (StandsAt-second (high_cut range) old.pivots a.0 a.1 (length old.rows) (length new.rows) holds.order holds.within long s.high);
            insertions = rw gone.insertions s.insertions;
            deletions = rw gone.deletions s.deletions;
          } in
          rw order t
      | inr reversed ↦ let same : a ≡ (0, 0) = rw reversed at answer in rw (reversed, same) refl
    ]

-- the rows that are left, counted
count_closed_up : (p : Test) (rows : List (ℤ × List ℕ)) (from to : ℕ) → from ≤ to → count_by p (closed_up_rows from to rows) + count_by p (between from to rows) ≡ count_by p rows
count_closed_up p rows from to order =
    let parts : count_by p rows ≡ count_by p (take from rows ++ (between from to rows ++ drop to rows)) = ap (λ (zs : List (ℤ × List ℕ)). count_by p zs) (split_between rows from to order) in
    let sum = sum_by-append (λ r. cond (p r) 1 0) (take from rows) (between from to rows ++ drop to rows) in
    let sum' = sum_by-append (λ r. cond (p r) 1 0) (between from to rows) (drop to rows) in
    let left = sum_by-append (λ r. cond (p r) 1 0) (take from rows) (drop to rows) in
    omega (arith, parts, sum, sum', left)

-- the content is what it was, but for the rows with scores in the range
pub content_closed_up : (old new : ColumnState) (range : Range) (a : ℕ × ℕ) → IsClosedUp old new a → HoldsRange old range a → IsSubBag old.deletions old.rows
    → (p : Test) → content_count p new ≡ content_count (λ r. p r && not (has_score_in range r)) old
content_closed_up old new range a gone holds part p =
    let q : Test = has_score_in range in
    let inside : Test = λ r. p r && q r in
    let outside : Test = λ r. p r && not (q r) in
    let left = count_closed_up p old.rows a.0 a.1 holds.order in
    let taken = holds.rows p in
    let rows = count_split p q old.rows in
    let insertions = count_split p q old.insertions in
    let deletions = count_split p q old.deletions in
    rw (gone.insertions, gone.deletions) (omega (arith, gone.rows p, left, taken, rows, insertions, deletions, part p, part inside, part outside))

both_not : (a b : Bool) → ((a && b) && not b) ≡ false
both_not true true = refl
both_not true false = refl
both_not false b = refl

-- none of these is left
pub none_closed_up : (old new : ColumnState) (range : Range) (a : ℕ × ℕ) → IsClosedUp old new a → HoldsRange old range a → IsSubBag old.deletions old.rows
    → (p : Test) → content_count (λ r. p r && has_score_in range r) new ≡ 0
none_closed_up old new range a gone holds part p =
    let q : Test = has_score_in range in
    let content = content_closed_up old new range a gone holds part (λ r. p r && q r) in
    let rows = count_none (λ r. (p r && q r) && not (q r)) old.rows (λ k d h. both_not (p (get_or old.rows k d)) (q (get_or old.rows k d))) in
    let insertions = count_none (λ r. (p r && q r) && not (q r)) old.insertions (λ k d h. both_not (p (get_or old.insertions k d)) (q (get_or old.insertions k d))) in
    omega (arith, content, rows, insertions)

-- what waits to be deleted is among the rows that are left
pub part_closed_up : (old new : ColumnState) (range : Range) (a : ℕ × ℕ) → IsClosedUp old new a → HoldsRange old range a → IsSubBag old.deletions old.rows → IsAnswer old range a
    → IsSubBag old.deletions new.rows
part_closed_up old new range a gone holds part answer =
    elim (cases_Bool (is_before (low_cut range) (high_cut range))) [
      | inl order ↦
          let s : IsSettled old range a = rw order at answer in
          let q : Test = has_score_in range in
          λ p.
          let outside : Test = λ r. p r && not (q r) in
          let left = count_closed_up p old.rows a.0 a.1 holds.order in
          let taken = holds.rows p in
          let rows = count_split p q old.rows in
          let deletions = count_split p q old.deletions in
          let none = count_and_le p q old.deletions in
          let none' = count_none q old.deletions s.deletions in
          let nothing = count_and_le p q old.insertions in
          let nothing' = count_none q old.insertions s.insertions in
          omega (arith, gone.rows p, left, taken, rows, deletions, part outside, none, none', nothing, nothing')
      | inr reversed ↦
          let same : a ≡ (0, 0) = rw reversed at answer in
          λ p.
          let left : closed_up_rows a.0 a.1 old.rows ≡ old.rows = ap (λ (b : ℕ × ℕ). closed_up_rows b.0 b.1 old.rows) same in
          let rest = ap (λ (z : List (ℤ × List ℕ)). count_by p z) left in
          omega (arith, gone.rows p, rest, part p)
    ]

-- no row came
pub rows_closed_up : (old new : ColumnState) (range : Range) (a : ℕ × ℕ) → IsClosedUp old new a → HoldsRange old range a → IsSubBag new.rows old.rows
rows_closed_up old new range a gone holds p =
    let left = count_closed_up p old.rows a.0 a.1 holds.order in
    omega (arith, gone.rows p, left)

-- by the pivot law a pivot of a greater value has no lower place
pub placed_in_order : (ps : List (ℤ × ℕ)) (rows : List (ℤ × List ℕ)) → ObeysPivots ps rows → ArePlacedInOrder ps
placed_in_order ps rows law p q has_p has_q below =
    elim (cases_lt q.1 p.1) [
      | inr up ↦ up
      | inl down ↦
          let first = subst (λ (r : ℤ × ℕ). IsParted (IsBelow r.0) (IsFrom r.0) rows r.1) has_p.2 (law.parted has_p.0 p has_p.1) in
          let second = subst (λ (r : ℤ × ℕ). IsParted (IsBelow r.0) (IsFrom r.0) rows r.1) has_q.2 (law.parted has_q.0 q has_q.1) in
          let in_rows : p.1 ≤ length rows = first.within in
          let e : ℤ × List ℕ = (pos 0, []) in
          let low = first.before q.1 e (omega arith) down in
          let high = second.behind q.1 e (omega arith) (omega arith) in
          absurd (omega (arith, ints, low, high, below))
    ]

-- and so it is with some of them
pub placed_among : (ps qs : List (ℤ × ℕ)) → IsAmong ps qs → ArePlacedInOrder qs → ArePlacedInOrder ps
placed_among ps qs among placed p q has_p has_q below = placed p q (among p has_p) (among q has_q) below
