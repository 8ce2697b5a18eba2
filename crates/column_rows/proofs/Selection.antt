-- The rows between the places of two cuts are those with scores in the range.
use Rattle.std.proofs.Common.{◌≡◌, ℕ, ℤ, pos, int_lt, Bool, true, false, not, cond, ◌&&◌, ◌+◌, ◌-◌, ◌<◌, ◌≤◌, ◌<ℤ◌, ◌≤ℤ◌, List, [], ◌++◌, length, length-take, length-drop, get_or, take, drop, count_by, inl, inr, sym, ◌∙◌, subst, refl, ap, arith, Contains, IsPermutation, Option, Some, None, MatchOption, IfSome, OnSome, Result, Ok, Err, IfOk, OnOk}
use Rattle.std.specs.List.{between}
use Rattle.std.proofs.lemmas.Bool.{cases_Bool, cases_lt, false≢true}
use Rattle.std.proofs.lemmas.Int.{ints}
use Rattle.std.proofs.lemmas.List.{get_or_default, get_or-take, get_or-drop}
use Rattle.std.proofs.lemmas.List.Edits.{get_or-between, length-between, split_between}
use Rattle.std.proofs.lemmas.List.Sums.{sum_by-append}
use Rattle.score_bounds.specs.declared.ranges_and_cuts.Cut.{Cut}
use Rattle.score_bounds.specs.declared.ranges_and_cuts.Cut.TheVariants.{Start, At, End}
use Rattle.score_bounds.specs.declared.ranges_and_cuts.Range.{Range}
use Rattle.score_bounds.specs.RangesAndCuts.{is_in, is_below}
use Rattle.score_bounds.proofs.Cuts.{is_under-first_cut, is_over-second_cut}
use Rattle.score_bounds.specs.ScoreTexts.{greatest}
use Rattle.crack_kernel.specs.RowBag.{Test}
use Rattle.crack_kernel.specs.PartedRows.{IsBelow, IsFrom, IsParted}
use Rattle.crack_kernel.specs.PivotList.{IsNewValue, IsRising, ObeysPivots}
use Rattle.column_rows.specs.Content.{ColumnState, IsScored, IsUnchanged, SameOutside, has_score_in, NoneIn}
use Rattle.column_rows.specs.RangeCutsAsPivots.{is_before, values, cut_values, new_values, StandsAt}
use Rattle.column_rows.specs.ShownPivots.{IsAmong}
use Rattle.column_rows.specs.RangeAnswer.{low_cut, high_cut, pivots_with_cuts, IsSettled, IsAnswer, HoldsRange, AddsCuts, StandsStill}
use Rattle.column_rows.specs.RangeEffects.{Selects}
use Rattle.column_rows.proofs.Values.{StandsAt-kept}
use Rattle.column_rows.proofs.Counts.{count_none, count_alike, count_and_le}

-- the rows before a place are below a cut, and the others are not
pub record LiesAt (cut : Cut) (rows : List (ℤ × List ℕ)) (place : ℕ) : Type 0 where
  pub within : place ≤ length rows
  pub before : (k : ℕ) (d : ℤ × List ℕ) → k < place → is_below (get_or rows k d).0 cut ≡ true
  pub behind : (k : ℕ) (d : ℤ × List ℕ) → place ≤ k → k < length rows → is_below (get_or rows k d).0 cut ≡ false

below_true : (s v : ℤ) → s <ℤ v → int_lt s v ≡ true
below_true s v below = grind (arith, ints)

below_false : (s v : ℤ) → v ≤ℤ s → int_lt s v ≡ false
below_false s v from = grind (arith, ints)

pub LiesAt-stands : (cut : Cut) (ps : List (ℤ × ℕ)) (rows : List (ℤ × List ℕ)) (place : ℕ) → ObeysPivots ps rows → StandsAt cut ps (length rows) place → LiesAt cut rows place
LiesAt-stands Start ps rows place law at = record {
  within = omega arith;
  before = λ k d h. absurd (omega arith);
  behind = λ k d h lt. refl;
}
LiesAt-stands End ps rows place law at = record {
  within = omega arith;
  before = λ k d h. refl;
  behind = λ k d h lt. absurd (omega arith);
}
LiesAt-stands (At v) ps rows place law (i, within, is) =
    let parted : IsParted (IsBelow v) (IsFrom v) rows place =
    subst (λ (q : ℤ × ℕ). IsParted (IsBelow q.0) (IsFrom q.0) rows q.1) is (law.parted i (v, place) within) in
    record {
      within = parted.within;
      before = λ k d h. below_true (get_or rows k d).0 v (parted.before k d (omega arith) h);
      behind = λ k d h lt. below_false (get_or rows k d).0 v (parted.behind k d h lt);
    }

lt_trans : (s v w : ℤ) → int_lt v w ≡ true → int_lt s v ≡ true → int_lt s w ≡ true
lt_trans s v w a b = grind (arith, ints)

lt_under : (s v w : ℤ) → int_lt v w ≡ false → int_lt s w ≡ true → int_lt s v ≡ true
lt_under s v w a b = grind (arith, ints)

-- what is below a cut is below the cuts above it
is_below-before : (s : ℤ) (first second : Cut) → is_before first second ≡ true → is_below s first ≡ true → is_below s second ≡ true
is_below-before s Start second order below = absurd (false≢true below)
is_below-before s (At v) Start order below = absurd (false≢true order)
is_below-before s (At v) (At w) order below = lt_trans s v w order below
is_below-before s (At v) End order below = refl
is_below-before s End Start order below = absurd (false≢true order)
is_below-before s End (At w) order below = absurd (false≢true order)
is_below-before s End End order below = absurd (false≢true order)

-- between two cuts of which the first is not below the second there is no score
is_below-reversed : (s : ℤ) (first second : Cut) → is_before first second ≡ false → is_below s second ≡ true → is_below s first ≡ true
is_below-reversed s first Start order below = absurd (false≢true below)
is_below-reversed s Start (At w) order below = absurd (false≢true (sym order))
is_below-reversed s Start End order below = absurd (false≢true (sym order))
is_below-reversed s (At v) (At w) order below = lt_under s v w order below
is_below-reversed s (At v) End order below = absurd (false≢true (sym order))
is_below-reversed s End (At w) order below = refl
is_below-reversed s End End order below = refl

and_false : (b : Bool) → (b && false) ≡ false
and_false true = refl
and_false false = refl

and_true : (b : Bool) → (b && true) ≡ b
and_true true = refl
and_true false = refl

-- the rows of a window are counted by a test that holds of no row outside it
count_window : (p q : Test) (xs : List (ℤ × List ℕ)) (from to : ℕ) → from ≤ to → to ≤ length xs
    → ((k : ℕ) (d : ℤ × List ℕ) → k < from → q (get_or xs k d) ≡ false)
    → ((k : ℕ) (d : ℤ × List ℕ) → from ≤ k → k < to → q (get_or xs k d) ≡ p (get_or xs k d))
    → ((k : ℕ) (d : ℤ × List ℕ) → to ≤ k → k < length xs → q (get_or xs k d) ≡ false)
    → count_by p (between from to xs) ≡ count_by q xs
count_window p q xs from to order fits before inside behind =
    let parts : count_by q xs ≡ count_by q (take from xs ++ (between from to xs ++ drop to xs)) = ap (λ (zs : List (ℤ × List ℕ)). count_by q zs) (split_between xs from to order) in
    let sum = sum_by-append (λ r. cond (q r) 1 0) (take from xs) (between from to xs ++ drop to xs) in
    let sum' = sum_by-append (λ r. cond (q r) 1 0) (between from to xs) (drop to xs) in
    let low : count_by q (take from xs) ≡ 0 =
    count_none q (take from xs) (λ k d h. let lt : k < from = omega (arith, length-take from xs) in rw (get_or-take from xs k d lt) (before k d lt)) in
    let high : count_by q (drop to xs) ≡ 0 =
    count_none q (drop to xs) (λ k d h. let lt : to + k < length xs = omega (arith, length-drop to xs) in rw (get_or-drop to xs k d) (behind (to + k) d (omega arith) lt)) in
    let mid : count_by q (between from to xs) ≡ count_by p (between from to xs) =
    count_alike q p (between from to xs)
    (λ k d h. let lt : k < to - from = omega (arith, length-between xs from to fits) in rw (get_or-between xs from to k d (omega arith)) (inside (from + k) d (omega arith) (omega arith))) in
    omega (arith, parts, sum, sum', low, high, mid)

-- no row counts that has to have its score in a range where there is none
none_in : (p : Test) (range : Range) (xs : List (ℤ × List ℕ)) → NoneIn range xs → count_by (λ r. p r && has_score_in range r) xs ≡ 0
none_in p range xs none =
    let le = count_and_le p (has_score_in range) xs in
    let zero = count_none (has_score_in range) xs none in
    omega (arith, le, zero)

-- the cuts of a range part its scores from the others
abbrev pub CutsPart : Range → Type 0
CutsPart range = (s : ℤ) → s ≤ℤ greatest → is_in range s ≡ (not (is_below s (low_cut range)) && is_below s (high_cut range))

pub CutsPart-any : (range : Range) → CutsPart range
CutsPart-any range s within = rw (← is_under-first_cut range.min s within, ← is_over-second_cut range.max s within) refl

pub HoldsRange-settled : (c : ColumnState) (all : List (ℤ × ℕ)) (range : Range) (answer : ℕ × ℕ) → CutsPart range → IsAmong c.pivots all → ObeysPivots all c.rows → IsScored c.rows
    → is_before (low_cut range) (high_cut range) ≡ true → IsSettled c range answer → HoldsRange c range answer
HoldsRange-settled c all range answer cuts among law scored below settled =
    let rows = c.rows in
    let from : ℕ = answer.0 in
    let to : ℕ = answer.1 in
    let low : LiesAt (low_cut range) rows from = LiesAt-stands (low_cut range) all rows from law (StandsAt-kept (low_cut range) c.pivots all (length rows) (length rows) from refl among settled.low) in
    let high : LiesAt (high_cut range) rows to = LiesAt-stands (high_cut range) all rows to law (StandsAt-kept (high_cut range) c.pivots all (length rows) (length rows) to refl among settled.high) in
    let from_in : from ≤ length rows = low.within in
    let to_in : to ≤ length rows = high.within in
    let order : from ≤ to =
    elim (cases_lt to from) [
      | inl under ↦
          let s : ℤ = (get_or rows to (pos 0, [])).0 in
          let a : is_below s (low_cut range) ≡ true = low.before to (pos 0, []) under in
          let b : is_below s (high_cut range) ≡ false = high.behind to (pos 0, []) (omega arith) (omega arith) in
          absurd (false≢true (sym b ∙ is_below-before s (low_cut range) (high_cut range) below a))
      | inr fine ↦ fine
    ] in
    record {
      order = order;
      within = to_in;
      rows = λ p.
          let q : Test = λ r. p r && has_score_in range r in
          let i = none_in p range c.insertions settled.insertions in
          let d = none_in p range c.deletions settled.deletions in
          let w : count_by p (between from to rows) ≡ count_by q rows =
          count_window p q rows from to order to_in
          (λ k d h.
          let s : ℤ = (get_or rows k d).0 in
          let is : has_score_in range (get_or rows k d) ≡ false = cuts s (scored k d (omega arith)) ∙ ap (λ (b : Bool). not b && is_below s (high_cut range)) (low.before k d h) in
          rw is (and_false (p (get_or rows k d))))
          (λ k d h lt.
          let s : ℤ = (get_or rows k d).0 in
          let is : has_score_in range (get_or rows k d) ≡ true =
          cuts s (scored k d (omega arith)) ∙ ap (λ (b : Bool). not b && is_below s (high_cut range)) (low.behind k d h (omega arith)) ∙ high.before k d lt in
          rw is (and_true (p (get_or rows k d))))
          (λ k d h lt.
          let s : ℤ = (get_or rows k d).0 in
          let is : has_score_in range (get_or rows k d) ≡ false =
          cuts s (scored k d lt) ∙ ap (λ (b : Bool). not (is_below s (low_cut range)) && b) (high.behind k d h lt) ∙ and_false (not (is_below s (low_cut range))) in
          rw is (and_false (p (get_or rows k d)))) in
          omega (arith, w, i, d);
    }

-- a range that is empty by its cuts holds no score
none_reversed : (range : Range) (xs : List (ℤ × List ℕ)) → CutsPart range → is_before (low_cut range) (high_cut range) ≡ false → IsScored xs → NoneIn range xs
none_reversed range xs cuts reversed scored k d h =
    let s : ℤ = (get_or xs k d).0 in
    cuts s (scored k d h)
    ∙ elim (cases_Bool (is_below s (high_cut range))) [
      | inl t ↦ let under : is_below s (low_cut range) ≡ true = is_below-reversed s (low_cut range) (high_cut range) reversed t in ap (λ (b : Bool). not b && is_below s (high_cut range)) under
      | inr f ↦ ap (λ (b : Bool). not (is_below s (low_cut range)) && b) f ∙ and_false (not (is_below s (low_cut range)))
    ]

pub HoldsRange-empty : (c : ColumnState) (range : Range) → CutsPart range → IsScored c.rows → IsScored c.insertions
    → is_before (low_cut range) (high_cut range) ≡ false → HoldsRange c range (0, 0)
HoldsRange-empty c range cuts scored_rows scored_insertions reversed = record {
  order = omega arith;
  within = omega arith;
  rows = λ p.
      let r = none_in p range c.rows (none_reversed range c.rows cuts reversed scored_rows) in
      let i = none_in p range c.insertions (none_reversed range c.insertions cuts reversed scored_insertions) in
      omega (arith, r, i);
}

-- a pivot's value has one place
pub Contains-one_place : (v : ℤ) (p q : ℕ) (ps : List (ℤ × ℕ)) → IsRising ps → Contains ps (v, p) → Contains ps (v, q) → p ≡ q
Contains-one_place v p q ps rising (i, i_in, i_is) (j, j_in, j_is) =
    let e : ℤ × ℕ = (v, p) in
    let j_is' : get_or ps j e ≡ (v, q) = get_or_default ps j e (v, q) j_in ∙ j_is in
    let vi : (get_or ps i e).0 ≡ v = ap (λ (x : ℤ × ℕ). x.0) i_is in
    let vj : (get_or ps j e).0 ≡ v = ap (λ (x : ℤ × ℕ). x.0) j_is' in
    elim (cases_lt i j) [
      | inl under ↦ let h : (get_or ps i e).0 <ℤ (get_or ps j e).0 = rising i j e under j_in in absurd (omega (arith, ints))
      | inr from ↦ elim (cases_lt j i) [
        | inl over ↦ let h : (get_or ps j e).0 <ℤ (get_or ps i e).0 = rising j i e over i_in in absurd (omega (arith, ints))
        | inr same ↦
            let eq : i ≡ j = omega arith in
            ap (λ (x : ℤ × ℕ). x.1) (sym i_is) ∙ ap (λ (m : ℕ). (get_or ps m e).1) eq ∙ ap (λ (x : ℤ × ℕ). x.1) j_is'
      ]
    ]

-- a cut has one place
StandsAt-one_place : (cut : Cut) (ps all : List (ℤ × ℕ)) (len p q : ℕ) → IsAmong ps all → IsRising all → StandsAt cut ps len p → StandsAt cut ps len q → p ≡ q
StandsAt-one_place Start ps all len p q among rising here there = here ∙ sym there
StandsAt-one_place (At v) ps all len p q among rising here there = Contains-one_place v p q all rising (among (v, p) here) (among (v, q) there)
StandsAt-one_place End ps all len p q among rising here there = here ∙ sym there

-- and a range one answer
pub IsAnswer-one : (c : ColumnState) (all : List (ℤ × ℕ)) (range : Range) (a b : ℕ × ℕ) → IsAmong c.pivots all → IsRising all → IsAnswer c range a → IsAnswer c range b → (a.0 ≡ b.0) × (a.1 ≡ b.1)
IsAnswer-one c all range a b among rising here there =
    elim (cases_Bool (is_before (low_cut range) (high_cut range))) [
      | inl order ↦
          let s : IsSettled c range a = rw order at here in
          let t : IsSettled c range b = rw order at there in (
            StandsAt-one_place (low_cut range) c.pivots all (length c.rows) a.0 b.0 among rising s.low t.low,
            StandsAt-one_place (high_cut range) c.pivots all (length c.rows) a.1 b.1 among rising s.high t.high,
          )
      | inr reversed ↦
          let s : a ≡ (0, 0) = rw reversed at here in
          let t : b ≡ (0, 0) = rw reversed at there in
          (ap (λ (x : ℕ × ℕ). x.0) (s ∙ sym t), ap (λ (x : ℕ × ℕ). x.1) (s ∙ sym t))
    ]

-- what a search for a pivot finds is its one place
pub found-exact : (r : Option ℕ) (u v : ℤ) (place : ℕ) (ps : List (ℤ × ℕ)) → u ≡ v → IsRising ps → MatchOption r (IsNewValue u ps) (λ p. Contains ps (u, p))
    → Contains ps (v, place) → r ≡ Some place
found-exact None u v place ps same rising new (k, within, is) =
    absurd (new k (v, place) within (ap (λ (x : ℤ × ℕ). x.0) is ∙ sym same))
found-exact (Some p) u v place ps same rising found there =
    ap Some (Contains-one_place v p place ps rising (subst (λ (w : ℤ). Contains ps (w, p)) same found) there)

-- where a selection answers, both cuts have their places and nothing waits
pub IsSettled-selected : {E : Type 0} (r : Result (ℕ × ℕ) E) (c : ColumnState) (range : Range) → IfOk r (λ a. StandsAt (low_cut range) c.pivots (length c.rows) a.0)
    → IfOk r (λ a. StandsAt (high_cut range) c.pivots (length c.rows) a.1) → OnOk r (NoneIn range c.insertions) → OnOk r (NoneIn range c.deletions) → IfOk r (λ a. IsSettled c range a)
IsSettled-selected (Err e) c range low high insertions deletions = tt
IsSettled-selected (Ok a) c range low high insertions deletions = record {
  low = low;
  high = high;
  insertions = insertions;
  deletions = deletions;
}

-- the answer of a selection
pub IsAnswer-selected : {E : Type 0} (r : Result (ℕ × ℕ) E) (c : ColumnState) (range : Range) → (is_before (low_cut range) (high_cut range) ≡ false → r ≡ Ok (0, 0))
    → (is_before (low_cut range) (high_cut range) ≡ true → IfOk r (λ a. IsSettled c range a)) → IfOk r (λ a. IsAnswer c range a)
IsAnswer-selected (Err e) c range empty settled = tt
IsAnswer-selected (Ok a) c range empty settled =
    elim (cases_Bool (is_before (low_cut range) (high_cut range))) [
      | inl order ↦ let s : IsSettled c range a = settled order in rw order s
      | inr reversed ↦
          let e = empty reversed in
          let same : a ≡ (0, 0) = cc in
          rw reversed same
    ]

-- what an answer tells of the rows
pub HoldsRange-answer : (c : ColumnState) (all : List (ℤ × ℕ)) (range : Range) (a : ℕ × ℕ) → CutsPart range → IsAmong c.pivots all → ObeysPivots all c.rows → IsScored c.rows → IsScored c.insertions → IsAnswer c range a → HoldsRange c range a
HoldsRange-answer c all range a cuts among law scored_rows scored_insertions answer =
    elim (cases_Bool (is_before (low_cut range) (high_cut range))) [
      | inl order ↦ let s : IsSettled c range a = rw order at answer in HoldsRange-settled c all range a cuts among law scored_rows order s
      | inr reversed ↦
          let same : a ≡ (0, 0) = rw reversed at answer in
          subst (λ (b : ℕ × ℕ). HoldsRange c range b) (sym same) (HoldsRange-empty c range cuts scored_rows scored_insertions reversed)
    ]

pub HoldsRange-selected : {E : Type 0} (r : Result (ℕ × ℕ) E) (c : ColumnState) (all : List (ℤ × ℕ)) (range : Range) → CutsPart range → IsAmong c.pivots all → ObeysPivots all c.rows → IsScored c.rows → IsScored c.insertions
    → IfOk r (λ a. IsAnswer c range a) → IfOk r (λ a. HoldsRange c range a)
HoldsRange-selected (Err e) c all range cuts among law scored_rows scored_insertions answer = tt
HoldsRange-selected (Ok a) c all range cuts among law scored_rows scored_insertions answer = HoldsRange-answer c all range a cuts among law scored_rows scored_insertions answer

-- the answer of a column whose cuts have their places and where nothing waits in the range
pub IsAnswer-ready : (r : Option (ℕ × ℕ)) (c : ColumnState) (range : Range) → is_before (low_cut range) (high_cut range) ≡ true
    → IfSome r (λ a. StandsAt (low_cut range) c.pivots (length c.rows) a.0) → IfSome r (λ a. StandsAt (high_cut range) c.pivots (length c.rows) a.1)
    → OnSome r (NoneIn range c.insertions) → OnSome r (NoneIn range c.deletions) → IfSome r (λ a. IsAnswer c range a)
IsAnswer-ready None c range order low high insertions deletions = tt
IsAnswer-ready (Some a) c range order low high insertions deletions =
    let s : IsSettled c range a = record { low = low; high = high; insertions = insertions; deletions = deletions } in
    rw order s

pub HoldsRange-ready : (r : Option (ℕ × ℕ)) (c : ColumnState) (all : List (ℤ × ℕ)) (range : Range) → CutsPart range → IsAmong c.pivots all → ObeysPivots all c.rows → IsScored c.rows → IsScored c.insertions
    → IfSome r (λ a. IsAnswer c range a) → IfSome r (λ a. HoldsRange c range a)
HoldsRange-ready None c all range cuts among law scored_rows scored_insertions answer = tt
HoldsRange-ready (Some a) c all range cuts among law scored_rows scored_insertions answer = HoldsRange-answer c all range a cuts among law scored_rows scored_insertions answer

-- the pivots of a selection
pub AddsCuts-selected : {E : Type 0} (r : Result (ℕ × ℕ) E) (range : Range) (old new : List (ℤ × ℕ))
    → (is_before (low_cut range) (high_cut range) ≡ true
    → OnOk r (pivots_with_cuts range old ≤ 4096 → IsPermutation (new_values (high_cut range) (values old) ++ (new_values (low_cut range) (values old) ++ values old)) (values new)))
    → (is_before (low_cut range) (high_cut range) ≡ true
    → OnOk r (4096 < pivots_with_cuts range old → IsPermutation (cut_values (high_cut range) ++ cut_values (low_cut range)) (values new)))
    → OnOk r (is_before (low_cut range) (high_cut range) ≡ true → AddsCuts range old new)
AddsCuts-selected (Err e) range old new kept cleared = tt
AddsCuts-selected (Ok a) range old new kept cleared = λ order. record {
  kept = kept order;
  cleared = cleared order;
}

-- what a selection does to the column
pub Selects-selected : {E : Type 0} (r : Result (ℕ × ℕ) E) (old new : ColumnState) (range : Range) → SameOutside range old.insertions new.insertions → SameOutside range old.deletions new.deletions
    → OnOk r (is_before (low_cut range) (high_cut range) ≡ true → AddsCuts range old.pivots new.pivots)
    → (is_before (low_cut range) (high_cut range) ≡ false → IsUnchanged old new)
    → OnOk r (pivots_with_cuts range old.pivots ≤ 4096 → NoneIn range old.insertions → NoneIn range old.deletions → StandsStill range old new)
    → OnOk r (Selects range old new)
Selects-selected (Err e) old new range insertions deletions pivots empty still = tt
Selects-selected (Ok a) old new range insertions deletions pivots empty still = record {
  waiting_insertions = insertions;
  waiting_deletions = deletions;
  pivots = pivots;
  empty = empty;
  still = still;
}
