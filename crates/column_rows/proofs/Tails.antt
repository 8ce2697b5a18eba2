-- The rows that wait in a range, gathered at the end of a list.
use Rattle.std.proofs.Common.{◌≡◌, ℕ, zero, suc, refl, [], ◌∷◌, true, false, not, ◌&&◌, ◌+◌, ◌≤◌, ℤ, List, length, get_or, take, drop, count_by, sym, ◌∙◌, ap, arith, IsPermutation}
use Rattle.std.specs.List.{AllWithin, list_any}
use Rattle.std.proofs.lemmas.List.{length-drop, get_or-drop, get_or-take, take-append-drop}
use Rattle.std.proofs.lemmas.List.Sorted.{IsPermutation-refl}
use Rattle.score_bounds.specs.declared.ranges_and_cuts.Range.{Range}
use Rattle.crack_kernel.specs.RowBag.{Test, IsSubBag}
use Rattle.column_rows.specs.Content.{has_score_in, NoneIn, SameOutside}
use Rattle.column_rows.specs.MergeGap.{TakenFrom}
use Rattle.column_rows.specs.MergeEffects.{HasLast}
use Rattle.column_rows.proofs.Counts.{and_not, count_moved, count_none, count_all, count_split}
use Rattle.column_rows.proofs.Blanks.{count_append}

count_parts : (q : Test) (n : ℕ) (xs : List (ℤ × List ℕ)) → count_by q xs ≡ count_by q (take n xs) + count_by q (drop n xs)
count_parts q n xs = ap (λ (z : List (ℤ × List ℕ)). count_by q z) (sym (take-append-drop n xs)) ∙ count_append q (take n xs) (drop n xs)

-- where all rows from an index on pass w, those that fail it stand before
pub count_outside : (p w : Test) (n : ℕ) (xs : List (ℤ × List ℕ)) → n ≤ length xs → AllWithin (λ r. w r ≡ true) xs n (length xs)
    → count_by (λ r. p r && not (w r)) (take n xs) ≡ count_by (λ r. p r && not (w r)) xs
count_outside p w n xs fits tail =
    let q : Test = λ r. p r && not (w r) in
    let none : count_by q (drop n xs) ≡ 0 = count_none q (drop n xs)
    (λ k d l. ap q (get_or-drop n xs k d) ∙ and_not (p (get_or xs (n + k) d)) (w (get_or xs (n + k) d)) (tail (n + k) d (omega arith) (omega (arith, length-drop n xs)))) in
    let parts = count_parts q n xs in
    omega (arith, none, parts)

-- and they are no more than the rows that pass
pub count_within_tail : (w : Test) (n : ℕ) (xs : List (ℤ × List ℕ)) → n ≤ length xs → AllWithin (λ r. w r ≡ true) xs n (length xs) → length xs ≤ n + count_by w xs
count_within_tail w n xs fits tail =
    let fail : Test = λ r. true && not (w r) in
    let none : count_by fail (drop n xs) ≡ 0 = count_none fail (drop n xs)
    (λ k d l. ap fail (get_or-drop n xs k d) ∙ and_not true (w (get_or xs (n + k) d)) (tail (n + k) d (omega arith) (omega (arith, length-drop n xs)))) in
    let split = count_split (λ r. true) w (drop n xs) in
    let both : count_by (λ r. true && w r) (drop n xs) ≤ count_by w (drop n xs) = omega arith in
    let all = count_all (drop n xs) in
    let parts = count_parts w n xs in
    omega (arith, none, split, both, all, parts, length-drop n xs)

-- where the first rows fail a test, any row passes it exactly where one behind them does
pub list_any_behind : (p : Test) (n : ℕ) (xs : List (ℤ × List ℕ)) → AllWithin (λ r. p r ≡ false) xs 0 n → list_any p (drop n xs) ≡ list_any p xs
list_any_behind p zero xs none = refl
list_any_behind p (suc n) [] none = refl
list_any_behind p (suc n) (x ∷ xs) none =
    let head : p x ≡ false = none 0 x (omega arith) (omega arith) in
    rw head (list_any_behind p n xs (λ k d l h. none (suc k) d (omega arith) (omega arith)))

-- what fails w still waits, where the front is the same and no row came
pub SameOutside-tail : (q : Test) (n : ℕ) (old mid new : List (ℤ × List ℕ)) → count_by q (take n mid) ≡ count_by q old → IsPermutation old mid
    → take n new ≡ take n mid → IsSubBag new mid → count_by q new ≡ count_by q old
SameOutside-tail q n old mid new front moved same less =
    let parts = count_parts q n new in
    let here = ap (λ (z : List (ℤ × List ℕ)). count_by q z) same in
    let all = count_moved q old mid moved in
    omega (arith, front, parts, here, all, less q)

-- rows taken from the end leave those without a score in the range, where all behind have one
pub SameOutside-taken : (range : Range) (n : ℕ) (old new : List (ℤ × List ℕ)) → HasLast range old n → TakenFrom n old new → SameOutside range old new
SameOutside-taken range n old new last taken p =
    SameOutside-tail (λ r. p r && not (has_score_in range r)) n old old new
    (count_outside p (has_score_in range) n old last.within last.inside) (IsPermutation-refl old) taken.before taken.less

-- and those before, which have none, are the same
pub outside-taken : (range : Range) (n : ℕ) (old new : List (ℤ × List ℕ)) → HasLast range old n → TakenFrom n old new
    → AllWithin (λ r. has_score_in range r ≡ false) new 0 n
outside-taken range n old new last taken k d low high =
    ap (has_score_in range) (sym (get_or-take n new k d high) ∙ ap (λ (z : List (ℤ × List ℕ)). get_or z k d) taken.before ∙ get_or-take n old k d high)
    ∙ last.outside k d low high

-- a list that ends where rows with a score in the range would begin has none
pub none_last : (range : Range) (n : ℕ) (xs : List (ℤ × List ℕ)) → HasLast range xs n → length xs ≤ n → NoneIn range xs
none_last range n xs last ends k d h = last.outside k d (omega arith) (omega (arith, ends))

-- and where no row has one, it ends there
pub last_none : (range : Range) (n : ℕ) (old xs : List (ℤ × List ℕ)) → IsPermutation old xs → HasLast range xs n → NoneIn range old → length xs ≤ n
last_none range n old xs moved last none =
    let zero = count_none (has_score_in range) old none in
    let same = count_moved (has_score_in range) old xs moved in
    let tail = count_within_tail (has_score_in range) n xs last.within last.inside in
    omega (arith, zero, same, tail)
