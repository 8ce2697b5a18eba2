-- Lemmas for callers: of a column that holds a list of rows, of counts of rows, and of rows that wait.
use Rattle.std.proofs.Common.{◌≡◌, ℕ, ℤ, Bool, true, cond, ◌+◌, ◌<◌, ◌≤◌, List, [], ◌∷◌, ◌++◌, length, get_or, set, count_by, Result, Ok, Err, OnOk, ap, ◌∙◌, arith}
use Rattle.std.proofs.lemmas.List.Sums.{get_or-le-sum_by, sum_by-set, sum_by_push}
use Rattle.crack_kernel.specs.RowBag.{Test}
use Rattle.std.specs.List.{swap_remove}
use Rattle.score_bounds.specs.declared.ranges_and_cuts.Range.{Range}
use Rattle.column_rows.proofs.Counts.{count_and_le, count_none, count_split, count_swapped_out, count_all as all_counted, count_push as push_counted}
use Rattle.column_rows.specs.Content.{ColumnState, HasRow, Holds, NoneIn, SameContent, SameOutside, content_count, has_score_in}

-- the test that each row passes counts all of them
pub count_all : (xs : List (ℤ × List ℕ)) → count_by (λ r. true) xs ≡ length xs
count_all = all_counted

-- a row behind the last one is counted too
pub count_push : (p : Test) (xs : List (ℤ × List ℕ)) (x : ℤ × List ℕ) → count_by p (xs ++ x ∷ []) ≡ count_by p xs + cond (p x) 1 0
count_push = push_counted

-- each row of the list is in the content
pub HasRow-held : (c : ColumnState) (held : List (ℤ × List ℕ)) (i : ℕ) (row : ℤ × List ℕ) → Holds c held → i < length held → get_or held i row ≡ row → HasRow c row
HasRow-held c held i row holds within is p passes =
    let one : cond {A = ℕ} (p (get_or held i row)) 1 0 ≤ count_by p held = get_or-le-sum_by (λ y. cond (p y) 1 0) held i row within in
    let here : cond {A = ℕ} (p (get_or held i row)) 1 0 ≡ 1 = ap (λ (y : ℤ × List ℕ). cond {A = ℕ} (p y) 1 0) is ∙ ap (λ (b : Bool). cond {A = ℕ} b 1 0) passes in
    omega (arith, holds p)

-- the list after one row of it was changed, in the list and in the column
pub Holds-changed : (c1 c2 c3 : ColumnState) (held : List (ℤ × List ℕ)) (i : ℕ) (old new : ℤ × List ℕ) → Holds c1 held → i < length held → get_or held i old ≡ old
    → ((p : Test) → content_count p c1 ≡ content_count p c2 + count_by p (old ∷ [])) → ((p : Test) → content_count p c3 ≡ content_count p c2 + count_by p (new ∷ []))
    → Holds c3 (set held i new)
Holds-changed c1 c2 c3 held i old new holds within is gone come p =
    let moved = sum_by-set (λ (y : ℤ × List ℕ). cond {A = ℕ} (p y) 1 0) held i new old within in
    let here : cond {A = ℕ} (p (get_or held i old)) 1 0 ≡ cond {A = ℕ} (p old) 1 0 = ap (λ (y : ℤ × List ℕ). cond {A = ℕ} (p y) 1 0) is in
    omega (arith, moved, here, holds p, gone p, come p)

-- the list after a row was added to it and to the column
pub Holds-added : (c1 c2 : ColumnState) (held : List (ℤ × List ℕ)) (row : ℤ × List ℕ) → Holds c1 held → ((p : Test) → content_count p c2 ≡ content_count p c1 + count_by p (row ∷ []))
    → Holds c2 (held ++ row ∷ [])
Holds-added c1 c2 held row holds come p =
    let more = sum_by_push (λ (y : ℤ × List ℕ). cond {A = ℕ} (p y) 1 0) held row in
    omega (arith, more, holds p, come p)

-- the list after a row of it was taken out, there and of the column
pub Holds-taken : (c1 c2 : ColumnState) (held left : List (ℤ × List ℕ)) (i : ℕ) (row : ℤ × List ℕ) → Holds c1 held → i < length held → row ≡ get_or held i row → left ≡ swap_remove held i row
    → ((p : Test) → content_count p c1 ≡ content_count p c2 + count_by p (row ∷ [])) → Holds c2 left
Holds-taken c1 c2 held left i row holds within is out gone p =
    let less = count_swapped_out p held left i row within is out in
    omega (arith, less, holds p, gone p)

-- a column of the same content holds the same list
pub Holds-same : (c1 c2 : ColumnState) (held : List (ℤ × List ℕ)) → SameContent c1 c2 → Holds c1 held → Holds c2 held
Holds-same c1 c2 held same holds p = same p ∙ holds p

-- a row of the score and the member of another is that row
pub row-same : (x row : ℤ × List ℕ) (score : ℤ) → x ≡ (score, row.1) → score ≡ row.0 → x ≡ row
row-same x row score is same = is ∙ ap (λ (s : ℤ). (s, row.1)) same

-- what holds in any case holds where a call succeeds
pub OnOk-always : {T E : Type 0} {P : Type 0} (r : Result T E) → P → OnOk r P
OnOk-always (Ok x) holds = holds
OnOk-always (Err e) holds = tt

-- with no row in the range on either side, as many rows wait as before
pub length_outside : (range : Range) (xs ys : List (ℤ × List ℕ)) → SameOutside range xs ys → NoneIn range xs → NoneIn range ys → length ys ≡ length xs
length_outside range xs ys same none none' =
    let all : Test = λ r. true in
    let split = count_split all (has_score_in range) xs in
    let split' = count_split all (has_score_in range) ys in
    let inside = count_and_le all (has_score_in range) xs in
    let inside' = count_and_le all (has_score_in range) ys in
    let nothing = count_none (has_score_in range) xs none in
    let nothing' = count_none (has_score_in range) ys none' in
    omega (arith, all_counted xs, all_counted ys, split, split', inside, inside', nothing, nothing', same all)
