-- Lists of the rows of a part that have P, where the others have Q: what a longer part, swaps and a row at its end do to them.
use Rattle.std.proofs.Common.{◌≡◌, ℕ, ℤ, ◌<◌, ◌≤◌, ◌+◌, List, [], ◌∷◌, ◌++◌, inl, inr, get_or, subst, take, drop, length, arith}
use Rattle.std.proofs.lemmas.Grind.{common_steps}
use Rattle.std.specs.List.{AllWithin, HoldsAt, SwappedAt}
use Rattle.std.proofs.lemmas.Bool.{cases_lt}
use Rattle.std.proofs.lemmas.List.Elements.{AllWithin-more}
use Rattle.crack_kernel.specs.PartedRows.{Lists, ListsDown}
use Rattle.crack_kernel.proofs.PartMoves.{AllWithin-swapped}

abbrev pub Row : Type 0
Row = ℤ × List ℕ

abbrev pub Rows : Type 0
Rows = List Row

-- P holds from low up to mid, and from mid up to high
pub joined : {X : Type 0} (P : X → Type 0) (xs : List X) (low mid high : ℕ) → AllWithin P xs low mid → AllWithin P xs mid high → AllWithin P xs low high
joined P xs low mid high one other k d from to = elim (cases_lt k mid) [
  | inl less ↦ one k d from less
  | inr more ↦ other k d more to
]

-- a swap of a place before a part and one behind it
around : (Q : Row → Type 0) (xs ys : Rows) (i j from to : ℕ) → SwappedAt xs ys i j → i < from → to ≤ j → AllWithin Q xs from to → AllWithin Q ys from to
around Q xs ys i j from to swapped before behind all =
    AllWithin-swapped Q xs ys i j from to swapped (λ k d l h ni nj. all k d l h) (λ l h n d. absurd (omega arith)) (λ l h d. absurd (omega arith))

-- a part that begins further down, with rows that have Q there
pub stretched : (P Q : Row → Type 0) (rows : Rows) (places : List ℕ) (low from to : ℕ) → low ≤ from → AllWithin Q rows low from → Lists P Q rows places from to → Lists P Q rows places low to
stretched P Q rows [] low from to le more lists = joined Q rows low from to more lists
stretched P Q rows (p ∷ places) low from to le more lists =
    (omega (arith, lists.0), lists.1, joined Q rows low from p more lists.2, lists.3, lists.4)

-- a part that ends further up, with rows that have Q there
pub stretched_up : (P Q : Row → Type 0) (rows : Rows) (places : List ℕ) (from to high : ℕ) → to ≤ high → AllWithin Q rows to high → ListsDown P Q rows places from to → ListsDown P Q rows places from high
stretched_up P Q rows [] from to high le more lists = joined Q rows from to high lists more
stretched_up P Q rows (p ∷ places) from to high le more lists =
    (lists.0, omega (arith, lists.1), joined Q rows (p + 1) to high lists.2 more, lists.3, lists.4)

-- a swap of two places before the part
pub swapped_before : (P Q : Row → Type 0) (xs ys : Rows) (i j : ℕ) (places : List ℕ) (from to : ℕ) → SwappedAt xs ys i j → i < from → j < from → Lists P Q xs places from to → Lists P Q ys places from to
swapped_before P Q xs ys i j [] from to swapped li lj lists =
    AllWithin-swapped Q xs ys i j from to swapped (λ k d l h ni nj. lists k d l h) (λ l h n d. absurd (omega arith)) (λ l h d. absurd (omega arith))
swapped_before P Q xs ys i j (p ∷ places) from to swapped li lj lists =
    let start : from ≤ p = lists.0 in
    let rest : AllWithin Q ys from p = AllWithin-swapped Q xs ys i j from p swapped (λ k d l h ni nj. lists.2 k d l h) (λ l h n d. absurd (omega arith)) (λ l h d. absurd (omega arith)) in
    let at : HoldsAt P ys p = λ d. rw (swapped.2 p d (λ e. absurd (omega arith)) (λ e. absurd (omega arith))) (lists.3 d) in
    (start, lists.1, rest, at, swapped_before P Q xs ys i j places (p + 1) to swapped (omega arith) (omega arith) lists.4)

-- a swap of a place before the part and one behind it
pub swapped_around : (P Q : Row → Type 0) (xs ys : Rows) (i j : ℕ) (places : List ℕ) (from to : ℕ) → SwappedAt xs ys i j → i < from → to ≤ j → Lists P Q xs places from to → Lists P Q ys places from to
swapped_around P Q xs ys i j [] from to swapped before behind lists = around Q xs ys i j from to swapped before behind lists
swapped_around P Q xs ys i j (p ∷ places) from to swapped before behind lists =
    let start : from ≤ p = lists.0 in
    let under : p < to = lists.1 in
    let at : HoldsAt P ys p = λ d. rw (swapped.2 p d (λ e. absurd (omega arith)) (λ e. absurd (omega arith))) (lists.3 d) in
    (start, under, around Q xs ys i j from p swapped before (omega arith) lists.2, at, swapped_around P Q xs ys i j places (p + 1) to swapped (omega arith) behind lists.4)

pub swapped_around_down : (P Q : Row → Type 0) (xs ys : Rows) (i j : ℕ) (places : List ℕ) (from to : ℕ) → SwappedAt xs ys i j → i < from → to ≤ j → ListsDown P Q xs places from to → ListsDown P Q ys places from to
swapped_around_down P Q xs ys i j [] from to swapped before behind lists = around Q xs ys i j from to swapped before behind lists
swapped_around_down P Q xs ys i j (p ∷ places) from to swapped before behind lists =
    let start : from ≤ p = lists.0 in
    let under : p < to = lists.1 in
    let at : HoldsAt P ys p = λ d. rw (swapped.2 p d (λ e. absurd (omega arith)) (λ e. absurd (omega arith))) (lists.3 d) in
    (start, under, around Q xs ys i j (p + 1) to swapped (omega arith) behind lists.2, at, swapped_around_down P Q xs ys i j places from p swapped before (omega arith) lists.4)

-- the lowest row that has P changes places with one behind the part that has Q
pub exchanged : (P Q : Row → Type 0) (xs ys : Rows) (p j : ℕ) (places : List ℕ) (from to : ℕ) → SwappedAt xs ys p j → to ≤ j → HoldsAt Q xs j → Lists P Q xs (p ∷ places) from to → Lists P Q ys places from to
exchanged P Q xs ys p j places from to swapped behind holds lists =
    let start : from ≤ p = lists.0 in
    let under : p < to = lists.1 in
    let passed : AllWithin Q ys from (p + 1) = AllWithin-swapped Q xs ys p j from (p + 1) swapped (λ k d l h ni nj. lists.2 k d l (omega arith)) (λ l h n d. holds d) (λ l h d. absurd (omega arith)) in
    stretched P Q ys places from (p + 1) to (omega arith) passed (swapped_around P Q xs ys p j places (p + 1) to swapped (omega arith) behind lists.4)

-- the highest row that has P changes places with one before the part that has Q
pub exchanged_down : (P Q : Row → Type 0) (xs ys : Rows) (i p : ℕ) (places : List ℕ) (from to : ℕ) → SwappedAt xs ys i p → i < from → HoldsAt Q xs i → ListsDown P Q xs (p ∷ places) from to → ListsDown P Q ys places from to
exchanged_down P Q xs ys i p places from to swapped before holds lists =
    let start : from ≤ p = lists.0 in
    let under : p < to = lists.1 in
    let passed : AllWithin Q ys p to = AllWithin-swapped Q xs ys i p p to swapped (λ k d l h ni nj. lists.2 k d (omega arith) h) (λ l h n d. absurd (omega arith)) (λ l h d. holds d) in
    stretched_up P Q ys places from p to (omega arith) passed (swapped_around_down P Q xs ys i p places from p swapped before (omega arith) lists.4)

-- one more row that has Q
pub one_other : (P Q : Row → Type 0) (rows : Rows) (places : List ℕ) (from i : ℕ) → Lists P Q rows places from i → HoldsAt Q rows i → Lists P Q rows places from (i + 1)
one_other P Q rows [] from i lists at = AllWithin-more Q rows from i lists at
one_other P Q rows (p ∷ places) from i lists at =
    (lists.0, omega (arith, lists.1), lists.2, lists.3, one_other P Q rows places (p + 1) i lists.4 at)

-- one more row that has P
pub one_more : (P Q : Row → Type 0) (rows : Rows) (places : List ℕ) (from i : ℕ) → from ≤ i → Lists P Q rows places from i → HoldsAt P rows i → Lists P Q rows (places ++ i ∷ []) from (i + 1)
one_more P Q rows [] from i le lists at = (le, omega arith, lists, at, (λ k d l h. absurd (omega arith)))
one_more P Q rows (p ∷ places) from i le lists at =
    (lists.0, omega (arith, lists.1), lists.2, lists.3, one_more P Q rows places (p + 1) i (omega (arith, lists.1)) lists.4 at)

-- one row further down that has Q
pub one_other_down : (P Q : Row → Type 0) (rows : Rows) (places : List ℕ) (i to : ℕ) → ListsDown P Q rows places (i + 1) to → HoldsAt Q rows i → ListsDown P Q rows places i to
one_other_down P Q rows [] i to lists at = λ k d from under.
    elim (cases_lt i k) [
      | inl more ↦ lists k d (omega arith) under
      | inr same ↦ subst (λ (n : ℕ). Q (get_or rows n d)) (omega arith) (at d)
    ]
one_other_down P Q rows (p ∷ places) i to lists at =
    (omega (arith, lists.0), lists.1, lists.2, lists.3, one_other_down P Q rows places i p lists.4 at)

-- one row further down that has P
pub one_more_down : (P Q : Row → Type 0) (rows : Rows) (places : List ℕ) (i to : ℕ) → i < to → ListsDown P Q rows places (i + 1) to → HoldsAt P rows i → ListsDown P Q rows (places ++ i ∷ []) i to
one_more_down P Q rows [] i to lt lists at = (omega arith, lt, lists, at, (λ k d l h. absurd (omega arith)))
one_more_down P Q rows (p ∷ places) i to lt lists at =
    (omega (arith, lists.0), lists.1, lists.2, lists.3, one_more_down P Q rows places i p (omega (arith, lists.0)) lists.4 at)

-- the first of the places that are left
pub first_left : (F : List ℕ → Type 0) (found : List ℕ) (count i : ℕ) → i < count → count ≤ length found → F (drop i (take count found)) → F (get_or found i 0 ∷ drop (i + 1) (take count found))
first_left F found count i less le left =
    let is : drop i (take count found) ≡ get_or found i 0 ∷ drop (i + 1) (take count found) = grind (arith, common_steps) in
    subst F is left
