-- The least pairs of a list, kept while its pairs come one by one.
use Rattle.std.proofs.Common.{◌≡◌, ℕ, ◌<◌, ◌≤◌, zero, true, false, List, [], ◌∷◌, ◌++◌, length, get_or, All, IsPermutation, refl, sym, ap, subst, ◌∙◌, arith, append_assoc, append-nil, length-append, is_lt, Ordering, Less, Equal, Greater}
use Rattle.std.specs.List.{AllByRecursion}
use Rattle.std.specs.Ordering.{ordering_reverse}
use Rattle.std.proofs.lemmas.List.{length-map}
use Rattle.std.proofs.lemmas.List.Elements.{All-nil, All-cons}
use Rattle.std.proofs.lemmas.List.Sorted.{IsPermutation-map, IsPermutation-refl, IsPermutation-trans, IsPermutation-sym, IsPermutation-cons, IsPermutation-middle, IsPermutation-push_more, IsPermutation-append_left, length_permutation}
use Rattle.zset_core.specs.SortedSet.{Pair, pair_cmp}
use Rattle.sorted_sets.specs.BorrowedListingPairs.{Shown, pair_of, pairs_of, shown_cmp}
use Rattle.sorted_sets.specs.WindowPieces.{ComesBefore, HasLeast, IsPart}
use Rattle.sorted_sets.proofs.Order.{pair_total}
use Rattle.sorted_sets.proofs.Ranks.{before_right, before_none, none_before, both_before, moved_before, lifted}

-- ---- two pairs
-- what stands behind another is not before it
not_before : (x g : Pair) → is_lt (pair_cmp x g) ≡ true → is_lt (pair_cmp g x) ≡ false
not_before x g under = by (pair_cmp x g) refl
  where
    by : (o : Ordering) → pair_cmp x g ≡ o → is_lt (pair_cmp g x) ≡ false
    by Less is = ap is_lt (pair_total.antisymm g x ∙ ap ordering_reverse is)
    by Equal is = let no : false ≡ true = sym (ap is_lt is) ∙ under in cc
    by Greater is = let no : false ≡ true = sym (ap is_lt is) ∙ under in cc

-- what is not before a pair is not before one that stands before it
not_before_lower : (y x g : Pair) → is_lt (pair_cmp x g) ≡ true → is_lt (pair_cmp y g) ≡ false → is_lt (pair_cmp y x) ≡ false
not_before_lower y x g under over = lifted y g x (not_before x g under) over

-- ---- one more pair
-- where there is room, it is one of the least
pub least_room : (all part new : List Pair) (count : ℕ) (x : Pair) → HasLeast all count part → length part < count → IsPermutation (x ∷ part) new → HasLeast (all ++ x ∷ []) count new
least_room all part new count x least room moved =
    let whole : length (part ++ least.others) ≡ length all = length_permutation all (part ++ least.others) least.together in
    let none : least.others ≡ [] = nothing least.others (omega (arith, whole, length-append part least.others, least.many)) in
    let same : IsPermutation all part = subst (IsPermutation all) (append-nil part) (subst (λ (o : List Pair). IsPermutation all (part ++ o)) none least.together) in
    let long : length new ≡ length (x ∷ part) = length_permutation (x ∷ part) new moved in record {
      others = [];
      together = subst (IsPermutation (all ++ x ∷ [])) (sym (append-nil new)) (IsPermutation-push_more all part new x same moved);
      many = omega (arith, long, least.many, length-append all (x ∷ []));
      part_others = before_none new;
    }
  where
    nothing : (xs : List Pair) → length xs ≡ 0 → xs ≡ []
    nothing [] e = refl
    nothing (y ∷ ys) e = absurd (omega (arith, e))

-- where none of as many stands behind it, it is one of the others
pub least_kept : (all part : List Pair) (count : ℕ) (x : Pair) → HasLeast all count part → length part ≡ count → ComesBefore part (x ∷ []) → HasLeast (all ++ x ∷ []) count part
least_kept all part count x least full up = record {
  others = least.others ++ x ∷ [];
  together = subst (IsPermutation (all ++ x ∷ [])) (append_assoc part least.others (x ∷ [])) (IsPermutation-append_left (x ∷ []) all (part ++ least.others) least.together);
  many = omega (arith, full, least.many, length-append all (x ∷ []));
  part_others = both_before part least.others (x ∷ []) least.part_others up;
}

-- where it stands before the greatest of as many, it takes the place of that one
pub least_changed : (all part rest new : List Pair) (count : ℕ) (x greatest : Pair) → HasLeast all count part → length part ≡ count → IsPermutation part (greatest ∷ rest)
    → ComesBefore rest (greatest ∷ []) → is_lt (pair_cmp x greatest) ≡ true → IsPermutation (x ∷ rest) new → HasLeast (all ++ x ∷ []) count new
least_changed all part rest new count x greatest least full popped up under moved =
    let others : List Pair = least.others in
    let long : length new ≡ length (x ∷ rest) = length_permutation (x ∷ rest) new moved in
    let one_less : length (greatest ∷ rest) ≡ length part = length_permutation part (greatest ∷ rest) popped in
    let old : ComesBefore (greatest ∷ rest) others = moved_before part (greatest ∷ rest) others popped least.part_others in
    let top : All (λ y. is_lt (pair_cmp y greatest) ≡ false) others = old zero greatest (omega arith) in
    let behind : ComesBefore rest (greatest ∷ others) = both_before rest (greatest ∷ []) others up (before_right (greatest ∷ []) rest others old) in
    let here : All (λ y. is_lt (pair_cmp y x) ≡ false) (greatest ∷ others) =
    All-cons (λ y. is_lt (pair_cmp y x) ≡ false) greatest others (not_before x greatest under) (λ k d lt. not_before_lower _ x greatest under (top k d lt)) in
    let first : IsPermutation all (greatest ∷ (rest ++ others)) =
    IsPermutation-trans all (part ++ others) (greatest ∷ (rest ++ others)) least.together (IsPermutation-append_left others part (greatest ∷ rest) popped) in
    let turned : IsPermutation (x ∷ (greatest ∷ (rest ++ others))) (x ∷ (rest ++ greatest ∷ others)) =
    IsPermutation-cons x (greatest ∷ (rest ++ others)) (rest ++ greatest ∷ others) (IsPermutation-sym (rest ++ greatest ∷ others) (greatest ∷ (rest ++ others)) (IsPermutation-middle rest greatest others)) in
    let then : IsPermutation (x ∷ (greatest ∷ (rest ++ others))) (new ++ greatest ∷ others) =
    IsPermutation-trans (x ∷ (greatest ∷ (rest ++ others))) (x ∷ (rest ++ greatest ∷ others)) (new ++ greatest ∷ others) turned (IsPermutation-append_left (greatest ∷ others) (x ∷ rest) new moved) in record {
      others = greatest ∷ others;
      together = IsPermutation-push_more all (greatest ∷ (rest ++ others)) (new ++ greatest ∷ others) x first then;
      many = omega (arith, long, one_less, full, least.many, length-append all (x ∷ []));
      part_others = moved_before (x ∷ rest) new (greatest ∷ others) moved
          (All-cons (λ z. All (λ y. is_lt (pair_cmp y z) ≡ false) (greatest ∷ others)) x rest here behind);
    }

-- ---- what a heap says of its greatest
pub rows_before : (x : Shown) (rows : List Shown) → AllByRecursion (λ y. is_lt (shown_cmp x y) ≡ false) rows → ComesBefore (pairs_of rows) (pair_of x ∷ [])
rows_before x [] up = none_before (pair_of x ∷ [])
rows_before x (r ∷ rows) up =
    All-cons (λ z. All (λ y. is_lt (pair_cmp y z) ≡ false) (pair_of x ∷ [])) (pair_of r) (pairs_of rows)
    (All-cons (λ y. is_lt (pair_cmp y (pair_of r)) ≡ false) (pair_of x) [] up.0 (All-nil (λ y. is_lt (pair_cmp y (pair_of r)) ≡ false)))
    (rows_before x rows up.1)

-- what is not before the greatest is before no row
pub over_greatest : (x greatest : Shown) (rows : List Shown) → is_lt (shown_cmp x greatest) ≡ false → AllByRecursion (λ y. is_lt (shown_cmp greatest y) ≡ false) rows
    → AllByRecursion (λ y. is_lt (shown_cmp x y) ≡ false) rows
over_greatest x greatest [] over up = tt
over_greatest x greatest (r ∷ rows) over up = (lifted (pair_of x) (pair_of greatest) (pair_of r) up.0 over, over_greatest x greatest rows over up.1)

-- ---- the least as a part
pub no_least : (count : ℕ) → HasLeast [] count []
no_least count = record { others = []; together = IsPermutation-refl []; many = omega arith; part_others = none_before [] }

pub all_least : (all : List Pair) → HasLeast all (length all) all
all_least all = record {
  others = [];
  together = subst (IsPermutation all) (sym (append-nil all)) (IsPermutation-refl all);
  many = omega arith;
  part_others = before_none all;
}

pub IsPart-least : (all part : List Pair) (count : ℕ) → HasLeast all count part → IsPart all 0 (length part) part
IsPart-least all part count least = record {
  front = [];
  back = least.others;
  together = least.together;
  first = refl;
  last = omega arith;
  front_part = none_before part;
  front_back = none_before least.others;
  part_back = least.part_others;
}

-- ---- a heap's rows
first_is : (rows : List Shown) (x greatest : Shown) → 0 < length rows → greatest ≡ get_or rows 0 greatest → get_or rows 0 x ≡ greatest
first_is [] x greatest some is = absurd (omega arith)
first_is (row ∷ rows) x greatest some is = sym is

-- a row is put into a heap with room
pub row_added : (all : List Pair) (count : ℕ) (old new : List Shown) (x : Shown) → length old < count → IsPermutation (x ∷ old) new → HasLeast all count (pairs_of old)
    → HasLeast (all ++ pair_of x ∷ []) count (pairs_of new)
row_added all count old new x room moved least =
    least_room all (pairs_of old) (pairs_of new) count (pair_of x) least (omega (arith, room, length-map old pair_of)) (IsPermutation-map pair_of (x ∷ old) new moved)

-- a row is before none of a full heap
pub row_passed : (all : List Pair) (count : ℕ) (old : List Shown) (x : Shown) → count ≤ length old → AllByRecursion (λ y. is_lt (shown_cmp x y) ≡ false) old → HasLeast all count (pairs_of old)
    → HasLeast (all ++ pair_of x ∷ []) count (pairs_of old)
row_passed all count old x full up least =
    least_kept all (pairs_of old) count (pair_of x) least (omega (arith, full, least.many, length-map old pair_of)) (rows_before x old up)

-- a row takes the place of the greatest of a full heap
pub row_changed : (all : List Pair) (count : ℕ) (old rest new : List Shown) (x greatest : Shown) → count ≤ length old → greatest ≡ get_or old 0 greatest → IsPermutation old (greatest ∷ rest)
    → AllByRecursion (λ y. is_lt (shown_cmp greatest y) ≡ false) rest → is_lt (shown_cmp x (get_or old 0 x)) ≡ true → IsPermutation (x ∷ rest) new → HasLeast all count (pairs_of old)
    → HasLeast (all ++ pair_of x ∷ []) count (pairs_of new)
row_changed all count old rest new x greatest full is popped up under moved least =
    let long : length (greatest ∷ rest) ≡ length old = length_permutation old (greatest ∷ rest) popped in
    let below : is_lt (shown_cmp x greatest) ≡ true = sym (ap (λ (y : Shown). is_lt (shown_cmp x y)) (first_is old x greatest (omega (arith, long)) is)) ∙ under in
    least_changed all (pairs_of old) (pairs_of rest) (pairs_of new) count (pair_of x) (pair_of greatest) least (omega (arith, full, least.many, length-map old pair_of))
    (IsPermutation-map pair_of old (greatest ∷ rest) popped) (rows_before greatest rest up) below (IsPermutation-map pair_of (x ∷ rest) new moved)
