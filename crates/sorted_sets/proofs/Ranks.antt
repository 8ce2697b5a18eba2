-- Parts of a list of pairs by their ranks in a listing: parts of parts, and what a selection leaves.
use Rattle.std.proofs.Common.{◌≡◌, ℕ, ◌+◌, true, false, List, [], ◌∷◌, ◌++◌, length, get_or, All, IsPermutation, refl, sym, ap, subst, ◌∙◌, arith, append_assoc, append-nil, length-append, get_or-append-add, is_lt, Ordering, Less, Equal, Greater}
use Rattle.std.specs.Ordering.{ordering_reverse}
use Rattle.std.specs.List.Sorted.{IsSplitAround}
use Rattle.std.proofs.lemmas.List.{get_or_append_left, map-append, length-map}
use Rattle.std.proofs.lemmas.List.Elements.{All-nil, All-cons, All-append, All-map}
use Rattle.std.proofs.lemmas.List.Sorted.{All-permutation, IsPermutation-refl, IsPermutation-trans, IsPermutation-map, IsPermutation-append_left, IsPermutation-append_right, length_permutation}
use Rattle.zset_core.specs.SortedSet.{Pair, pair_cmp}
use Rattle.sorted_sets.specs.BorrowedListingPairs.{Shown, pair_of, pairs_of, shown_cmp}
use Rattle.sorted_sets.specs.WindowPieces.{ComesBefore, IsPart}
use Rattle.sorted_sets.proofs.Order.{pair_total, pair_exact}

module _ {X : Type 0} where
  pub All-left : (P : X → Type 0) (xs ys : List X) → All P (xs ++ ys) → All P xs
  All-left P xs ys all k d lt =
      let long : length (xs ++ ys) ≡ length xs + length ys = length-append xs ys in
      subst P (get_or_append_left xs ys d k lt) (all k d (omega arith))

  pub All-right : (P : X → Type 0) (xs ys : List X) → All P (xs ++ ys) → All P ys
  All-right P xs ys all k d lt =
      let long : length (xs ++ ys) ≡ length xs + length ys = length-append xs ys in
      subst P (get_or-append-add xs ys k d) (all (length xs + k) d (omega arith))

-- ---- pairs that come before others
pub before_both : (xs ys zs : List Pair) → ComesBefore xs zs → ComesBefore ys zs → ComesBefore (xs ++ ys) zs
before_both xs ys zs = All-append (λ x. All (λ y. is_lt (pair_cmp y x) ≡ false) zs) xs ys

pub both_before : (xs ys zs : List Pair) → ComesBefore xs ys → ComesBefore xs zs → ComesBefore xs (ys ++ zs)
both_before xs ys zs b c k d lt = All-append (λ y. is_lt (pair_cmp y (get_or xs k d)) ≡ false) ys zs (b k d lt) (c k d lt)

pub before_left : (xs ys zs : List Pair) → ComesBefore (xs ++ ys) zs → ComesBefore xs zs
before_left xs ys zs = All-left (λ x. All (λ y. is_lt (pair_cmp y x) ≡ false) zs) xs ys

pub before_right : (xs ys zs : List Pair) → ComesBefore (xs ++ ys) zs → ComesBefore ys zs
before_right xs ys zs = All-right (λ x. All (λ y. is_lt (pair_cmp y x) ≡ false) zs) xs ys

pub left_before : (xs ys zs : List Pair) → ComesBefore xs (ys ++ zs) → ComesBefore xs ys
left_before xs ys zs b k d lt = All-left (λ y. is_lt (pair_cmp y (get_or xs k d)) ≡ false) ys zs (b k d lt)

pub right_before : (xs ys zs : List Pair) → ComesBefore xs (ys ++ zs) → ComesBefore xs zs
right_before xs ys zs b k d lt = All-right (λ y. is_lt (pair_cmp y (get_or xs k d)) ≡ false) ys zs (b k d lt)

pub moved_before : (xs xs' ys : List Pair) → IsPermutation xs xs' → ComesBefore xs ys → ComesBefore xs' ys
moved_before xs xs' ys = All-permutation (λ x. All (λ y. is_lt (pair_cmp y x) ≡ false) ys) xs xs'

before_moved : (xs ys ys' : List Pair) → IsPermutation ys ys' → ComesBefore xs ys → ComesBefore xs ys'
before_moved xs ys ys' moved b k d lt = All-permutation (λ y. is_lt (pair_cmp y (get_or xs k d)) ≡ false) ys ys' moved (b k d lt)

pub none_before : (ys : List Pair) → ComesBefore [] ys
none_before ys = All-nil (λ x. All (λ y. is_lt (pair_cmp y x) ≡ false) ys)

pub before_none : (xs : List Pair) → ComesBefore xs []
before_none xs k d lt = All-nil (λ y. is_lt (pair_cmp y (get_or xs k d)) ≡ false)

-- ---- parts of parts
pub IsPart-all : (shown : List Shown) (start end : ℕ) → start ≡ 0 → end ≡ length shown → IsPart (pairs_of shown) start end (pairs_of shown)
IsPart-all shown start end low high =
    let all : List Pair = pairs_of shown in
    let len : length all ≡ length shown = length-map shown pair_of in record {
      front = [];
      back = [];
      together = subst (IsPermutation all) (sym (append-nil all)) (IsPermutation-refl all);
      first = sym low;
      last = omega arith;
      front_part = none_before all;
      front_back = none_before [];
      part_back = before_none all;
    }

pub IsPart-inner : (all : List Pair) (a b c e start end : ℕ) (outer inner : List Pair) → IsPart all a b outer → IsPart outer c e inner → a + c ≡ start → a + e ≡ end → IsPart all start end inner
IsPart-inner all a b c e start end outer inner p q low high =
    let F : List Pair = p.front in
    let G : List Pair = q.front in
    let C : List Pair = q.back in
    let B : List Pair = p.back in
    let mid : List Pair = G ++ inner ++ C in
    let after_front : ComesBefore F mid = before_moved F outer mid q.together p.front_part in
    let before_back : ComesBefore mid B = moved_before outer mid B q.together p.part_back in
    let grouped : F ++ mid ++ B ≡ (F ++ G) ++ inner ++ (C ++ B) =
    ap (λ (z : List Pair). z ++ B) (sym (append_assoc F (G ++ inner) C)) ∙ append_assoc (F ++ (G ++ inner)) C B
    ∙ ap (λ (z : List Pair). z ++ (C ++ B)) (sym (append_assoc F G inner)) in
    let long : length (F ++ G) ≡ length F + length G = length-append F G in record {
      front = F ++ G;
      back = C ++ B;
      together = subst (IsPermutation all) grouped (IsPermutation-trans all (F ++ outer ++ B) (F ++ mid ++ B) p.together
          (IsPermutation-append_left B (F ++ outer) (F ++ mid) (IsPermutation-append_right F outer mid q.together)));
      first = omega (arith, p.first, q.first, low);
      last = omega (arith, p.first, q.first, q.last, high);
      front_part = before_both F G inner (right_before F G inner (left_before F (G ++ inner) C after_front)) q.front_part;
      front_back = before_both F G (C ++ B) (both_before F C B (right_before F (G ++ inner) C after_front) p.front_back)
          (both_before G C B q.front_back (before_left G inner B (before_left (G ++ inner) C B before_back)));
      part_back = both_before inner C B q.part_back (before_right G inner B (before_left (G ++ inner) C B before_back));
    }

pub IsPart-moved : (all : List Pair) (a b : ℕ) (part new : List Pair) → IsPart all a b part → IsPermutation part new → IsPart all a b new
IsPart-moved all a b part new p moved =
    let same : length new ≡ length part = length_permutation part new moved in record {
      front = p.front;
      back = p.back;
      together = IsPermutation-trans all (p.front ++ part ++ p.back) (p.front ++ new ++ p.back) p.together
          (IsPermutation-append_left p.back (p.front ++ part) (p.front ++ new) (IsPermutation-append_right p.front part new moved));
      first = p.first;
      last = omega (arith, p.last);
      front_part = before_moved p.front part new moved p.front_part;
      front_back = p.front_back;
      part_back = moved_before part new p.back moved p.part_back;
    }

-- ---- what a selection leaves
no : true ≡ false → ⊥
no h = cc

-- where x is not behind one, and y not before x, y is not before that one
pub lifted : (y x z : Pair) → is_lt (pair_cmp x z) ≡ false → is_lt (pair_cmp y x) ≡ false → is_lt (pair_cmp y z) ≡ false
lifted y x z up over = by (pair_cmp y z) refl (pair_cmp x z) refl
  where
    by : (o : Ordering) → pair_cmp y z ≡ o → (r : Ordering) → pair_cmp x z ≡ r → is_lt o ≡ false
    by Less is Less tie = absurd (no (sym (ap is_lt tie) ∙ up))
    by Less is Equal tie =
        let same : x ≡ z = pair_exact x z tie in
        absurd (no (sym (ap is_lt is) ∙ sym (ap (λ (w : Pair). is_lt (pair_cmp y w)) same) ∙ over))
    by Less is Greater tie =
        let back : pair_cmp z x ≡ Less = pair_total.antisymm z x ∙ ap ordering_reverse tie in
        absurd (no (sym (ap is_lt (pair_total.trans y z x is back)) ∙ over))
    by Equal is r tie = refl
    by Greater is r tie = refl

module _ (front : List Shown) (x : Shown) (back : List Shown) where
  split_before : IsSplitAround shown_cmp front x back → ComesBefore (pairs_of front) (pairs_of (x ∷ back))
  split_before split = All-map (λ p. All (λ y. is_lt (pair_cmp y p) ≡ false) (pairs_of (x ∷ back))) pair_of front (λ k d lt.
      All-map (λ y. is_lt (pair_cmp y (pair_of (get_or front k d))) ≡ false) pair_of (x ∷ back)
      (All-cons (λ y. is_lt (shown_cmp y (get_or front k d)) ≡ false) x back (split.0 k d lt) (λ j e under.
      lifted (pair_of (get_or back j e)) (pair_of x) (pair_of (get_or front k d)) (split.0 k d lt) (split.1 j e under))))

  one_before : IsSplitAround shown_cmp front x back → ComesBefore (pair_of x ∷ []) (pairs_of back)
  one_before split = All-cons (λ p. All (λ y. is_lt (pair_cmp y p) ≡ false) (pairs_of back)) (pair_of x) []
      (All-map (λ y. is_lt (pair_cmp y (pair_of x)) ≡ false) pair_of back split.1) (none_before (pairs_of back))

  pub IsPart-low : (old : List Shown) (end : ℕ) → IsPermutation old (front ++ x ∷ back) → length front ≡ end → IsSplitAround shown_cmp front x back
      → IsPart (pairs_of old) 0 end (pairs_of front)
  IsPart-low old end moved long split = record {
    front = [];
    back = pairs_of (x ∷ back);
    together = subst (IsPermutation (pairs_of old)) (map-append pair_of front (x ∷ back)) (IsPermutation-map pair_of old (front ++ x ∷ back) moved);
    first = refl;
    last = omega (arith, length-map front pair_of);
    front_part = none_before (pairs_of front);
    front_back = none_before (pairs_of (x ∷ back));
    part_back = split_before split;
  }

  pub IsPart-high : (old : List Shown) (start : ℕ) → IsPermutation old (front ++ x ∷ back) → length front + 1 ≡ start → IsSplitAround shown_cmp front x back
      → IsPart (pairs_of old) start (length old) (pairs_of back)
  IsPart-high old start moved long split =
      let F : List Pair = pairs_of front in
      let B : List Pair = pairs_of back in
      let one : List Pair = pair_of x ∷ [] in
      let fl : length F ≡ length front = length-map front pair_of in
      let bl : length B ≡ length back = length-map back pair_of in
      let ol : length (F ++ one) ≡ length F + length one = length-append F one in
      let al : length (front ++ x ∷ back) ≡ length front + length (x ∷ back) = length-append front (x ∷ back) in
      let same : length (front ++ x ∷ back) ≡ length old = length_permutation old (front ++ x ∷ back) moved in
      let grouped : pairs_of (front ++ x ∷ back) ≡ F ++ one ++ B ++ [] =
      map-append pair_of front (x ∷ back) ∙ sym (append_assoc F one B) ∙ sym (append-nil (F ++ one ++ B)) in record {
        front = F ++ one;
        back = [];
        together = subst (IsPermutation (pairs_of old)) grouped (IsPermutation-map pair_of old (front ++ x ∷ back) moved);
        first = omega arith;
        last = omega arith;
        front_part = before_both F one B (right_before F one B (split_before split)) (one_before split);
        front_back = before_none (F ++ one);
        part_back = before_none B;
      }
