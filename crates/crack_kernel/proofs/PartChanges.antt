-- What a permutation of one part of a list leaves.
use Rattle.std.proofs.Common.{◌≡◌, ℕ, ℤ, ◌+◌, ◌-◌, ◌<◌, ◌≤◌, ◌<ℤ◌, ◌≤ℤ◌, ◌⊎◌, List, length, get_or, inl, inr, sym, ◌∙◌, subst, ap, arith}
use Rattle.std.specs.List.{All, AllWithin, between}
use Rattle.std.proofs.lemmas.Int.{ints}
use Rattle.std.proofs.lemmas.Bool.{cases_lt}
use Rattle.std.proofs.lemmas.List.{get_or-take, get_or-drop}
use Rattle.std.proofs.lemmas.List.Edits.{get_or-between, length-between}
use Rattle.std.proofs.lemmas.List.Sorted.{All-permutation}
use Rattle.crack_kernel.specs.PartedRows.{IsBelow, IsFrom, IsParted, ChangesWithin}

-- what stands before the part stays
pub ChangesWithin-front : {X : Type 0} (from to : ℕ) (xs ys : List X) → ChangesWithin from to xs ys → (j : ℕ) (d : X) → j < from → get_or ys j d ≡ get_or xs j d
ChangesWithin-front from to xs ys changes j d before =
    sym (get_or-take from ys j d before) ∙ ap (λ zs. get_or zs j d) changes.front ∙ get_or-take from xs j d before

-- what stands behind the part stays
pub ChangesWithin-back : {X : Type 0} (from to : ℕ) (xs ys : List X) → ChangesWithin from to xs ys → (j : ℕ) (d : X) → to ≤ j → get_or ys j d ≡ get_or xs j d
ChangesWithin-back from to xs ys changes j d behind =
    let at : j ≡ to + (j - to) = omega arith in
    ap (λ (m : ℕ). get_or ys m d) at ∙ sym (get_or-drop to ys (j - to) d) ∙ ap (λ zs. get_or zs (j - to) d) changes.back
    ∙ get_or-drop to xs (j - to) d ∙ ap (λ (m : ℕ). get_or xs m d) (sym at)

-- what holds of each element of the part holds of each there once they were permuted
pub ChangesWithin-inside : {X : Type 0} (P : X → Type 0) (from to : ℕ) (xs ys : List X) → ChangesWithin from to xs ys → to ≤ length xs → length ys ≡ length xs
    → ((j : ℕ) (d : X) → from ≤ j → j < to → P (get_or xs j d)) → (j : ℕ) (d : X) → from ≤ j → j < to → P (get_or ys j d)
ChangesWithin-inside P from to xs ys changes fits len holds j d low high =
    let long_x : length (between from to xs) ≡ to - from = length-between xs from to fits in
    let long_y : length (between from to ys) ≡ to - from = length-between ys from to (omega arith) in
    let all_x : All P (between from to xs) = λ k e lt. rw (get_or-between xs from to k e (omega arith)) (holds (from + k) e (omega arith) (omega arith)) in
    let all_y : All P (between from to ys) = All-permutation P (between from to xs) (between from to ys) changes.inside all_x in
    let at : from + (j - from) ≡ j = omega arith in
    let is : get_or (between from to ys) (j - from) d ≡ get_or ys j d = get_or-between ys from to (j - from) d (omega arith) ∙ ap (λ (m : ℕ). get_or ys m d) at in
    subst P is (all_y (j - from) d (omega arith))

-- a place outside the part, or at one of its ends, parts what it parted
pub IsParted-changed : {X : Type 0} (P Q : X → Type 0) (place from to : ℕ) (xs ys : List X) → IsParted P Q xs place → ChangesWithin from to xs ys
    → from ≤ to → to ≤ length xs → length ys ≡ length xs → (place ≤ from) ⊎ (to ≤ place) → IsParted P Q ys place
IsParted-changed P Q place from to xs ys parted changes order fits len apart =
    let within : place ≤ length xs = parted.within in
    elim apart [
      | inl under ↦ record {
        within = omega arith;
        before = λ j d l u. rw (ChangesWithin-front from to xs ys changes j d (omega arith)) (parted.before j d l u);
        behind = λ j d l u.
            elim (cases_lt j from) [
              | inl a ↦ rw (ChangesWithin-front from to xs ys changes j d a) (parted.behind j d l (omega arith))
              | inr b ↦ elim (cases_lt j to) [
                | inl c ↦ ChangesWithin-inside Q from to xs ys changes fits len (λ i e m n. parted.behind i e (omega arith) (omega arith)) j d b c
                | inr c ↦ rw (ChangesWithin-back from to xs ys changes j d c) (parted.behind j d l (omega arith))
              ]
            ];
      }
      | inr over ↦ record {
        within = omega arith;
        before = λ j d l u.
            elim (cases_lt j from) [
              | inl a ↦ rw (ChangesWithin-front from to xs ys changes j d a) (parted.before j d l u)
              | inr b ↦ elim (cases_lt j to) [
                | inl c ↦ ChangesWithin-inside P from to xs ys changes fits len (λ i e m n. parted.before i e (omega arith) (omega arith)) j d b c
                | inr c ↦ rw (ChangesWithin-back from to xs ys changes j d c) (parted.before j d l u)
              ]
            ];
        behind = λ j d l u. rw (ChangesWithin-back from to xs ys changes j d (omega arith)) (parted.behind j d l (omega arith));
      }
    ]

-- the first place of a crack by two values: what v parts stays so when the rows behind are cracked
pub IsParted-first : (v u : ℤ) (from : ℕ) (xs ys : List (ℤ × List ℕ)) → u ≡ v → IsParted (IsBelow u) (IsFrom u) xs from → ChangesWithin from (length xs) xs ys
    → length ys ≡ length xs → IsParted (IsBelow v) (IsFrom v) ys from
IsParted-first v u from xs ys same parted changes len =
    let at_v : IsParted (IsBelow v) (IsFrom v) xs from = subst (λ (s : ℤ). IsParted (IsBelow s) (IsFrom s) xs from) same parted in
    let within : from ≤ length xs = at_v.within in
    IsParted-changed (IsBelow v) (IsFrom v) from from (length xs) xs ys at_v changes within (omega arith) len (inl (omega arith))

-- the second place: the rows before the first are below v, and so below w
pub IsParted-second : (v u w t : ℤ) (from to : ℕ) (xs ys : List (ℤ × List ℕ)) → u ≡ v → t ≡ w → v ≤ℤ w → IsParted (IsBelow u) (IsFrom u) xs from
    → ChangesWithin from (length xs) xs ys → length ys ≡ length xs → to ≤ length xs
    → AllWithin (IsBelow t) ys from to → AllWithin (IsFrom t) ys to (length xs) → IsParted (IsBelow w) (IsFrom w) ys to
IsParted-second v u w t from to xs ys same_v same_w order parted changes len fits before behind = record {
  within = omega arith;
  before = λ k d l h.
      elim (cases_lt k from) [
        | inl a ↦
            let low : (get_or xs k d).0 <ℤ u = parted.before k d (omega arith) a in
            rw (ChangesWithin-front from (length xs) xs ys changes k d a) (omega (arith, ints))
        | inr b ↦ let low : (get_or ys k d).0 <ℤ t = before k d b h in omega (arith, ints)
      ];
  behind = λ k d l h. let high : t ≤ℤ (get_or ys k d).0 = behind k d l (omega arith) in omega (arith, ints);
}
