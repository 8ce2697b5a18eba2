-- What swaps of a slice's elements, and writes into a part of it, do to what holds of its elements.
use Rattle.std.proofs.Common.{◌≡◌, ◌≢◌, ℕ, ◌<◌, ◌≤◌, List, length, get_or, inl, inr, ◌∙◌, subst, ap, take, drop, map, insert, [], ◌∷◌, ◌++◌, ◌+◌, ◌-◌, arith, length-append}
use Rattle.std.proofs.lemmas.Grind.{common_steps}
use borrow.Rule.Slice.PartMut.{put_mid, post_of}
use Rattle.std.specs.List.{AllWithin, SwappedAt}
use Rattle.std.proofs.lemmas.Bool.{cases_eq}
use Rattle.std.proofs.lemmas.List.{get_or_default, get_or-append_right, length-drop, length-map, length-take-le, take-append-le, take_at, take_rest, drop-append-le}
use Rattle.std.proofs.lemmas.Slice.{take-put_mid}

-- P holds of each element of a part after a swap, if it held of those that came to stand there
pub AllWithin-swapped : {X : Type 0} (P : X → Type 0) (xs ys : List X) (i j low high : ℕ) → SwappedAt xs ys i j
    → ((k : ℕ) (d : X) → low ≤ k → k < high → k ≢ i → k ≢ j → P (get_or xs k d))
    → (low ≤ i → i < high → i ≢ j → (d : X) → P (get_or xs j d))
    → (low ≤ j → j < high → (d : X) → P (get_or xs i d))
    → AllWithin P ys low high
AllWithin-swapped P xs ys i j low high swapped others at_i at_j k d from to =
    elim (cases_eq k j) [
      | inl e ↦ rw (e, swapped.1 d) (at_j (omega arith) (omega arith) d)
      | inr nj ↦ elim (cases_eq k i) [
        | inl e ↦ rw (e, swapped.0 d) (at_i (omega arith) (omega arith) (λ q. nj (omega arith)) d)
        | inr ni ↦ rw (swapped.2 k d ni nj) (others k d from to ni nj)
      ]
    ]

-- what holds of the element that was read at i holds of it whatever the default
pub holds_read : {X : Type 0} (P : X → Type 0) (xs : List X) (i : ℕ) (x : X) → i < length xs → x ≡ get_or xs i x → P x → (d : X) → P (get_or xs i d)
holds_read P xs i x within is holds d = subst P (is ∙ get_or_default xs i x d within) holds

-- an element of the part that was written
pub get_or-put_mid : {X : Type 0} (a n : ℕ) (xs ys : List X) (k : ℕ) (d : X) → a ≤ length xs → a ≤ k → k < a + length ys → get_or (put_mid a n xs ys) k d ≡ get_or ys (k - a) d
get_or-put_mid a n xs ys k d fits from to =
    let front : length (take a xs) ≡ a = grind (arith, common_steps) in
    let room : k - a < length ys = omega arith in
    get_or-append_right (take a xs) (ys ++ post_of a n xs) a k d front from ∙ grind (arith, common_steps)

-- what a list is in its buffer, once each element from an index on has been changed there
pub take-put_map : {X : Type 0} (f : X → X) (a n : ℕ) (xs lent ys buffer : List X) → lent ≡ xs → a ≤ length xs → n ≡ length xs → ys ≡ map f (take (length lent - a) (drop a lent))
    → take n (put_mid a (length lent - a) lent ys ++ drop (length (put_mid a (length lent - a) lent ys)) buffer) ≡ take a xs ++ map f (drop a xs)
take-put_map f a n xs lent ys buffer same within all changed =
    let k = length lent - a in
    let fits : a ≤ length lent = omega (arith, ap length same) in
    let is : ys ≡ map f (drop a lent) = changed ∙ ap (map f) (take_rest lent a) in
    let end : n ≡ a + length ys = omega (arith, ap length same, ap length is, length-map (drop a lent) f, length-drop a lent) in
    let front : length (take a lent) ≡ a = length-take-le a lent fits in
    let long : n ≤ length (put_mid a k lent ys) = omega (arith, length-append (take a lent) (ys ++ post_of a k lent), length-append ys (post_of a k lent)) in
    take-append-le n (put_mid a k lent ys) (drop (length (put_mid a k lent ys)) buffer) long ∙ take-put_mid a k lent ys n end fits
    ∙ ap (λ qs. take a lent ++ qs) is ∙ ap (λ qs. take a qs ++ map f (drop a qs)) same

-- what a list is in its buffer, once an element was pushed there, and put before those from an index on, which moved up over it
pub take-put_first : {X : Type 0} (x : X) (a n : ℕ) (xs lent ys buffer : List X) → lent ≡ xs ++ x ∷ [] → a ≤ length xs → n ≡ length xs + 1
    → ys ≡ x ∷ take (length (take (length lent - a) (drop a lent)) - 1) (take (length lent - a) (drop a lent))
    → take n (put_mid a (length lent - a) lent ys ++ drop (length (put_mid a (length lent - a) lent ys)) buffer) ≡ insert xs a x
take-put_first x a n xs lent ys buffer same within all changed =
    let k = length lent - a in
    let high = drop a xs in
    let long_lent : length lent ≡ length xs + 1 = ap length same ∙ length-append xs (x ∷ []) in
    let fits : a ≤ length lent = omega (arith, long_lent) in
    let part : take k (drop a lent) ≡ high ++ x ∷ [] = take_rest lent a ∙ ap (drop a) same ∙ drop-append-le a xs (x ∷ []) within in
    let moved : take (length (take k (drop a lent)) - 1) (take k (drop a lent)) ≡ high =
    ap (λ qs. take (length qs - 1) qs) part ∙ take_at high (x ∷ []) (length (high ++ x ∷ []) - 1) (omega (arith, length-append high (x ∷ []))) in
    let is : ys ≡ x ∷ high = changed ∙ ap (λ qs. x ∷ qs) moved in
    let end : n ≡ a + length ys = omega (arith, ap length is, length-drop a xs) in
    let front : length (take a lent) ≡ a = length-take-le a lent fits in
    let long : n ≤ length (put_mid a k lent ys) = omega (arith, length-append (take a lent) (ys ++ post_of a k lent), length-append ys (post_of a k lent)) in
    take-append-le n (put_mid a k lent ys) (drop (length (put_mid a k lent ys)) buffer) long ∙ take-put_mid a k lent ys n end fits
    ∙ ap (λ qs. take a lent ++ qs) is ∙ ap (λ qs. take a qs ++ x ∷ high) same ∙ ap (λ qs. qs ++ x ∷ high) (take-append-le a xs (x ∷ []) within)
