use Rattle.std.proofs.Common.{◌≡◌, ℕ, suc, ℤ, Bool, true, false, not, ◌&&◌, cond, ◌+◌, ◌<◌, ◌≤◌, List, [], ◌∷◌, ◌++◌, length, get_or, count_by, inl, inr, sym, ◌∙◌, refl, ap, arith, IsPermutation, Contains}
use Rattle.std.specs.Ordering.{int_eq}
use Rattle.std.specs.Str.{bytes_eq}
use Rattle.std.specs.List.{All, list_any, swap_remove}
use Rattle.std.proofs.lemmas.Bool.{cases_Bool, false≢true}
use Rattle.std.proofs.lemmas.Bool.Decides.{Decides-int_eq}
use Rattle.std.proofs.lemmas.List.Folds.{list_any_at}
use Rattle.std.proofs.lemmas.Slice.Eq.{bytes_eq-Decides}
use Rattle.std.proofs.lemmas.List.Sums.{sum_by_push, sum_by-cons, sum_by-swap_remove, get_or-le-sum_by}
use Rattle.std.proofs.lemmas.List.Sorted.{sum_by-IsPermutation}
use Rattle.crack_kernel.specs.RowBag.{Test, IsSubBag}

pub count_push : (p : Test) (xs : List (ℤ × List ℕ)) (x : ℤ × List ℕ) → count_by p (xs ++ x ∷ []) ≡ count_by p xs + cond (p x) 1 0
count_push p xs x = sum_by_push (λ y. cond (p y) 1 0) xs x

pub count_moved : (p : Test) (xs ys : List (ℤ × List ℕ)) → IsPermutation xs ys → count_by p ys ≡ count_by p xs
count_moved p xs ys h = sum_by-IsPermutation (λ y. cond (p y) 1 0) xs ys h

pub count_swap_removed : (p : Test) (xs : List (ℤ × List ℕ)) (i : ℕ) (d : ℤ × List ℕ) → i < length xs → count_by p (swap_remove xs i d) + cond (p (get_or xs i d)) 1 0 ≡ count_by p xs
count_swap_removed p xs i d h = sum_by-swap_remove (λ y. cond (p y) 1 0) xs i d h

-- the test of being the row x
pub is_row : ℤ × List ℕ → Test
is_row x y = int_eq x.0 y.0 && bytes_eq x.1 y.1

pub is_row-same : (x : ℤ × List ℕ) → is_row x x ≡ true
unfolding is_row
is_row-same x = rw ((Decides-int_eq x.0 x.0).1 refl, (bytes_eq-Decides x.1 x.1).1 refl) refl

pub same-is_row : (x y : ℤ × List ℕ) → is_row x y ≡ true → y ≡ x
unfolding is_row
same-is_row x y h =
    elim (cases_Bool (int_eq x.0 y.0)) [
      | inl t ↦
          let b : bytes_eq x.1 y.1 ≡ true = rw t at h in
          let s : x.0 ≡ y.0 = (Decides-int_eq x.0 y.0).0 t in
          let m : x.1 ≡ y.1 = (bytes_eq-Decides x.1 y.1).0 b in
          ap (λ (u : ℤ). (u, y.1)) (sym s) ∙ ap (λ (v : List ℕ). (x.0, v)) (sym m)
      | inr f ↦ let z : false ≡ true = rw f at h in absurd (false≢true z)
    ]

-- where some row passes the test of being x, x is there
pub Contains-counted : (xs : List (ℤ × List ℕ)) (x : ℤ × List ℕ) → 0 < count_by (is_row x) xs → Contains xs x
Contains-counted [] x h = absurd (omega arith)
Contains-counted (y ∷ ys) x h =
    let c : count_by (is_row x) (y ∷ ys) ≡ cond {A = ℕ} (is_row x y) 1 0 + count_by (is_row x) ys = sum_by-cons (λ z. cond (is_row x z) 1 0) y ys in
    elim (cases_Bool (is_row x y)) [
      | inl t ↦ (0, omega arith, same-is_row x y t)
      | inr f ↦
          let z : cond {A = ℕ} (is_row x y) 1 0 ≡ 0 = ap (λ (b : Bool). cond b 1 0) f in
          let rest = Contains-counted ys x (omega arith) in
          (suc rest.0, omega (arith, rest.1), rest.2)
    ]

-- a row of a part is in the whole
pub Contains-sub_bag : (xs ys : List (ℤ × List ℕ)) (i : ℕ) (x : ℤ × List ℕ) → IsSubBag xs ys → i < length xs → x ≡ get_or xs i x → Contains ys x
Contains-sub_bag xs ys i x part in' is =
    let one : cond {A = ℕ} (is_row x (get_or xs i x)) 1 0 ≤ count_by (is_row x) xs = get_or-le-sum_by (λ y. cond (is_row x y) 1 0) xs i x in' in
    let here : cond {A = ℕ} (is_row x (get_or xs i x)) 1 0 ≡ 1 = ap (λ (y : ℤ × List ℕ). cond (is_row x y) 1 0) (sym is) ∙ ap (λ (b : Bool). cond b 1 0) (is_row-same x) in
    let le : count_by (is_row x) xs ≤ count_by (is_row x) ys = part (is_row x) in
    Contains-counted ys x (omega arith)

-- x was taken out of xs, and left ys
pub count_taken : (p : Test) (xs ys : List (ℤ × List ℕ)) (x : ℤ × List ℕ) → IsPermutation xs (ys ++ x ∷ []) → count_by p ys + cond {A = ℕ} (p x) 1 0 ≡ count_by p xs
count_taken p xs ys x h = sym (count_push p ys x) ∙ count_moved p xs (ys ++ x ∷ []) h

pub count_swapped_out : (p : Test) (xs ys : List (ℤ × List ℕ)) (i : ℕ) (x : ℤ × List ℕ) → i < length xs → x ≡ get_or xs i x → ys ≡ swap_remove xs i x
    → count_by p ys + cond {A = ℕ} (p x) 1 0 ≡ count_by p xs
count_swapped_out p xs ys i x in' is e =
    ap (λ (z : List (ℤ × List ℕ)). count_by p z + cond {A = ℕ} (p x) 1 0) e
    ∙ ap (λ (z : ℤ × List ℕ). count_by p (swap_remove xs i x) + cond {A = ℕ} (p z) 1 0) is
    ∙ count_swap_removed p xs i x in'

-- a test that fails at x
pub count_zero : (p : Test) (x : ℤ × List ℕ) → p x ≡ false → cond {A = ℕ} (p x) 1 0 ≡ 0
count_zero p x h = ap (λ (b : Bool). cond {A = ℕ} b 1 0) h

-- a test that asks for more than b denies
pub and_not : (a b : Bool) → b ≡ true → (a && not b) ≡ false
and_not true b h = ap not h
and_not false b h = refl

cond_and_le : (a b : Bool) → cond {A = ℕ} (a && b) 1 0 ≤ cond {A = ℕ} b 1 0
cond_and_le true b = omega arith
cond_and_le false true = omega arith
cond_and_le false false = omega arith

cond_split : (a b : Bool) → cond {A = ℕ} a 1 0 ≡ cond {A = ℕ} (a && b) 1 0 + cond {A = ℕ} (a && not b) 1 0
cond_split true true = refl
cond_split true false = refl
cond_split false b = refl

-- a list counts its length under the test that all pass
pub count_all : (xs : List (ℤ × List ℕ)) → count_by (λ r. true) xs ≡ length xs
count_all [] = refl
count_all (x ∷ xs) =
    let c : count_by (λ r. true) (x ∷ xs) ≡ 1 + count_by (λ r. true) xs = sum_by-cons (λ z. 1) x xs in
    let rest : count_by (λ r. true) xs ≡ length xs = count_all xs in
    omega arith

-- a smaller bag is shorter
pub length-sub_bag : (xs ys : List (ℤ × List ℕ)) → IsSubBag xs ys → length xs ≤ length ys
length-sub_bag xs ys part = omega (arith, part (λ r. true), count_all xs, count_all ys)

-- a test that no row passes counts none
pub count_none : (p : Test) (xs : List (ℤ × List ℕ)) → All (λ r. p r ≡ false) xs → count_by p xs ≡ 0
count_none p [] none = refl
count_none p (x ∷ xs) none =
    let c : count_by p (x ∷ xs) ≡ cond {A = ℕ} (p x) 1 0 + count_by p xs = sum_by-cons (λ z. cond (p z) 1 0) x xs in
    let head : cond {A = ℕ} (p x) 1 0 ≡ 0 = count_zero p x (none 0 x (omega arith)) in
    let rest : count_by p xs ≡ 0 = count_none p xs (λ k d h. none (suc k) d (omega arith)) in
    omega arith

-- and where a test counts none, no row passes it
pub none_counted : (p : Test) (xs : List (ℤ × List ℕ)) → count_by p xs ≡ 0 → All (λ r. p r ≡ false) xs
none_counted p xs zero k d h =
    elim (cases_Bool (p (get_or xs k d))) [
      | inl t ↦
          let one : cond {A = ℕ} (p (get_or xs k d)) 1 0 ≤ count_by p xs = get_or-le-sum_by (λ y. cond (p y) 1 0) xs k d h in
          let here : cond {A = ℕ} (p (get_or xs k d)) 1 0 ≡ 1 = ap (λ (b : Bool). cond b 1 0) t in
          absurd (omega arith)
      | inr f ↦ f
    ]

-- a test that asks for two things counts no more than for one of them
pub count_and_le : (p q : Test) (xs : List (ℤ × List ℕ)) → count_by (λ r. p r && q r) xs ≤ count_by q xs
count_and_le p q [] = omega arith
count_and_le p q (x ∷ xs) =
    let a : count_by (λ r. p r && q r) (x ∷ xs) ≡ cond {A = ℕ} (p x && q x) 1 0 + count_by (λ r. p r && q r) xs = sum_by-cons (λ z. cond (p z && q z) 1 0) x xs in
    let b : count_by q (x ∷ xs) ≡ cond {A = ℕ} (q x) 1 0 + count_by q xs = sum_by-cons (λ z. cond (q z) 1 0) x xs in
    let rest : count_by (λ r. p r && q r) xs ≤ count_by q xs = count_and_le p q xs in
    let head : cond {A = ℕ} (p x && q x) 1 0 ≤ cond {A = ℕ} (q x) 1 0 = cond_and_le (p x) (q x) in
    omega arith

-- the rows that pass p are those that pass q too, and those that don't
pub count_split : (p q : Test) (xs : List (ℤ × List ℕ)) → count_by p xs ≡ count_by (λ r. p r && q r) xs + count_by (λ r. p r && not (q r)) xs
count_split p q [] = refl
count_split p q (x ∷ xs) =
    let a : count_by p (x ∷ xs) ≡ cond {A = ℕ} (p x) 1 0 + count_by p xs = sum_by-cons (λ z. cond (p z) 1 0) x xs in
    let b : count_by (λ r. p r && q r) (x ∷ xs) ≡ cond {A = ℕ} (p x && q x) 1 0 + count_by (λ r. p r && q r) xs = sum_by-cons (λ z. cond (p z && q z) 1 0) x xs in
    let d : count_by (λ r. p r && not (q r)) (x ∷ xs) ≡ cond {A = ℕ} (p x && not (q x)) 1 0 + count_by (λ r. p r && not (q r)) xs = sum_by-cons (λ z. cond (p z && not (q z)) 1 0) x xs in
    let rest = count_split p q xs in
    let head : cond {A = ℕ} (p x) 1 0 ≡ cond {A = ℕ} (p x && q x) 1 0 + cond {A = ℕ} (p x && not (q x)) 1 0 = cond_split (p x) (q x) in
    omega (arith, rest)

-- tests that agree on each row of a list count the same
pub count_alike : (p q : Test) (xs : List (ℤ × List ℕ)) → All (λ r. p r ≡ q r) xs → count_by p xs ≡ count_by q xs
count_alike p q [] same = refl
count_alike p q (x ∷ xs) same =
    let a : count_by p (x ∷ xs) ≡ cond {A = ℕ} (p x) 1 0 + count_by p xs = sum_by-cons (λ z. cond (p z) 1 0) x xs in
    let b : count_by q (x ∷ xs) ≡ cond {A = ℕ} (q x) 1 0 + count_by q xs = sum_by-cons (λ z. cond (q z) 1 0) x xs in
    let rest = count_alike p q xs (λ k d h. same (suc k) d (omega arith)) in
    let head : cond {A = ℕ} (p x) 1 0 ≡ cond {A = ℕ} (q x) 1 0 = ap (λ (t : Bool). cond {A = ℕ} t 1 0) (same 0 x (omega arith)) in
    omega (arith, rest)

-- where no row is found that passes, none passes
pub none-list_any : (p : Test) (xs : List (ℤ × List ℕ)) → list_any p xs ≡ false → All (λ r. p r ≡ false) xs
none-list_any p xs none k d h =
    elim (cases_Bool (p (get_or xs k d))) [
      | inl t ↦ absurd (false≢true (sym none ∙ list_any_at p xs k d h t))
      | inr f ↦ f
    ]

-- a list of which no row is there is empty
pub none_left : (xs : List (ℤ × List ℕ)) → All (λ r. true ≡ false) xs → xs ≡ []
none_left [] none = refl
none_left (x ∷ xs) none = absurd (false≢true (sym (none 0 x (omega arith))))
