-- How blank rows count, and rows that are put, taken out or cut off.
use Rattle.std.proofs.Common.{◌≡◌, ℕ, ℤ, cond, ◌+◌, ◌-◌, ◌<◌, ◌≤◌, List, [], ◌∷◌, ◌++◌, length, get_or, set, take, drop, replicate, count_by, sym, ◌∙◌, ap, arith}
use Rattle.std.specs.List.{remove, AllWithin}
use Rattle.std.proofs.lemmas.List.{replicate-append-replicate, length-replicate, length-drop, get_or-drop, get_or-replicate, ext_get_or, take-append-drop, take-take}
use Rattle.std.proofs.lemmas.List.Sums.{sum_by-append, sum_by-set, sum_by-remove, sum_by_push}
use Rattle.crack_kernel.specs.RowBag.{Test}
use Rattle.column_rows.specs.MergeGap.{blank}

pub count_append : (p : Test) (xs ys : List (ℤ × List ℕ)) → count_by p (xs ++ ys) ≡ count_by p xs + count_by p ys
count_append p xs ys = sum_by-append (λ y. cond (p y) 1 0) xs ys

-- blank rows of two parts of a gap
pub blanks_add : (p : Test) (n m : ℕ) → count_by p (replicate (n + m) blank) ≡ count_by p (replicate n blank) + count_by p (replicate m blank)
blanks_add p n m = ap (λ (z : List (ℤ × List ℕ)). count_by p z) (sym (replicate-append-replicate n m blank)) ∙ count_append p (replicate n blank) (replicate m blank)

one_blank : (p : Test) → count_by p (replicate 1 blank) ≡ cond {A = ℕ} (p blank) 1 0
one_blank p = omega arith

pub blanks_more : (p : Test) (n m : ℕ) → m ≡ n + 1 → count_by p (replicate m blank) ≡ count_by p (replicate n blank) + cond {A = ℕ} (p blank) 1 0
blanks_more p n m e = ap (λ (k : ℕ). count_by p (replicate k blank)) e ∙ blanks_add p n 1 ∙ ap (λ (k : ℕ). count_by p (replicate n blank) + k) (one_blank p)

-- a row x was replaced by y
pub count_put : (p : Test) (xs ys : List (ℤ × List ℕ)) (i : ℕ) (x y : ℤ × List ℕ) → i < length xs → ys ≡ set xs i y → get_or xs i x ≡ x
    → count_by p ys + cond {A = ℕ} (p x) 1 0 ≡ count_by p xs + cond {A = ℕ} (p y) 1 0
count_put p xs ys i x y in' is at =
    ap (λ (z : List (ℤ × List ℕ)). count_by p z + cond {A = ℕ} (p x) 1 0) is
    ∙ ap (λ (z : ℤ × List ℕ). count_by p (set xs i y) + cond {A = ℕ} (p z) 1 0) (sym at)
    ∙ sum_by-set (λ z. cond (p z) 1 0) xs i y x in'

pub count_removed : (p : Test) (xs ys : List (ℤ × List ℕ)) (i : ℕ) (x : ℤ × List ℕ) → i < length xs → ys ≡ remove xs i → get_or xs i x ≡ x
    → count_by p ys + cond {A = ℕ} (p x) 1 0 ≡ count_by p xs
count_removed p xs ys i x in' is at =
    ap (λ (z : List (ℤ × List ℕ)). count_by p z + cond {A = ℕ} (p x) 1 0) is
    ∙ ap (λ (z : ℤ × List ℕ). count_by p (remove xs i) + cond {A = ℕ} (p z) 1 0) (sym at)
    ∙ sum_by-remove (λ z. cond (p z) 1 0) xs i x in'

pub count_pushed : (p : Test) (xs ys : List (ℤ × List ℕ)) (x : ℤ × List ℕ) → xs ≡ ys ++ x ∷ [] → count_by p xs ≡ count_by p ys + cond {A = ℕ} (p x) 1 0
count_pushed p xs ys x is = ap (λ (z : List (ℤ × List ℕ)). count_by p z) is ∙ sum_by_push (λ y. cond (p y) 1 0) ys x

-- a gap at the end
pub count_cut : (p : Test) (xs ys : List (ℤ × List ℕ)) (a : ℕ) → a ≤ length xs → AllWithin (λ r. r ≡ blank) xs a (length xs) → ys ≡ take a xs
    → count_by p xs ≡ count_by p ys + count_by p (replicate (length xs - a) blank)
count_cut p xs ys a le blanks is =
    let n : length (drop a xs) ≡ length xs - a = length-drop a xs in
    let tail : drop a xs ≡ replicate (length xs - a) blank =
    ext_get_or blank (drop a xs) (replicate (length xs - a) blank) (n ∙ sym (length-replicate (length xs - a) blank))
    (λ k h. get_or-drop a xs k blank ∙ blanks (a + k) blank (omega arith) (omega arith) ∙ sym (get_or-replicate (length xs - a) k blank blank (omega arith))) in
    ap (λ (z : List (ℤ × List ℕ)). count_by p z) (sym (take-append-drop a xs)) ∙ count_append p (take a xs) (drop a xs)
    ∙ ap (λ (z : List (ℤ × List ℕ)). count_by p z + count_by p (drop a xs)) (sym is) ∙ ap (λ (z : List (ℤ × List ℕ)). count_by p ys + count_by p z) tail

pub blanks_split : (p : Test) (n m k : ℕ) → k ≡ n + m → count_by p (replicate k blank) ≡ count_by p (replicate n blank) + count_by p (replicate m blank)
blanks_split p n m k e = ap (λ (j : ℕ). count_by p (replicate j blank)) e ∙ blanks_add p n m

pub take-less : (n m : ℕ) (xs ys : List (ℤ × List ℕ)) → n ≤ m → take m xs ≡ take m ys → take n xs ≡ take n ys
take-less n m xs ys le h = sym (take-take n m xs le) ∙ ap (λ (z : List (ℤ × List ℕ)). take n z) h ∙ take-take n m ys le
