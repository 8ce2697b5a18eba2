-- Lemmas on rows behind room at the front of their vector.
use Rattle.std.proofs.Common.{◌≡◌, ℕ, ℤ, ◌+◌, ◌-◌, ◌≤◌, List, ◌++◌, length, take, drop, sym, ap, ◌∙◌, le_of_eq, refl, subst, arith}
use Rattle.std.proofs.lemmas.List.{drop-append-le, drop-drop, drop-take, length-take, take_rest}
use Rattle.std.proofs.lemmas.Slice.{between-put_mid, between_to_end}
use Rattle.std.proofs.Math.Seq.{take-append_seam}
use Rattle.column_rows.specs.ClosedUp.{closed_up_rows}
use borrow.Rule.Slice.PartMut.{put_mid, mid_of, mid_len, same_len_mid}

-- what is handed on from the place n on is all that stands there
pub handed_on : {X : Type 0} (n : ℕ) (xs : List X) → mid_of n (length xs - n) xs ≡ drop n xs
handed_on n xs = take_rest xs n

-- a list whose part from the place n on was written has there what was written
pub written_behind : {X : Type 0} (n m : ℕ) (now xs ws : List X) → n ≤ length now → m ≡ length now → length ws ≡ length (mid_of n (length now - n) now) →
    drop n (take m (put_mid n (length now - n) now ws ++ drop (length (put_mid n (length now - n) now ws)) xs)) ≡ ws
written_behind {X} n m now xs ws within all len =
    let p : List X = put_mid n (length now - n) now ws in
    let rest : List X = drop (length p) xs in
    let long : length p ≡ length now = same_len_mid n (length now - n) now ws len in
    let cut : take m (p ++ rest) ≡ p = ap (λ (k : ℕ). take k (p ++ rest)) (all ∙ sym long) ∙ take-append_seam p rest in
    let wide : length ws ≡ length now - n = len ∙ mid_len n (length now) now (le_of_eq refl) in
    ap (drop n) cut ∙ sym (between_to_end p n (length now) (le_of_eq long)) ∙ between-put_mid n (length now - n) now ws (length now) within wide

-- what a call made of the part from the place n on is what it made of the rows there
pub made_behind : {X : Type 0} (P : List X → List X → Type 0) (n m : ℕ) (now xs ws old : List X) → n ≤ length now → m ≡ length now → length ws ≡ length (mid_of n (length now - n) now) → drop n now ≡ old →
    P (mid_of n (length now - n) now) ws → P old (drop n (take m (put_mid n (length now - n) now ws ++ drop (length (put_mid n (length now - n) now ws)) xs)))
made_behind P n m now xs ws old within all len was h =
    subst (P old) (sym (written_behind n m now xs ws within all len)) (subst (λ ys. P ys ws) (handed_on n now ∙ was) h)

-- rows that leave behind the place n, where the others close up
pub closed_up_behind : (n from to : ℕ) (rows : List (ℤ × List ℕ)) → n + from ≤ length rows →
    drop n (take (n + from) rows ++ drop (n + to) rows) ≡ closed_up_rows from to (drop n rows)
closed_up_behind n from to rows within =
    let long : n ≤ length (take (n + from) rows) = simp length-take (omega arith) in
    let front = drop-append-le n (take (n + from) rows) (drop (n + to) rows) long in
    front ∙ ap (λ ys. ys ++ drop (n + to) rows) (drop-take n from rows) ∙ ap (λ ys. take from (drop n rows) ++ ys) (sym (drop-drop to n rows))
