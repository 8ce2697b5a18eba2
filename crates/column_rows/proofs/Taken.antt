-- Rows that are taken from the end of a list.
use Rattle.std.proofs.Common.{◌≡◌, ◌≢◌, ℕ, ℤ, pos, true, ◌+◌, ◌<◌, ◌≤◌, List, [], length, take, get_or, ◌∙◌, sym, arith, IsPermutation}
use Rattle.std.specs.List.{swap_remove}
use Rattle.std.proofs.lemmas.List.{ext_get_or, get_or-take, length-take-le}
use Rattle.std.proofs.lemmas.List.Sorted.{length_permutation}
use Rattle.crack_kernel.specs.RowBag.{IsSubBag}
use Rattle.column_rows.specs.Content.{KeepsContent}
use Rattle.column_rows.specs.MergeGap.{TakenFrom}
use Rattle.column_rows.proofs.Counts.{count_moved, count_all, count_swapped_out}
use Rattle.column_rows.proofs.Blanks.{take-less}

pub TakenFrom-more : (n : ℕ) (xs ys zs : List (ℤ × List ℕ)) → TakenFrom n xs ys → TakenFrom n ys zs → TakenFrom n xs zs
TakenFrom-more n xs ys zs a b = record { within = b.within; before = b.before ∙ a.before; less = λ p. omega (arith, a.less p, b.less p) }

-- from an index further on
pub TakenFrom-later : (n m : ℕ) (xs ys : List (ℤ × List ℕ)) → n ≤ m → TakenFrom m xs ys → TakenFrom n xs ys
TakenFrom-later n m xs ys le t = record { within = omega (arith, t.within); before = take-less n m ys xs le t.before; less = t.less }

pub TakenFrom-turned : (n : ℕ) (xs ys : List (ℤ × List ℕ)) → n ≤ length xs → IsPermutation xs ys → take n ys ≡ take n xs → TakenFrom n xs ys
TakenFrom-turned n xs ys fits moves same = record {
  within = omega (arith, fits, length_permutation xs ys moves);
  before = same;
  less = λ p. omega (arith, count_moved p xs ys moves);
}

-- one is taken out, and the last one takes its place
pub TakenFrom-swapped_out : (n i : ℕ) (xs ys : List (ℤ × List ℕ)) (x : ℤ × List ℕ) → n ≤ i → i < length xs → x ≡ get_or xs i x → ys ≡ swap_remove xs i x → length ys + 1 ≡ length xs
    → ((k : ℕ) (d : ℤ × List ℕ) → k ≢ i → k + 1 < length xs → get_or ys k d ≡ get_or xs k d) → TakenFrom n xs ys
TakenFrom-swapped_out n i xs ys x low inside at is len others =
    let d : ℤ × List ℕ = (pos 0, []) in
    let ny : length (take n ys) ≡ n = length-take-le n ys (omega arith) in
    let nx : length (take n xs) ≡ n = length-take-le n xs (omega arith) in
    record {
      within = omega arith;
      before = ext_get_or d (take n ys) (take n xs) (ny ∙ sym nx)
          (λ k h. let below : k < n = omega arith in get_or-take n ys k d below ∙ others k d (omega arith) (omega arith) ∙ sym (get_or-take n xs k d below));
      less = λ p. omega (arith, count_swapped_out p xs ys i x inside at is);
    }

-- rows that came stand where rows waited to come: there is as much room as before
pub length-kept : (rows ins del rows' ins' del' : List (ℤ × List ℕ)) → KeepsContent rows ins del rows' ins' del' → IsSubBag del' del
    → length rows' + length ins' ≤ length rows + length ins
length-kept rows ins del rows' ins' del' content less =
    omega (arith, content (λ r. true), less (λ r. true), count_all rows, count_all ins, count_all del, count_all rows', count_all ins', count_all del')
