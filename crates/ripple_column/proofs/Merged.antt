-- What merging and waiting do to the content and to what is true of every column.
use Rattle.std.proofs.Common.{◌≡◌, ◌⊎◌, ℕ, ℤ, int_lt, Bool, true, false, not, ◌&&◌, cond, ◌+◌, ◌-◌, ◌<◌, ◌≤◌, ◌≤ℤ◌, List, ◌∷◌, get_or, count_by, inl, inr, sym, ◌∙◌, subst, refl, ap, arith, Contains}
use Rattle.std.proofs.lemmas.Bool.{cases_Bool, cases_lt}
use Rattle.std.proofs.lemmas.Int.{ints}
use Rattle.std.proofs.lemmas.List.Sums.{sum_by-cons, get_or-le-sum_by}
use Rattle.score_bounds.specs.ScoreTexts.{greatest}
use Rattle.crack_kernel.specs.RowBag.{Test, IsSubBag}
use Rattle.column_rows.specs.Content.{IsScored, Pends}
use Rattle.column_rows.proofs.Counts.{count_moved, count_none, none_counted, count_split, count_alike, count_zero, is_row, is_row-same, same-is_row, Contains-counted}

-- the test of having a score that no 64 bits hold
abbrev pub is_over : Test
is_over r = int_lt greatest r.0

over_count : (xs : List (ℤ × List ℕ)) → IsScored xs → count_by is_over xs ≡ 0
over_count xs scored = count_none is_over xs (λ k d h. let fits : (get_or xs k d).0 ≤ℤ greatest = scored k d h in grind (arith, ints))

scored_over : (xs : List (ℤ × List ℕ)) → count_by is_over xs ≡ 0 → IsScored xs
scored_over xs zero k d h = let no = none_counted is_over xs zero k d h in grind (arith, ints)

-- merging brings in no score that was not there
pub IsScored-merged : (rows rows' insertions insertions' deletions deletions' : List (ℤ × List ℕ)) → IsScored rows → IsScored insertions
    → ((p : Test) → count_by p rows' + count_by p deletions + count_by p insertions' ≡ count_by p rows + count_by p deletions' + count_by p insertions)
    → IsSubBag deletions' deletions → IsScored rows' × IsScored insertions'
IsScored-merged rows rows' insertions insertions' deletions deletions' scored_rows scored_insertions content less =
    let r = over_count rows scored_rows in
    let i = over_count insertions scored_insertions in
    let all = content is_over in
    let l = less is_over in
    (scored_over rows' (omega (arith, r, i, all, l)), scored_over insertions' (omega (arith, r, i, all, l)))

-- a row that is in a list is counted
counted : (xs : List (ℤ × List ℕ)) (x : ℤ × List ℕ) → Contains xs x → 0 < count_by (is_row x) xs
counted xs x (k, within, is) =
    let one : cond {A = ℕ} (is_row x (get_or xs k x)) 1 0 ≤ count_by (is_row x) xs = get_or-le-sum_by (λ y. cond (is_row x y) 1 0) xs k x within in
    let here : cond {A = ℕ} (is_row x (get_or xs k x)) 1 0 ≡ 1 = ap (λ (y : ℤ × List ℕ). cond {A = ℕ} (is_row x y) 1 0) is ∙ ap (λ (b : Bool). cond {A = ℕ} b 1 0) (is_row-same x) in
    omega arith

-- a row is in a list, or it is not
cases_Contains : (xs : List (ℤ × List ℕ)) (x : ℤ × List ℕ) → Contains xs x ⊎ (¬ Contains xs x)
cases_Contains xs x =
    elim (cases_lt 0 (count_by (is_row x) xs)) [
      | inl some ↦ inl (Contains-counted xs x some)
      | inr none ↦ inr (λ there. absurd (omega (arith, counted xs x there)))
    ]

count_cons : (p : Test) (x : ℤ × List ℕ) (xs : List (ℤ × List ℕ)) → count_by p (x ∷ xs) ≡ cond {A = ℕ} (p x) 1 0 + count_by p xs
count_cons p x xs = sum_by-cons (λ y. cond (p y) 1 0) x xs

-- what a row that begins to wait, or is withdrawn, changes in the counts
pub record PendsCounts (row : ℤ × List ℕ) (old new other_old other_new : List (ℤ × List ℕ)) : Type 0 where
  pub all : (p : Test) → count_by p new + count_by p other_old ≡ count_by p old + count_by p other_new + cond {A = ℕ} (p row) 1 0
  pub less : IsSubBag other_new other_old

pub PendsCounts-from : (row : ℤ × List ℕ) (old new other_old other_new : List (ℤ × List ℕ)) → Pends row old new other_old other_new → PendsCounts row old new other_old other_new
PendsCounts-from row old new other_old other_new pends =
    elim (cases_Contains other_old row) [
      | inl there ↦
          let w = pends.withdrawn there in
          let gone : (p : Test) → count_by p other_old ≡ cond {A = ℕ} (p row) 1 0 + count_by p other_new =
          λ p. sym (count_moved p other_old (row ∷ other_new) w.0) ∙ count_cons p row other_new in
          let same : (p : Test) → count_by p new ≡ count_by p old = λ p. ap (λ (xs : List (ℤ × List ℕ)). count_by p xs) w.1 in
          record {
            all = λ p. omega (arith, gone p, same p);
            less = λ p. omega (arith, gone p);
          }
      | inr absent ↦
          let a = pends.added absent in
          let more : (p : Test) → count_by p new ≡ cond {A = ℕ} (p row) 1 0 + count_by p old = λ p. count_moved p (row ∷ old) new a.0 ∙ count_cons p row old in
          let same : (p : Test) → count_by p other_new ≡ count_by p other_old = λ p. ap (λ (xs : List (ℤ × List ℕ)). count_by p xs) a.1 in
          record {
            all = λ p. omega (arith, more p, same p);
            less = λ p. omega (arith, same p);
          }
    ]

and_false : (b : Bool) → (b && false) ≡ false
and_false true = refl
and_false false = refl

no_count : (xs : List (ℤ × List ℕ)) (x : ℤ × List ℕ) → (¬ Contains xs x) → count_by (is_row x) xs ≡ 0
no_count xs x absent =
    elim (cases_lt 0 (count_by (is_row x) xs)) [
      | inl some ↦ absurd (absent (Contains-counted xs x some))
      | inr none ↦ omega arith
    ]

-- the rows that pass the test of being x are those that pass it beside one that x passes
count_one : (p : Test) (x : ℤ × List ℕ) (xs : List (ℤ × List ℕ)) → p x ≡ true → count_by (λ r. p r && is_row x r) xs ≡ count_by (is_row x) xs
count_one p x xs passes =
    count_alike (λ r. p r && is_row x r) (is_row x) xs
    (λ k d h.
    let r : ℤ × List ℕ = get_or xs k d in
    elim (cases_Bool (is_row x r)) [
      | inl t ↦ let e : p r ≡ true = ap p (same-is_row x r t) ∙ passes in rw (e, t) refl
      | inr f ↦ rw f (and_false (p r))
    ])

-- a row of the content that does not wait as an insertion may wait as a deletion
pub IsSubBag-pended : (row : ℤ × List ℕ) (rows insertions insertions' deletions deletions' : List (ℤ × List ℕ)) → IsSubBag deletions rows
    → ((p : Test) → p row ≡ true → 0 < count_by p rows + count_by p insertions - count_by p deletions) → Pends row deletions deletions' insertions insertions'
    → IsSubBag deletions' rows
IsSubBag-pended row rows insertions insertions' deletions deletions' part has pends p =
    elim (cases_Contains insertions row) [
      | inl there ↦ subst (λ (xs : List (ℤ × List ℕ)). count_by p xs ≤ count_by p rows) (sym (pends.withdrawn there).1) (part p)
      | inr absent ↦
          let a = pends.added absent in
          let more : count_by p deletions' ≡ cond {A = ℕ} (p row) 1 0 + count_by p deletions = count_moved p (row ∷ deletions) deletions' a.0 ∙ count_cons p row deletions in
          elim (cases_Bool (p row)) [
            | inr fails ↦
                let zero : cond {A = ℕ} (p row) 1 0 ≡ 0 = count_zero p row fails in
                omega (arith, part p)
            | inl passes ↦
                let one : cond {A = ℕ} (p row) 1 0 ≡ 1 = ap (λ (b : Bool). cond {A = ℕ} b 1 0) passes in
                let q : Test = is_row row in
                let here = has q (is_row-same row) in
                let none : count_by q insertions ≡ 0 = no_count insertions row absent in
                let d_split = count_split p q deletions in
                let r_split = count_split p q rows in
                let d_one = count_one p row deletions passes in
                let r_one = count_one p row rows passes in
                let rest = part (λ r. p r && not (q r)) in
                omega (arith, here, none, d_split, r_split, d_one, r_one, rest, more, one)
          ]
    ]

-- a row with a score of 64 bits that begins to wait leaves the others' scores
pub IsScored-pended : (row : ℤ × List ℕ) (old new other_old other_new : List (ℤ × List ℕ)) → PendsCounts row old new other_old other_new → row.0 ≤ℤ greatest → IsScored old → IsScored new
IsScored-pended row old new other_old other_new counts fits scored =
    let zero = over_count old scored in
    let here : is_over row ≡ false = grind (arith, ints) in
    let none : cond {A = ℕ} (is_over row) 1 0 ≡ 0 = count_zero is_over row here in
    scored_over new (omega (arith, zero, none, counts.all is_over, counts.less is_over))

-- fewer rows have scores of 64 bits too
pub IsScored-less : (xs ys : List (ℤ × List ℕ)) → IsSubBag xs ys → IsScored ys → IsScored xs
IsScored-less xs ys less scored = scored_over xs (omega (arith, over_count ys scored, less is_over))
