-- Marks that cover the rows of a list.
use Rattle.std.proofs.Common.{◌≡◌, ℕ, ℤ, Bool, true, false, not, List, [], ◌∷◌, ◌++◌, length, get_or, sym, ◌∙◌, ap, refl, arith, Contains, All, IsPermutation}
use Rattle.std.specs.List.{AllWithin}
use Rattle.std.proofs.lemmas.Bool.{false≢true}
use Rattle.crack_kernel.specs.RowBag.{IsSubBag}
use Rattle.column_rows.specs.RowHash.{hash_of}
use Rattle.column_rows.specs.PendingBloom.{is_marked, Covers}
use Rattle.column_rows.proofs.Counts.{count_none, none_counted, count_push, count_zero, count_moved}

-- a list of rows that are all marked
pub covers_each : (marks : List ℕ) (rows : List (ℤ × List ℕ)) → AllWithin (λ r. is_marked marks (hash_of r) ≡ true) rows 0 (length rows) → Covers marks rows
covers_each marks rows all = count_none (λ r. not (is_marked marks (hash_of r))) rows (λ k d h. ap not (all k d (omega arith) h))

-- and each row of a list that is covered is marked
covered : (marks : List ℕ) (rows : List (ℤ × List ℕ)) → Covers marks rows → All (λ r. is_marked marks (hash_of r) ≡ true) rows
covered marks rows none k d h = marked (is_marked marks (hash_of (get_or rows k d))) (none_counted (λ r. not (is_marked marks (hash_of r))) rows none k d h)
  where
    marked : (b : Bool) → not b ≡ false → b ≡ true
    marked true h = refl
    marked false h = absurd (false≢true (sym h))

-- marks that are set in place of others
pub covers_more : (old new : List ℕ) (rows : List (ℤ × List ℕ)) → ((h : ℕ) → is_marked old h ≡ true → is_marked new h ≡ true) → Covers old rows → Covers new rows
covers_more old new rows kept none = covers_each new rows (λ k d low h. kept (hash_of (get_or rows k d)) (covered old rows none k d h))

pub covers_pushed : (marks : List ℕ) (rows : List (ℤ × List ℕ)) (x : ℤ × List ℕ) → is_marked marks (hash_of x) ≡ true → Covers marks rows → Covers marks (rows ++ x ∷ [])
covers_pushed marks rows x is none =
    let push = count_push (λ r. not (is_marked marks (hash_of r))) rows x in
    let zero = count_zero (λ r. not (is_marked marks (hash_of r))) x (ap not is) in
    omega (arith, push, zero, none)

pub covers_less : (marks : List ℕ) (old new : List (ℤ × List ℕ)) → IsSubBag new old → Covers marks old → Covers marks new
covers_less marks old new less none = omega (arith, less (λ r. not (is_marked marks (hash_of r))), none)

-- the same rows in another order
pub covers_moved : (marks : List ℕ) (old new : List (ℤ × List ℕ)) → IsPermutation old new → Covers marks old → Covers marks new
covers_moved marks old new moved none = count_moved (λ r. not (is_marked marks (hash_of r))) old new moved ∙ none

-- a row that is not marked is not there
pub covers_missing : (marks : List ℕ) (rows : List (ℤ × List ℕ)) (x : ℤ × List ℕ) → is_marked marks (hash_of x) ≡ false → Covers marks rows → ¬ Contains rows x
covers_missing marks rows x missing none there =
    let at : is_marked marks (hash_of (get_or rows there.0 x)) ≡ true = covered marks rows none there.0 x there.1 in
    let same : get_or rows there.0 x ≡ x = there.2 in
    false≢true (sym missing ∙ ap (λ (y : ℤ × List ℕ). is_marked marks (hash_of y)) (sym same) ∙ at)
