-- The rows of a range of a column: in the order of a listing they are the listing.
use Rattle.std.proofs.Common.{◌≡◌, ℕ, ◌+◌, ◌<◌, ◌≤◌, ℤ, Bool, true, false, cond, nat_lt, ◌&&◌, ◌||◌, List, [], ◌∷◌, filter, length, count_by, pos, Option, None, Some, IsSome, Result, Ok, Err, IfOk, OnOk, OnErr, refl, sym, ap, subst, ◌∙◌, arith}
use Rattle.std.proofs.lemmas.List.{length-map}
use Rattle.std.specs.Prelude.{slice_range}
use Rattle.std.specs.List.{AllByRecursion, IsDistinct, list_any}
use Rattle.std.specs.Cmp.{eq_by_cmp_equiv}
use Rattle.std.specs.FinMap as fin
use Rattle.std.proofs.lemmas.Bool.{false≢true}
use Rattle.std.proofs.lemmas.Bool.Decides.{nat_tests}
use Rattle.std.proofs.lemmas.List.Sums.{sum_by-cons}
use Rattle.score_bounds.specs.declared.ranges_and_cuts.Range.{Range}
use Rattle.score_bounds.specs.RangesAndCuts.{is_in}
use Rattle.crack_kernel.specs.RowBag.{Test, SameBag}
use Rattle.ripple_column.specs.Content.{ColumnState, Holds, SameContent}
use Rattle.ripple_column.specs.RangeAnswer.{HasAnswer, HoldsRange}
use Rattle.ripple_column.proofs.CallerLemmas.{count_all}
use Rattle.zset_core.specs.SortedSet.{Members, Pair, pair_cmp, pairs, marks, listing}
use Rattle.resp_wire.specs.Response.{Response, Integer, Array}
use Rattle.ripple_column.specs.RangeEffects.{Selects}
use Rattle.sorted_sets.specs.CommandEffectsOnColumn.{Reads, SelectsListed, SelectsWindow}
use Rattle.zset_commands.specs.AbstractCommand.{Question, Count, ListRange}
use Rattle.zset_core.specs.Semantics.{answer, elements, apply_limit}
use Rattle.zset_commands.specs.declared.limit.Limit.{Limit}
use Rattle.sorted_sets.proofs.Order.{is_pair, is_equal, pair_total, filter_apart, len_marks, pairs_apart}

count_cons : (p : Test) (x : Pair) (xs : List Pair) → count_by p (x ∷ xs) ≡ cond {A = ℕ} (p x) 1 0 + count_by p xs
count_cons p x xs = sum_by-cons (λ z. cond (p z) 1 0) x xs

pub positive : (n : ℕ) → 0 < n → nat_lt 0 n ≡ true
positive n h = grind (arith, nat_tests)

-- a test is passed where it counts some
any_step : (b a : Bool) (n m : ℕ) → m ≡ cond {A = ℕ} b 1 0 + n → a ≡ nat_lt 0 n → (b || a) ≡ nat_lt 0 m
any_step true a n m e h = sym (positive m (omega arith))
any_step false a n m e h = let same : n ≡ m = omega arith in h ∙ ap (nat_lt 0) same

pub any_count : (p : Test) (xs : List Pair) → list_any p xs ≡ nat_lt 0 (count_by p xs)
any_count p [] = refl
any_count p (x ∷ xs) = any_step (p x) (list_any p xs) (count_by p xs) (count_by p (x ∷ xs)) (count_cons p x xs) (any_count p xs)

none_count : (p : Test) (xs : List Pair) → AllByRecursion (λ x. p x ≡ false) xs → count_by p xs ≡ 0
none_count p [] h = refl
none_count p (x ∷ xs) h =
    let here : cond {A = ℕ} (p x) 1 0 ≡ 0 = ap (λ (b : Bool). cond {A = ℕ} b 1 0) h.0 in
    omega (arith, here, count_cons p x xs, none_count p xs h.1)

count_nothing : (p : Test) (xs : List Pair) → count_by p xs ≡ 0 → AllByRecursion (λ x. p x ≡ false) xs
count_nothing p [] h = tt
count_nothing p (x ∷ xs) h = (by (p x) (count_cons p x xs), count_nothing p xs (omega (arith, count_cons p x xs)))
  where
    by : (b : Bool) → count_by p (x ∷ xs) ≡ cond {A = ℕ} b 1 0 + count_by p xs → b ≡ false
    by true e = absurd (omega (arith, e, h))
    by false e = refl

-- pairs that are apart are counted once
pub count_once : (q : Pair) (xs : List Pair) → IsDistinct is_pair xs → count_by (is_pair q) xs ≤ 1
unfolding IsDistinct
count_once q [] d = omega arith
count_once q (x ∷ xs) d = by (is_pair q x) refl (count_cons (is_pair q) x xs) (count_once q xs d.1)
  where
    by : (b : Bool) → is_pair q x ≡ b → count_by (is_pair q) (x ∷ xs) ≡ cond {A = ℕ} b 1 0 + count_by (is_pair q) xs → count_by (is_pair q) xs ≤ 1 → count_by (is_pair q) (x ∷ xs) ≤ 1
    by true is e rest =
        let none : count_by (is_pair q) xs ≡ 0 = ap (λ (y : Pair). count_by (is_pair y) xs) (is_equal q x is) ∙ none_count (is_pair x) xs d.0 in
        omega (arith, e, none)
    by false is e rest = omega (arith, e, rest)

-- and pairs that are counted once are apart
pub apart_once : (xs : List Pair) → ((q : Pair) → count_by (is_pair q) xs ≤ 1) → IsDistinct is_pair xs
unfolding IsDistinct
apart_once [] h = tt
apart_once (x ∷ xs) h =
    let self : cond {A = ℕ} (is_pair x x) 1 0 ≡ 1 = ap (λ (b : Bool). cond {A = ℕ} b 1 0) ((eq_by_cmp_equiv pair_total).refl x) in
    (count_nothing (is_pair x) xs (omega (arith, self, count_cons (is_pair x) x xs, h x)), apart_once xs (λ q. omega (arith, h q, count_cons (is_pair q) x xs)))

pub count_filter : (p t : Test) (xs : List Pair) → count_by (λ x. p x && t x) xs ≡ count_by p (filter t xs)
count_filter p t [] = refl
count_filter p t (x ∷ xs) = count_cons (λ x. p x && t x) x xs ∙ by (p x) refl (t x) (count_filter p t xs)
  where
    by : (a : Bool) → p x ≡ a → (b : Bool) → count_by (λ x. p x && t x) xs ≡ count_by p (filter t xs)
        → cond {A = ℕ} (p x && b) 1 0 + count_by (λ x. p x && t x) xs ≡ count_by p (cond b (x ∷ filter t xs) (filter t xs))
    by true is true rest =
        let here : cond {A = ℕ} (p x) 1 0 ≡ 1 = ap (λ (b : Bool). cond {A = ℕ} b 1 0) is in
        rw is (omega (arith, rest, here, count_cons p x (filter t xs)))
    by true is false rest = rw is (omega (arith, rest))
    by false is true rest =
        let here : cond {A = ℕ} (p x) 1 0 ≡ 0 = ap (λ (b : Bool). cond {A = ℕ} b 1 0) is in
        rw is (omega (arith, rest, here, count_cons p x (filter t xs)))
    by false is false rest = rw is (omega (arith, rest))

-- the rows of a range are the bag of the pairs with scores in it
pub SameBag-range : (c : ColumnState) (m : Members) (range : Range) (answer : ℕ × ℕ) → Holds c (pairs m) → HoldsRange c range answer
    → SameBag (slice_range c.rows answer.0 answer.1) (filter (λ p. is_in range p.0) (pairs m))
SameBag-range c m range answer holds within p = within.rows p ∙ holds (λ r. p r && is_in range r.0) ∙ count_filter p (λ r. is_in range r.0) (pairs m)

-- they are as many as the listing has
pub length_listing : (t : ℤ → Bool) (m : Members) (rows : List Pair) → SameBag rows (filter (λ p. t p.0) (pairs m)) → length (listing t m) ≡ length rows
unfolding listing
length_listing t m rows bag =
    let L : List Pair = filter (λ p. t p.0) (pairs m) in
    length-map (fin.entries (fin.from_entries {R = pair_cmp} (marks L))) (λ (e : Pair × Unit {0}). e.0) ∙ sym (fin.len-entries (fin.from_entries {R = pair_cmp} (marks L)))
    ∙ len_marks L (filter_apart (λ p. t p.0) (pairs m) (pairs_apart m)) ∙ sym (count_all L) ∙ sym (bag (λ x. true)) ∙ count_all rows

-- the replies to the questions that name a range
pub count_reply : (m : Members) (question : Question) (range : Range) (reply : Response) → question ≡ Count range
    → reply ≡ Integer (pos (length (listing (is_in range) m))) → reply ≡ answer m question
count_reply m question range reply is told = told ∙ sym (ap (answer m) is)

pub list_reply : (m : Members) (question : Question) (range : Range) (with_scores : Bool) (limit : Option Limit) (reply : Response) → question ≡ ListRange range with_scores limit
    → reply ≡ Array (elements with_scores (apply_limit limit (listing (is_in range) m))) → reply ≡ answer m question
list_reply m question range with_scores limit reply is told = told ∙ sym (ap (answer m) is)

pub IfOk-all : {T E : Type 0} {P Q : T → Type 0} (r : Result T E) → ((x : T) → P x → Q x) → IfOk r P → IfOk r Q
IfOk-all (Ok x) all h = all x h
IfOk-all (Err e) all h = tt

-- a column of the same content
pub Holds-same : (c c' : ColumnState) (m : Members) → SameContent c c' → Holds c (pairs m) → Holds c' (pairs m)
Holds-same c c' m same holds p = same p ∙ holds p

-- what a question of a range does to the column
pub Reads-count : (old new : ColumnState) (question : Question) (range : Range) → question ≡ Count range → Selects range old new → Reads question old new
Reads-count old new question range is selects = subst (λ (q : Question). Reads q old new) (sym is) selects

pub Reads-list : (old new : ColumnState) (question : Question) (range : Range) (with_scores : Bool) (limit : Option Limit) → question ≡ ListRange range with_scores limit → SelectsListed limit range old new → Reads question old new
Reads-list old new question range with_scores limit is selects = subst (λ (q : Question). Reads q old new) (sym is) selects

-- a range that was asked for may be listed, all of it or a window
pub SelectsListed-selects : (limit : Option Limit) (range : Range) (old new : ColumnState) → HasAnswer new range → Selects range old new → SelectsListed limit range old new
SelectsListed-selects None range old new answer selects = selects
SelectsListed-selects (Some limit) range old new answer selects = record {
  answer = answer;
  waiting_insertions = selects.waiting_insertions;
  waiting_deletions = selects.waiting_deletions;
  pivots = selects.pivots;
  empty = selects.empty;
}

pub SelectsListed-window : (limit : Option Limit) (range : Range) (old new : ColumnState) → IsSome limit → SelectsWindow range old new → SelectsListed limit range old new
SelectsListed-window None range old new some window = absurd (false≢true some)
SelectsListed-window (Some limit) range old new some window = window

pub OnOk-any : {X E : Type 0} (r : Result X E) (P : Type 0) → P → OnOk r P
OnOk-any (Ok x) P h = h
OnOk-any (Err e) P h = tt

pub OnErr-any : {X E : Type 0} (r : Result X E) (P : Type 0) → P → OnErr r P
OnErr-any (Ok x) P h = tt
OnErr-any (Err e) P h = h
