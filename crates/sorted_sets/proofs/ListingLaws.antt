-- Laws of listings.
use Rattle.std.proofs.Common.{◌≡◌, ◌↔◌, ℕ, zero, suc, ◌<◌, ◌<ℤ◌, inl, inr, ℤ, Bool, true, false, cond, ◌&&◌, List, [], ◌∷◌, map, filter, length, get_or, Option, None, Some, is_some, refl, sym, ap, subst, ◌∙◌, arith}
use Rattle.std.specs.Prelude.{T, AllPairs, Contains}
use Rattle.std.specs.List.{list_any}
use Rattle.std.specs.Ordering.{MatchOrdering, int_cmp, is_eq, is_lt, ordering_then}
use Rattle.std.specs.Cmp.{int_ranks}
use Rattle.std.specs.declared.cmp.Ordering.{Ordering}
use Rattle.std.specs.declared.cmp.Ordering.TheVariants.{Less, Equal, Greater}
use Rattle.std.specs.FinMap as fin
use Rattle.std.specs.FinMap.{is_sorted}
use Rattle.std.specs.FinMap.Entries.{below_all}
use Rattle.std.proofs.lemmas.Bool.{and_parts}
use Rattle.std.proofs.lemmas.Cmp.{int_cmp_total, tied_itself}
use Rattle.std.proofs.lemmas.List.Folds.{Any-from_list_any, list_any_at}
use Rattle.std.proofs.lemmas.Map.Views.{any-filter_same}
use Rattle.sorted_sets.proofs.Tests.{first, second}
use Rattle.zset_core.specs.SortedSet.{Members, Pair, bytes_cmp, pair_cmp, pairs, marks, listing, IsListedBefore}
use Rattle.sorted_sets.proofs.Order.{find_marks, has_of_pairs, is_equal, is_pair, is_same, pair_total}

-- ---- the order
less : (o : Ordering) → T (is_lt o) → o ≡ Less
less Less h = refl
less Equal h = absurd h
less Greater h = absurd h

-- what is less as a pair stands before
before : (a b : Pair) → pair_cmp a b ≡ Less → IsListedBefore a b
before a b below = by (int_cmp a.0 b.0) refl (int_ranks a.0 b.0) below
  where
    by : (o : Ordering) → int_cmp a.0 b.0 ≡ o → MatchOrdering o (a.0 <ℤ b.0) (a.0 ≡ b.0) (b.0 <ℤ a.0) → ordering_then o (bytes_cmp a.1 b.1) ≡ Less → IsListedBefore a b
    by Less is lower h = inl lower
    by Equal is same h = inr (same, h)
    by Greater is above h = absurd (let no : ⊥ = cc in no)

below_at : (p : Pair) (es : List (Pair × Unit {0})) → T (below_all pair_cmp p es) → (k : ℕ) (d : Pair) → k < length (map (λ e. e.0) es) → pair_cmp p (get_or (map (λ e. e.0) es) k d) ≡ Less
below_at p [] h k d within = absurd (omega (arith, within))
below_at p (e ∷ es) h zero d within = less (pair_cmp p e.0) (first (is_lt (pair_cmp p e.0)) (below_all pair_cmp p es) h)
below_at p (e ∷ es) h (suc k) d within = below_at p es (second (is_lt (pair_cmp p e.0)) (below_all pair_cmp p es) h) k d (omega (arith, within))

rise : (es : List (Pair × Unit {0})) → T (is_sorted pair_cmp es) → AllPairs IsListedBefore (map (λ e. e.0) es)
rise [] h i j d less_index within = absurd (omega (arith, within))
rise (e ∷ es) h i zero d less_index within = absurd (omega (arith, less_index))
rise (e ∷ es) h zero (suc j) d less_index within =
    before e.0 (get_or (map (λ e. e.0) es) j d) (below_at e.0 es (first (below_all pair_cmp e.0 es) (is_sorted pair_cmp es) h) j d (omega (arith, within)))
rise (e ∷ es) h (suc i) (suc j) d less_index within = rise es (second (below_all pair_cmp e.0 es) (is_sorted pair_cmp es) h) i j d (omega (arith, less_index)) (omega (arith, within))

pub listing_rises : (test : ℤ → Bool) (members : Members) → AllPairs IsListedBefore (listing test members)
unfolding listing
listing_rises test members =
    let listed = fin.from_entries {R = pair_cmp} (marks (filter (λ p. test p.0) (pairs members))) in
    rise (fin.entries listed) (fin.entries_sorted listed)

-- ---- the pairs
is_some-cond : (b : Bool) → is_some (cond {A = Option (Unit {0})} b (Some tt) None) ≡ b
is_some-cond true = refl
is_some-cond false = refl

-- a pair is in the listing just where its score passes and is the one of its member
has_listed : (test : ℤ → Bool) (members : Members) (q : Pair) → list_any (is_pair q) (listing test members) ≡ (test q.0 && is_same (fin.get members q.1) q.0)
unfolding listing
has_listed test members q =
    let passed = filter (λ p. test p.0) (pairs members) in
    let listed = fin.from_entries {R = pair_cmp} (marks passed) in
    sym (fin.contains_key-keys listed q) ∙ ap is_some (fin.get-from_entries pair_total (marks passed) q ∙ find_marks q passed) ∙ is_some-cond (list_any (is_pair q) passed)
    ∙ any-filter_same (is_pair q) (λ p. test p.0) (test q.0) (λ k e. ap (λ (p : Pair). test p.0) (sym (is_equal q k e))) (pairs members)
    ∙ ap (λ b. test q.0 && b) (has_of_pairs members q)

pub tied : (q : Pair) → is_pair q q ≡ true
tied q = ap is_eq (tied_itself pair_total q)

contained : (q : Pair) (ps : List Pair) → Contains ps q → list_any (is_pair q) ps ≡ true
contained q ps (k, within, is) = list_any_at (is_pair q) ps k q within (ap (is_pair q) is ∙ tied q)

found : (q : Pair) (ps : List Pair) → list_any (is_pair q) ps ≡ true → Contains ps q
found q ps h =
    let any = Any-from_list_any (is_pair q) ps h in
    subst (λ (y : Pair). Contains ps y) (sym (is_equal q any.1 any.4)) (any.0, any.2, any.3)

score_at : (x s : ℤ) → is_eq (int_cmp s x) ≡ true → x ≡ s
score_at x s h = by (int_cmp s x) (int_ranks s x) h
  where
    by : (o : Ordering) → MatchOrdering o (s <ℤ x) (s ≡ x) (x <ℤ s) → is_eq o ≡ true → x ≡ s
    by Less r t = absurd (let no : ⊥ = cc in no)
    by Equal r t = sym r
    by Greater r t = absurd (let no : ⊥ = cc in no)

pub is_score : (o : Option ℤ) (s : ℤ) → is_same o s ≡ true → o ≡ Some s
is_score None s h = absurd (let no : ⊥ = cc in no)
is_score (Some x) s h = ap Some (score_at x s h)

pub listed : (test : ℤ → Bool) (members : Members) (score : ℤ) (member : List ℕ) → Contains (listing test members) (score, member) ↔ ((fin.get members member ≡ Some score) × (test score ≡ true))
listed test members score member = (there, back)
  where
    there : Contains (listing test members) (score, member) → (fin.get members member ≡ Some score) × (test score ≡ true)
    there h =
        let parts = and_parts _ _ (sym (has_listed test members (score, member)) ∙ contained (score, member) (listing test members) h) in
        (is_score (fin.get members member) score parts.1, parts.0)

    back : (fin.get members member ≡ Some score) × (test score ≡ true) → Contains (listing test members) (score, member)
    back (is, passes) =
        let one : is_same (fin.get members member) score ≡ true = ap (λ (o : Option ℤ). is_same o score) is ∙ ap is_eq (tied_itself int_cmp_total score) in
        found (score, member) (listing test members) (has_listed test members (score, member) ∙ ap (λ b. b && is_same (fin.get members member) score) passes ∙ one)
