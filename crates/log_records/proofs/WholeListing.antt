-- The listing of a whole set has each of its pairs, and no other.
use Rattle.std.proofs.Common.{◌≡◌, ℕ, ℤ, Bool, true, false, cond, ◌||◌, List, [], ◌∷◌, filter, Option, None, Some, is_some, refl, sym, ap, ◌∙◌}
use Rattle.std.specs.List.{AllByRecursion, list_any}
use Rattle.std.specs.Ordering.{eq_by_cmp, int_cmp, is_eq}
use Rattle.std.specs.declared.cmp.Ordering.{Ordering}
use Rattle.std.specs.declared.cmp.Ordering.TheVariants.{Less, Equal, Greater}
use Rattle.std.specs.Cmp.{eq_by_cmp_equiv}
use Rattle.std.specs.FinMap as fin
use Rattle.std.proofs.lemmas.Cmp.{int_cmp_total}
use Rattle.zset_core.specs.SortedSet.{Members, Pair, bytes_cmp, pair_cmp, pairs, marks, listing, whole}
use Rattle.sorted_sets.proofs.CallerLemmas.{total}
use Rattle.sorted_sets.proofs.CallerLemmas.{pair_total, is_pair, is_same, is_equal, has_of_pairs, find_marks}

pub later : {b : Bool} (a : Bool) → b ≡ true → (a || b) ≡ true
later true h = refl
later false h = h

-- what holds of each element that a list is found to have holds of its elements
pub each_found : {X : Type 0} (eq : X → X → Bool) → ((x : X) → eq x x ≡ true) → (P : X → Type 0) (xs : List X) → ((q : X) → list_any (eq q) xs ≡ true → P q) → AllByRecursion P xs
each_found eq self P [] found = tt
each_found eq self P (x ∷ xs) found = (found x (ap (λ b. b || list_any (eq x) xs) (self x)), each_found eq self P xs (λ q h. found q (later (eq q x) h)))

filter_none : (ps : List Pair) → filter (λ p. true) ps ≡ ps
filter_none [] = refl
filter_none (p ∷ ps) = ap (λ l. p ∷ l) (filter_none ps)

abbrev mark : Bool → Option (Unit {0})
mark b = cond b (Some tt) None

marked : (b : Bool) → is_some (mark b) ≡ b
marked true = refl
marked false = refl

has_of_whole : (m : Members) (q : Pair) → list_any (is_pair q) (whole m) ≡ is_same (fin.get m q.1) q.0
unfolding listing
has_of_whole m q =
    let all : List Pair = filter (λ p. true) (pairs m) in
    sym (fin.contains_key-keys (fin.from_entries {R = pair_cmp} (marks all)) q)
    ∙ ap is_some (fin.get-from_entries pair_total (marks all) q ∙ find_marks q all) ∙ marked (list_any (is_pair q) all)
    ∙ ap (list_any (is_pair q)) (filter_none (pairs m)) ∙ has_of_pairs m q

same_pair : (q : Pair) → is_pair q q ≡ true
same_pair q = (eq_by_cmp_equiv pair_total).refl q

score_is : (o : Option ℤ) (s : ℤ) → is_same o s ≡ true → o ≡ Some s
score_is None s h = let no : false ≡ true = h in cc
score_is (Some x) s h = ap Some (sym (fin.int_cmp-IsAntisymmetric s x (tied (int_cmp s x) h)))
  where
    tied : (o : Ordering) → is_eq o ≡ true → o ≡ Equal
    tied Less e = cc
    tied Equal e = refl
    tied Greater e = cc

-- each pair is one of the set
pub each_of_whole : (m : Members) → AllByRecursion (λ p. fin.get m p.1 ≡ Some p.0) (whole m)
each_of_whole m = each_found is_pair same_pair (λ p. fin.get m p.1 ≡ Some p.0) (whole m) (λ q h. score_is (fin.get m q.1) q.0 (sym (has_of_whole m q) ∙ h))

-- a list has a pair of this member
abbrev pub has_member : List Pair → List ℕ → Bool
has_member ps q = list_any (λ (p : Pair). eq_by_cmp bytes_cmp q p.1) ps

-- each member of the set has a pair
pub member_listed : (m : Members) (q : List ℕ) (s : ℤ) → fin.get m q ≡ Some s → has_member (whole m) q ≡ true
member_listed m q s is = weaker (whole m) (has_of_whole m (s, q) ∙ ap (λ (o : Option ℤ). is_same o s) is ∙ (eq_by_cmp_equiv int_cmp_total).refl s)
  where
    weaker : (ps : List Pair) → list_any (is_pair (s, q)) ps ≡ true → has_member ps q ≡ true
    weaker [] h = let no : false ≡ true = h in cc
    weaker (p ∷ ps) h = by (weaker ps) (is_pair (s, q) p) refl h
      where
        by : (list_any (is_pair (s, q)) ps ≡ true → has_member ps q ≡ true) → (b : Bool) → is_pair (s, q) p ≡ b → (b || list_any (is_pair (s, q)) ps) ≡ true
            → (eq_by_cmp bytes_cmp q p.1 || has_member ps q) ≡ true
        by on true e found = ap (λ b. b || has_member ps q) (ap (λ (x : Pair). eq_by_cmp bytes_cmp q x.1) (sym (is_equal (s, q) p e)) ∙ (eq_by_cmp_equiv total).refl q)
        by on false e found = later (eq_by_cmp bytes_cmp q p.1) (on found)
