-- The pairs of a set as a bag: what each change of a set does to it.
use Rattle.std.proofs.Common.{◌≡◌, ℕ, ◌+◌, ◌≤◌, ℤ, Bool, true, false, cond, ◌&&◌, List, [], ◌∷◌, ◌++◌, length, length-append, count_by, Option, None, Some, refl, sym, ap, subst, ◌∙◌, arith}
use Rattle.std.specs.Prelude.{T}
use Rattle.std.specs.Ordering.{is_lt, is_eq, eq_by_cmp}
use Rattle.std.specs.declared.cmp.Ordering.{Ordering}
use Rattle.std.specs.declared.cmp.Ordering.TheVariants.{Less, Equal, Greater}
use Rattle.std.specs.FinMap as fin
use Rattle.std.specs.FinMap.{find, put, is_sorted}
use Rattle.std.specs.FinMap.Entries.{below_all}
use Rattle.std.specs.Cmp.Lexicographic.{bytes_decides}
use Rattle.std.proofs.lemmas.Map.Text.{is_eq-slice_cmp}
use Rattle.std.proofs.lemmas.List.{length-map}
use Rattle.std.proofs.lemmas.List.Sums.{sum_by-cons}
use Rattle.crack_kernel.specs.RowBag.{Test}
use Rattle.ripple_column.proofs.CallerLemmas.{count_all, count_push}
use Rattle.sorted_sets.proofs.Tests.{first, second}
use Rattle.zset_core.specs.SortedSet.{Members, Pair, bytes_cmp, pairs}
use Rattle.sorted_sets.specs.Plan.{NeedsAtMost}
use Rattle.zset_core.specs.RowEdits.{Notes, Turns}
use Rattle.sorted_sets.specs.declared.set.plan.Plan.TheVariants.{Scores}
use Rattle.sorted_sets.specs.declared.set.plan.ScoresPlan.{ScoresPlan}
use Rattle.zset_core.specs.declared.row_edits.Edits.{Edits}
use Rattle.sorted_sets.proofs.Bridge.{total, exact}
use Rattle.sorted_sets.proofs.Order.{swapped}
use Rattle.sorted_sets.specs.MembersWithStagedScores.{Entry, ScoresAreSettled, current_score, staged_score, members_by}
use Rattle.sorted_sets.proofs.Gathering.{remove_absent}
use Rattle.sorted_sets.proofs.Staging.{members_same}

abbrev pub one : Test → Pair → ℕ
one p x = cond (p x) 1 0

-- what a member that has this score counts
abbrev pub count_had : Test → List ℕ → Option ℤ → ℕ
count_had p k None = 0
count_had p k (Some s) = one p (s, k)

pub count_cons : (p : Test) (x : Pair) (xs : List Pair) → count_by p (x ∷ xs) ≡ one p x + count_by p xs
count_cons p x xs = sum_by-cons (λ z. cond (p z) 1 0) x xs

less : (o : Ordering) → T (is_lt o) → o ≡ Less
less Less h = refl
less Equal h = absurd h
less Greater h = absurd h

find_below : (k : List ℕ) (es : List (List ℕ × ℤ)) → T (below_all bytes_cmp k es) → find bytes_cmp k es ≡ None
find_below k [] h = refl
find_below k (e ∷ es) h =
    ap (λ (o : Ordering). cond (is_eq o) (Some e.1) (find bytes_cmp k es)) (less (bytes_cmp k e.0) (first (is_lt (bytes_cmp k e.0)) (below_all bytes_cmp k es) h))
    ∙ find_below k es (second (is_lt (bytes_cmp k e.0)) (below_all bytes_cmp k es) h)

lower : (x y : List ℕ) (es : List (List ℕ × ℤ)) → bytes_cmp x y ≡ Less → T (below_all bytes_cmp y es) → T (below_all bytes_cmp x es)
lower x y [] l h = tt
lower x y (e ∷ es) l h =
    let up = less (bytes_cmp y e.0) (first (is_lt (bytes_cmp y e.0)) (below_all bytes_cmp y es) h) in
    subst (λ (o : Ordering). T (is_lt o && below_all bytes_cmp x es)) (sym (total.trans x y e.0 l up)) (lower x y es l (second (is_lt (bytes_cmp y e.0)) (below_all bytes_cmp y es) h))

count_put_by : (p : Test) (k : List ℕ) (v : ℤ) (e : List ℕ × ℤ) (es : List (List ℕ × ℤ)) (o : Ordering) → bytes_cmp k e.0 ≡ o → T (below_all bytes_cmp e.0 es)
    → count_by p (swapped (put bytes_cmp k v es)) + count_had p k (find bytes_cmp k es) ≡ count_by p (swapped es) + one p (v, k)
    → count_by p (swapped (put bytes_cmp k v (e ∷ es))) + count_had p k (find bytes_cmp k (e ∷ es)) ≡ count_by p (swapped (e ∷ es)) + one p (v, k)
count_put_by p k v e es Less o below rest =
    let none : find bytes_cmp k es ≡ None = find_below k es (lower k e.0 es o below) in
    rw (o, none) (omega (arith, count_cons p (v, k) (swapped (e ∷ es))))
count_put_by p k v e es Equal o below rest =
    let same : k ≡ e.0 = exact k e.0 o in
    let here = count_cons p (v, e.0) (swapped es) in
    let there = count_cons p (e.1, e.0) (swapped es) in
    let new : one p (v, k) ≡ one p (v, e.0) = ap (λ (b : List ℕ). one p (v, b)) same in
    let old : one p (e.1, k) ≡ one p (e.1, e.0) = ap (λ (b : List ℕ). one p (e.1, b)) same in
    rw o (omega (arith, here, there, new, old))
count_put_by p k v e es Greater o below rest =
    let here = count_cons p (e.1, e.0) (swapped (put bytes_cmp k v es)) in
    let there = count_cons p (e.1, e.0) (swapped es) in
    rw o (omega (arith, rest, here, there))

count_put : (p : Test) (k : List ℕ) (v : ℤ) (es : List (List ℕ × ℤ)) → T (is_sorted bytes_cmp es)
    → count_by p (swapped (put bytes_cmp k v es)) + count_had p k (find bytes_cmp k es) ≡ count_by p (swapped es) + one p (v, k)
count_put p k v [] h = omega (arith, count_cons p (v, k) [])
count_put p k v (e ∷ es) h =
    count_put_by p k v e es (bytes_cmp k e.0) refl (first (below_all bytes_cmp e.0 es) (is_sorted bytes_cmp es) h) (count_put p k v es (second (below_all bytes_cmp e.0 es) (is_sorted bytes_cmp es) h))

-- a set after a member got a score
pub count_insert : (p : Test) (m : Members) (k : List ℕ) (v : ℤ) → count_by p (pairs (fin.insert m k v)) + count_had p k (fin.get m k) ≡ count_by p (pairs m) + one p (v, k)
unfolding pairs
count_insert p m k v =
    ap (λ (es : List (List ℕ × ℤ)). count_by p (swapped es) + count_had p k (fin.get m k)) (fin.entries-insert total m k v)
    ∙ ap (λ (o : Option ℤ). count_by p (swapped (put bytes_cmp k v (fin.entries m))) + count_had p k o) (fin.get-entries m k)
    ∙ count_put p k v (fin.entries m) (fin.entries_sorted m)

tied : (k : List ℕ) → eq_by_cmp bytes_cmp k k ≡ true
tied k = is_eq-slice_cmp k k ∙ (bytes_decides k k).1 refl

-- and without a member
pub count_remove : (p : Test) (m : Members) (k : List ℕ) → count_by p (pairs (fin.remove m k)) + count_had p k (fin.get m k) ≡ count_by p (pairs m)
count_remove p m k = by (fin.get m k) refl
  where
    by : (o : Option ℤ) → fin.get m k ≡ o → count_by p (pairs (fin.remove m k)) + count_had p k o ≡ count_by p (pairs m)
    by None absent = let same = ap (λ (n : Members). count_by p (pairs n)) (remove_absent m k absent) in omega (arith, same)
    by (Some s) there =
        let gone : fin.get (fin.remove m k) k ≡ None = fin.get-remove total m k k ∙ ap (λ (b : Bool). cond b None (fin.get m k)) (tied k) in
        let back : fin.insert (fin.remove m k) k s ≡ m = fin.same_map total exact (fin.insert (fin.remove m k) k s) m (λ q.
        fin.get-insert total (fin.remove m k) k s q ∙ ap (cond (eq_by_cmp bytes_cmp q k) (Some s)) (fin.get-remove total m k q) ∙ at q (eq_by_cmp bytes_cmp q k) refl) in
        let put = count_insert p (fin.remove m k) k s in
        let had : count_had p k (fin.get (fin.remove m k) k) ≡ 0 = ap (count_had p k) gone in
        let same = ap (λ (n : Members). count_by p (pairs n)) back in
        omega (arith, put, had, same)
      where
        eq_is : (q x : List ℕ) (o : Ordering) → bytes_cmp q x ≡ o → is_eq o ≡ true → q ≡ x
        eq_is q x Less e t = cc
        eq_is q x Equal e t = exact q x e
        eq_is q x Greater e t = cc

        at : (q : List ℕ) (b : Bool) → eq_by_cmp bytes_cmp q k ≡ b → cond b (Some s) (cond b None (fin.get m q)) ≡ fin.get m q
        at q true e = sym (ap (fin.get m) (eq_is q k (bytes_cmp q k) refl e) ∙ there)
        at q false e = refl

-- a set has as many pairs as members
pub count_pairs : (m : Members) → count_by (λ r. true) (pairs m) ≡ fin.len m
unfolding pairs
count_pairs m = count_all (pairs m) ∙ length-map (fin.entries m) (λ (e : List ℕ × ℤ). (e.1, e.0)) ∙ sym (fin.len-entries m)

module _ {A : Type 0} where
  pub Notes-more : (most more : ℕ) (old new : Members) (e f : Edits A) → most ≤ more → Notes most old new e f → Notes more old new e f
  Notes-more most more old new e f up n = record { bags = n.bags; coming = omega (arith, n.coming); leaving = omega (arith, n.leaving) }

  -- the same of equal edits
  pub Notes-same : (most : ℕ) (old new : Members) (e f g : Edits A) → g ≡ f → Notes most old new e f → Notes most old new e g
  Notes-same most old new e f g same n = subst (Notes most old new e) (sym same) n

  pub Notes-then : (a b : ℕ) (l m n : Members) (e f g : Edits A) → Notes a l m e f → Notes b m n f g → Notes (a + b) l n e g
  Notes-then a b l m n e f g x y = record { bags = λ p. omega (arith, x.bags p, y.bags p); coming = omega (arith, x.coming, y.coming); leaving = omega (arith, x.leaving, y.leaving) }

  -- a member that was not there
  pub Notes-added : (m : Members) (k : List ℕ) (s : ℤ) (e f : Edits A) → fin.get m k ≡ None → f.coming.items ≡ e.coming.items ++ (s, k) ∷ [] → f.leaving.items ≡ e.leaving.items
      → Notes 1 m (fin.insert m k s) e f
  Notes-added m k s e f absent came left = record {
    bags = λ p.
        let put = count_insert p m k s in
        let had : count_had p k (fin.get m k) ≡ 0 = ap (count_had p k) absent in
        let more : count_by p f.coming.items ≡ count_by p e.coming.items + one p (s, k) = ap (count_by p) came ∙ count_push p e.coming.items (s, k) in
        let same : count_by p f.leaving.items ≡ count_by p e.leaving.items = ap (count_by p) left in
        omega (arith, put, had, more, same);
    coming = rw came (omega (arith, length-append e.coming.items ((s, k) ∷ [])));
    leaving = rw left (omega arith);
  }

  -- a member with another score
  pub Notes-changed : (m : Members) (k : List ℕ) (old s : ℤ) (e f : Edits A) → fin.get m k ≡ Some old → f.coming.items ≡ e.coming.items ++ (s, k) ∷ [] → f.leaving.items ≡ e.leaving.items ++ (old, k) ∷ []
      → Notes 1 m (fin.insert m k s) e f
  Notes-changed m k old s e f there came left = record {
    bags = λ p.
        let put = count_insert p m k s in
        let had : count_had p k (fin.get m k) ≡ one p (old, k) = ap (count_had p k) there in
        let more : count_by p f.coming.items ≡ count_by p e.coming.items + one p (s, k) = ap (count_by p) came ∙ count_push p e.coming.items (s, k) in
        let gone : count_by p f.leaving.items ≡ count_by p e.leaving.items + one p (old, k) = ap (count_by p) left ∙ count_push p e.leaving.items (old, k) in
        omega (arith, put, had, more, gone);
    coming = rw came (omega (arith, length-append e.coming.items ((s, k) ∷ [])));
    leaving = rw left (omega (arith, length-append e.leaving.items ((old, k) ∷ [])));
  }

  pub Turns-between : (most : ℕ) (old old' new new' : Members) (e f : Edits A) → old ≡ old' → new ≡ new' → e.coming.items ≡ [] → e.leaving.items ≡ [] → Notes most old new e f
      → Turns old' new' f.coming.items f.leaving.items
  Turns-between most old old' new new' e f first last none nothing n p =
      let a = ap (λ (m : Members). count_by p (pairs m)) first in
      let b = ap (λ (m : Members). count_by p (pairs m)) last in
      let c : count_by p e.coming.items ≡ 0 = ap (count_by p) none in
      let d : count_by p e.leaving.items ≡ 0 = ap (count_by p) nothing in
      omega (arith, a, b, c, d, n.bags p)

  pub NeedsAtMost-noted : (most more : ℕ) (old new : Members) (e : Edits A) (plan : ScoresPlan A) → e.coming.items ≡ [] → e.leaving.items ≡ [] → most ≤ more
      → Notes most old new e plan.draft.edits → NeedsAtMost more (Scores plan)
  NeedsAtMost-noted most more old new e plan none nothing up n = record {
    coming = omega (arith, up, n.coming, ap length none);
    leaving = omega (arith, up, n.leaving, ap length nothing);
  }

  pub NeedsAtMost-none : (most : ℕ) (plan : ScoresPlan A) → plan.draft.edits.coming.items ≡ [] → plan.draft.edits.leaving.items ≡ [] → NeedsAtMost most (Scores plan)
  NeedsAtMost-none most plan none nothing = record { coming = omega (arith, ap length none); leaving = omega (arith, ap length nothing) }

  -- nothing changes where nothing is noted
  pub Turns-none : (m : Members) (e : Edits A) → e.coming.items ≡ [] → e.leaving.items ≡ [] → Turns m m e.coming.items e.leaving.items
  Turns-none m e none nothing p = omega (arith, ap (count_by p) none, ap (count_by p) nothing)

-- entries whose scores are settled are what they were by no edit
pub Turns-settled : (es : List Entry) → ScoresAreSettled es → Turns (members_by current_score es) (members_by staged_score es) [] []
Turns-settled es settled p = ap (λ (m : Members). count_by p (pairs m) + 0) (members_same es settled)
