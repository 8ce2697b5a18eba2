-- The effect of a change makes of a set what the change made of it.
use Rattle.std.proofs.Common.{◌≡◌, ℕ, ℤ, Bool, true, false, cond, not, ◌||◌, ◌&&◌, List, [], ◌∷◌, filter, map, Option, None, Some, is_some, refl, sym, ap, ◌∙◌}
use Rattle.std.specs.List.{AllByRecursion}
use Rattle.std.specs.Str.{bytes_eq}
use Rattle.std.specs.Ordering.{eq_by_cmp}
use Rattle.std.specs.Cmp.{signed_Decides}
use Rattle.std.specs.Cmp.Lexicographic.{bytes_decides, nat_list_eq_equiv}
use Rattle.std.specs.FinMap as fin
use Rattle.zset_core.specs.SortedSet.{Members, Pair, bytes_cmp, names_of}
use Rattle.zset_core.specs.Semantics.{outcome_of, writes, put_one, put_all, remove_all}
use Rattle.sorted_sets.specs.MovedMembers.{same_score, differs, moved_names}
use Rattle.zset_commands.specs.declared.flags.Flags.{Flags}
use Rattle.sorted_sets.proofs.CallerLemmas.{total, exact, tied}
use Rattle.sorted_sets.proofs.Outlines.{has}
use Rattle.sorted_sets.proofs.Gathering.{get-remove_all}
use Rattle.sorted_sets.proofs.Effects.{has-once}
use Rattle.log_records.proofs.WholeListing.{has_member}
use Rattle.log_records.proofs.SetUnion.{plain, put_all_get}

-- names with their scores in a set, None where it has them not
abbrev pub scores_in : Members → List (List ℕ) → List (List ℕ × Option ℤ)
scores_in members names = map (λ name. (name, fin.get members name)) names

-- the pairs of those that have one
abbrev pub pair_behind : List ℕ → Option ℤ → List Pair → List Pair
pair_behind name None more = more
pair_behind name (Some score) more = (score, name) ∷ more

abbrev pub pairs_of : List (List ℕ × Option ℤ) → List Pair
pairs_of [] = []
pairs_of (entry ∷ more) = pair_behind entry.0 entry.1 (pairs_of more)

-- ---- which names are moved
has-filter : (t : List ℕ → Bool) (names : List (List ℕ)) (q : List ℕ) → has (filter t names) q ≡ (t q && has names q)
has-filter t [] q = by (t q)
  where
    by : (b : Bool) → false ≡ (b && false)
    by true = refl
    by false = refl
has-filter t (x ∷ names) q = by (t x) (bytes_eq q x) refl refl (has-filter t names q)
  where
    by : (a same : Bool) → t x ≡ a → bytes_eq q x ≡ same → has (filter t names) q ≡ (t q && has names q)
        → has (cond a (x ∷ filter t names) (filter t names)) q ≡ (t q && (same || has names q))
    by true true passes is rest =
        let here : t q ≡ true = ap t ((bytes_decides q x).0 is) ∙ passes in
        ap (λ (b : Bool). b || has (filter t names) q) is ∙ sym (ap (λ (b : Bool). b && true) here)
    by true false passes is rest = ap (λ (b : Bool). b || has (filter t names) q) is ∙ rest
    by false true fails is rest =
        let here : t q ≡ false = ap t ((bytes_decides q x).0 is) ∙ fails in
        rest ∙ ap (λ (b : Bool). b && has names q) here ∙ sym (ap (λ (b : Bool). b && true) here)
    by false false fails is rest = rest

pub has-moved : (old new : Members) (names : List (List ℕ)) (q : List ℕ) → has (moved_names old new names) q ≡ (differs old new q && has names q)
has-moved old new names q = has-once (filter (differs old new) names) q ∙ has-filter (differs old new) names q

-- scores that do not differ are the same
same_scores : (a b : Option ℤ) → same_score a b ≡ true → a ≡ b
same_scores None None h = refl
same_scores None (Some b) h = let no : false ≡ true = h in cc
same_scores (Some a) None h = let no : false ≡ true = h in cc
same_scores (Some a) (Some b) h = ap Some ((signed_Decides a b).0 h)

pub not_differs : (old new : Members) (q : List ℕ) → differs old new q ≡ false → fin.get old q ≡ fin.get new q
not_differs old new q h = same_scores (fin.get old q) (fin.get new q) (back (same_score (fin.get old q) (fin.get new q)) h)
  where
    back : (b : Bool) → not b ≡ false → b ≡ true
    back true h = refl
    back false h = let no : true ≡ false = h in cc

-- ---- ZADD: the pairs of the moved names, with their last scores
each_pair : (new : Members) (names : List (List ℕ)) → AllByRecursion (λ p. fin.get new p.1 ≡ Some p.0) (pairs_of (scores_in new names))
each_pair new [] = tt
each_pair new (name ∷ names) = by (fin.get new name) refl (each_pair new names)
  where
    by : (o : Option ℤ) → fin.get new name ≡ o → AllByRecursion (λ p. fin.get new p.1 ≡ Some p.0) (pairs_of (scores_in new names))
        → AllByRecursion (λ p. fin.get new p.1 ≡ Some p.0) (pairs_of ((name, o) ∷ scores_in new names))
    by None is rest = rest
    by (Some score) is rest = (is, rest)

eq_bytes : (q k : List ℕ) → eq_by_cmp bytes_cmp q k ≡ bytes_eq q k
eq_bytes q k = sym (tied q k) ∙ nat_list_eq_equiv.symm k q

has_pair : (new : Members) (names : List (List ℕ)) (q : List ℕ) → has_member (pairs_of (scores_in new names)) q ≡ (has names q && is_some (fin.get new q))
has_pair new [] q = refl
has_pair new (name ∷ names) q = by (fin.get new name) (bytes_eq q name) refl refl (has_pair new names q)
  where
    by : (o : Option ℤ) (same : Bool) → fin.get new name ≡ o → bytes_eq q name ≡ same → has_member (pairs_of (scores_in new names)) q ≡ (has names q && is_some (fin.get new q))
        → has_member (pairs_of ((name, o) ∷ scores_in new names)) q ≡ ((same || has names q) && is_some (fin.get new q))
    by (Some score) true got is rest =
        let here : is_some (fin.get new q) ≡ true = ap (λ (k : List ℕ). is_some (fin.get new k)) ((bytes_decides q name).0 is) ∙ ap is_some got in
        ap (λ (b : Bool). b || has_member (pairs_of (scores_in new names)) q) (eq_bytes q name ∙ is) ∙ sym here
    by (Some score) false got is rest = ap (λ (b : Bool). b || has_member (pairs_of (scores_in new names)) q) (eq_bytes q name ∙ is) ∙ rest
    by None true got is rest =
        let here : is_some (fin.get new q) ≡ false = ap (λ (k : List ℕ). is_some (fin.get new k)) ((bytes_decides q name).0 is) ∙ ap is_some got in
        rest ∙ ap (λ (b : Bool). has names q && b) here ∙ none (has names q) ∙ sym here
      where
        none : (b : Bool) → (b && false) ≡ false
        none true = refl
        none false = refl
    by None false got is rest = rest

-- ZADD leaves what it does not name, and takes nobody out
put_one_other : (f : Flags) (m : Members) (k : List ℕ) (s : ℤ) (q : List ℕ) → bytes_eq q k ≡ false → fin.get (put_one f m k s) q ≡ fin.get m q
put_one_other f m k s q apart = by (writes (outcome_of f (fin.get m k) s))
  where
    by : (b : Bool) → fin.get (cond b (fin.insert m k s) m) q ≡ fin.get m q
    by false = refl
    by true = fin.get-insert total m k s q ∙ ap (λ (b : Bool). cond b (Some s) (fin.get m q)) (eq_bytes q k ∙ apart)

put_one_keeps : (f : Flags) (m : Members) (k : List ℕ) (s : ℤ) (q : List ℕ) → is_some (fin.get m q) ≡ true → is_some (fin.get (put_one f m k s) q) ≡ true
put_one_keeps f m k s q there = by (writes (outcome_of f (fin.get m k) s))
  where
    in_or : (b : Bool) → is_some (cond b (Some s) (fin.get m q)) ≡ true
    in_or true = refl
    in_or false = there

    by : (b : Bool) → is_some (fin.get (cond b (fin.insert m k s) m) q) ≡ true
    by false = there
    by true = ap is_some (fin.get-insert total m k s q) ∙ in_or (eq_by_cmp bytes_cmp q k)

pub put_all_other : (f : Flags) (m : Members) (ps : List Pair) (q : List ℕ) → has (names_of ps) q ≡ false → fin.get (put_all f m ps) q ≡ fin.get m q
put_all_other f m [] q absent = refl
put_all_other f m (p ∷ ps) q absent = by (bytes_eq q p.1) refl absent (λ no. put_all_other f (put_one f m p.1 p.0) ps q no)
  where
    by : (b : Bool) → bytes_eq q p.1 ≡ b → (b || has (names_of ps) q) ≡ false → (has (names_of ps) q ≡ false → fin.get (put_all f (put_one f m p.1 p.0) ps) q ≡ fin.get (put_one f m p.1 p.0) q) → fin.get (put_all f (put_one f m p.1 p.0) ps) q ≡ fin.get m q
    by true is nowhere rest = let wrong : true ≡ false = nowhere in cc
    by false is nowhere rest = rest nowhere ∙ put_one_other f m p.1 p.0 q is

pub put_all_keeps : (f : Flags) (m : Members) (ps : List Pair) (q : List ℕ) → is_some (fin.get m q) ≡ true → is_some (fin.get (put_all f m ps) q) ≡ true
put_all_keeps f m [] q there = there
put_all_keeps f m (p ∷ ps) q there = put_all_keeps f (put_one f m p.1 p.0) ps q (put_one_keeps f m p.1 p.0 q there)

-- the effect of a ZADD, as a plain ZADD
pub effect_adds : (f : Flags) (old : Members) (ps : List Pair) → put_all plain old (pairs_of (scores_in (put_all f old ps) (moved_names old (put_all f old ps) (names_of ps)))) ≡ put_all f old ps
effect_adds f old ps =
    let new = put_all f old ps in
    let moved = moved_names old new (names_of ps) in
    fin.same_map total exact (put_all plain old (pairs_of (scores_in new moved))) new (λ q.
    put_all_get old new (pairs_of (scores_in new moved)) q (each_pair new moved)
    ∙ ap (λ (b : Bool). cond b (fin.get new q) (fin.get old q)) (has_pair new moved q ∙ ap (λ (b : Bool). b && is_some (fin.get new q)) (has-moved old new (names_of ps) q))
    ∙ by q (differs old new q) (has (names_of ps) q) refl refl (fin.get new q) refl)
  where
    by : (q : List ℕ) (d h : Bool) → differs old (put_all f old ps) q ≡ d → has (names_of ps) q ≡ h → (o : Option ℤ) → fin.get (put_all f old ps) q ≡ o
        → cond ((d && h) && is_some o) o (fin.get old q) ≡ o
    by q false h same there o is = not_differs old (put_all f old ps) q same ∙ is
    by q true false same there o is = sym (put_all_other f old ps q there) ∙ is
    by q true true same there (Some score) is = refl
    by q true true same there None is = gone (fin.get old q) refl
      where
        gone : (o : Option ℤ) → fin.get old q ≡ o → o ≡ None
        gone None e = refl
        gone (Some s) e =
            let stays : is_some (fin.get (put_all f old ps) q) ≡ true = put_all_keeps f old ps q (ap is_some e) in
            let no : true ≡ false = sym stays ∙ ap is_some is in cc

-- the effect of a ZREM, as a ZREM
pub effect_removes : (old : Members) (names : List (List ℕ)) → remove_all old (moved_names old (remove_all old names) names) ≡ remove_all old names
effect_removes old names =
    let new = remove_all old names in
    fin.same_map total exact (remove_all old (moved_names old new names)) new (λ q.
    get-remove_all old (moved_names old new names) q
    ∙ ap (λ (b : Bool). cond b None (fin.get old q)) (has-moved old new names q)
    ∙ by q (differs old new q) (has names q) refl refl)
  where
    by : (q : List ℕ) (d h : Bool) → differs old (remove_all old names) q ≡ d → has names q ≡ h → cond (d && h) None (fin.get old q) ≡ fin.get (remove_all old names) q
    by q false h same there = not_differs old (remove_all old names) q same
    by q true false same there = sym (get-remove_all old names q ∙ ap (λ (b : Bool). cond b None (fin.get old q)) there)
    by q true true same there = sym (get-remove_all old names q ∙ ap (λ (b : Bool). cond b None (fin.get old q)) there)
