-- ZADD of all pairs of a set, to no set or to that set, makes that set.
use Rattle.std.proofs.Common.{◌≡◌, ℕ, ℤ, Bool, true, false, cond, ◌||◌, ◌⊎◌, inl, inr, List, [], ◌∷◌, ◌++◌, Option, None, Some, refl, sym, ap, ◌∙◌}
use Rattle.std.specs.List.{AllByRecursion}
use Rattle.std.specs.Ordering.{eq_by_cmp, int_eq}
use Rattle.std.specs.Cmp.{signed_Decides}
use Rattle.std.specs.Cmp.Lexicographic.{bytes_decides}
use Rattle.std.specs.FinMap as fin
use Rattle.zset_core.specs.SortedSet.{Members, Pair, bytes_cmp, whole}
use Rattle.zset_core.specs.Semantics.{outcome_of, writes, put_one, put_all}
use Rattle.zset_commands.specs.declared.flags.Flags.{Flags}
use Rattle.zset_core.specs.declared.pair_outcome.Outcome.TheVariants.{Changed, Same}
use Rattle.sorted_sets.proofs.CallerLemmas.{total, exact, tied}
use Rattle.log_records.proofs.WholeListing.{each_of_whole, has_member, member_listed}

-- the flags of ZADD without options
abbrev pub plain : Flags
plain = record { nx = false; xx = false; gt = false; lt = false }

pub same_bytes : (q k : List ℕ) → eq_by_cmp bytes_cmp q k ≡ true → q ≡ k
same_bytes q k h = sym ((bytes_decides k q).0 (tied q k ∙ h))

put_one_get : (m : Members) (k : List ℕ) (s : ℤ) (q : List ℕ) → fin.get (put_one plain m k s) q ≡ cond (eq_by_cmp bytes_cmp q k) (Some s) (fin.get m q)
put_one_get m k s q = by (fin.get m k) refl
  where
    there : (old : ℤ) → fin.get m k ≡ Some old → (same : Bool) → int_eq s old ≡ same → fin.get (cond (writes (cond same Same Changed)) (fin.insert m k s) m) q ≡ cond (eq_by_cmp bytes_cmp q k) (Some s) (fin.get m q)
    there old is false e = fin.get-insert total m k s q
    there old is true e = kept (eq_by_cmp bytes_cmp q k) refl
      where
        kept : (b : Bool) → eq_by_cmp bytes_cmp q k ≡ b → fin.get m q ≡ cond b (Some s) (fin.get m q)
        kept true h = ap (fin.get m) (same_bytes q k h) ∙ is ∙ ap Some (sym ((signed_Decides s old).0 e))
        kept false h = refl

    by : (o : Option ℤ) → fin.get m k ≡ o → fin.get (cond (writes (outcome_of plain o s)) (fin.insert m k s) m) q ≡ cond (eq_by_cmp bytes_cmp q k) (Some s) (fin.get m q)
    by None is = fin.get-insert total m k s q
    by (Some old) is = there old is (int_eq s old) refl

pub put_all_get : (base m : Members) (ps : List Pair) (q : List ℕ) → AllByRecursion (λ p. fin.get m p.1 ≡ Some p.0) ps → fin.get (put_all plain base ps) q ≡ cond (has_member ps q) (fin.get m q) (fin.get base q)
put_all_get base m [] q each = refl
put_all_get base m (p ∷ ps) q each =
    put_all_get (put_one plain base p.1 p.0) m ps q each.1 ∙ ap (cond (has_member ps q) (fin.get m q)) (put_one_get base p.1 p.0 q) ∙ by (eq_by_cmp bytes_cmp q p.1) refl (has_member ps q)
  where
    by : (e : Bool) → eq_by_cmp bytes_cmp q p.1 ≡ e → (a : Bool) → cond a (fin.get m q) (cond e (Some p.0) (fin.get base q)) ≡ cond (e || a) (fin.get m q) (fin.get base q)
    by true h true = refl
    by true h false = sym (ap (fin.get m) (same_bytes q p.1 h) ∙ each.0)
    by false h a = refl

pub union : (base m : Members) → (base ≡ fin.empty) ⊎ (base ≡ m) → put_all plain base (whole m) ≡ m
union base m start = fin.same_map total exact (put_all plain base (whole m)) m (λ q. put_all_get base m (whole m) q (each_of_whole m) ∙ by q (has_member (whole m) q) refl)
  where
    none : (q : List ℕ) → has_member (whole m) q ≡ false → (o : Option ℤ) → fin.get m q ≡ o → o ≡ None
    none q absent None e = refl
    none q absent (Some s) e = let no : true ≡ false = sym (member_listed m q s e) ∙ absent in cc

    by : (q : List ℕ) (b : Bool) → has_member (whole m) q ≡ b → cond b (fin.get m q) (fin.get base q) ≡ fin.get m q
    by q true e = refl
    by q false e = elim start [ inl is ↦ ap (λ (b : Members). fin.get b q) is ∙ fin.get-empty bytes_cmp q ∙ sym (none q e (fin.get m q) refl) | inr is ↦ ap (λ (b : Members). fin.get b q) is ]

pub put_all-append : (f : Flags) (m : Members) (a b : List Pair) → put_all f m (a ++ b) ≡ put_all f (put_all f m a) b
put_all-append f m [] b = refl
put_all-append f m (p ∷ a) b = put_all-append f (put_one f m p.1 p.0) a b
