-- What requests can spell stays so: no command takes a world out of its bounds.
use Rattle.std.proofs.Common.{◌≡◌, ℕ, Bool, true, false, cond, List, [], ◌∷◌, Option, None, Some, option_map, unwrap_or, IfSome, ℤ, ◌+ℤ◌, refl, sym, ap, subst, ◌∙◌}
use Rattle.std.specs.List.{AllByRecursion}
use Rattle.std.specs.Ordering.{eq_by_cmp}
use Rattle.std.specs.Cmp.Lexicographic.{bytes_decides}
use Rattle.std.specs.FinMap as fin
use Rattle.resp_wire.specs.RequestEncoding.{IsArgument}
use Rattle.resp_wire.specs.Response.{Response, NullBulk}
use Rattle.score_bounds.specs.ScoreTexts.{IsScore, is_score}
use Rattle.zset_commands.specs.AbstractCommand.{Meaning, Change}
use Rattle.zset_commands.specs.AbstractCommand as meanings
use Rattle.zset_commands.specs.RequestLimits.{IsSpelled, PutsSpelled, PutsSpelledPairs}
use Rattle.zset_commands.specs.declared.flags.Flags.{Flags}
use Rattle.zset_commands.proofs.CallerLemmas.{passing}
use Rattle.zset_core.specs.SortedSet.{Members, Pair, bytes_cmp, names_of}
use Rattle.zset_core.specs.Semantics.{outcome_of, writes, put_one, put_all, remove_all, sum_of, is_barred, increase_reply, changed_by, step, act_at}
use Rattle.zset_core.specs.SetsByKey.{World, is_empty, set_at, put_set}
use Rattle.sorted_sets.specs.SetAndOwnerViews.{Next, ShowsAt, IsPreparedAt}
use Rattle.sorted_sets.specs.WorldWithinRequestLimits.{IsBoundedSet, IsBoundedAt, IsBoundedWorld}
use Rattle.sorted_sets.proofs.Bridge.{total, tied}
use Rattle.sorted_sets.proofs.Worlds.{get_put_set}
use Rattle.sorted_sets.proofs.RangeRemoval.{inside, removed_inside}

equal_of : (q k : List ℕ) → eq_by_cmp bytes_cmp q k ≡ true → q ≡ k
equal_of q k h = sym ((bytes_decides k q).0 (tied q k ∙ h))

-- ---- sets
empty_bounded : IsBoundedSet fin.empty
empty_bounded member = subst (λ (o : Option ℤ). IfSome o (λ score. IsSpelled (score, member))) (sym (fin.get-empty bytes_cmp member)) tt

insert_bounded : (m : Members) (k : List ℕ) (s : ℤ) → IsBoundedSet m → IsSpelled (s, k) → IsBoundedSet (fin.insert m k s)
insert_bounded m k s bounded spelled q = subst (λ (o : Option ℤ). IfSome o (λ score. IsSpelled (score, q))) (sym (fin.get-insert total m k s q)) (by (eq_by_cmp bytes_cmp q k) refl)
  where
    by : (b : Bool) → eq_by_cmp bytes_cmp q k ≡ b → IfSome (cond b (Some s) (fin.get m q)) (λ score. IsSpelled (score, q))
    by true e = (spelled.0, subst IsArgument (sym (equal_of q k e)) spelled.1)
    by false e = bounded q

remove_bounded : (m : Members) (k : List ℕ) → IsBoundedSet m → IsBoundedSet (fin.remove m k)
remove_bounded m k bounded q = subst (λ (o : Option ℤ). IfSome o (λ score. IsSpelled (score, q))) (sym (fin.get-remove total m k q)) (by (eq_by_cmp bytes_cmp q k))
  where
    by : (b : Bool) → IfSome (cond b None (fin.get m q)) (λ score. IsSpelled (score, q))
    by true = tt
    by false = bounded q

put_one_bounded : (f : Flags) (m : Members) (k : List ℕ) (s : ℤ) → IsBoundedSet m → IsSpelled (s, k) → IsBoundedSet (put_one f m k s)
put_one_bounded f m k s bounded spelled = by (writes (outcome_of f (fin.get m k) s))
  where
    by : (b : Bool) → IsBoundedSet (cond b (fin.insert m k s) m)
    by true = insert_bounded m k s bounded spelled
    by false = bounded

put_all_bounded : (f : Flags) (m : Members) (ps : List Pair) → IsBoundedSet m → AllByRecursion IsSpelled ps → IsBoundedSet (put_all f m ps)
put_all_bounded f m [] bounded each = bounded
put_all_bounded f m (p ∷ ps) bounded each = put_all_bounded f (put_one f m p.1 p.0) ps (put_one_bounded f m p.1 p.0 bounded each.0) each.1

remove_all_bounded : (m : Members) (names : List (List ℕ)) → IsBoundedSet m → IsBoundedSet (remove_all m names)
remove_all_bounded m [] bounded = bounded
remove_all_bounded m (name ∷ names) bounded = remove_all_bounded (fin.remove m name) names (remove_bounded m name bounded)

sum_bounded : (old : Option ℤ) (given : ℤ) → IsScore given → IfSome (sum_of old given) IsScore
sum_bounded None given within = within
sum_bounded (Some old) given within = by (is_score (old +ℤ given)) refl
  where
    by : (b : Bool) → is_score (old +ℤ given) ≡ b → IfSome (cond b (Some (old +ℤ given)) None) IsScore
    by true passes = passing (old +ℤ given) passes
    by false fails = tt

increase_bounded : (f : Flags) (m : Members) (k : List ℕ) (given : ℤ) → IsBoundedSet m → IsSpelled (given, k) → (b : Bool) (sum : Option ℤ) → IfSome sum IsScore
    → IfSome {T = Members × Response} (cond b (Some (m, NullBulk)) (option_map (λ score. (put_one f m k score, increase_reply (outcome_of f (fin.get m k) score) score)) sum)) (λ done. IsBoundedSet done.0)
increase_bounded f m k given bounded spelled true sum within = bounded
increase_bounded f m k given bounded spelled false None within = tt
increase_bounded f m k given bounded spelled false (Some score) within = put_one_bounded f m k score bounded (within, spelled.1)

changed_bounded : (m : Members) (c : Change) → IsBoundedSet m → PutsSpelledPairs c → IfSome (changed_by m c) (λ done. IsBoundedSet done.0)
changed_bounded m (meanings.Add f changed pairs) bounded puts = put_all_bounded f m pairs bounded puts
changed_bounded m (meanings.Increase f given member) bounded puts =
    increase_bounded f m member given bounded puts (is_barred f (fin.get m member)) (sum_of (fin.get m member) given) (sum_bounded (fin.get m member) given puts.0)
changed_bounded m (meanings.Remove names) bounded puts = remove_all_bounded m names bounded
changed_bounded m (meanings.RemoveRange range) bounded puts = subst IsBoundedSet (removed_inside range m) (remove_all_bounded m (names_of (inside range m)) bounded)

step_bounded : (m : Members) (c : Meaning) → IsBoundedSet m → PutsSpelled c → IfSome (step m c) (λ done. IsBoundedSet done.0)
step_bounded m (meanings.Ping text) bounded puts = bounded
step_bounded m (meanings.Asks key question) bounded puts = bounded
step_bounded m (meanings.Changes key change) bounded puts = changed_bounded m change bounded puts

-- ---- worlds
pub no_sets_bounded : IsBoundedWorld fin.empty
no_sets_bounded key = subst (λ (o : Option Members). IfSome o (IsBoundedAt key)) (sym (fin.get-empty bytes_cmp key)) tt

pub set_at_bounded : (w : World) (k : List ℕ) → IsBoundedWorld w → IsBoundedSet (set_at w k)
set_at_bounded w k bounded = by (fin.get w k) (bounded k)
  where
    by : (o : Option Members) → IfSome o (IsBoundedAt k) → IsBoundedSet (unwrap_or o fin.empty)
    by None h = empty_bounded
    by (Some m) h = h.members

pub put_set_bounded : (w : World) (k : List ℕ) (m : Members) → IsBoundedWorld w → IsArgument k → IsBoundedSet m → IsBoundedWorld (put_set w k m)
put_set_bounded w k m bounded word set q = subst (λ (o : Option Members). IfSome o (IsBoundedAt q)) (sym (get_put_set w k m q)) (by (eq_by_cmp bytes_cmp q k) refl (is_empty m) refl)
  where
    by : (b : Bool) → eq_by_cmp bytes_cmp q k ≡ b → (none : Bool) → is_empty m ≡ none → IfSome (cond b (cond none None (Some m)) (fin.get w q)) (IsBoundedAt q)
    by true e true n = tt
    by true e false n = record { key = subst IsArgument (sym (equal_of q k e)) word; filled = n; members = set }
    by false e none n = bounded q

abbrev told_at : World → Members × Response → World × Response
told_at w done = (w, done.1)

abbrev put_at : World → List ℕ → Members × Response → World × Response
put_at w k done = (put_set w k done.0, done.1)

pub act_bounded : (w : World) (c : Meaning) (end : World) (reply : Response) (k : Option (List ℕ)) → IsBoundedWorld w → IfSome k IsArgument → PutsSpelled c → act_at w k c ≡ Some (end, reply) → IsBoundedWorld end
act_bounded w c end reply None bounded word puts is = by (step fin.empty c) is
  where
    by : (o : Option (Members × Response)) → option_map (told_at w) o ≡ Some (end, reply) → IsBoundedWorld end
    by None h = absurd (let no : None ≡ Some (end, reply) = h in cc)
    by (Some done) h = subst IsBoundedWorld (let same : told_at w done ≡ (end, reply) = cc in ap (λ (x : World × Response). x.0) same) bounded
act_bounded w c end reply (Some k) bounded word puts is = by (step (set_at w k) c) (step_bounded (set_at w k) c (set_at_bounded w k bounded) puts) is
  where
    by : (o : Option (Members × Response)) → IfSome o (λ done. IsBoundedSet done.0) → option_map (put_at w k) o ≡ Some (end, reply) → IsBoundedWorld end
    by None kept h = absurd (let no : None ≡ Some (end, reply) = h in cc)
    by (Some done) kept h = subst IsBoundedWorld (let same : put_at w k done ≡ (end, reply) = cc in ap (λ (x : World × Response). x.0) same) (put_set_bounded w k done.0 bounded word kept)

abbrev pub IsBoundedNext : Option (List ℕ × Next) → Type 0
IsBoundedNext next = IfSome next (λ next. IsArgument next.0 × IsBoundedSet next.1.members)

-- a command that was prepared
pub ready_bounded_at : (w : World) (c : Meaning) (next : Option (List ℕ × Next)) (k : Option (List ℕ)) → IsBoundedWorld w → IfSome k IsArgument → PutsSpelled c → IsPreparedAt w k c next → IsBoundedNext next
ready_bounded_at w c next None bounded word puts ready = absurd ready
ready_bounded_at w c next (Some k) bounded word puts ready = by (step (set_at w k) c) (step_bounded (set_at w k) c (set_at_bounded w k bounded) puts) ready
  where
    by : (o : Option (Members × Response)) → IfSome o (λ done. IsBoundedSet done.0) → ShowsAt k o c next → IsBoundedNext next
    by None kept h = absurd h
    by (Some done) kept h = subst IsBoundedNext (sym h) (word, kept)
