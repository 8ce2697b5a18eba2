-- Worlds that have the same set at each key.
use Rattle.std.proofs.Common.{◌≡◌, ℕ, List, refl, sym, ◌∙◌, ap, subst, Option, None, Some, Bool, true, false, cond, arith}
use Rattle.std.specs.Prelude.{IfSome, option_map, unwrap_or}
use Rattle.std.specs.FinMap as fin
use Rattle.std.specs.Ordering.{eq_by_cmp, is_eq}
use Rattle.std.specs.Cmp.{eq_by_cmp_equiv}
use Rattle.std.specs.declared.cmp.Ordering.{Ordering}
use Rattle.std.specs.declared.cmp.Ordering.TheVariants.{Less, Equal, Greater}
use Rattle.std.proofs.lemmas.Bool.Decides.{nat_tests}
use Rattle.resp_wire.specs.Response.{Response}
use Rattle.zset_core.specs.SortedSet.{Members, bytes_cmp}
use Rattle.zset_commands.specs.AbstractCommand.{Meaning}
use Rattle.zset_core.specs.Semantics.{step, act_at}
use Rattle.sorted_sets.specs.SetAndOwnerViews.{Next, ShowsAt, IsPreparedAt}
use Rattle.zset_core.specs.SetsByKey.{World, is_empty, set_at, put_set}
use Rattle.sorted_sets.proofs.CallerLemmas.{get_put_set, filled, placed}
use Rattle.sorted_sets.proofs.CallerLemmas.{total, exact}
use Rattle.log_records.specs.LoggedOwnerViewAndRuns.{AreSame}

no_members : (m : Members) → true ≡ is_empty m → fin.len m ≡ 0
no_members m e = grind (arith, nat_tests)

filled_at : (m : Members) (b : Bool) → b ≡ is_empty m → unwrap_or (cond b None (Some m)) fin.empty ≡ m
filled_at m true e = sym (fin.empty_of_len m (no_members m e))
filled_at m false e = refl

chosen : (w : World) (m : Members) (q : List ℕ) (b : Bool) → unwrap_or (cond b (filled m) (fin.get w q)) fin.empty ≡ cond b m (set_at w q)
chosen w m q true = filled_at m (is_empty m) refl
chosen w m q false = refl

-- the sets of a world with another set at a key
pub set_at-put_set : (w : World) (k : List ℕ) (m : Members) (q : List ℕ) → set_at (put_set w k m) q ≡ cond (eq_by_cmp bytes_cmp q k) m (set_at w q)
set_at-put_set w k m q = ap (λ (o : Option Members). unwrap_or o fin.empty) (get_put_set w k m q) ∙ chosen w m q (eq_by_cmp bytes_cmp q k)

pub AreSame-put_set : (w v : World) (k : List ℕ) (m : Members) → AreSame w v → AreSame (put_set w k m) (put_set v k m)
AreSame-put_set w v k m same = λ q. set_at-put_set w k m q ∙ ap (λ (s : Members). cond (eq_by_cmp bytes_cmp q k) m s) (same q) ∙ sym (set_at-put_set v k m q)

is_equal : (o : Ordering) → true ≡ is_eq o → o ≡ Equal
is_equal Less e = cc
is_equal Equal e = refl
is_equal Greater e = cc

back : (w : World) (k q : List ℕ) (b : Bool) → b ≡ eq_by_cmp bytes_cmp q k → set_at w q ≡ cond b (set_at w k) (set_at w q)
back w k q true e = ap (set_at w) (exact q k (is_equal (bytes_cmp q k) e))
back w k q false e = refl

-- the set that is there, put back
pub AreSame-put_back : (w : World) (k : List ℕ) (m : Members) → m ≡ set_at w k → AreSame w (put_set w k m)
AreSame-put_back w k m is = λ q. back w k q (eq_by_cmp bytes_cmp q k) refl ∙ ap (λ (s : Members). cond (eq_by_cmp bytes_cmp q k) s (set_at w q)) (sym is) ∙ sym (set_at-put_set w k m q)

same_key : (k : List ℕ) → eq_by_cmp bytes_cmp k k ≡ true
same_key k = (eq_by_cmp_equiv total).refl k

-- the set that was put in
pub set_at-put_set-same : (w : World) (k : List ℕ) (m : Members) → set_at (put_set w k m) k ≡ m
set_at-put_set-same w k m = set_at-put_set w k m k ∙ ap (λ (b : Bool). cond b m (set_at w k)) (same_key k)

pub some_is : {X : Type 0} (a b : X) → Some a ≡ Some b → a ≡ b
some_is a b e = cc

leads : (w v : World) (k : List ℕ) (o : Option (Members × Response)) (end : World) (reply : Response) → AreSame w v → option_map (placed w k) o ≡ Some (end, reply)
    → (next : World) × (option_map (placed v k) o ≡ Some (next, reply)) × AreSame next end
leads w v k None end reply same is = absurd (let no : None ≡ Some (end, reply) = is in cc)
leads w v k (Some done) end reply same is =
    let both : placed w k done ≡ (end, reply) = some_is (placed w k done) (end, reply) is in (
      put_set v k done.0,
      ap (λ (r : Response). Some (put_set v k done.0, r)) (ap (λ (x : World × Response). x.1) both),
      subst (λ (e : World). AreSame (put_set v k done.0) e) (ap (λ (x : World × Response). x.0) both) (AreSame-put_set v w k done.0 (λ q. sym (same q))),
    )

abbrev told : World → Members × Response → World × Response
told w done = (w, done.1)

stays : (w v : World) (o : Option (Members × Response)) (end : World) (reply : Response) → AreSame w v → option_map (told w) o ≡ Some (end, reply)
    → (next : World) × (option_map (told v) o ≡ Some (next, reply)) × AreSame next end
stays w v None end reply same is = absurd (let no : None ≡ Some (end, reply) = is in cc)
stays w v (Some done) end reply same is =
    let both : (w, done.1) ≡ (end, reply) = some_is {X = World × Response} (w, done.1) (end, reply) is in (
      v,
      ap (λ (r : Response). Some (v, r)) (ap (λ (x : World × Response). x.1) both),
      subst (λ (e : World). AreSame v e) (ap (λ (x : World × Response). x.0) both) (λ q. sym (same q)),
    )

-- a command does the same in worlds that are the same
pub act-same : (w v : World) (key : Option (List ℕ)) (meaning : Meaning) (end : World) (reply : Response) → AreSame w v → act_at w key meaning ≡ Some (end, reply)
    → (next : World) × (act_at v key meaning ≡ Some (next, reply)) × AreSame next end
act-same w v None meaning end reply same is = stays w v (step fin.empty meaning) end reply same is
act-same w v (Some k) meaning end reply same is =
    let l = leads w v k (step (set_at w k) meaning) end reply same is in
    (l.0, ap (λ (s : Members). option_map (placed v k) (step s meaning)) (sym (same k)) ∙ l.1, l.2)

shown : (world end : World) (k : List ℕ) (meaning : Meaning) (o : Option (Members × Response)) (next : Option (List ℕ × Next)) (reply : Response) → ShowsAt k o meaning next
    → IfSome next (λ n. (end ≡ put_set world n.0 n.1.members) × (reply ≡ n.1.reply)) → option_map (placed world k) o ≡ Some (end, reply)
shown world end k meaning None next reply is made = absurd is
shown world end k meaning (Some done) next reply is made =
    let at = subst (λ (n : Option (List ℕ × Next)). IfSome n (λ n. (end ≡ put_set world n.0 n.1.members) × (reply ≡ n.1.reply))) is made in
    ap (λ (e : World). Some (e, done.1)) (sym at.0) ∙ ap (λ (r : Response). Some (end, r)) (sym at.1)

-- what a prepared command commits is what the command does
pub act-ready : (world end : World) (key : Option (List ℕ)) (meaning : Meaning) (next : Option (List ℕ × Next)) (reply : Response) → IsPreparedAt world key meaning next
    → IfSome next (λ n. (end ≡ put_set world n.0 n.1.members) × (reply ≡ n.1.reply)) → act_at world key meaning ≡ Some (end, reply)
act-ready world end None meaning next reply ready made = absurd ready
act-ready world end (Some k) meaning next reply ready made = shown world end k meaning (step (set_at world k) meaning) next reply ready made
