-- From the entries of the program's tree to the world that a contract sees.
use Rattle.std.proofs.Common.{◌≡◌, ℕ, Bool, true, false, cond, nat_eq, List, [], ◌∷◌, Option, None, Some, unwrap_or, refl, sym, ap, subst, ◌∙◌, arith, zero, suc, ℤ, option_map, option_and_then, is_some, IsSome, Result, Ok, Err, OnOk, OnErr}
use Rattle.std.specs.Option.{IfSome}
use Rattle.std.specs.Map.{lookup, KeepsOthers, IsKeyTest, AreApart}
use Rattle.std.specs.Str.{bytes_eq}
use Rattle.std.specs.Ordering.{eq_by_cmp, is_eq}
use Rattle.std.specs.Cmp.{eq_by_cmp_equiv}
use Rattle.std.specs.Cmp.Lexicographic.{nat_list_eq_equiv, bytes_decides}
use Rattle.std.specs.BTreeMap.{BTreeMap, UpdatesBy, is_at}
use Rattle.std.specs.FinMap as fin
use Rattle.std.specs.declared.vec.Vec.{Vec}
use Rattle.std.specs.declared.cmp.Ordering.{Ordering}
use Rattle.std.proofs.lemmas.Map.Text.{is_eq-slice_cmp}
use Rattle.std.proofs.lemmas.Bool.Decides.{nat_tests}
use Rattle.zset_core.specs.SortedSet.{Members, bytes_cmp}
use Rattle.sorted_sets.specs.SetAndOwnerViews.{SetView, Next, Shows, IsPreparedFor, ShowsAt, IsPreparedAt}
use Rattle.sorted_sets.specs.ChangeCounts.{IsOutline}
use Rattle.sorted_sets.specs.declared.set.change_counts.Outline.{Outline}
use Rattle.zset_core.specs.SetsByKey.{World, is_empty, set_at, put_set}
use Rattle.sorted_sets.specs.OwnerViewAndInvariant.{Keyed, world_of, set_in, IsResting, AllRest, OthersRest, next_at, IsAfter, RunsAt, PreparesAt}
use Rattle.sorted_sets.proofs.Bridge.{total, exact}
use Rattle.std.proofs.Common.{IfOk, IfErr}
use Rattle.resp_wire.specs.Response.{Response}
use Rattle.zset_commands.specs.AbstractCommand.{Meaning}
use Rattle.zset_core.specs.Semantics.{step, act_at}
use Rattle.zset_commands.specs.Refusal.{IsRefused}
use Rattle.zset_commands.specs.declared.refusal.Refusal.{Refusal}
use Rattle.zset_commands.specs.declared.refusal.Refusal.TheVariants.{NoMemory, UnknownCommand, WrongArity, Syntax, NxAndXx, GtLtNx, IncrPair, BadScore, BadBound, BadInteger, TableFull, Spent, ScoreOverflow, LogBroken, LogFull, LogRefused, OutOfStep}

-- an empty set is none
abbrev pub filled : Members → Option Members
filled m = cond (is_empty m) None (Some m)

abbrev pub filled_view : Option SetView → Option Members
filled_view None = None
filled_view (Some v) = filled v.members

pub get_put_set : (w : World) (k : List ℕ) (m : Members) (q : List ℕ) → fin.get (put_set w k m) q ≡ cond (eq_by_cmp bytes_cmp q k) (filled m) (fin.get w q)
get_put_set w k m q = by (is_empty m)
  where
    by : (b : Bool) → fin.get (cond b (fin.remove w k) (fin.insert w k m)) q ≡ cond (eq_by_cmp bytes_cmp q k) (cond b None (Some m)) (fin.get w q)
    by true = fin.get-remove total w k q
    by false = fin.get-insert total w k m q

apart : (bs cs ks : List ℕ) → bytes_eq bs cs ≡ false → is_eq (bytes_cmp bs ks) ≡ true → is_eq (bytes_cmp cs ks) ≡ false
apart bs cs ks n y = is_eq-slice_cmp cs ks ∙ nat_list_eq_equiv.symm cs ks ∙ sym (nat_list_eq_equiv.congr bs ks cs (sym (is_eq-slice_cmp bs ks) ∙ y)) ∙ n

pub none_of : {X : Type 0} (o : Option X) (b : Bool) → b ≡ is_some o → b ≡ false → o ≡ None
none_of None b e f = refl
none_of (Some x) b e f = let h : true ≡ false = sym e ∙ f in cc

pub on_err : {A E : Type 0} (r : Result A E) (P Q : Type 0) → (P → Q) → OnErr r P → OnErr r Q
on_err (Ok x) P Q f h = h
on_err (Err e) P Q f h = f h

pub on_ok : {A E : Type 0} (r : Result A E) (P Q : Type 0) → (P → Q) → OnOk r P → OnOk r Q
on_ok (Ok x) P Q f h = f h
on_ok (Err e) P Q f h = h

pub if_ok_map : {X E : Type 0} {P Q : X → Type 0} (r : Result X E) → ((x : X) → P x → Q x) → IfOk r P → IfOk r Q
if_ok_map (Ok x) f h = f x h
if_ok_map (Err e) f h = h

pub if_err_map : {X E : Type 0} {P Q : E → Type 0} (r : Result X E) → ((e : E) → P e → Q e) → IfErr r P → IfErr r Q
if_err_map (Ok x) f h = h
if_err_map (Err e) f h = f e h

-- a refusal of a step is one of what is made of the step
pub refused_map : {X Y : Type 0} (f : X → Y) (r : Refusal) (o : Option X) → IsRefused r o → IsRefused r (option_map f o)
refused_map f NoMemory o h = tt
refused_map f ScoreOverflow o h = ap (option_map f) h
refused_map f UnknownCommand o h = h
refused_map f WrongArity o h = h
refused_map f Syntax o h = h
refused_map f NxAndXx o h = h
refused_map f GtLtNx o h = h
refused_map f IncrPair o h = h
refused_map f BadScore o h = h
refused_map f BadBound o h = h
refused_map f BadInteger o h = h
refused_map f TableFull o h = h
refused_map f Spent o h = h
refused_map f LogBroken o h = h
refused_map f LogFull o h = h
refused_map f LogRefused o h = h
refused_map f OutOfStep o h = h

-- a world with the set that a command leaves at a key
abbrev pub placed : World → List ℕ → Members × Response → World × Response
placed w k s = (put_set w k s.0, s.1)

pub act_of_step : (w : World) (k : List ℕ) (c : Meaning) (old new : Members) (reply : Response) (end : World) → set_at w k ≡ old → step old c ≡ Some (new, reply) → end ≡ put_set w k new → act_at w (Some k) c ≡ Some (end, reply)
act_of_step w k c old new reply end at is after = ap (λ m. option_map (placed w k) (step m c)) at ∙ ap (option_map (placed w k)) is ∙ ap (λ x. Some (x, reply)) (sym after)

pub refused_at : (w : World) (k : List ℕ) (c : Meaning) (old : Members) (r : Refusal) → set_at w k ≡ old → IsRefused r (step old c) → IsRefused r (act_at w (Some k) c)
refused_at w k c old r at h = subst (λ (m : Members). IsRefused r (option_map (placed w k) (step m c))) (sym at) (refused_map (placed w k) r (step old c) h)

-- to put an empty set where none was changes nothing
pub put_empty : (w : World) (k : List ℕ) (m : Members) → fin.get w k ≡ None → fin.len m ≡ 0 → put_set w k m ≡ w
put_empty w k m absent none = fin.same_map total exact _ _ (λ q. get_put_set w k m q ∙ ap (λ o. cond (eq_by_cmp bytes_cmp q k) o (fin.get w q)) (ap (λ n. cond (nat_eq n 0) None (Some m)) none) ∙ by q (eq_by_cmp bytes_cmp q k) (is_eq-slice_cmp q k))
  where
    by : (q : List ℕ) (b : Bool) → b ≡ bytes_eq q k → cond b None (fin.get w q) ≡ fin.get w q
    by q true e = sym (ap (fin.get w) ((bytes_decides q k).0 (sym e)) ∙ absent)
    by q false e = refl

abbrev pub keyed : List ℕ → Next → List ℕ × Next
keyed k next = (k, next)

module _ {A : Type 0} where
  -- the order of keys
  abbrev pub key_cmp : Vec ℕ A → Vec ℕ A → Ordering
  key_cmp x y = bytes_cmp x.items y.items

  pub get_world : (es : List (Keyed A)) (q : List ℕ) → fin.get (world_of es) q ≡ filled_view (set_in es q)
  get_world [] q = fin.get-empty bytes_cmp q
  get_world (e ∷ es) q = get_put_set (world_of es) e.0.items e.1.members q ∙ by (eq_by_cmp bytes_cmp q e.0.items) (get_world es q)
    where
      by : (b : Bool) → fin.get (world_of es) q ≡ filled_view (set_in es q) → cond b (filled e.1.members) (fin.get (world_of es) q) ≡ filled_view (cond b (Some e.1) (set_in es q))
      by true h = refl
      by false h = h

  -- entries that differ at one key make worlds that differ there
  pub world_put : (es fs : List (Keyed A)) (k : List ℕ) (v : SetView) → ((q : List ℕ) → set_in fs q ≡ cond (bytes_eq k q) (Some v) (set_in es q)) → world_of fs ≡ put_set (world_of es) k v.members
  world_put es fs k v after = fin.same_map total exact _ _ (λ q.
      get_world fs q ∙ ap filled_view (after q) ∙ by q (bytes_eq k q) ∙ ap (λ b. cond b (filled v.members) (fin.get (world_of es) q)) (sym (is_eq-slice_cmp k q) ∙ (eq_by_cmp_equiv total).symm k q)
      ∙ sym (get_put_set (world_of es) k v.members q))
    where
      by : (q : List ℕ) (b : Bool) → filled_view (cond b (Some v) (set_in es q)) ≡ cond b (filled v.members) (fin.get (world_of es) q)
      by q true = refl
      by q false = sym (get_world es q)

  -- a set that is put where it was, or an empty one where none was, leaves the world
  pub world_same : (es fs : List (Keyed A)) → ((q : List ℕ) → filled_view (set_in fs q) ≡ filled_view (set_in es q)) → world_of fs ≡ world_of es
  world_same es fs same = fin.same_map total exact _ _ (λ q. get_world fs q ∙ same q ∙ sym (get_world es q))

  -- the set at a key that has an entry
  pub set_at_entry : (es : List (Keyed A)) (k : List ℕ) (v : SetView) → set_in es k ≡ Some v → set_at (world_of es) k ≡ v.members
  set_at_entry es k v at = ap (λ o. unwrap_or o fin.empty) (get_world es k ∙ ap filled_view at) ∙ by (is_empty v.members) refl
    where
      by : (b : Bool) → is_empty v.members ≡ b → unwrap_or (cond b None (Some v.members)) fin.empty ≡ v.members
      by true e = let none : fin.len v.members ≡ 0 = grind (arith, nat_tests) in sym (fin.empty_of_len v.members none)
      by false e = refl

  -- ---- what a change of the program's tree at some bytes leaves at others
  other_entries : (test : Vec ℕ A → Bool) (old new : List (Keyed A)) → KeepsOthers (eq_by_cmp key_cmp) test old new → (other : Vec ℕ A → Bool) → IsKeyTest (eq_by_cmp key_cmp) other → AreApart test other → lookup other new ≡ lookup other old
  unfolding KeepsOthers
  other_entries test old new h = h

  pub updates_key : (bs : List ℕ) (m n : BTreeMap (Vec ℕ A) SetView) (w : Option SetView) → UpdatesBy key_cmp (λ k. bytes_cmp bs k.items) m n w → (cs : List ℕ) → set_in n.entries cs ≡ cond (bytes_eq bs cs) w (set_in m.entries cs)
  updates_key bs m n w h cs = by (bytes_eq bs cs) refl
    where
      by : (b : Bool) → bytes_eq bs cs ≡ b → set_in n.entries cs ≡ cond b w (set_in m.entries cs)
      by true y = subst (λ l. set_in n.entries l ≡ w) ((bytes_decides bs cs).0 y) h.1
      by false e = other_entries (is_at (λ k. bytes_cmp bs k.items)) m.entries n.entries h.3 (λ k. is_eq (bytes_cmp cs k.items)) (λ x y. (eq_by_cmp_equiv total).congr cs x.items y.items) (λ k. apart bs cs k.items e)

  -- what holds of each set, where one is put in or taken out
  pub all_changed : (P : SetView → Type 0) (es fs : List (Keyed A)) (k : List ℕ) (o : Option SetView) → ((q : List ℕ) → bytes_eq k q ≡ false → IfSome (set_in es q) P) → IfSome o P → ((q : List ℕ) → set_in fs q ≡ cond (bytes_eq k q) o (set_in es q)) → (q : List ℕ) → IfSome (set_in fs q) P
  all_changed P es fs k o others is after q = subst (λ o. IfSome o P) (sym (after q)) (by (bytes_eq k q) refl)
    where
      by : (b : Bool) → bytes_eq k q ≡ b → IfSome (cond b o (set_in es q)) P
      by true e = is
      by false e = others q e

  pub others_changed : (P : SetView → Type 0) (es fs : List (Keyed A)) (k : List ℕ) (o : Option SetView) → ((q : List ℕ) → bytes_eq k q ≡ false → IfSome (set_in es q) P) → ((q : List ℕ) → set_in fs q ≡ cond (bytes_eq k q) o (set_in es q)) → (q : List ℕ) → bytes_eq k q ≡ false → IfSome (set_in fs q) P
  others_changed P es fs k o others after q apart = subst (λ o. IfSome o P) (sym (after q ∙ ap (λ b. cond b o (set_in es q)) apart)) (others q apart)

  pub others_of : (es : List (Keyed A)) (k : List ℕ) → AllRest es → OthersRest k es
  others_of es k rest q apart = rest q

  -- a set that is empty is taken out, and the world stays
  pub world_cleared : (es fs : List (Keyed A)) (k : List ℕ) (v : SetView) → set_in es k ≡ Some v → is_empty v.members ≡ true → ((q : List ℕ) → set_in fs q ≡ cond (bytes_eq k q) None (set_in es q)) → world_of fs ≡ world_of es
  world_cleared es fs k v at none after = world_same es fs (λ q. ap filled_view (after q) ∙ by q (bytes_eq k q) refl)
    where
      by : (q : List ℕ) (b : Bool) → bytes_eq k q ≡ b → filled_view (cond b None (set_in es q)) ≡ filled_view (set_in es q)
      by q true y = sym (ap filled_view (ap (set_in es) (sym ((bytes_decides k q).0 y)) ∙ at) ∙ ap (λ b. cond b None (Some v.members)) none)
      by q false n = refl

  -- an empty set put where none was leaves the world
  pub world_made : (es fs : List (Keyed A)) (k : List ℕ) (v : SetView) → v.members ≡ fin.empty → set_in es k ≡ None → ((q : List ℕ) → set_in fs q ≡ cond (bytes_eq k q) (Some v) (set_in es q)) → world_of fs ≡ world_of es
  world_made es fs k v is absent after = world_same es fs (λ q. ap filled_view (after q) ∙ by q (bytes_eq k q) refl)
    where
      none_left : filled v.members ≡ None
      none_left = ap filled is ∙ ap (λ n. cond (nat_eq n 0) None (Some fin.empty)) (fin.len-empty bytes_cmp ℤ)

      by : (q : List ℕ) (b : Bool) → bytes_eq k q ≡ b → filled_view (cond b (Some v) (set_in es q)) ≡ filled_view (set_in es q)
      by q true y = none_left ∙ sym (ap filled_view (ap (set_in es) (sym ((bytes_decides k q).0 y)) ∙ absent))
      by q false n = refl

  -- a set whose members stay leaves the world
  pub world_kept : (es fs : List (Keyed A)) (k : List ℕ) (v w : SetView) → set_in es k ≡ Some v → w.members ≡ v.members → ((q : List ℕ) → set_in fs q ≡ cond (bytes_eq k q) (Some w) (set_in es q)) → world_of fs ≡ world_of es
  world_kept es fs k v w at same after = world_same es fs (λ q. ap filled_view (after q) ∙ by q (bytes_eq k q) refl)
    where
      by : (q : List ℕ) (b : Bool) → bytes_eq k q ≡ b → filled_view (cond b (Some w) (set_in es q)) ≡ filled_view (set_in es q)
      by q true y = ap filled same ∙ sym (ap filled_view (ap (set_in es) (sym ((bytes_decides k q).0 y)) ∙ at))
      by q false n = refl

  pub present : (es : List (Keyed A)) (k : List ℕ) (v : SetView) → set_in es k ≡ cond (bytes_eq k k) (Some v) None → IsSome (set_in es k)
  present es k v h = subst IsSome (sym (h ∙ ap (λ b. cond b (Some v) None) (nat_list_eq_equiv.refl k))) refl

  pub none_at : (es : List (Keyed A)) (k : List ℕ) → set_in es k ≡ None → fin.get (world_of es) k ≡ None
  none_at es k absent = get_world es k ∙ ap filled_view absent

  pub set_at_none : (es : List (Keyed A)) (k : List ℕ) → set_in es k ≡ None → set_at (world_of es) k ≡ fin.empty
  set_at_none es k absent = ap (λ o. unwrap_or o fin.empty) (none_at es k absent)

  pub rest_at : (es : List (Keyed A)) (k : List ℕ) (v : SetView) → Some v ≡ set_in es k → AllRest es → IsResting v
  rest_at es k v is rest = subst (λ o. IfSome o IsResting) (sym is) (rest k)

  -- ---- a set that is changed where it stands, and taken out if it is empty then
  pub set_after : (es fs : List (Keyed A)) (k : List ℕ) (v : SetView) → IsAfter es k (Some v) fs → set_in fs k ≡ Some v
  set_after es fs k v after = after k ∙ ap (λ b. cond b (Some v) (set_in es k)) (nat_list_eq_equiv.refl k)

  pub world_emptied : (es fs gs : List (Keyed A)) (k : List ℕ) (w : SetView) → IsAfter es k (Some w) fs → IsAfter fs k None gs → fin.len w.members ≡ 0 → world_of gs ≡ world_of fs
  world_emptied es fs gs k w one two none = world_cleared fs gs k w (set_after es fs k w one) (ap (λ n. nat_eq n 0) none) two

  pub rest_emptied : (es fs gs : List (Keyed A)) (k : List ℕ) (w : SetView) → OthersRest k es → IsAfter es k (Some w) fs → IsAfter fs k None gs → AllRest gs
  rest_emptied es fs gs k w others one two = all_changed IsResting fs gs k None (others_changed IsResting es fs k (Some w) others one) tt two

  pub rest_changed : (es fs : List (Keyed A)) (k : List ℕ) (w : SetView) → OthersRest k es → IsAfter es k (Some w) fs → w.next ≡ None → (fin.len w.members ≡ 0 → ⊥) → AllRest fs
  rest_changed es fs k w others one idle some = all_changed IsResting es fs k (Some w) others (record { idle = idle; filled = filled_of (fin.len w.members) some }) one
    where
      filled_of : (n : ℕ) → (n ≡ 0 → ⊥) → nat_eq n 0 ≡ false
      filled_of zero h = absurd (h refl)
      filled_of (suc n) h = grind (arith, nat_tests)

  -- ---- a set that is prepared
  pub ready_at : (w : World) (k : List ℕ) (c : Meaning) (old : Members) (v : SetView) (fs : List (Keyed A)) → set_at w k ≡ old → set_in fs k ≡ Some v → IsPreparedFor old c v.next → IsPreparedAt w (Some k) c (next_at fs (Some k))
  ready_at w k c old v fs at here ready =
      subst (λ (o : Option SetView). ShowsAt k (step (set_at w k) c) c (option_and_then (λ v. option_map (keyed k) v.next) o)) (sym here)
      (subst (λ (m : Members). ShowsAt k (step m c) c (option_map (keyed k) v.next)) (sym at) (by (step old c) v.next ready))
    where
      by : (o : Option (Members × Response)) (shown : Option Next) → Shows o c shown → ShowsAt k o c (option_map (keyed k) shown)
      by None shown h = h
      by (Some s) shown h = ap (option_map (keyed k)) h

  pub outline_at : (w : World) (k : List ℕ) (old : Members) (v : SetView) (o : Outline) (fs : List (Keyed A)) → set_at w k ≡ old → set_in fs k ≡ Some v → IfSome v.next (λ next. IsOutline o old next.members) → IfSome (next_at fs (Some k)) (λ next. IsOutline o (set_at w next.0) next.1.members)
  outline_at w k old v o fs at here made =
      subst (λ (x : Option SetView). IfSome (option_and_then (λ v. option_map (keyed k) v.next) x) (λ next. IsOutline o (set_at w next.0) next.1.members)) (sym here) (by v.next made)
    where
      by : (shown : Option Next) → IfSome shown (λ next. IsOutline o old next.members) → IfSome (option_map (keyed k) shown) (λ next. IsOutline o (set_at w next.0) next.1.members)
      by None h = tt
      by (Some next) h = subst (λ (m : Members). IsOutline o m next.members) (sym at) h

  pub next_here : (es : List (Keyed A)) (k : List ℕ) (v : SetView) → set_in es k ≡ Some v → next_at es (Some k) ≡ option_map (keyed k) v.next
  next_here es k v at = ap (option_and_then (λ v. option_map (keyed k) v.next)) at

  -- after a refused preparation the sets rest as before
  pub rest_kept : (es fs : List (Keyed A)) (k : List ℕ) (v w : SetView) → AllRest es → Some v ≡ set_in es k → IsAfter es k (Some w) fs → w.members ≡ v.members → w.next ≡ None → AllRest fs
  rest_kept es fs k v w rest at after same idle = all_changed IsResting es fs k (Some w) (others_of es k rest) (record { idle = idle; filled = ap is_empty same ∙ (rest_at es k v at rest).filled }) after

  -- what a commit made
  pub made_at : (es : List (Keyed A)) (k : List ℕ) (v w : SetView) (end : World) (reply : Response) → set_in es k ≡ Some v → end ≡ put_set (world_of es) k w.members → IfSome v.next (λ next. (w.members ≡ next.members) × (reply ≡ next.reply))
      → IfSome (next_at es (Some k)) (λ next. (end ≡ put_set (world_of es) k next.1.members) × (reply ≡ next.1.reply))
  made_at es k v w end reply at after made = subst (λ (o : Option (List ℕ × Next)). IfSome o (λ next. (end ≡ put_set (world_of es) k next.1.members) × (reply ≡ next.1.reply))) (sym (next_here es k v at)) (by v.next made)
    where
      by : (o : Option Next) → IfSome o (λ next. (w.members ≡ next.members) × (reply ≡ next.reply)) → IfSome (option_map (keyed k) o) (λ next. (end ≡ put_set (world_of es) k next.1.members) × (reply ≡ next.1.reply))
      by None h = tt
      by (Some next) h = (after ∙ ap (put_set (world_of es) k) h.0, h.1)

-- ---- a refusal that leaves the entries
module _ {B : Type 0} where
  pub prepares_not : (es : List (Keyed B)) (k : List ℕ) (c : Meaning) (r : Refusal) → AllRest es → IsRefused r (act_at (world_of es) (Some k) c) → PreparesAt k c (Err r) es es
  prepares_not es k c r rest h = record { world = refl; ready = tt; outline = tt; others = others_of es k rest; refused = h; err = rest }

  pub runs_not : {A : Type 0} (es : List (Keyed B)) (k : List ℕ) (c : Meaning) (r : Refusal) → AllRest es → IsRefused r (act_at (world_of es) (Some k) c) → RunsAt {A = A} k c (Err r) es es
  runs_not es k c r rest h = record { ok = tt; err = refl; refused = h; rest = rest }
