-- What an owner's methods keep of its bounds.
use Rattle.std.proofs.Common.{◌≡◌, ℕ, List, Option, None, Some, option_map, option_and_then, is_some, IsSome, IfSome, IfOk, OnErr, Result, Ok, Err, sym, ap, subst, ◌∙◌}
use Rattle.std.proofs.lemmas.Bool.{true≢false}
use Rattle.std.specs.declared.snapshot.Snapshot.{Snapshot}
use Rattle.resp_wire.specs.RequestEncoding.{IsArgument}
use Rattle.resp_wire.specs.Response.{Response}
use Rattle.zset_commands.specs.AbstractCommand.{Meaning, Asked, key_of}
use Rattle.sorted_sets.specs.SetAndOwnerViews.{SetView, Next, OwnerView}
use Rattle.zset_core.specs.SetsByKey.{World, put_set}
use Rattle.zset_core.specs.Semantics.{act_at}
use Rattle.sorted_sets.specs.OwnerViewAndInvariant.{Keyed, world_of, set_in, next_at, IsHeld, IsOwned, owner_view, AllRest}
use Rattle.zset_commands.specs.RequestLimits.{IsBoundedMeaning}
use Rattle.sorted_sets.specs.WorldWithinRequestLimits.{IsBoundedWorld, IsBoundedOwner}
use Rattle.sorted_sets.proofs.Bounds.{IsBoundedNext, act_bounded, put_set_bounded}
use Rattle.sorted_sets.proofs.Worlds.{keyed}

word_of : (c : Meaning) (k : List ℕ) → IsBoundedMeaning c → key_of c ≡ Some k → IsArgument k
word_of c k meant is = subst (λ (o : Option (List ℕ)). IfSome o IsArgument) is meant.key

run_bounded : {X E : Type 0} (r : Result X E) (tell : X → Response) (w end : World) (c : Meaning) (k : List ℕ) → IsBoundedWorld w → IsBoundedMeaning c → key_of c ≡ Some k
    → IfOk r (λ reply. act_at w (Some k) c ≡ Some (end, tell reply)) → OnErr r (end ≡ w) → IsBoundedWorld end
run_bounded (Ok x) tell w end c k bounded meant key ok err = act_bounded w c end (tell x) (Some k) bounded (word_of c k meant key) meant.puts ok
run_bounded (Err e) tell w end c k bounded meant key ok err = subst IsBoundedWorld (sym err) bounded

made_bounded : (w end : World) (k : List ℕ) (Q : List ℕ × Next → Type 0) (o : Option (List ℕ × Next)) → IsBoundedWorld w → IsArgument k → IsBoundedNext o → IsSome o
    → IfSome o (λ next. (end ≡ put_set w k next.1.members) × Q next) → IsBoundedWorld end
made_bounded w end k Q None bounded word next some made = absurd (true≢false (sym some))
made_bounded w end k Q (Some n) bounded word next some made = subst IsBoundedWorld (sym made.0) (put_set_bounded w k n.1.members bounded word next.1)

module _ {A : Type 0} where
  pub world_bounded : (es : List (Keyed A)) (a : Option (Snapshot Asked)) → IsBoundedOwner (owner_view es a) → IsBoundedWorld (world_of es)
  world_bounded es None bounded = bounded.world
  world_bounded es (Some asked) bounded = bounded.world

  -- where no set is prepared, none was before
  pub idle_after : (es fs : List (Keyed A)) (a : Option (Snapshot Asked)) → IsOwned es a → (owner_view es a).next ≡ None → AllRest fs → IsBoundedWorld (world_of fs)
      → IsOwned fs a × IsBoundedOwner (owner_view fs a)
  idle_after es fs None owned idle rest bounded = (rest, record { world = bounded; next = tt })
  idle_after es fs (Some asked) owned idle rest bounded = absurd (by (key_of asked.value.meaning) owned idle)
    where
      by : (k : Option (List ℕ)) → IsHeld es k → next_at es k ≡ None → ⊥
      by None h none = h
      by (Some k) h none = true≢false (sym (subst IsSome none h.0))

  pub run_kept : {X E : Type 0} (r : Result X E) (tell : X → Response) (es fs : List (Keyed A)) (a : Option (Snapshot Asked)) (v : OwnerView) (c : Meaning) (k : List ℕ)
      → owner_view es a ≡ v → IsOwned es a × IsBoundedOwner (owner_view es a) → v.next ≡ None → IsBoundedMeaning c → key_of c ≡ Some k
      → IfOk r (λ reply. act_at (world_of es) (Some k) c ≡ Some (world_of fs, tell reply)) → OnErr r (world_of fs ≡ world_of es) → AllRest fs
      → IsOwned fs a × IsBoundedOwner (owner_view fs a)
  run_kept r tell es fs a v c k is kept idle meant key ok err rest =
      idle_after es fs a kept.0 (ap (λ (v : OwnerView). v.next) is ∙ idle) rest (run_bounded r tell (world_of es) (world_of fs) c k (world_bounded es a kept.1) meant key ok err)

  -- the set that is prepared is the one at this key
  held_at : (es : List (Keyed A)) (prepared : Option (List ℕ)) (k : List ℕ) → IsBoundedNext (next_at es prepared) → IsSome (next_at es prepared)
      → option_map (λ (n : List ℕ × Next). n.0) (next_at es prepared) ≡ Some k → IsBoundedNext (next_at es (Some k)) × IsSome (next_at es (Some k))
  held_at es None k bounded some is = absurd (true≢false (sym some))
  held_at es (Some p) k bounded some is = subst (λ (x : List ℕ). IsBoundedNext (next_at es (Some x)) × IsSome (next_at es (Some x))) (same (set_in es p) is) (bounded, some)
    where
      shown : (n : Option Next) → option_map (λ (n : List ℕ × Next). n.0) (option_map (keyed p) n) ≡ Some k → p ≡ k
      shown None e = absurd (let no : None ≡ Some k = e in cc)
      shown (Some n) e = cc

      same : (o : Option SetView) → option_map (λ (n : List ℕ × Next). n.0) (option_and_then (λ v. option_map (keyed p) v.next) o) ≡ Some k → p ≡ k
      same None e = absurd (let no : None ≡ Some k = e in cc)
      same (Some v) e = shown v.next e

  pub commit_kept : (es fs : List (Keyed A)) (a : Option (Snapshot Asked)) (v : OwnerView) (c : Meaning) (k : List ℕ) (Q : List ℕ × Next → Type 0)
      → owner_view es a ≡ v → IsBoundedOwner (owner_view es a) → IsSome v.next → option_map (λ (n : List ℕ × Next). n.0) v.next ≡ key_of c → IsBoundedMeaning c → key_of c ≡ Some k
      → IfSome (next_at es (Some k)) (λ next. (world_of fs ≡ put_set (world_of es) k next.1.members) × Q next) → AllRest fs
      → AllRest fs × IsBoundedOwner (record { world = world_of fs; next = None })
  commit_kept es fs None v c k Q is bounded some same meant key made rest = absurd (true≢false (sym (ap (λ (v : OwnerView). is_some v.next) is ∙ some)))
  commit_kept es fs (Some asked) v c k Q is bounded some same meant key made rest =
      let next_is = ap (λ (v : OwnerView). v.next) is in
      let held = held_at es (key_of asked.value.meaning) k bounded.next (ap is_some next_is ∙ some) (ap (option_map (λ (n : List ℕ × Next). n.0)) next_is ∙ same ∙ key) in
      (rest, record { world = made_bounded (world_of es) (world_of fs) k Q (next_at es (Some k)) bounded.world (word_of c k meant key) held.0 held.1 made; next = tt })
