-- The first set is taken out of an owner.
use Rattle.std.proofs.Common.{◌≡◌, ◌<◌, ◌+◌, ℕ, Bool, true, false, cond, List, [], ◌∷◌, length, map, Option, None, Some, is_some, IsSome, IfSome, MatchOption, slice_get, refl, sym, ap, subst, ◌∙◌, arith}
use Rattle.std.specs.Prelude.{◌↔◌}
use Rattle.std.specs.FinMap as fin
use Rattle.std.specs.List.Sorted.{IsStrictlySortedBy}
use Rattle.std.specs.Ordering.{eq_by_cmp}
use Rattle.std.specs.Str.{bytes_eq}
use Rattle.std.specs.Cmp.{eq_by_cmp_equiv}
use Rattle.std.specs.Cmp.Lexicographic.{nat_list_eq_equiv}
use Rattle.std.proofs.lemmas.Bool.{true≢false}
use Rattle.std.proofs.lemmas.Map.Text.{is_eq-slice_cmp}
use Rattle.std.specs.BTreeMap.{BTreeMap, Updates}
use Rattle.std.specs.declared.snapshot.Snapshot.{Snapshot}
use Rattle.std.specs.declared.vec.Vec.{Vec}
use Rattle.zset_core.specs.SortedSet.{Members, bytes_cmp}
use Rattle.sorted_sets.specs.WorldWithinRequestLimits.{IsBoundedWorld, IsBoundedAt, IsBoundedOwner}
use Rattle.zset_commands.specs.AbstractCommand.{Asked}
use Rattle.sorted_sets.specs.OwnerViewAndInvariant.{Keyed, world_of, set_in, IsAfter, KeysRise, AllRest, IsOwned, owner_view}
use Rattle.sorted_sets.specs.FirstKeyTakenOut.{IsFirst}
use Rattle.sorted_sets.specs.SetAndOwnerViews.{SetView, OwnerView}
use Rattle.zset_core.specs.SetsByKey.{World}
use Rattle.sorted_sets.proofs.Bridge.{total, exact}
use Rattle.sorted_sets.proofs.OwnerBounds.{world_bounded, idle_after}
use Rattle.sorted_sets.proofs.OwnerViews.{row_of, rows_of, world_rows, idle_rest}
use Rattle.sorted_sets.proofs.Worlds.{get_world, filled_view, set_at_entry, rest_at, others_of, all_changed, key_cmp, updates_key}

-- one entry leaves, or there was none
pub split : {X : Type 0} (r : Option X) (old new : List X) → (IsSome r ↔ (0 < length old)) → IfSome r (λ p. old ≡ p ∷ new) → length new + cond (is_some r) 1 0 ≡ length old
    → MatchOption r ((old ≡ []) × (new ≡ [])) (λ p. old ≡ p ∷ new)
split None [] [] variant removal len = (refl, refl)
split None [] (x ∷ xs) variant removal len = absurd (omega arith)
split None (x ∷ xs) new variant removal len = absurd (true≢false (sym (variant.1 (omega arith))))
split (Some p) old new variant removal len = removal

bounded_without : (w : World) (k : List ℕ) → IsBoundedWorld w → IsBoundedWorld (fin.remove w k)
bounded_without w k bounded q = subst (λ (o : Option Members). IfSome o (IsBoundedAt q)) (sym (fin.get-remove total w k q)) (by (eq_by_cmp bytes_cmp q k))
  where
    by : (b : Bool) → IfSome (cond b None (fin.get w q)) (IsBoundedAt q)
    by true = tt
    by false = bounded q

module _ {A : Type 0} where
  here : (es fs : List (Keyed A)) (e : Keyed A) → es ≡ e ∷ fs → set_in es e.0.items ≡ Some e.1
  here es fs e is = ap (λ l. set_in l e.0.items) is ∙ ap (λ b. cond b (Some e.1) (set_in fs e.0.items)) (is_eq-slice_cmp e.0.items e.0.items ∙ nat_list_eq_equiv.refl e.0.items)

  rising_rest : (e : Keyed A) (fs : List (Keyed A)) → KeysRise (e ∷ fs) → KeysRise fs
  unfolding IsStrictlySortedBy
  rising_rest e fs h = h.1

  pub all_rest : (es fs : List (Keyed A)) (k : List ℕ) → AllRest es → IsAfter es k None fs → AllRest fs
  all_rest es fs k rest after = all_changed _ es fs k None (others_of es k rest) tt after

  world_without : (es fs : List (Keyed A)) (k : List ℕ) → IsAfter es k None fs → world_of fs ≡ fin.remove (world_of es) k
  world_without es fs k after = fin.same_map total exact _ _ (λ q.
      get_world fs q ∙ ap filled_view (after q) ∙ by q (bytes_eq k q) ∙ ap (λ b. cond b None (fin.get (world_of es) q)) (sym (is_eq-slice_cmp k q) ∙ (eq_by_cmp_equiv total).symm k q)
      ∙ sym (fin.get-remove total (world_of es) k q))
    where
      by : (q : List ℕ) (b : Bool) → filled_view (cond b None (set_in es q)) ≡ cond b None (fin.get (world_of es) q)
      by q true = refl
      by q false = sym (get_world es q)

  is_first : (es fs : List (Keyed A)) (e : Keyed A) → es ≡ e ∷ fs → IsAfter es e.0.items None fs → KeysRise es → AllRest es → IsFirst (world_of es) e.0.items e.1 (world_of fs)
  is_first es fs e is after rising rest =
      let at = here es fs e is in
      let resting = rest_at es e.0.items e.1 (sym at) rest in
      let old : fin.entries (world_of es) ≡ row_of e ∷ rows_of fs = world_rows es rising rest ∙ ap rows_of is in
      let new : fin.entries (world_of fs) ≡ rows_of fs = world_rows fs (rising_rest e fs (subst KeysRise is rising)) (all_rest es fs e.0.items rest after) in
      record {
        first = ap (λ l. slice_get (map (λ (r : List ℕ × Members). r.0) l) 0) old;
        members = sym (set_at_entry es e.0.items e.1 at);
        filled = resting.filled;
        idle = resting.idle;
        rest = world_without es fs e.0.items after;
        entries = old ∙ ap (λ l. row_of e ∷ l) (sym new);
      }

  -- what is taken, by what contracts see of the owner before and after
  pub taken_of : (r : Option (Keyed A)) (es fs : List (Keyed A)) (old new : World) → world_of es ≡ old → world_of fs ≡ new → AllRest es → KeysRise es
      → MatchOption r ((es ≡ []) × (fs ≡ [])) (λ e. es ≡ e ∷ fs) → IfSome r (λ e. IsAfter es e.0.items None fs)
      → MatchOption r ((old ≡ fin.empty) × (new ≡ fin.empty)) (λ e. IsFirst old e.0.items e.1 new)
  taken_of None es fs old new is after rest rising split gone = (sym is ∙ ap world_of split.0, sym after ∙ ap world_of split.1)
  taken_of (Some e) es fs old new is after rest rising split gone =
      subst (λ (w : World). IsFirst w e.0.items e.1 new) is (subst (λ (w : World). IsFirst (world_of es) e.0.items e.1 w) after (is_first es fs e split gone rising rest))

  left_rest : (r : Option (Keyed A)) (es fs : List (Keyed A)) → AllRest es → MatchOption r ((es ≡ []) × (fs ≡ [])) (λ e. es ≡ e ∷ fs) → IfSome r (λ e. IsAfter es e.0.items None fs) → AllRest fs
  left_rest None es fs rest split gone = subst AllRest (split.0 ∙ sym split.1) rest
  left_rest (Some e) es fs rest split gone = all_rest es fs e.0.items rest gone

  left_bounded : (r : Option (Keyed A)) (es fs : List (Keyed A)) → IsBoundedWorld (world_of es) → MatchOption r ((es ≡ []) × (fs ≡ [])) (λ e. es ≡ e ∷ fs) → IfSome r (λ e. IsAfter es e.0.items None fs) → IsBoundedWorld (world_of fs)
  left_bounded None es fs bounded split gone = subst (λ (l : List (Keyed A)). IsBoundedWorld (world_of l)) (split.0 ∙ sym split.1) bounded
  left_bounded (Some e) es fs bounded split gone = subst IsBoundedWorld (sym (world_without es fs e.0.items gone)) (bounded_without (world_of es) e.0.items bounded)

  -- the owner that is left
  pub left_kept : (r : Option (Keyed A)) (es fs : List (Keyed A)) (a : Option (Snapshot Asked)) (v : OwnerView) → owner_view es a ≡ v → IsOwned es a × IsBoundedOwner (owner_view es a) → v.next ≡ None
      → MatchOption r ((es ≡ []) × (fs ≡ [])) (λ e. es ≡ e ∷ fs) → IfSome r (λ e. IsAfter es e.0.items None fs)
      → IsOwned fs a × IsBoundedOwner (owner_view fs a)
  left_kept r es fs a v is kept idle split gone =
      idle_after es fs a kept.0 (ap (λ (v : OwnerView). v.next) is ∙ idle) (left_rest r es fs (idle_rest es a v is kept.0 idle) split gone) (left_bounded r es fs (world_bounded es a kept.1) split gone)

  -- what the tree has at other keys stays
  pub gone_of : (r : Option (Keyed A)) (old new : BTreeMap (Vec ℕ A) SetView) → IfSome r (λ e. Updates key_cmp old new e.0 None) → IfSome r (λ e. IsAfter old.entries e.0.items None new.entries)
  gone_of None old new h = tt
  gone_of (Some e) old new h = updates_key e.0.items old new None h
