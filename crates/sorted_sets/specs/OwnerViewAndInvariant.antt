-- The entries of an owner's tree, and what callers see of them.
use Rattle.std.specs.Prelude.{◌≡◌, ℕ, false, List, [], ◌∷◌, map, Option, None, Some, IfSome, IsSome, if◌then◌else◌, option_map, option_and_then, Result, IfOk, IfErr, OnOk, OnErr}
use Rattle.std.specs.Map.{lookup, keys_of}
use Rattle.std.specs.List.Sorted.{IsStrictlySortedBy}
use Rattle.std.specs.Ordering.{is_eq}
use Rattle.std.specs.Str.{bytes_eq}
use Rattle.std.specs.FinMap as fin
use Rattle.std.specs.declared.vec.Vec.{Vec}
use Rattle.std.specs.declared.snapshot.Snapshot.{Snapshot}
use Rattle.zset_core.specs.SortedSet.{bytes_cmp}
use Rattle.resp_wire.specs.Response.{response_of}
use Rattle.resp_messages.specs.declared.reply.Reply.{Reply}
use Rattle.zset_commands.specs.AbstractCommand.{Asked, Meaning, key_of}
use Rattle.sorted_sets.specs.ChangeCounts.{IsOutline}
use Rattle.zset_commands.specs.Refusal.{IsRefused}
use Rattle.zset_core.specs.Semantics.{act_at}
use Rattle.sorted_sets.specs.SetAndOwnerViews.{SetView, Next, OwnerView, IsPreparedAt}
use Rattle.zset_core.specs.SetsByKey.{World, is_empty, put_set, set_at}
use Rattle.zset_commands.specs.declared.refusal.Refusal.{Refusal}
use Rattle.sorted_sets.specs.declared.set.change_counts.Outline.{Outline}

abbrev pub Keyed : Type 0 → Type 0
Keyed A = Vec ℕ A × SetView

-- the world that entries make
abbrev pub world_of : {A : Type 0} → List (Keyed A) → World
world_of [] = fin.empty
world_of (e ∷ es) = put_set (world_of es) e.0.items e.1.members

-- their keys
abbrev pub set_keys : {A : Type 0} → List (Keyed A) → List (List ℕ)
set_keys {A} entries = map (λ (e : Keyed A). e.0.items) entries

-- the entries stand in the byte order of their keys
abbrev pub KeysRise : {A : Type 0} → List (Keyed A) → Type 0
KeysRise entries = IsStrictlySortedBy (λ x y. bytes_cmp x.items y.items) (keys_of entries)

-- what the entries have at a key
abbrev pub set_in : {A : Type 0} → List (Keyed A) → List ℕ → Option SetView
set_in entries q = lookup (λ k. is_eq (bytes_cmp q k.items)) entries

-- the new entries have this at a key, and at each other what the old ones have
abbrev pub IsAfter : {A : Type 0} → List (Keyed A) → List ℕ → Option SetView → List (Keyed A) → Type 0
IsAfter old key put new = (q : List ℕ) → set_in new q ≡ (if bytes_eq key q then put else set_in old q)

-- a set that is not prepared and has members
pub record IsResting (v : SetView) : Type 0 where
  pub idle : v.next ≡ None
  pub filled : is_empty v.members ≡ false

-- each set rests
abbrev pub AllRest : {A : Type 0} → List (Keyed A) → Type 0
AllRest entries = (q : List ℕ) → IfSome (set_in entries q) IsResting

-- each set but the one at a key
abbrev pub OthersRest : {A : Type 0} → List ℕ → List (Keyed A) → Type 0
OthersRest key entries = (q : List ℕ) → bytes_eq key q ≡ false → IfSome (set_in entries q) IsResting

-- what a prepared set shows, with its key
abbrev pub next_at : {A : Type 0} → List (Keyed A) → Option (List ℕ) → Option (List ℕ × Next)
next_at entries None = None
next_at entries (Some key) = option_and_then (λ v. option_map (λ next. (key, next)) v.next) (set_in entries key)

-- the set at a key is prepared, and each other rests
abbrev pub IsHeld : {A : Type 0} → List (Keyed A) → Option (List ℕ) → Type 0
IsHeld entries None = ⊥
IsHeld entries (Some key) = IsSome (next_at entries (Some key)) × OthersRest key entries

abbrev pub owner_view : {A : Type 0} → List (Keyed A) → Option (Snapshot Asked) → OwnerView
owner_view entries None = record { world = world_of entries; next = None }
owner_view entries (Some asked) = record { world = world_of entries; next = next_at entries (key_of asked.value.meaning) }

-- what holds of every owner
abbrev pub IsOwned : {A : Type 0} → List (Keyed A) → Option (Snapshot Asked) → Type 0
IsOwned entries None = AllRest entries
IsOwned entries (Some asked) = IsHeld entries (key_of asked.value.meaning)

-- a command was run on the set at a key, or refused
pub record RunsAt {A B : Type 0} (key : List ℕ) (meaning : Meaning) (result : Result (Reply A) Refusal) (old new : List (Keyed B)) : Type 0 where
  pub ok : IfOk result (λ reply. act_at (world_of old) (Some key) meaning ≡ Some (world_of new, response_of reply))
  pub err : OnErr result (world_of new ≡ world_of old)
  pub refused : IfErr result (λ refusal. IsRefused refusal (act_at (world_of old) (Some key) meaning))
  pub rest : AllRest new

-- a command was prepared in the set at a key, or refused
pub record PreparesAt {B : Type 0} (key : List ℕ) (meaning : Meaning) (result : Result Outline Refusal) (old new : List (Keyed B)) : Type 0 where
  pub world : world_of new ≡ world_of old
  pub ready : OnOk result (IsPreparedAt (world_of old) (Some key) meaning (next_at new (Some key)))
  pub outline : IfOk result (λ outline. IfSome (next_at new (Some key)) (λ next. IsOutline outline (set_at (world_of old) next.0) next.1.members))
  pub others : OthersRest key new
  pub refused : IfErr result (λ refusal. IsRefused refusal (act_at (world_of old) (Some key) meaning))
  pub err : OnErr result (AllRest new)
