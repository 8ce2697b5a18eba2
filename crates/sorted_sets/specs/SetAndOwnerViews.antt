-- What callers see of a set and of an owner: the members, and, while a command is prepared, what it asks for and what its commit will leave and reply; of a set also its column.
use Rattle.std.specs.Prelude.{◌≡◌, ℕ, if◌then◌else◌, List, Option, None, Some, Result, IfOk, IfErr, OnErr}
use Rattle.std.specs.Coded.{Coded, coded_ℕ, coded_ℤ, coded_list}
use Rattle.std.specs.Str.{bytes_eq}
use Rattle.std.specs.FinMap as fin
use Rattle.resp_wire.specs.Response.{Response, response_of}
use Rattle.resp_messages.specs.declared.reply.Reply.{Reply}
use Rattle.ripple_column.specs.Content.{ColumnState}
use Rattle.zset_core.specs.SortedSet.{Members}
use Rattle.zset_commands.specs.AbstractCommand.{Meaning}
use Rattle.zset_commands.specs.Refusal.{IsRefused}
use Rattle.zset_commands.specs.declared.refusal.Refusal.{Refusal}
use Rattle.zset_core.specs.Semantics.{step}
use Rattle.zset_core.specs.SetsByKey.{World, set_at}

-- what a commit will leave and reply, and what was asked for
pub record Next : Type 0 where
  pub meaning : Meaning
  pub members : Members
  pub reply : Response

-- a set; `next` is there while it is prepared. Its column is told for one thing alone: which commands it can answer as it stands
pub record SetView : Type 0 where
  pub members : Members
  pub next : Option Next
  pub column : ColumnState

-- what a set shows that has prepared a command
abbrev pub Shows : Option (Members × Response) → Meaning → Option Next → Type 0
Shows None meaning shown = ⊥
Shows (Some result) meaning shown = shown ≡ Some (record { meaning = meaning; members = result.0; reply = result.1 })

abbrev pub IsPreparedFor : Members → Meaning → Option Next → Type 0
IsPreparedFor members meaning shown = Shows (step members meaning) meaning shown

-- a command was run on a set, or refused
pub record RunsOn {A : Type 0} (meaning : Meaning) (result : Result (Reply A) Refusal) (old new : SetView) : Type 0 where
  pub ok : IfOk result (λ reply. step old.members meaning ≡ Some (new.members, response_of reply))
  pub err : OnErr result (new.members ≡ old.members)
  pub refused : IfErr result (λ refusal. IsRefused refusal (step old.members meaning))
  pub idle : new.next ≡ None

-- sets by key; `next` is there while one of them is prepared, with its key
pub record OwnerView : Type 0 where
  pub world : World
  pub next : Option (List ℕ × Next)

-- what an owner shows that has prepared a command in the set of its key
abbrev pub ShowsAt : List ℕ → Option (Members × Response) → Meaning → Option (List ℕ × Next) → Type 0
ShowsAt key None meaning shown = ⊥
ShowsAt key (Some result) meaning shown = shown ≡ Some (key, record { meaning = meaning; members = result.0; reply = result.1 })

abbrev pub IsPreparedAt : World → Option (List ℕ) → Meaning → Option (List ℕ × Next) → Type 0
IsPreparedAt world None meaning shown = ⊥
IsPreparedAt world (Some key) meaning shown = ShowsAt key (step (set_at world key) meaning) meaning shown

-- what an owner shows of the set at a key
abbrev pub next_for : Option (List ℕ × Next) → List ℕ → Option Next
next_for None key = None
next_for (Some next) key = if bytes_eq next.0 key then Some next.1 else None

-- a set is the one at a key
pub record IsSetAt (owner : OwnerView) (key : List ℕ) (set : SetView) : Type 0 where
  pub members : set.members ≡ set_at owner.world key
  pub next : set.next ≡ next_for owner.next key

-- the set at a key is empty, and nothing is prepared in it
pub record HasNoSet (owner : OwnerView) (key : List ℕ) : Type 0 where
  pub members : set_at owner.world key ≡ fin.empty
  pub next : next_for owner.next key ≡ None

-- codes, by which a proof tells such values apart
abbrev pub coded_members : Coded Members
coded_members = fin.code (coded_list coded_ℕ) coded_ℤ

abbrev pub coded_world : Coded World
coded_world = fin.code (coded_list coded_ℕ) coded_members
