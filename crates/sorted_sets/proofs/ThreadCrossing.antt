-- Which of this crate's types may cross threads: as their hasher and their allocator may. rattle makes no such lemma of a
-- struct with a `Snapshot` in it, and so none of what holds one, and a `search` that goes down through them runs out of steps.
use denote.Builtin.{u8}
use denote.RattleType.{RattleType}
use denote.Struct.Declared.{shape, fields}
use denote.Param.Send.{IsSend, IsSync, AllSend, AllSync, Frees, sendable, view_send, view_sync, recorded_send, recorded_sync, struct_send, struct_sync}
use Rattle.std.proofs.Crossing.{crosses}
use Rattle.std.proofs.boxed.Box.TheSendSync as block
use Rattle.std.proofs.vec.Vec.TheSendSync as vec
use Rattle.std.proofs.collections.btree_map.BTreeMap.TheSendSync as tree
use Rattle.std.specs.declared.alloc.Allocator as alloc
use Rattle.std.specs.declared.hash.BuildHasher as builder
use Rattle.std.specs.declared.hash.Hasher as hasher
use Rattle.std.specs.contracts.impls.VecOrd.TheImpl as before
use Rattle.std.specs.contracts.impls.VecPartialEq.TheImpl as same
use Rattle.std.specs.contracts.impls.VecPartialOrd.TheImpl as maybe_before
use Rattle.std.specs.contracts.prelude.U8Eq.TheImpl as ByteEq
use Rattle.std.specs.contracts.prelude.U8Ord.TheImpl as ByteOrd
use Rattle.std.specs.contracts.prelude.U8PartialEq.TheImpl as BytePartialEq
use Rattle.std.specs.contracts.prelude.U8PartialOrd.TheImpl as BytePartialOrd
use Rattle.std.specs.contracts.snapshot.Snapshot as Snapshot
use Rattle.indexmap.proofs.map.IndexMap.TheSendSync as index
use Rattle.short_bytes.proofs.short_bytes.ShortBytes.TheSendSync as short
use Rattle.ripple_column.proofs.column.Column.TheSendSync as column
use Rattle.zset_commands.specs.contracts.command.Command as Command
use Rattle.sorted_sets.specs.contracts.owner.OneOwner as Owner
use Rattle.sorted_sets.specs.contracts.owner.boxed_set.BoxedSet as BoxedSet
use Rattle.sorted_sets.specs.contracts.owner.boxed_set.BoxedSet.TheInside as KeptFields
use Rattle.sorted_sets.specs.contracts.owner.OneOwner.TheInside as OwnerFields
use Rattle.sorted_sets.specs.contracts.set.Prepared as Prepared
use Rattle.sorted_sets.specs.contracts.set.ZSet as ZSet
use Rattle.sorted_sets.specs.contracts.set.ZSet.TheInside as SetFields
use Rattle.sorted_sets.proofs.set.plan.Plan.TheSendSync as plan
use Rattle.sorted_sets.proofs.memory_reserve.Spare.TheSendSync as spare
use Rattle.sorted_sets.proofs.set.members_with_staged_scores.ScoreSlot.TheSendSync as slot

note_send : (Y : RattleType) → IsSend (Snapshot.the_row Y)
note_send Y = search crosses

note_sync : (Y : RattleType) → IsSync (Snapshot.the_row Y)
note_sync Y = search crosses

module _ (A : RattleType) (g : alloc.Ghosts A.Denot) where
  prepared_send : IsSend A → IsSync A → Frees g g.dealloc_token → IsSend (Prepared.the_row A g)
  prepared_send s y f = let a = note_send (Command.the_row A g) in let b = plan.the_field_send A g s y f in search sendable depth 20

  prepared_sync : IsSend A → IsSync A → Frees g g.dealloc_token → IsSync (Prepared.the_row A g)
  prepared_sync s y f = let a = note_sync (Command.the_row A g) in let b = plan.the_field_sync A g s y f in search sendable depth 20

module _ (H A T : RattleType) (b : builder.Ghosts H.Denot T.Denot) (w : hasher.Ghosts T.Denot) (g : alloc.Ghosts A.Denot) where
  pub set_send : IsSend H → IsSend A → IsSync A → Frees g g.dealloc_token → IsSend (ZSet.the_row H A T b w g)
  set_send sh sa ya f =
      let O = SetFields.the_type H A T b w g in
      let key = short.the_send A g sa ya f in
      let all : AllSend (fields O) = (sa, (index.the_send _ _ H A T _ _ b w g key slot.the_send sh sa f, (column.the_send A g sa ya f, (search (prepared_send A g sa ya f, sendable) depth 20, tt)))) in
      view_send _ _ _ _ _ (recorded_send _ O.D O.to O.to_one (struct_send (shape O) all))

  pub set_sync : IsSync H → IsSend A → IsSync A → Frees g g.dealloc_token → IsSync (ZSet.the_row H A T b w g)
  set_sync yh sa ya f =
      let O = SetFields.the_type H A T b w g in
      let key = short.the_sync A g sa ya f in
      let all : AllSync (fields O) = (ya, (index.the_sync _ _ H A T _ _ b w g key slot.the_sync yh ya, (column.the_sync A g sa ya f, (search (prepared_sync A g sa ya f, sendable) depth 20, tt)))) in
      view_sync _ _ _ _ _ (recorded_sync _ O.D O.to O.to_one (struct_sync (shape O) all))

  kept_send : IsSend H → IsSend A → IsSync A → Frees g g.dealloc_token → IsSend (BoxedSet.the_row H A T b w g)
  kept_send sh sa ya f =
      let O = KeptFields.the_type H A T b w g in
      let all : AllSend (fields O) = (block.the_send (ZSet.the_row H A T b w g) A g (set_send sh sa ya f) sa f, tt) in
      view_send _ _ _ _ _ (recorded_send _ O.D O.to O.to_one (struct_send (shape O) all))

  pub owner_send : IsSend H → IsSend A → IsSync A → Frees g g.dealloc_token → IsSend (Owner.the_row H A T b w g)
  owner_send sh sa ya f =
      let O = OwnerFields.the_type H A T b w g in
      let key = vec.the_send u8 A g (search sendable) sa f in
      let no = before.no_dict in
      let order = before.ghosts u8 A ByteOrd.ghosts no ByteEq.ghosts no BytePartialEq.ghosts no BytePartialOrd.ghosts no g no no in
      let equal = same.ghosts u8 A BytePartialEq.ghosts same.no_dict g same.no_dict same.no_dict in
      let partial = maybe_before.ghosts u8 A BytePartialOrd.ghosts maybe_before.no_dict BytePartialEq.ghosts maybe_before.no_dict g maybe_before.no_dict maybe_before.no_dict in
      let all : AllSend (fields O) = (sa, (sh, (tree.the_send _ _ A order equal partial g key (kept_send sh sa ya f) sa f, (search (note_send (Command.the_row A g), sendable) depth 20, (spare.the_send A g sa f, tt))))) in
      view_send _ _ _ _ _ (recorded_send _ O.D O.to O.to_one (struct_send (shape O) all))
