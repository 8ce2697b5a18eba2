-- Which of this crate's types may cross threads: as their hasher, their log's sink and their allocator may. A ledger needs nothing: its shares name no thread.
use denote.RattleType.{RattleType}
use denote.Builtin.{u64, usize}
use denote.Struct.Declared.{shape, fields}
use denote.Param.Send.{IsSend, IsSync, AllSend, AllSync, Frees, sendable, view_send, view_sync, recorded_send, recorded_sync, struct_send, struct_sync}
use Rattle.std.proofs.Crossing as heap
use Rattle.std.specs.contracts.alloc.Global as Global
use Rattle.std.specs.contracts.hash.DefaultHasher as DefaultHasher
use Rattle.std.specs.contracts.random_state.RandomState as RandomState
use Rattle.std.specs.contracts.random_state.RandomStateBuildHasher.TheImpl as states
use Rattle.std.specs.contracts.prelude.DefaultHasherHasher.TheImpl as hashes
use Rattle.std.specs.contracts.impls.GlobalAllocator.TheImpl as blocks
use Rattle.std.proofs.vec.Vec.TheSendSync as vec
use Rattle.std.proofs.sync.Mutex.TheSendSync as mutex
use Rattle.std.proofs.sync.RwLock.TheSendSync as lock
use Rattle.std.specs.declared.alloc.Allocator as alloc
use Rattle.std.specs.declared.hash.BuildHasher as builder
use Rattle.std.specs.declared.hash.Hasher as hasher
use Rattle.std.specs.declared.sync.ledger.Ledger as ledger
use Rattle.log_records.specs.declared.log_sinks.LogSink as sink
use Rattle.append_log.proofs.log.Log.TheSendSync as log
use Rattle.log_records.proofs.record_count_share.RecordShare.TheSendSync as share
use Rattle.sorted_sets.proofs.CallerLemmas.{set_send, set_sync}
use Rattle.set_table.specs.contracts.cell.Cell as Cell
use Rattle.set_table.specs.contracts.cell.Cell.TheInside as CellFields
use Rattle.set_table.specs.contracts.table.Table as Table
use Rattle.set_table.specs.contracts.table.Table.TheInside as TableFields
use Rattle.zset_commands.proofs.command.Command.TheSendSync as command
use Rattle.zset_commands.specs.contracts.command.Command as Command
use Rattle.set_table.specs.contracts.worker_pass.Pass as Pass
use Rattle.set_table.proofs.worker_pass.Pass.TheSendSync as pass
use Rattle.set_table.proofs.member_change_counts.Tally.TheSendSync as tally
use Rattle.place_names.proofs.names_set_once.Names.TheSendSync as names

word_send : IsSend u64
word_send = search sendable

word_sync : IsSync u64
word_sync = search sendable

index_send : IsSend usize
index_send = search sendable

index_sync : IsSync usize
index_sync = search sendable

module _ (H L A T : RattleType) (b : builder.Ghosts H.Denot T.Denot) (w : hasher.Ghosts T.Denot) (l : ledger.Ghosts L.Denot) (g : alloc.Ghosts A.Denot) where
  pub cell_send : IsSend H → IsSend A → IsSync A → Frees g g.dealloc_token → IsSend (Cell.the_row H L A T b w l g)
  cell_send sh sa ya f =
      let O = CellFields.the_type H L A T b w l g in
      let all : AllSend (fields O) = (index_send, (set_send H A T b w g sh sa ya f, (word_send, (word_send, (vec.the_send _ A g tally.the_send sa f, (tally.the_field_send, (share.the_send L l, (sa, tt)))))))) in
      view_send _ _ _ _ _ (recorded_send _ O.D O.to O.to_one (struct_send (shape O) all))

  pub cell_sync : IsSync H → IsSend A → IsSync A → Frees g g.dealloc_token → IsSync (Cell.the_row H L A T b w l g)
  cell_sync yh sa ya f =
      let O = CellFields.the_type H L A T b w l g in
      let all : AllSync (fields O) = (index_sync, (set_sync H A T b w g yh sa ya f, (word_sync, (word_sync, (vec.the_sync _ A g tally.the_sync ya, (tally.the_field_sync, (share.the_sync L l, (ya, tt)))))))) in
      view_sync _ _ _ _ _ (recorded_sync _ O.D O.to O.to_one (struct_sync (shape O) all))

module _ (H S L A T : RattleType) (b : builder.Ghosts H.Denot T.Denot) (w : hasher.Ghosts T.Denot) (s : sink.Ghosts S.Denot) (l : ledger.Ghosts L.Denot) (g : alloc.Ghosts A.Denot) where
  pub table_sync : IsSend H → IsSync H → IsSend S → IsSend A → IsSync A → Frees g g.dealloc_token → IsSync (Table.the_row H S L A T b w s l g)
  table_sync sh yh ss sa ya f =
      let O = TableFields.the_type H S L A T b w s l g in
      let place = lock.the_sync (Cell.the_row H L A T b w l g) (cell_send H L A T b w l g sh sa ya f) (cell_sync H L A T b w l g yh sa ya f) in
      let all : AllSync (fields O) = (names.the_sync, (vec.the_sync _ A g place ya, (vec.the_sync _ A g word_sync ya, (mutex.the_sync _ (log.the_send S L s l ss), (index_sync, (word_sync, (word_sync, (ya, tt)))))))) in
      view_sync _ _ _ _ _ (recorded_sync _ O.D O.to O.to_one (struct_sync (shape O) all))

-- the same at the hasher and the allocator of a program
module _ (S L : RattleType) (s : sink.Ghosts S.Denot) (l : ledger.Ghosts L.Denot) where
  pub table_shared : IsSend S → IsSync (Table.the_row RandomState.the_row S L Global.the_row DefaultHasher.the_row states.ghosts hashes.ghosts s l blocks.ghosts)
  table_shared ss = table_sync RandomState.the_row S L Global.the_row DefaultHasher.the_row states.ghosts hashes.ghosts s l blocks.ghosts (search sendable depth 20) (search sendable depth 20) ss heap.send heap.sync heap.frees

pub pass_sent : IsSend (Pass.the_row Global.the_row blocks.ghosts)
pass_sent = pass.the_send Global.the_row blocks.ghosts heap.send heap.frees

pub command_shared : IsSync (Command.the_row Global.the_row blocks.ghosts)
command_shared = command.the_sync Global.the_row blocks.ghosts heap.sync
