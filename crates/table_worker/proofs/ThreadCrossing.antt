-- A handler may go to its worker's thread, where the records of its table may.
use denote.RattleType.{RattleType}
use denote.Ref.{NamedLft}
use denote.Builtin.{u64}
use denote.Struct.Declared.{shape, fields}
use denote.Param.Send.{IsSend, IsSync, AllSend, sendable, shr_send, view_send, recorded_send, struct_send}
use Rattle.std.proofs.Crossing as heap
use Rattle.std.specs.contracts.alloc.Global as Global
use Rattle.std.specs.contracts.hash.DefaultHasher as DefaultHasher
use Rattle.std.specs.contracts.random_state.RandomState as RandomState
use Rattle.std.specs.contracts.random_state.RandomStateBuildHasher.TheImpl as states
use Rattle.std.specs.contracts.prelude.DefaultHasherHasher.TheImpl as hashes
use Rattle.std.specs.contracts.impls.GlobalAllocator.TheImpl as blocks
use Rattle.std.specs.declared.sync.ledger.Ledger as ledger
use Rattle.byte_devices.specs.declared.device.ByteSource as source
use Rattle.byte_devices.specs.declared.device.ByteDrain as drain
use Rattle.log_records.specs.declared.log_sinks.LogSink as sink
use Rattle.std.specs.contracts.sync.Mutex as Mutex
use Rattle.std.proofs.sync.Mutex.TheSendSync as mutex
use Rattle.append_log.specs.contracts.group_commit.Syncer as Syncer
use Rattle.append_log.proofs.group_commit.Syncer.TheSendSync as syncer
use Rattle.set_table.specs.contracts.test_gate.NoGate as NoGate
use Rattle.set_table.proofs.ThreadCrossing.{table_shared, pass_sent}
use Rattle.connections.proofs.many.Connections.TheSendSync as connections
use Rattle.table_worker.specs.contracts.table_executor.Worker as Worker
use Rattle.table_worker.specs.contracts.table_executor.Worker.TheInside as WorkerFields
use Rattle.table_worker.specs.contracts.connection_handler.ConnectionHandler as ConnectionHandler
use Rattle.table_worker.specs.contracts.connection_handler.ConnectionHandler.TheInside as HandlerFields

gate_sent : IsSend NoGate.the_row
gate_sent = search sendable depth 20

word_sent : IsSend u64
word_sent = search sendable

module _ (t : NamedLft) (K L : RattleType) (k : sink.Ghosts K.Denot) (l : ledger.Ghosts L.Denot) where
  worker_sent : IsSend K → IsSend (Worker.the_row t RandomState.the_row K L Global.the_row NoGate.the_row DefaultHasher.the_row states.ghosts hashes.ghosts k l blocks.ghosts)
  worker_sent ks =
      let O = WorkerFields.the_type t RandomState.the_row K L Global.the_row NoGate.the_row DefaultHasher.the_row states.ghosts hashes.ghosts k l blocks.ghosts in
      let all : AllSend (fields O) = (shr_send _ _ _ (table_shared K L k l ks), (pass_sent, (gate_sent, tt))) in
      view_send _ _ _ _ _ (recorded_send _ O.D O.to O.to_one (struct_send (shape O) all))

  -- where its connections may go there too, and the way by which its log is synced; and the clock may be shared
  pub handler_sent : (Y S D C : RattleType) (s : source.Ghosts S.Denot) (d : drain.Ghosts D.Denot) → IsSend K → IsSend Y → IsSend S → IsSend D → IsSync C → IsSend (ConnectionHandler.the_row t K L Y S D C k l s d)
  handler_sent Y S D C s d ks ys ss ds cs =
      let O = HandlerFields.the_type t K L Y S D C k l s d in
      let table = shr_send _ _ _ (table_shared K L k l ks) in
      let syncer : IsSync (Mutex.the_row (Syncer.the_row Y)) = mutex.the_sync _ (syncer.the_send Y ys) in
      let all : AllSend (fields O) = (shr_send _ _ _ cs, (worker_sent ks, (connections.the_send S D Global.the_row s d blocks.ghosts ss ds heap.send heap.sync heap.frees, (table, (search sendable depth 20, (word_sent, tt)))))) in
      view_send _ _ _ _ _ (recorded_send _ O.D O.to O.to_one (struct_send (shape O) all))
