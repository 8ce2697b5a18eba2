use Rattle.std.proofs.Common.{◌≡◌}
use Rattle.std.specs.Prelude.{All, vec_capacity}
use Rattle.set_table.specs.TableAndPassViews.{IsPassOf}
use Rattle.table_worker.specs.WorkerRequests.{passes_of}
use Rattle.tcp_server.proofs.serve_by_table_workers.take_passes.Given as goal

abbrev pub invariant-loop-handler : goal.invariant-loop-handler
invariant-loop-handler g l =
    (l.passes.items ≡ passes_of l.yielded) × (vec_capacity l.passes ≡ vec_capacity l.fn.passes)
    × All (λ h. IsPassOf h.worker.table h.worker.pass) l.yielded
