use Rattle.std.proofs.Common.{◌≡◌, ◌≤◌}
use Rattle.std.specs.Prelude.{All, vec_len, vec_capacity}
use Rattle.table_worker.specs.WorkerRequests.{new_handlers}
use Rattle.tcp_server.proofs.serve_by_table_workers.handlers_of.Given as goal

abbrev pub invariant-loop-pass : goal.invariant-loop-pass
invariant-loop-pass g l =
    (l.handlers.items ≡ new_handlers l.table l.yielded) × (vec_len l.fn.passes ≤ vec_capacity l.handlers)
    × All (λ h. h.handled ≡ 0) l.handlers.items
