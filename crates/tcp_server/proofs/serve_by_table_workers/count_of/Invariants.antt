use Rattle.std.proofs.Common.{◌≡◌, ◌+◌, ◌*◌, ◌^◌, ◌<◌, take}
use Rattle.std.specs.Prelude.{vec_len}
use Rattle.std.specs.List.{sum_by}
use Rattle.tcp_server.proofs.serve_by_table_workers.count_of.Given as goal

abbrev pub invariant-loop-list : goal.invariant-loop-list
invariant-loop-list g l = (l.count ≡ vec_len l.handed.left + sum_by (λ v. vec_len v) (take l.list-index l.handed.taken.items)) × (l.count < (l.list-index + 1) * 2 ^ 64)
