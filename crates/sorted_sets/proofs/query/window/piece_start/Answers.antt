use Rattle.std.proofs.Common.{ℕ, ℤ, leb, pos, arith, rules}
use Rattle.std.proofs.lemmas.List.Sorted.{IsPartitionPoint-from_clause, IsPartitionedBy-leb}
use Rattle.sorted_sets.proofs.PieceEnds.{piece_start_at, piece_start_none}
use Rattle.sorted_sets.proofs.query.window.piece_start.Goals as goal

pub returns-then-count-eq0 : goal.returns-then-count-eq0
returns-then-count-eq0 c =
    let ps = c.args.pivots.now in
    let first : ℕ = c.args.first in
    let count = c.partition_point-count.result in
    let point = IsPartitionPoint-from_clause (λ (p : ℤ × ℕ). leb p.1 first) ps count c.partition_point-count.ensures.partitioned
    (IsPartitionedBy-leb (λ (p : ℤ × ℕ). p.1) ps first c.requires.rising) (λ a r q k. search rules) in
    piece_start_none ps count c.args.from first c.requires.order point c.if-count-eq0.true

pub returns : goal.returns
returns c =
    let ps = c.args.pivots.now in
    let first : ℕ = c.args.first in
    let count = c.partition_point-count.result in
    let found = c.partition_point-count.ensures in
    let point = IsPartitionPoint-from_clause (λ (p : ℤ × ℕ). leb p.1 first) ps count found.partitioned
    (IsPartitionedBy-leb (λ (p : ℤ × ℕ). p.1) ps first c.requires.rising) (λ a r q k. search rules) in
    piece_start_at ps count c.args.from first c.max.result (pos 0, 0) c.requires.order point (omega arith) found.bound c.max.ensures c.requires.rising
