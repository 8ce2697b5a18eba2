use Rattle.std.proofs.Common.{ℕ, ℤ, ltb, pos, arith, rules}
use Rattle.std.proofs.lemmas.List.Sorted.{IsPartitionPoint-from_clause, IsPartitionedBy-ltb}
use Rattle.sorted_sets.proofs.PieceEnds.{piece_end_at, piece_end_none}
use Rattle.sorted_sets.proofs.query.window.piece_end.Goals as goal

pub returns-then-count-pivots : goal.returns-then-count-pivots
returns-then-count-pivots c =
    let ps = c.args.pivots.now in
    let last : ℕ = c.args.last in
    let count = c.partition_point-count.result in
    let point = IsPartitionPoint-from_clause (λ (p : ℤ × ℕ). ltb p.1 last) ps count c.partition_point-count.ensures.partitioned
    (IsPartitionedBy-ltb (λ (p : ℤ × ℕ). p.1) ps last c.requires.rising) (λ a r q k. search rules) in
    piece_end_none ps count c.args.to last c.requires.order point c.if-count-pivots.true

pub returns : goal.returns
returns c =
    let ps = c.args.pivots.now in
    let last : ℕ = c.args.last in
    let count = c.partition_point-count.result in
    let found = c.partition_point-count.ensures in
    let point = IsPartitionPoint-from_clause (λ (p : ℤ × ℕ). ltb p.1 last) ps count found.partitioned
    (IsPartitionedBy-ltb (λ (p : ℤ × ℕ). p.1) ps last c.requires.rising) (λ a r q k. search rules) in
    piece_end_at ps count c.args.to last c.min.result (pos 0, 0) c.requires.order point (omega (arith, found.bound)) c.min.ensures c.requires.rising
