use Rattle.std.proofs.Common.{◌≡◌, ◌+◌, ◌++◌, ◌∷◌, [], List, ℕ, take, ap, sym, ◌∙◌, subst, arith, rules, ℤ, SFits, w64, to_z, of_z, to_z-of_z}
use Rattle.std.proofs.lemmas.List.{take_more}
use Rattle.std.specs.BinaryHeap.{heap_items}
use Rattle.sorted_sets.specs.BorrowedListingPairs.{Shown, pairs_of}
use Rattle.zset_core.specs.SortedSet.{Pair}
use Rattle.sorted_sets.specs.WindowPieces.{HasLeast}
use Rattle.sorted_sets.proofs.LeastPairs.{no_least}
use Rattle.sorted_sets.proofs.query.least_pairs.least_pairs.Goals as goal

pub loop-row-init : goal.loop-row-init
loop-row-init g c = record {
  heap = c.in_ok-least.ensures.heap_order;
  least = subst (λ (rows : List Shown). HasLeast [] c.args.count (pairs_of rows)) (sym c.in_ok-least.ensures.items) (no_least c.args.count);
}

pub loop-row-preserved : goal.loop-row-preserved
loop-row-preserved g c =
    let rows = c.args.rows.now in
    let place = c.loop-row.row-index in
    let fits : SFits w64 c.score.result = search rules in
    let z : ℤ = to_z w64 (of_z w64 c.score.result) in
    let same : z ≡ c.score.result = to_z-of_z fits in
    let row : Pair = c.row-item.result in
    let seen : row ≡ (z, c.member.result.now) =
    ap (λ (s : ℤ). (s, row.1)) (sym (same ∙ c.score.ensures)) ∙ ap (λ (m : List ℕ). (z, m)) (sym c.member.ensures) in
    let grown : take (place + 1) rows ≡ take place rows ++ (z, c.member.result.now) ∷ [] =
    take_more rows place row (omega (arith, c.loop-row-test.true)) ∙ ap (λ (p : Pair). take place rows ++ p ∷ []) (sym c.row-item.is ∙ seen) in
    record {
      heap = c.in_ok-keep_least.ensures.heap;
      least = subst (λ (ps : List Pair). HasLeast ps c.args.count (pairs_of (heap_items c.keep_least.new.least))) (sym grown) (c.in_ok-keep_least.ensures.least (take place rows) c.loop-row.invariant.least);
    }
