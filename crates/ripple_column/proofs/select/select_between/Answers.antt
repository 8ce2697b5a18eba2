use Rattle.std.proofs.Common.{ℕ, ℤ, List, Contains, count_by, ap, arith}
use Rattle.std.proofs.lemmas.Grind.{common_steps}
use Rattle.crack_kernel.specs.RowBag.{Test}
use Rattle.column_rows.specs.RangeCutsAsPivots.{values}
use Rattle.column_rows.proofs.Counts.{count_moved}
use Rattle.column_rows.proofs.InnerPivots.{new_values_less, new_values_one, values_among}
use Rattle.ripple_column.proofs.select.select_between.Goals as goal

pub crack_and_show-requires-clause-few : goal.crack_and_show-requires-clause-few
crack_and_show-requires-clause-few g c =
    let e = c.settle.ensures in
    let ps = c.make_room.new.pieces.cracked.pivots.list in
    let qs = c.settle.new.pieces.cracked.pivots.list in
    let rs = c.approach_cuts.new.pieces.cracked.pivots.list in
    let near = c.approach_cuts.ensures.cracked in
    let kept = λ (v : ℤ) (there : Contains (values ps) v). values_among qs rs near.among v (e.values_kept v there) in
    let a = new_values_less c.args.first.now ps rs kept in
    let b = new_values_less c.args.second.now ps rs kept in
    let a' = new_values_one c.args.first.now (values rs) in
    let b' = new_values_one c.args.second.now (values rs) in
    omega (arith, a, b, a', b', e.few, near.few, c.in_ok-make_room.ensures.few)

pub returns-clause-merges : goal.returns-clause-merges
returns-clause-merges g c =
    let m = c.settle.ensures.merges in
    let merged = c.settle.new.pieces.cracked.rows.items in
    let near = c.approach_cuts.new.pieces.cracked.rows.items in
    let neared = λ (p : Test). count_moved p merged near c.approach_cuts.ensures.cracked.rows in
    let moved = λ (p : Test). count_moved p near c.crack_and_show.new.pieces.cracked.rows.items c.crack_and_show.ensures.rows in
    let old = λ (p : Test). ap (λ (xs : List (ℤ × List ℕ)). count_by p xs) c.make_room.ensures.rows in
    record {
      content = λ p. let a = moved p in let b = neared p in let o = old p in omega (arith, a, b, o, m.content p);
      part = λ p. let a = moved p in let b = neared p in omega (arith, a, b, m.part p);
      less_deletions = m.less_deletions;
      less_insertions = m.less_insertions;
    }

pub crack_and_show-requires-clause-few_shown : goal.crack_and_show-requires-clause-few_shown
crack_and_show-requires-clause-few_shown g c = grind (arith, common_steps)
