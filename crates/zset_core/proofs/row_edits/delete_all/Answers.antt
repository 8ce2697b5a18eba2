use Rattle.std.proofs.Common.{◌≡◌, ◌+◌, ◌∷◌, [], ap, ◌∙◌, arith, cond, count_by, ℕ, length, length-append}
use Rattle.crack_kernel.specs.RowBag.{Test}
use Rattle.ripple_column.proofs.CallerLemmas.{count_push}
use Rattle.zset_core.proofs.row_edits.delete_all.Goals as goal

pub loop-row-preserved : goal.loop-row-preserved
loop-row-preserved g c =
    let v = c.loop-row.invariant in
    let row = c.in-Some.row in
    let rest = c.pop.new.self.items in
    let out : (p : Test) → count_by p c.loop-row.rows.items ≡ count_by p rest + cond {A = ℕ} (p row) 1 0 =
    λ p. ap (count_by p) c.in-Some.ensures.items ∙ count_push p rest row in
    record {
      content = λ p. omega (arith, v.content p, out p, c.delete.ensures.content p);
      rows = c.delete.ensures.rows ∙ v.rows;
      pivots = c.delete.ensures.pivots ∙ v.pivots;
      there = λ p. omega (arith, v.there p, out p, c.delete.ensures.content p);
      room = omega (arith, ap length c.in-Some.ensures.items, length-append rest (row ∷ []));
      spare = omega (arith, v.spare, ap length c.in-Some.ensures.items, length-append rest (row ∷ []), c.delete.ensures.spare);
    }
