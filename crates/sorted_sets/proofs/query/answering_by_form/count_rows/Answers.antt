use Rattle.std.proofs.Common.{◌≡◌, ◌∙◌, ap, sym, ℕ, pos, length}
use Rattle.std.specs.Prelude.{slice_range}
use Rattle.resp_wire.specs.Response.{Integer}
use Rattle.zset_core.specs.SortedSet.{listing}
use Rattle.sorted_sets.proofs.RangeRows.{length_listing}
use Rattle.sorted_sets.proofs.query.answering_by_form.count_rows.Goals as goal

pub returns : goal.returns
returns g c test members bag =
    let same : length (listing test members) ≡ length c.rows.result.now =
    length_listing test members (slice_range c.args.column.now.rows c.args.rows.0 c.args.rows.1) bag ∙ ap length (sym c.rows.ensures) in
    c.count_reply.ensures ∙ ap (λ (n : ℕ). Integer (pos n)) (sym same)
