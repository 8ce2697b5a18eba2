use Rattle.std.proofs.Common.{◌≡◌, ◌∙◌, refl, sym, ap, arith, ℕ, pos, length}
use Rattle.std.specs.Prelude.{slice_range}
use Rattle.score_bounds.specs.RangesAndCuts.{is_in}
use Rattle.resp_wire.specs.Response.{Integer}
use Rattle.zset_core.specs.Semantics.{without_range}
use Rattle.sorted_sets.specs.MembersWithStagedScores.{current_score, members_by}
use Rattle.sorted_sets.proofs.Staging.{members_same, Grows-self, IsWaiting-none}
use Rattle.sorted_sets.proofs.Bags.{Turns-settled}
use Rattle.sorted_sets.proofs.RangeRows.{Holds-same, SameBag-range, length_listing}
use Rattle.sorted_sets.proofs.RangeRemoval.{range_outline}
use Rattle.sorted_sets.proofs.set.range_removal.plan_range.Goals as goal

pub returns-clause-ok : goal.returns-clause-ok
returns-clause-ok g c =
    let es = c.args.members.now.entries in
    let m = members_by current_score es in
    let range = c.args.range.now in
    let column = c.select.new.self in
    let selected = c.in_ok-from.ensures in
    let places : ℕ × ℕ = (c.in_ok-from.from, c.in_ok-from.to) in
    let rows = slice_range column.rows c.in_ok-from.from c.in_ok-from.to in
    let bag = SameBag-range column m range places (Holds-same c.args.column.now column m selected.content c.requires.content) selected.rows in
    let counted : length c.rows-count.result.now ≡ length rows = ap length c.rows-count.ensures in
    record {
      kept = refl;
      grows = Grows-self es;
      waiting = IsWaiting-none es c.requires.settled;
      members_are = ap (without_range range) (members_same es c.requires.settled);
      reply_is = c.count_reply.ensures ∙ ap Integer (ap pos (counted ∙ sym (length_listing (is_in range) m rows bag)));
      edits_are = Turns-settled es c.requires.settled;
      removed_are = tt;
      few_rows = record { coming = omega arith; leaving = omega arith };
      outline_is = range_outline range m rows (length c.rows-count.result.now) bag counted;
    }
