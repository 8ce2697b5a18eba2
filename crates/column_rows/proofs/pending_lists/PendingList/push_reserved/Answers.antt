use Rattle.std.proofs.Common.{◌≡◌, true, false, ap, sym, subst, ◌∙◌, ℤ, w64, to_z-of_z}
use Rattle.column_rows.specs.RowHash.{hash_of}
use Rattle.column_rows.specs.PendingBloom.{is_marked}
use Rattle.column_rows.specs.ScoreSpan.{is_outside}
use Rattle.column_rows.proofs.Marking.{covers_more, covers_pushed}
use Rattle.column_rows.proofs.Spans.{spans_pushed}
use Rattle.column_rows.proofs.pending_lists.PendingList.push_reserved.Goals as goal

pub invariant_of-self : goal.invariant_of-self
invariant_of-self g c =
    let old = c.self.inside in
    let marks = c.mark.new.self.words.items in
    let marked : is_marked marks (hash_of c.args.row) ≡ true = ap (is_marked marks) (sym c.requires.hash) ∙ c.mark.ensures.marked in
    let inside : is_outside c.widen.new.self c.args.row.0 ≡ false = subst (λ (s : ℤ). is_outside c.widen.new.self s ≡ false) (to_z-of_z {w = w64} (record { sfits = c.score.type_inv }) ∙ c.score.ensures) c.widen.ensures.inside in
    let spans = spans_pushed old.span c.widen.new.self old.rows.items c.args.row inside c.widen.ensures.kept c.self.invariant.1 in
    rw c.push_reserved.ensures.items (covers_pushed marks old.rows.items c.args.row marked (covers_more old.marks.words.items marks old.rows.items c.mark.ensures.kept c.self.invariant.0), spans)
