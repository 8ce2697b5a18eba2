use Rattle.std.proofs.Common.{sym, ◌∙◌}
use Rattle.std.proofs.lemmas.Bool.{false≢true}
use Rattle.std.proofs.lemmas.List.Folds.{list_any_none}
use Rattle.column_rows.specs.Content.{has_score_in}
use Rattle.column_rows.proofs.Counts.{none-list_any}
use Rattle.column_rows.proofs.pending_lists.Pending.has_within.Goals as goal

pub returns-then-has_within : goal.returns-then-has_within
returns-then-has_within g c = (
  (λ f. absurd (false≢true (sym f ∙ c.if-has_within.true))),
  (λ none. c.has_within.ensures ∙ list_any_none (has_score_in c.args.range.now) c.args.self.now.deletions.items none.0),
)

pub returns-else-has_within : goal.returns-else-has_within
returns-else-has_within g c =
    let test = has_score_in c.args.range.now in (
      (λ f. (none-list_any test c.args.self.now.deletions.items (sym c.has_within.ensures ∙ c.if-has_within.false), none-list_any test c.args.self.now.insertions.items (sym c.has_within-else-has_within.ensures ∙ f))),
      (λ none. c.has_within-else-has_within.ensures ∙ list_any_none test c.args.self.now.insertions.items none.1),
    )
