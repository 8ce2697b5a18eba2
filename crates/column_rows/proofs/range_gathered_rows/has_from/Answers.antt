use Rattle.std.proofs.Common.{◌∙◌, ap, ℤ, ℕ, List}
use Rattle.std.proofs.lemmas.List.{take_rest}
use Rattle.std.specs.List.{list_any}
use Rattle.column_rows.specs.Content.{has_score_in}
use Rattle.column_rows.proofs.Tails.{list_any_behind}
use Rattle.column_rows.proofs.range_gathered_rows.has_from.Goals as goal

pub returns : goal.returns
returns g c = c.is_any_within.ensures ∙ ap (λ (xs : List (ℤ × List ℕ)). list_any (has_score_in c.args.range.now) xs) (take_rest c.args.list.now c.args.from) ∙ list_any_behind (has_score_in c.args.range.now) c.args.from c.args.list.now c.requires.outside
