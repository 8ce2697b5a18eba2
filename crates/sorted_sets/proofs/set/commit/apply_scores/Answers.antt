use Rattle.std.proofs.Common.{◌∙◌, sym, ap, List, ℕ, ℤ}
use Rattle.std.specs.FinMap as fin
use Rattle.sorted_sets.proofs.Staging.{members_same}
use Rattle.sorted_sets.proofs.set.commit.apply_scores.Goals as goal

-- the members once staged scores were adopted
pub returns-clause-members : goal.returns-clause-members
returns-clause-members g c =
    sym (members_same c.adopt_staged.new.members.entries c.adopt_staged.ensures.settled) ∙ ap (λ (rows : List (List ℕ × ℤ)). fin.from_entries rows) c.adopt_staged.ensures.staged
