-- What passes were answered at a place, in numbers.
use Rattle.std.specs.Prelude.{ℕ, ◌+◌, ◌<◌, ◌^◌, List}
use Rattle.std.specs.List.{sum_by}
use Rattle.set_table.specs.declared.member_change_counts.Tally.{Tally}
use Rattle.set_table.specs.declared.member_change_counts.OwnCounts.{OwnCounts}

-- one pass's shares of one place: the place, the pass's number, the members that the place had at opening, and what the
-- pass was answered there
pub record ShareView : Type 0 where
  pub place : ℕ
  pub pass : ℕ
  pub opened : ℕ
  pub tally : Tally

abbrev pub empty_tally : Tally
empty_tally = record { runs = 0; added = 0; removed = 0 }

-- the sums of the tallies of all passes
abbrev pub runs_of : List Tally → ℕ
runs_of tallies = sum_by (λ t. t.runs) tallies

abbrev pub added_of : List Tally → ℕ
added_of tallies = sum_by (λ t. t.added) tallies

abbrev pub removed_of : List Tally → ℕ
removed_of tallies = sum_by (λ t. t.removed) tallies

abbrev pub total_of : List Tally → Tally
total_of tallies = record { runs = runs_of tallies; added = added_of tallies; removed = removed_of tallies }

abbrev pub no_counts : OwnCounts
no_counts = record { added = 0; removed = 0 }

-- a tally, and a pass's shares, after one run more
abbrev pub tally_after : Tally → OwnCounts → Tally
tally_after t own = record { runs = t.runs + 1; added = t.added + own.added; removed = t.removed + own.removed }

abbrev pub share_after_run : ShareView → OwnCounts → ShareView
share_after_run s own = record { place = s.place; pass = s.pass; opened = s.opened; tally = tally_after s.tally own }

-- one run more fits into numbers of 64 bits
pub record TallyHasRoom (t : Tally) (own : OwnCounts) : Type 0 where
  pub runs : t.runs + 1 < 2 ^ 64
  pub added : t.added + own.added < 2 ^ 64
  pub removed : t.removed + own.removed < 2 ^ 64
