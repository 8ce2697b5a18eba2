use Rattle.std.proofs.Common.{◌≡◌, ℕ, ◌<◌, length, get_or}
use Rattle.set_table.specs.TableAndPassViews.{no_share}
use Rattle.set_table.specs.PassTallies.{empty_tally}
use Rattle.table_lifetime.proofs.opening.passes.new_shares.Given as goal

abbrev pub invariant-loop-place : goal.invariant-loop-place
invariant-loop-place l = record {
  count : length l.shares.items ≡ l.place;
  each : (k : ℕ) → k < l.place → get_or l.shares.items k no_share ≡ record { place = k; pass = l.number; opened = get_or l.opened k 0; tally = empty_tally };
}
