use Rattle.std.proofs.Common.{◌≡◌, ℕ, ◌<◌, List, get_or}
use Rattle.std.specs.declared.option.Option.TheVariants.{Some}
use Rattle.place_names.specs.Naming.{name_at_place}
use Rattle.table_lifetime.specs.ClosingAudit.{pass_at}
use Rattle.table_lifetime.proofs.closing_audit.passes_agree_on_names.compare_at.Given as goal

abbrev pub invariant-loop-i : goal.invariant-loop-i
invariant-loop-i g l = record {
  same : l.passes.items ≡ l.fn.passes.items;
  cell : l.all.cell ≡ get_or l.names l.place 0;
  knows : (j : ℕ) (name : List ℕ) → j < l.i → name_at_place (pass_at l.fn.passes.items j).notes.known l.place ≡ Some name → l.all.known ≡ Some name;
}
