use Rattle.std.proofs.Common.{◌≡◌, ◌+◌, ◌∙◌, ap, arith, rules, length}
use Rattle.set_table.specs.declared.cell.closing_numbers.CellNumbers.{CellNumbers}
use Rattle.table_lifetime.proofs.ClosingLemmas.{sums_at}
use Rattle.table_lifetime.proofs.closing_audit.add_place.Goals as goal

pub all_in_step-requires : goal.all_in_step-requires
all_in_step-requires g c = λ i less. (c.requires.own i c.args.place less (omega arith)).0

pub returns-clause-sums : goal.returns-clause-sums
returns-clause-sums g c =
    let cell = c.args.cell.now in
    let has = c.has_tallies.ensures.0 (search (rules, c.if-not-has_tallies.false)) in
    let all : length cell.tallies ≡ length c.args.passes.now.items = omega (arith, has, c.len.ensures, c.args.passes.now.ok) in
    let steps = c.all_in_step.ensures.0 (search (rules, c.if-not-all_in_step.false)) in
    let s = sums_at cell c.args.passes.now.items (c.args.place + 1) c.args.place c.requires.own (omega arith) all steps in
    let n = c.numbers-numbers.ensures.numbers in
    let whole = c.numbers-numbers.ensures.whole.adds_up in
    let size = ap (λ (r : CellNumbers). r.members) n in
    let before = ap (λ (r : CellNumbers). r.opened) n in
    let added = ap (λ (r : CellNumbers). r.total.added) n in
    let removed = ap (λ (r : CellNumbers). r.total.removed) n in
    record {
      opened_is = ap (λ x. c.args.totals.opened + x) c.from-3.ensures;
      added = ap (λ x. c.args.totals.added + x) (c.from-4.ensures ∙ added ∙ s.added);
      removed = ap (λ x. c.args.totals.removed + x) (c.from-5.ensures ∙ removed ∙ s.removed);
      size = c.numbers-numbers.result.members;
      whole = omega (arith, size, before, s.added, s.removed, whole, c.if-numbers-opened.false);
      members = ap (λ x. c.args.totals.members + x) c.from-2.ensures;
      sets = ap (λ x. c.args.totals.sets + x) (c.from.ensures ∙ c.min.ensures);
    }

pub returns-clause-cell : goal.returns-clause-cell
returns-clause-cell g c =
    let cell = c.args.cell.now in
    let has = c.has_tallies.ensures.0 (search (rules, c.if-not-has_tallies.false)) in
    let n = c.numbers-numbers.ensures.numbers in
    record {
      agrees = record {
        whole = c.numbers-numbers.ensures.whole;
        runs = omega (arith, ap (λ (r : CellNumbers). r.max_runs) n, c.if-numbers-max_runs.false);
        as_many = omega (arith, has, c.len.ensures, c.args.passes.now.ok);
        in_step = c.all_in_step.ensures.0 (search (rules, c.if-not-all_in_step.false));
      };
      members = ap (λ x. c.args.totals.members + x) (c.from-2.ensures ∙ ap (λ (r : CellNumbers). r.members) n);
      records = ap (λ x. c.args.totals.records + x) (c.from-6.ensures ∙ ap (λ (r : CellNumbers). r.records) n);
    }
