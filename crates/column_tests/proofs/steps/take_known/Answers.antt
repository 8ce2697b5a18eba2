use Rattle.std.proofs.Common.{◌≡◌, ◌≤◌, ℕ, ℤ, Bool, cond, List, get_or, count_by, ap, ◌∙◌, sym, arith}
use Rattle.std.proofs.lemmas.List.Sums.{get_or-le-sum_by}
use Rattle.column_rows.proofs.Counts.{count_swapped_out}
use Rattle.column_tests.proofs.steps.take_known.Goals as goal

pub delete-requires-clause-there : goal.delete-requires-clause-there
delete-requires-clause-there c p passes =
    let known = c.args.known.now.items in
    let row = c.swap_remove-row.result in
    let one : cond {A = ℕ} (p (get_or known c.args.index row)) 1 0 ≤ count_by p known = get_or-le-sum_by (λ y. cond {A = ℕ} (p y) 1 0) known c.args.index row c.requires.within in
    let here : cond {A = ℕ} (p (get_or known c.args.index row)) 1 0 ≡ 1 = ap (λ (y : ℤ × List ℕ). cond {A = ℕ} (p y) 1 0) (sym c.swap_remove-row.ensures.value) ∙ ap (λ (b : Bool). cond {A = ℕ} b 1 0) passes in
    omega (arith, one, here, c.requires.known p, c.reserve_write.ensures.content p)

pub returns-clause-others : goal.returns-clause-others
returns-clause-others c p =
    let known = c.args.known.now.items in
    let less = count_swapped_out p known c.swap_remove-row.new.self.items c.args.index c.swap_remove-row.result c.requires.within c.swap_remove-row.ensures.value c.swap_remove-row.ensures.items in
    omega (arith, less, c.reserve_write.ensures.content p, c.delete.ensures.content p)

pub returns-clause-known : goal.returns-clause-known
returns-clause-known c p = omega (arith, c.requires.known p, returns-clause-others c p)
