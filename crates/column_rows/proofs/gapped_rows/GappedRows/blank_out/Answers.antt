use Rattle.std.proofs.Common.{◌≡◌, ◌+◌, ◌≤◌, ℕ, ℤ, List, length, get_or, set, ap, ◌∙◌, arith}
use Rattle.std.proofs.lemmas.List.{length-set, get_or-set_other}
use Rattle.std.proofs.lemmas.List.Edits.{length-swap}
use Rattle.std.proofs.lemmas.List.Sorted.{IsPermutation-swap}
use Rattle.column_rows.specs.MergeGap.{blank}
use Rattle.column_rows.proofs.Gaps.{HasGap-taken_out}
use Rattle.column_rows.proofs.gapped_rows.GappedRows.blank_out.Goals as goal

pub invariant_of-self : goal.invariant_of-self
invariant_of-self g c =
    let old = c.args.self.now in
    let xs = old.rows.items in
    let ys = c.set.new.self.items in
    let is : ys ≡ set xs c.args.at blank = rw c.blank_row.ensures at c.set.ensures.items in
    let put : length ys ≡ length xs = ap length is ∙ length-set xs c.args.at blank in
    let moved : length c.swap.new.self.items ≡ length ys = ap length c.swap.ensures.items ∙ length-swap ys old.high c.args.at in
    let len : length c.swap.new.self.items ≡ length xs = omega (arith, put, moved) in
    record {
      has_gap = HasGap-taken_out old.pivots.list xs ys c.swap.new.self.items old.piece old.low old.high c.args.at c.requires.above c.requires.within
          (λ k e f l. let h : c.args.at + 1 ≤ (get_or old.pivots.list k e).1 = c.requires.ends k e f l in omega arith) is c.swap.ensures.by_index len old.has_gap;
    }

pub returns-clause-rows : goal.returns-clause-rows
returns-clause-rows g c =
    let old = c.args.self.now in
    let xs = old.rows.items in
    let ys = c.set.new.self.items in
    let is : ys ≡ set xs c.args.at blank = rw c.blank_row.ensures at c.set.ensures.items in
    let len : length ys ≡ length xs = ap length is ∙ length-set xs c.args.at blank in
    rw is at (IsPermutation-swap ys c.swap.new.self.items old.high c.args.at (omega (arith, len)) (omega (arith, len)) c.swap.ensures.items)

pub returns-clause-others : goal.returns-clause-others
returns-clause-others g c k d off apart =
    let xs = c.args.self.now.rows.items in
    let is : c.set.new.self.items ≡ set xs c.args.at blank = rw c.blank_row.ensures at c.set.ensures.items in
    c.swap.ensures.by_index.2 k d off apart ∙ ap (λ (z : List (ℤ × List ℕ)). get_or z k d) is ∙ get_or-set_other xs c.args.at k blank d apart
