use Rattle.std.proofs.Common.{◌++◌, ℕ, ℤ, IsPermutation, length, length-append, ap, ◌∙◌, arith}
use Rattle.std.proofs.lemmas.List.{length-map}
use Rattle.std.proofs.lemmas.List.Sorted.{IsPermutation-trans, IsPermutation-append_right, length_permutation}
use Rattle.column_rows.specs.RangeCutsAsPivots.{values, new_values}
use Rattle.column_rows.proofs.Values.{new_values-other, IsUncracked-kept}
use Rattle.column_rows.proofs.cut_cracks.crack_between.Goals as goal

pub crack_at_cut-to-requires-clause-room : goal.crack_at_cut-to-requires-clause-room
crack_at_cut-to-requires-clause-room g c =
    let e = c.crack_at_cut-from.ensures in
    let other = ap length (new_values-other c.args.first.now c.args.second.now (values c.args.cracked.now.pivots.list) (values c.crack_at_cut-from.new.cracked.pivots.list) c.requires.order e.values) in
    omega (arith, other, e.spare, c.requires.room)

pub crack_at_cut-to-requires-clause-few : goal.crack_at_cut-to-requires-clause-few
crack_at_cut-to-requires-clause-few g c =
    let e = c.crack_at_cut-from.ensures in
    let ps = c.args.cracked.now.pivots.list in
    let qs = c.crack_at_cut-from.new.cracked.pivots.list in
    let first = c.args.first.now in
    let other = ap length (new_values-other first c.args.second.now (values ps) (values qs) c.requires.order e.values) in
    let old = length-map ps (λ (p : ℤ × ℕ). p.0) in
    let new = length-map qs (λ (p : ℤ × ℕ). p.0) in
    let all = length_permutation (new_values first (values ps) ++ values ps) (values qs) e.values in
    let sum = length-append (new_values first (values ps)) (values ps) in
    omega (arith, other, old, new, all, sum, c.requires.few)

pub returns-clause-rows : goal.returns-clause-rows
returns-clause-rows g c = IsPermutation-trans _ _ _ c.crack_at_cut-from.ensures.rows c.crack_at_cut-to.ensures.rows

pub returns-clause-values : goal.returns-clause-values
returns-clause-values g c =
    let e = c.crack_at_cut-from.ensures in
    let ps = c.args.cracked.now.pivots.list in
    let qs = c.crack_at_cut-from.new.cracked.pivots.list in
    let first = c.args.first.now in
    let second = c.args.second.now in
    let last : IsPermutation (new_values second (values ps) ++ values qs) (values c.crack_at_cut-to.new.cracked.pivots.list) =
    rw (new_values-other first second (values ps) (values qs) c.requires.order e.values) at c.crack_at_cut-to.ensures.values in
    IsPermutation-trans _ _ _ (IsPermutation-append_right (new_values second (values ps)) (new_values first (values ps) ++ values ps) (values qs) e.values) last

pub returns-clause-still : goal.returns-clause-still
returns-clause-still g c k d outside_first outside_second =
    let e = c.crack_at_cut-from.ensures in
    c.crack_at_cut-to.ensures.still k d (IsUncracked-kept c.args.second.now c.args.cracked.now.pivots.list c.crack_at_cut-from.new.cracked.pivots.list k e.kept outside_second) ∙ e.still k d outside_first

pub returns-clause-kept : goal.returns-clause-kept
returns-clause-kept g c p there = c.crack_at_cut-to.ensures.kept p (c.crack_at_cut-from.ensures.kept p there)
