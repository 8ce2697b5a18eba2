use Rattle.std.proofs.Common.{◌++◌, ℤ, ℕ, IsPermutation, length, length-append, ap, arith}
use Rattle.std.proofs.lemmas.List.{length-map}
use Rattle.std.proofs.lemmas.List.Sorted.{IsPermutation-trans, IsPermutation-append_right, length_permutation}
use Rattle.column_rows.specs.RangeCutsAsPivots.{values, new_values}
use Rattle.column_rows.proofs.InnerPivots.{HasCut-kept, StandsAt-own, StandsAt-shown}
use Rattle.column_rows.proofs.Values.{new_values-other}
use Rattle.column_rows.proofs.cracked_with_shown_pivots.shown_pivots.show_cuts.Goals as goal

pub show_cut-requires-2-clause-room : goal.show_cut-requires-2-clause-room
show_cut-requires-2-clause-room g c =
    let e = c.show_cut.ensures in
    let other = ap length (new_values-other c.args.first.now c.args.second.now (values c.args.kept.now.list) (values c.show_cut.new.kept.list) c.requires.order e.values) in
    omega (arith, other, e.spare, c.requires.room)

pub show_cut-requires-2-clause-few : goal.show_cut-requires-2-clause-few
show_cut-requires-2-clause-few g c =
    let e = c.show_cut.ensures in
    let ps = c.args.kept.now.list in
    let qs = c.show_cut.new.kept.list in
    let first = c.args.first.now in
    let other = ap length (new_values-other first c.args.second.now (values ps) (values qs) c.requires.order e.values) in
    let old = length-map ps (λ (p : ℤ × ℕ). p.0) in
    let new = length-map qs (λ (p : ℤ × ℕ). p.0) in
    let all = length_permutation (new_values first (values ps) ++ values ps) (values qs) e.values in
    let sum = length-append (new_values first (values ps)) (values ps) in
    omega (arith, other, old, new, all, sum, c.requires.few)

pub returns-clause-among : goal.returns-clause-among
returns-clause-among g c =
    let qs = c.args.pivots.now.list in
    let first = c.show_cut.ensures.among qs c.requires.among (StandsAt-own c.args.first.now qs c.args.rows_len _ c.requires.first) in
    c.show_cut-2.ensures.among qs first (StandsAt-own c.args.second.now qs c.args.rows_len _ c.requires.second)

pub returns-clause-first : goal.returns-clause-first
returns-clause-first g c =
    let rs = c.show_cut-2.new.kept.list in
    StandsAt-shown c.args.first.now rs c.args.pivots.now.list c.args.rows_len _ (returns-clause-among g c) c.requires.rising
    (HasCut-kept c.args.first.now c.show_cut.new.kept.list rs c.show_cut-2.ensures.kept c.show_cut.ensures.has) c.requires.first

pub returns-clause-second : goal.returns-clause-second
returns-clause-second g c =
    StandsAt-shown c.args.second.now c.show_cut-2.new.kept.list c.args.pivots.now.list c.args.rows_len _ (returns-clause-among g c) c.requires.rising c.show_cut-2.ensures.has c.requires.second

pub returns-clause-values : goal.returns-clause-values
returns-clause-values g c =
    let e = c.show_cut.ensures in
    let ps = c.args.kept.now.list in
    let qs = c.show_cut.new.kept.list in
    let first = c.args.first.now in
    let second = c.args.second.now in
    let last : IsPermutation (new_values second (values ps) ++ values qs) (values c.show_cut-2.new.kept.list) =
    rw (new_values-other first second (values ps) (values qs) c.requires.order e.values) at c.show_cut-2.ensures.values in
    IsPermutation-trans _ _ _ (IsPermutation-append_right (new_values second (values ps)) (new_values first (values ps) ++ values ps) (values qs) e.values) last
