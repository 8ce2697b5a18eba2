use Rattle.std.proofs.Common.{◌≡◌, ◌+◌, ◌<◌, ◌≤◌, length, ap, sym, ◌∙◌, arith}
use Rattle.std.proofs.lemmas.Bool.Decides.{nat_tests}
use Rattle.column_rows.proofs.InnerPivots.{among_own, new_values_less, shown_is_all, shown_is_own, values_among}
use Rattle.ripple_column.proofs.select.fit_cuts.Goals as goal

pub returns-then-needed_all-gt-MAX_PIVOTS-clause-spare : goal.returns-then-needed_all-gt-MAX_PIVOTS-clause-spare
returns-then-needed_all-gt-MAX_PIVOTS-clause-spare g c =
    let old = c.args.pieces.now in
    let new = c.drop_inner.new.self in
    let kept = old.kept.list in
    let all = old.cracked.pivots.list in
    let among = values_among kept all (among_own old.apart kept all c.if-pieces.true old.among) in
    let a = new_values_less c.args.first.now kept all among in
    let b = new_values_less c.args.second.now kept all among in
    let own = shown_is_own old.apart kept all c.if-pieces.true in
    let is : c.shown-shown.result.now.list ≡ kept = c.shown-shown.ensures.list ∙ own in
    let left : new.cracked.pivots.list ≡ kept = sym (shown_is_all new.apart new.kept.list new.cracked.pivots.list c.drop_inner.ensures.apart) ∙ c.drop_inner.ensures.shown ∙ own in
    let long = ap length left in
    let len = rw is at c.len.ensures.len in
    let first = rw is at c.count_missing.ensures in
    let second = rw is at c.count_missing-2.ensures in
    let up : c.len.result + c.count_missing.result + c.count_missing-2.result ≤ 4096 = grind (arith, nat_tests, c.if-needed-gt-MAX_PIVOTS.false) in
    let over : 4096 < c.len-2.result + c.count_missing-3.result + c.count_missing-4.result = grind (arith, nat_tests, c.if-needed_all-gt-MAX_PIVOTS.true) in
    omega (arith, up, over, len, first, second, a, b, long, c.len-2.ensures.len, c.count_missing-3.ensures, c.count_missing-4.ensures, c.drop_inner.ensures.spare, c.requires.spare)
