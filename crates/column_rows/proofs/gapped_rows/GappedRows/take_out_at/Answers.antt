use Rattle.std.proofs.Common.{◌≡◌, ◌-◌, ◌<◌, length, get_or, set, ℕ, ℤ, List, ◌∙◌, sym, ap, refl, arith}
use Rattle.column_rows.specs.MergeGap.{blank}
use Rattle.column_rows.proofs.Counts.{count_moved}
use Rattle.column_rows.proofs.Blanks.{count_put, count_removed, blanks_more}
use Rattle.column_rows.proofs.gapped_rows.GappedRows.take_out_at.Goals as goal

pub returns-in-Some-clause-content : goal.returns-in-Some-clause-content
returns-in-Some-clause-content g c p =
    let old = c.args.self.now in
    let new = c.blank_out.new.self in
    let xs = old.rows.items in
    let ds = c.args.deletions.now.items in
    let x = c.index-list-at.result in
    let here : x ≡ get_or xs c.args.at x = c.index-list-at.is ∙ ap (λ (z : List (ℤ × List ℕ)). get_or z c.args.at x) c.list.ensures in
    let in' : c.in-Some.found < length ds = c.in-Some.ensures.within in
    let found : get_or ds c.in-Some.found x ≡ x = c.in-Some.ensures.here x in
    let put = count_put p xs (set xs c.args.at blank) c.args.at x blank c.requires.within refl (sym here) in
    let moved = count_moved p (set xs c.args.at blank) new.rows.items c.blank_out.ensures.rows in
    let gone = count_removed p ds c.remove-gone.new.self.items c.in-Some.found x in' c.remove-gone.ensures.items found in
    let more = blanks_more p 0 (new.high - old.high) (omega (arith, c.blank_out.ensures.high)) in
    omega (arith, put, moved, gone, more)
