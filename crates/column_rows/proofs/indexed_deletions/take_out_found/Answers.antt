use Rattle.std.proofs.Common.{◌≡◌, ◌-◌, ◌<◌, length, get_or, set, ℕ, ℤ, List, ◌∙◌, sym, ap, refl, arith}
use Rattle.std.proofs.lemmas.List.{get_or_default}
use Rattle.column_rows.specs.MergeGap.{blank}
use Rattle.column_rows.proofs.Counts.{count_moved, count_swapped_out}
use Rattle.column_rows.proofs.Blanks.{count_put, blanks_more}
use Rattle.column_rows.proofs.Taken.{TakenFrom-swapped_out}
use Rattle.column_rows.proofs.indexed_deletions.take_out_found.Goals as goal

pub returns-in-Some-clause-content : goal.returns-in-Some-clause-content
returns-in-Some-clause-content g c p =
    let old = c.args.gapped.now in
    let new = c.blank_out.new.self in
    let xs = old.rows.items in
    let ds = c.args.deletions.now.items in
    let x = c.index-list-at.result in
    let here : x ≡ get_or xs c.args.at x = c.index-list-at.is ∙ ap (λ (z : List (ℤ × List ℕ)). get_or z c.args.at x) c.list-2.ensures in
    let in' : c.in-Some.found < length ds = rw c.list.ensures at c.in-Some.ensures.within in
    let found : get_or ds c.in-Some.found x ≡ x = (rw c.list.ensures at c.in-Some.ensures.here) x in
    let put = count_put p xs (set xs c.args.at blank) c.args.at x blank c.requires.within refl (sym here) in
    let moved = count_moved p (set xs c.args.at blank) new.rows.items c.blank_out.ensures.rows in
    let y = c.swap_remove-gone.result in
    let taken : y ≡ get_or ds c.in-Some.found y = c.swap_remove-gone.ensures.value in
    let same : y ≡ x = taken ∙ get_or_default ds c.in-Some.found y x in' ∙ found in
    let out = count_swapped_out p ds c.swap_remove-gone.new.self.items c.in-Some.found y in' taken c.swap_remove-gone.ensures.items in
    let gone = rw same at out in
    let more = blanks_more p 0 (new.high - old.high) (omega (arith, c.blank_out.ensures.high)) in
    omega (arith, put, moved, gone, more)

pub returns-in-Some-clause-taken : goal.returns-in-Some-clause-taken
returns-in-Some-clause-taken g c =
    let e = c.swap_remove-gone.ensures in
    let old = c.args.deletions.now.items in
    let inside : c.in-Some.found < length old = rw c.list.ensures at c.in-Some.ensures.within in
    TakenFrom-swapped_out c.args.from c.in-Some.found old c.swap_remove-gone.new.self.items c.swap_remove-gone.result c.in-Some.ensures.low inside e.value e.items (omega (arith, e.len)) (λ k d other inside_k. e.others k d other (omega (arith, inside_k)))
