use Rattle.std.proofs.Common.{◌≡◌, ◌+◌, ◌-◌, ◌≤◌, ℕ, length, replicate, count_by, sym, ap, ◌∙◌, arith}
use Rattle.std.specs.List.{AllWithin}
use Rattle.column_rows.specs.MergeGap.{blank}
use Rattle.column_rows.proofs.Counts.{count_moved}
use Rattle.column_rows.proofs.Blanks.{count_cut}
use Rattle.column_rows.proofs.Gaps.{HasGap-cut}
use Rattle.column_rows.proofs.gapped_rows.GappedRows.close.Goals as goal

pub returns-clause-parted : goal.returns-clause-parted
returns-clause-parted g c =
    let old = c.args.self in
    let end : c.len-end.result ≡ length old.rows.items = omega arith in
    HasGap-cut old.pivots.list old.rows.items c.change_places.new.rows.items c.truncate.new.self.items old.piece old.low old.high c.len-end.result c.requires.last end
    c.change_places.ensures.len c.change_places.ensures.changed c.truncate.ensures.items old.has_gap

pub returns-clause-content : goal.returns-clause-content
returns-clause-content g c p =
    let old = c.args.self in
    let xs = old.rows.items in
    let ys = c.change_places.new.rows.items in
    let order : old.low ≤ old.high = old.has_gap.order in
    let within : old.high ≤ length xs = old.has_gap.within in
    let place : ℕ = old.low + (c.len-end.result - old.high) in
    let len : length ys ≡ length xs = c.change_places.ensures.len in
    let end : c.len-end.result ≡ length xs = omega arith in
    let moved = count_moved p xs ys c.change_places.ensures.permutation in
    let last : AllWithin (λ r. r ≡ blank) ys place (length ys) = λ k d from lt.
    let s = c.change_places.ensures.changed.back k d from (omega arith) in
    sym s.3 ∙ old.has_gap.blanks s.0 d s.1 s.2 in
    let cut = count_cut p ys c.truncate.new.self.items place (omega arith) last c.truncate.ensures.items in
    let rest = ap (λ (m : ℕ). count_by p (replicate m blank)) (let e : length ys - place ≡ old.high - old.low = omega arith in e) in
    omega (arith, moved, cut, rest)
