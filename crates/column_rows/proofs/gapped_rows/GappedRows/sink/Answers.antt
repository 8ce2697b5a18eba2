use Rattle.std.proofs.Common.{◌≡◌, ◌+◌, ◌-◌, ◌≤◌, ℕ, subst, ◌∙◌, arith}
use Rattle.column_rows.specs.MergeGap.{ChangedPlaces, HasGap}
use Rattle.column_rows.proofs.Carried.{start_is}
use Rattle.column_rows.proofs.Gaps.{HasGap-bottom}
use Rattle.column_rows.proofs.gapped_rows.GappedRows.sink.Goals as goal

pub invariant_of-self : goal.invariant_of-self
invariant_of-self g c =
    let old = c.args.self.now in
    let ps = old.pivots.list in
    let xs = old.rows.items in
    let ys = c.change_places.new.rows.items in
    let low : ℕ = old.low in
    let width : ℕ = old.high - old.low in
    let start : ℕ = c.piece_at-start.result.0 in
    let order : old.low ≤ old.high = old.has_gap.order in
    let high : old.high ≡ low + width = omega arith in
    let changed : ChangedPlaces xs ys start low (low + width) = subst (λ (m : ℕ). ChangedPlaces xs ys start low m) high c.change_places.ensures.changed in
    let gap : HasGap ps xs old.piece low (low + width) = subst (λ (m : ℕ). HasGap ps xs old.piece low m) high old.has_gap in
    record { has_gap = HasGap-bottom ps xs ys old.piece low width start c.change_places.ensures.len (c.piece_at-start.ensures.start ∙ start_is ps old.piece) changed gap }
