use Rattle.std.proofs.Common.{◌≡◌, ◌++◌, ◌∷◌, [], arith}
use Rattle.std.proofs.lemmas.Int.{ints}
use Rattle.ripple_column.specs.Content.{Holds}
use Rattle.ripple_column.proofs.CallerLemmas.{Holds-added, Holds-same, OnOk-always, row-same}
use Rattle.bench.proofs.columns.fill.Goals as goal

pub loop-i-preserved : goal.loop-i-preserved
loop-i-preserved g c =
    let held = c.loop-i.held.items in
    let row = c.in_ok-row.row in
    let copy = row-same c.in_ok-copy.copy row _ c.in_ok-copy.ensures (omega (arith, ints)) in
    let holds = Holds-same c.loop-i.column c.reserve_write.new.self held c.reserve_write.ensures.content c.loop-i.invariant in
    let added : Holds c.insert.new.self (held ++ row ∷ []) = Holds-added c.reserve_write.new.self c.insert.new.self held row holds c.insert.ensures.content in
    let items : c.push.new.self.items ≡ held ++ c.in_ok-copy.copy ∷ [] = c.in_ok-push.ensures.items in
    rw (items, copy) added

pub returns : goal.returns
returns g c = OnOk-always c.merge_all.result (Holds-same c.loop-i.column c.merge_all.new.self c.loop-i.held.items c.merge_all.ensures.content c.loop-i.invariant)
