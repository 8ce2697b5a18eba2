use Rattle.std.proofs.Common.{◌≡◌, get_or, set, sym, ◌∙◌, arith}
use Rattle.std.proofs.lemmas.Int.{ints}
use Rattle.std.proofs.lemmas.List.{get_or_default}
use Rattle.ripple_column.specs.Content.{Holds}
use Rattle.ripple_column.proofs.CallerLemmas.{HasRow-held, Holds-changed, Holds-same, row-same}
use Rattle.bench.proofs.columns.change.Goals as goal

pub delete-requires-clause-there : goal.delete-requires-clause-there
delete-requires-clause-there g c =
    let held = c.args.held.now.items in
    let row = c.index-row.result.now in
    let old = c.in_ok-old.old in
    let i = c.args.index in
    let same = row-same old row _ c.in_ok-old.ensures (omega (arith, ints)) in
    let is : get_or held i old ≡ old = get_or_default held i old row c.requires.within ∙ sym c.index-row.ensures ∙ sym same in
    HasRow-held c.reserve_write.new.self held i old (Holds-same c.args.column.now c.reserve_write.new.self held c.reserve_write.ensures.content c.requires.holds) c.requires.within is

pub returns-clause-holds : goal.returns-clause-holds
returns-clause-holds g c =
    let held = c.args.held.now.items in
    let row = c.index-row.result.now in
    let old = c.in_ok-old.old in
    let i = c.args.index in
    let same = row-same old row _ c.in_ok-old.ensures (omega (arith, ints)) in
    let is : get_or held i old ≡ old = get_or_default held i old row c.requires.within ∙ sym c.index-row.ensures ∙ sym same in
    let copy : c.in_ok-copy.copy ≡ c.in_ok-new.new = c.in_ok-copy.ensures ∙ sym c.in_ok-new.ensures in
    let holds = Holds-same c.args.column.now c.reserve_write.new.self held c.reserve_write.ensures.content c.requires.holds in
    let changed : Holds c.insert.new.self (set held i c.in_ok-new.new) =
    Holds-changed c.reserve_write.new.self c.delete.new.self c.insert.new.self held i old c.in_ok-new.new holds c.requires.within is c.delete.ensures.content c.insert.ensures.content in
    rw copy changed
