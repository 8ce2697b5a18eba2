use Rattle.std.proofs.Common.{◌∙◌, ◌≡◌, ◌<◌, ◌/◌, ◌^◌, ◌-◌, length, get_or, arith}
use Rattle.std.proofs.lemmas.List.{get_or_default}
use Rattle.column_rows.proofs.MarkBits.{set_now, set_before, set_past}
use Rattle.column_rows.proofs.pending_bloom.PendingBloom.set.Goals as goal

pub returns-then-at-len-clause-set : goal.returns-then-at-len-clause-set
returns-then-at-len-clause-set g c = set_now c.args.self.now.words.items c.args.mark c.index_mut.result.now (omega arith)

pub returns-then-at-len-clause-kept : goal.returns-then-at-len-clause-kept
returns-then-at-len-clause-kept g c m was =
    let words = c.args.self.now.words.items in
    let within : c.args.mark / 64 < length words = omega arith in
    let is : c.index_mut.result.now ≡ get_or words (c.args.mark / 64) (2 ^ 64 - 1) = c.index_mut.ensures.value ∙ get_or_default words (c.args.mark / 64) c.index_mut.result.now (2 ^ 64 - 1) within in
    set_before words c.args.mark c.index_mut.result.now m within is was

pub returns-else-at-len-clause-set : goal.returns-else-at-len-clause-set
returns-else-at-len-clause-set g c = set_past c.args.self.now.words.items c.args.mark (omega arith)
