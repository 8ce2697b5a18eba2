use Rattle.std.proofs.Common.{◌<◌, ◌-◌, ◌+◌, ◌∙◌, length, sym, subst, arith, ℕ}
use Rattle.std.proofs.lemmas.List.{get_or_read}
use Rattle.sorted_sets.proofs.Gathered.{IsWithin-get, length-moved, moved_leading, moved_noted}
use Rattle.sorted_sets.proofs.set.draft.Draft.moved_place.Goals as goal

pub returns-then-index-self-clause-place : goal.returns-then-index-self-clause-place
returns-then-index-self-clause-place g c = sym (moved_leading c.args.self.now c.args.index c.if-index-self.true)

pub index-requires : goal.index-requires
index-requires g c = omega (arith, c.requires.index, c.if-index-self.false, c.requires.counted.moved, length-moved c.args.self.now c.args.members.now.entries c.requires.counted)

pub returns-clause-place : goal.returns-clause-place
returns-clause-place g c =
    let draft = c.args.self.now in
    let within : c.args.index < draft.leading + draft.moved = omega (arith, c.requires.index, length-moved draft c.args.members.now.entries c.requires.counted) in
    let inside : c.args.index - draft.leading < length draft.touched.items = omega (arith, within, c.if-index-self.false, c.requires.counted.moved) in
    get_or_read draft.touched.items _ _ inside c.index.ensures 0 ∙ sym (moved_noted draft c.args.index c.if-index-self.false within)

pub returns-clause-within : goal.returns-clause-within
returns-clause-within g c =
    let draft = c.args.self.now in
    let within : c.args.index < draft.leading + draft.moved = omega (arith, c.requires.index, length-moved draft c.args.members.now.entries c.requires.counted) in
    let inside : c.args.index - draft.leading < length draft.touched.items = omega (arith, within, c.if-index-self.false, c.requires.counted.moved) in
    subst (λ (p : ℕ). p < length c.args.members.now.entries) (sym (get_or_read draft.touched.items _ _ inside c.index.ensures 0))
    (IsWithin-get (length c.args.members.now.entries) draft.touched.items (c.args.index - draft.leading) c.requires.waiting.within inside)
