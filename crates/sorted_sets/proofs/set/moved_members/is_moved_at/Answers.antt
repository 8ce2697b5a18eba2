use Rattle.std.proofs.Common.{rules, ◌<◌, arith, ◌∙◌, sym, ap, w64, SFits, to_z, of_z, to_z-of_z}
use Rattle.sorted_sets.proofs.Effects.{new_moved, kept_moved, kept_same}
use Rattle.sorted_sets.proofs.set.moved_members.is_moved_at.Goals as goal

pub returns-then-place-kept : goal.returns-then-place-kept
returns-then-place-kept g c = sym (new_moved c.args.members.now.entries c.args.kept c.args.place c.len-count.ensures.unique c.requires c.if-place-kept.true)

pub returns-then-slot : goal.returns-then-slot
returns-then-slot g c =
    sym (kept_moved c.args.members.now.entries c.args.kept c.args.place c.index-slot.result.now c.len-count.ensures.unique c.requires c.index-slot.ensures (λ same. c.if-slot.true (ap (of_z w64) same)))

pub returns : goal.returns
returns g c =
    let n : SFits w64 c.index-slot.result.now.staged = search rules in
    let h : SFits w64 c.index-slot.result.now.current = search rules in
    let early : c.args.place < c.args.kept = omega (arith, c.if-place-kept.false) in
    sym (kept_same c.args.members.now.entries c.args.kept c.args.place c.index-slot.result.now c.len-count.ensures.unique c.requires c.index-slot.ensures early (sym (to_z-of_z n) ∙ ap (to_z w64) c.if-slot.false ∙ to_z-of_z h))
