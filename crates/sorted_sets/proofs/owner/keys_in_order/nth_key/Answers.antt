use Rattle.std.proofs.Common.{◌≡◌, ◌∙◌, sym, ap, Some, option_map, arith}
use Rattle.std.specs.Option.{option_copied}
use Rattle.std.specs.Map.{keys_of}
use Rattle.std.specs.List.{slice_get}
use Rattle.sorted_sets.proofs.OwnerViews.{past_end, first_left, left_after}
use Rattle.sorted_sets.proofs.owner.keys_in_order.nth_key.Goals as goal

pub returns-in_err-next-clause-key : goal.returns-in_err-next-clause-key
returns-in_err-next-clause-key g c =
    ap option_copied c.from_residual.ensures
    ∙ ap (option_map (λ key. key.items)) (sym (past_end (keys_of c.args.sets.now.entries) c.loop-place._place c.args.index (sym c.loop-place.invariant ∙ c.in_err-next.ensures.steps.0) (omega arith)))

pub returns-in-None-clause-key : goal.returns-in-None-clause-key
returns-in-None-clause-key g c =
    ap (option_map (λ key. key.items)) (sym (past_end (keys_of c.args.sets.now.entries) c.loop-place._place c.args.index (sym c.loop-place.invariant ∙ c.in-None.ensures.steps.0) (omega arith)))

pub returns-in-Some-clause-key : goal.returns-in-Some-clause-key
returns-in-Some-clause-key g c =
    let ks = keys_of c.args.sets.now.entries in
    let at : c.loop-place._place ≡ c.args.index = omega arith in
    ap Some c.as_slice.ensures.value
    ∙ ap (option_map (λ key. key.items)) (sym (ap (slice_get ks) (sym at) ∙ first_left ks c.loop-place._place c.in-Some.key.now c.next-2.new.self (sym c.loop-place.invariant ∙ c.in-Some.ensures.steps)))

pub loop-place-preserved : goal.loop-place-preserved
loop-place-preserved g c =
    left_after (keys_of c.args.sets.now.entries) c.loop-place._place c.in_ok-next.field-0.now c.next.new.self (sym c.loop-place.invariant ∙ c.in_ok-next.ensures.steps)
