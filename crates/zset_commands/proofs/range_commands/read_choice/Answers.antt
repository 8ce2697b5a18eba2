use Rattle.std.proofs.Common.{◌≡◌, ◌<◌, ◌≤◌, true, false, length, None, sym, ap, ◌∙◌, arith}
use Rattle.std.specs.Prelude.{codes}
use Rattle.std.proofs.lemmas.Grind.{common_steps}
use Rattle.zset_commands.specs.CommandGrammar.{is_named, limit_value, range_options}
use Rattle.zset_commands.specs.MeaningOfForm.{word_at}
use Rattle.zset_commands.proofs.Options.{with_scores_step, limit_step, no_options, options_end, range_options-short, range_options-other}
use Rattle.zset_commands.proofs.range_commands.read_choice.Goals as goal
use Rattle.zset_commands.proofs.range_commands.read_choice.Goals.{else-rest-ge3-via-then-rest-ge3+else-is_named-2, else-rest-ge3-via-else-rest-ge3}

pub loop-rest-preserved-then-is_named : goal.loop-rest-preserved-then-is_named
loop-rest-preserved-then-is_named g c =
    let some : 0 < length c.loop-rest.rest.now = grind (arith, common_steps) in
    let named : is_named (codes "WITHSCORES") (word_at c.loop-rest.rest.now 0) ≡ true =
    sym (c.is_named.ensures ∙ ap (is_named (codes "WITHSCORES")) c.argument.ensures) ∙ c.if-is_named.true in
    with_scores_step c.loop-rest.choice c.loop-rest.rest.now c.behind-rest.result.now _ c.loop-rest.invariant some named c.behind-rest.ensures

pub loop-rest-preserved : goal.loop-rest-preserved
loop-rest-preserved g c =
    let some : 3 ≤ length c.loop-rest.rest.now = omega (arith, c.if-rest-ge3.true) in
    let other : is_named (codes "WITHSCORES") (word_at c.loop-rest.rest.now 0) ≡ false =
    sym (c.is_named.ensures ∙ ap (is_named (codes "WITHSCORES")) c.argument.ensures) ∙ c.if-is_named.false in
    let named : is_named (codes "LIMIT") (word_at c.loop-rest.rest.now 0) ≡ true =
    sym (c.is_named-then-rest-ge3.ensures ∙ ap (is_named (codes "LIMIT")) c.argument-then-rest-ge3.ensures) ∙ c.if-is_named-2.true in
    let limit : c.read.result ≡ limit_value (word_at c.loop-rest.rest.now 1) (word_at c.loop-rest.rest.now 2) =
    c.read.ensures
    ∙ ap (λ first. limit_value first c.argument-then-is_named-2-2.result.now) c.argument-then-is_named-2.ensures
    ∙ ap (limit_value (word_at c.loop-rest.rest.now 1)) c.argument-then-is_named-2-2.ensures in
    limit_step c.loop-rest.choice c.with_limit-choice.result c.read.result c.loop-rest.rest.now c.behind-rest-then-is_named-2.result.now _
    c.loop-rest.invariant some other named c.behind-rest-then-is_named-2.ensures limit c.with_limit-choice.ensures

pub returns-else-rest-ge3 : goal.returns-else-rest-ge3
returns-else-rest-ge3 g c =
    let some : 0 < length c.loop-rest.rest.now = grind (arith, common_steps) in
    let other : is_named (codes "WITHSCORES") (word_at c.loop-rest.rest.now 0) ≡ false =
    sym (c.is_named.ensures ∙ ap (is_named (codes "WITHSCORES")) c.argument.ensures) ∙ c.if-is_named.false in
    let none : range_options c.loop-rest.rest.now ≡ None = elim c.else-rest-ge3.branch [
      | else-rest-ge3-via-then-rest-ge3+else-is_named-2 w ↦
          let another : is_named (codes "LIMIT") (word_at c.loop-rest.rest.now 0) ≡ false =
          sym (w.is_named-then-rest-ge3.ensures ∙ ap (is_named (codes "LIMIT")) w.argument-then-rest-ge3.ensures) ∙ w.if-is_named-2.false in
          range_options-other c.loop-rest.rest.now some other another
      | else-rest-ge3-via-else-rest-ge3 w ↦ range_options-short c.loop-rest.rest.now some (omega (arith, w.if-rest-ge3.false)) other
    ] in
    no_options c.loop-rest.choice c.loop-rest.rest.now _ c.loop-rest.invariant none

pub returns : goal.returns
returns g c =
    let empty : length c.loop-rest.rest.now ≡ 0 = grind (arith, common_steps) in
    options_end c.loop-rest.choice c.loop-rest.rest.now _ c.loop-rest.invariant empty
