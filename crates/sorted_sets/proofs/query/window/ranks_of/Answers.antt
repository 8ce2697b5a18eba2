use Rattle.std.proofs.Common.{◌-◌, ◌+◌, ◌≡◌, ℕ, ℤ, SFits, w64, to_z-of_z, take, drop, length, length-drop, ap, sym, ◌∙◌, arith, rules}
use Rattle.zset_core.specs.Semantics.{apply_limit, at_most, from_offset}
use Rattle.sorted_sets.proofs.query.window.ranks_of.Goals as goal

pub returns-in-Some-clause-ranks : goal.returns-in-Some-clause-ranks
returns-in-Some-clause-ranks c ps long =
    let start : ℕ = c.limit_number-start.result in
    let taken : ℕ = c.limit_number.result in
    let offset : ℤ = c.in-Some.limit.offset in
    let count : ℤ = c.in-Some.limit.count in
    let offset_fits : SFits w64 offset = search rules in
    let count_fits : SFits w64 count = search rules in
    let rest : length (drop start ps) ≡ c.args.len - start = length-drop start ps ∙ ap (λ n. n - start) long in
    let same : taken ≡ start + taken - start = omega arith in
    ap (λ limit. apply_limit limit ps) c.in-Some.is ∙ ap (λ (z : ℤ). at_most count (from_offset z ps)) (sym (to_z-of_z offset_fits)) ∙ ap (at_most count) (c.limit_number-start.ensures.offset ps long)
    ∙ ap (λ (z : ℤ). at_most z (drop start ps)) (sym (to_z-of_z count_fits)) ∙ c.limit_number.ensures.count (drop start ps) rest ∙ ap (λ n. take n (drop start ps)) same
