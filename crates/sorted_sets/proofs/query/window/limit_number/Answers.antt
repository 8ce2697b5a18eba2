use Rattle.std.proofs.Common.{◌≡◌, ap, ◌∙◌, sym, false, pos, drop, to_z, of_z, w64, to_z-of_z, rules}
use lib.Signed.{lt_z}
use Rattle.sorted_sets.proofs.Limits.{offset_of}
use Rattle.sorted_sets.proofs.query.window.limit_number.Goals as goal

pub returns-clause-offset : goal.returns-clause-offset
returns-clause-offset c ps long =
    let up : lt_z (to_z w64 (of_z w64 c.args.number)) (pos 0) ≡ false = search rules in
    offset_of c.args.number (to_z w64 (of_z w64 c.args.number)) c.args.len ps up (to_z-of_z c.ranges.number) long ∙ ap (λ k. drop k ps) (sym c.min.ensures)
