use Rattle.std.proofs.Common.{refl}
use Rattle.score_bounds.proofs.Cuts.{is_under-first_cut, is_over-second_cut}
use Rattle.score_bounds.proofs.ranges_and_cuts.Range.cuts.Goals as goal

pub returns-clause-between : goal.returns-clause-between
returns-clause-between c score within =
    rw (c.cut_at_min.ensures, c.cut_at_max.ensures, ← is_under-first_cut c.args.self.now.min score within, ← is_over-second_cut c.args.self.now.max score within) refl
