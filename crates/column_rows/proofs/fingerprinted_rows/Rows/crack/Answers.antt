use Rattle.std.proofs.Common.{◌≡◌, ◌∙◌, arith}
use Rattle.std.proofs.lemmas.Int.{ints}
use Rattle.column_rows.proofs.fingerprinted_rows.Rows.crack.Goals as goal

pub crack-requires-clause-within : goal.crack-requires-clause-within
crack-requires-clause-within g c =
    let same : c.self.inside.rows ≡ c.args.self.now = c.self.view_is ∙ c.forget.ensures in
    rw same c.requires.within

pub returns-clause-permutation : goal.returns-clause-permutation
returns-clause-permutation g c =
    let same : c.self.inside.rows ≡ c.args.self.now = c.self.view_is ∙ c.forget.ensures in
    rw (← same) c.crack.ensures.permutation

pub returns-clause-len : goal.returns-clause-len
returns-clause-len g c =
    let same : c.self.inside.rows ≡ c.args.self.now = c.self.view_is ∙ c.forget.ensures in
    rw (← same) c.crack.ensures.len

pub returns-clause-changes : goal.returns-clause-changes
returns-clause-changes g c =
    let same : c.self.inside.rows ≡ c.args.self.now = c.self.view_is ∙ c.forget.ensures in
    rw (← same) c.crack.ensures.changes

pub returns-clause-low : goal.returns-clause-low
returns-clause-low g c = c.crack.ensures.low

pub returns-clause-high : goal.returns-clause-high
returns-clause-high g c = c.crack.ensures.high

pub returns-clause-before : goal.returns-clause-before
returns-clause-before g c k d l h = omega (arith, ints, c.crack.ensures.before k d l h)

pub returns-clause-behind : goal.returns-clause-behind
returns-clause-behind g c k d l h = omega (arith, ints, c.crack.ensures.behind k d l h)

pub returns-clause-capacity : goal.returns-clause-capacity
returns-clause-capacity g c =
    let same : c.self.inside.rows ≡ c.args.self.now = c.self.view_is ∙ c.forget.ensures in
    rw (← same) c.crack.ensures.capacity
