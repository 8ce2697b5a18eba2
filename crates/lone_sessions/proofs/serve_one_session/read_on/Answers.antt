use Rattle.std.proofs.Common.{◌≡◌, ℕ, ◌≤◌, ◌∙◌, ap, arith, length, length-append, refl, subst, take, Ok}
use Rattle.std.specs.Io.KnownBytes.{prepend_known}
use Rattle.std.proofs.lemmas.List.{length-take-le}
use Rattle.lone_sessions.proofs.serve_one_session.read_on.Goals as goal

pub returns-in_ok-take_piece-in-Ok-clause-small : goal.returns-in_ok-take_piece-in-Ok-clause-small
returns-in_ok-take_piece-in-Ok-clause-small g c =
    let a = c.in_ok-take_piece-in-Ok.ensures.answered in
    let within : c.in-Ok.n ≤ length c.read.new.buffer = omega (arith, c.in-Ok.ensures.count, c.read.auto.buffer) in
    record {
      small = c.in_ok-take_piece-in-Ok.ensures.small;
      bytes = omega (arith, a.bytes_are, length-append c.args.session.now.decoder.held (take c.in-Ok.n c.read.new.buffer), length-take-le c.in-Ok.n c.read.new.buffer within, within, c.read.auto.buffer);
    }

pub returns-in_ok-flush-in-Ok-eq0-clause-round : goal.returns-in_ok-flush-in-Ok-eq0-clause-round
returns-in_ok-flush-in-Ok-eq0-clause-round g c =
    let e = c.in-Ok-eq0.ensures in
    let P : ℕ → Type 0 = λ n. g.S.ByteSource.told c.args.source.now ≡ prepend_known (take n c.read.new.buffer) (g.S.ByteSource.told c.read.new.self) in
    record {
      read_is = subst P c.in-Ok-eq0.field-0-test e.told;
      at_end = e.end (ap Ok c.in-Ok-eq0.field-0-test) (omega (arith, c.requires.some));
      told_is = c.in_ok-flush-in-Ok-eq0.ensures.told ∙ c.in_ok-flush.ensures.told;
      stays = refl;
      requests_are = c.ended.ensures.requests;
      rest_is = c.ended.ensures.rest;
    }
