use Rattle.std.proofs.Common.{◌≡◌, ℕ, ◌+◌, ◌<◌, ◌^◌, sym, subst, ◌∙◌}
use Rattle.connection_channel.proofs.Iterating.{given, all_given}
use Rattle.connection_channel.proofs.Steps.{sets_up}
use Rattle.connection_channel.proofs.desks.desks_of.Goals as goal

-- a desk fits its handler
fits : {H : Type 0} (handled : H → ℕ) (a b : H) (m n top : ℕ) → a ≡ b → m ≡ n → handled b + n < top → handled a + m < top
fits {H} handled a b m n top e f h = subst (λ (p : H × ℕ). handled p.0 + p.1 < top) (λ k. (sym e k, sym f k)) h

pub loop-handler-preserved : goal.loop-handler-preserved
loop-handler-preserved g c =
    let d = c.in_ok-new.field-0 in let e = c.in_ok-new.ensures in let i = c.into_iter-handler-iterator.ensures.into_iter_gives in let l = c.loop-handler in let h = c.in-Some.handler in
    sets_up (λ d. d.handler) (λ d. g.H.Handler.handled d.handler + d.limit < 2 ^ 64) l.yielded h l.desks.items c.push.new.self.items d l.invariant c.in_ok-push.ensures.items e.0
    (fits g.H.Handler.handled d.handler h d.limit c.args.limit (2 ^ 64) e.0 e.1
    (given (λ h. g.H.Handler.handled h + c.args.limit < 2 ^ 64) c.into_iter-handler-iterator.result l.handler-iterator c.next.new.self c.args.handlers.items l.yielded c.next.result h c.requires.room i.0 (i.1 ∙ c.args.handlers.ok.0) l.yielded_by c.in-Some.is c.next.ensures.steps).1)

pub returns-clause-handlers : goal.returns-clause-handlers
returns-clause-handlers g c =
    let i = c.into_iter-handler-iterator.ensures.into_iter_gives in let l = c.loop-handler in
    l.invariant.0 ∙ all_given c.into_iter-handler-iterator.result l.handler-iterator c.next.new.self c.args.handlers.items l.yielded c.next.result i.0 (i.1 ∙ c.args.handlers.ok.0) l.yielded_by c.in-None.is c.next.ensures.steps

pub returns-clause-room : goal.returns-clause-room
returns-clause-room g c = c.loop-handler.invariant.1
