use Rattle.std.proofs.Common.{◌≡◌, ℕ, ◌+◌, ◌++◌, length, map, ap, sym, subst, ◌∙◌}
use Rattle.crossbeam_channel.specs.Claims.{view}
use Rattle.crossbeam_channel.specs.Ends.{sends_on, receives_on}
use Rattle.connection_channel.specs.ChannelInvariant.{pass_view}
use Rattle.connection_channel.specs.TakenBack.{all_of, HandlersServed}
use Rattle.connection_channel.proofs.Iterating.{given, all_given, holds_next}
use Rattle.connection_channel.proofs.Steps.{gathers}
use Rattle.connection_channel.proofs.recalling_workers.Returned.gather.Goals as goal

pub take_back-requires-clause-channel : goal.take_back-requires-clause-channel
take_back-requires-clause-channel g c =
    let i = c.into_iter-child-iterator.ensures.into_iter_gives in let l = c.loop-child in
    λ _ _. (given (λ h. receives_on h.promise.channel.value ≡ sends_on c.args.sender.now) c.into_iter-child-iterator.result l.child-iterator c.next.new.self c.args.children.items l.yielded c.next.result c.in-Some.child c.requires.channel i.0 (i.1 ∙ c.args.children.ok.0) l.yielded_by c.in-Some.is c.next.ensures.steps).1

pub take_back-requires-clause-room : goal.take_back-requires-clause-room
take_back-requires-clause-room g c =
    let i = c.into_iter-child-iterator.ensures.into_iter_gives in let l = c.loop-child in let hs = l.self.handlers in let ts = l.self.taken in let n = length l.yielded in let all = c.args.children in
    let k = given (λ h. receives_on h.promise.channel.value ≡ sends_on c.args.sender.now) c.into_iter-child-iterator.result l.child-iterator c.next.new.self c.args.children.items l.yielded c.next.result c.in-Some.child c.requires.channel i.0 (i.1 ∙ c.args.children.ok.0) l.yielded_by c.in-Some.is c.next.ensures.steps in
    λ _ _. (holds_next hs.len (length hs.items) n (length all.items) all.len hs.cap _ k.0 all.ok.0 hs.ok.0 l.invariant.1.3 c.requires.room.0 l.invariant.2, holds_next ts.len (length ts.items) n (length all.items) all.len ts.cap _ k.0 all.ok.0 ts.ok.0 l.invariant.1.2 c.requires.room.1 l.invariant.3)

pub loop-child-preserved : goal.loop-child-preserved
loop-child-preserved g c =
    let t = c.take_back.ensures in let i = c.loop-child.invariant in
    (t.pass, gathers g.H.Handler.keeps g.H.Handler.handled _ _ _ _ c.loop-child.yielded c.in-Some.child _ _ _ _ i.1 t.back, t.room.0 ∙ i.2, t.room.1 ∙ i.3)

pub returns-clause-view : goal.returns-clause-view
returns-clause-view g c =
    let i = c.into_iter-child-iterator.ensures.into_iter_gives in let l = c.loop-child in let v = view c.args.pass.now in
    let n = ap length (all_given c.into_iter-child-iterator.result l.child-iterator c.next.new.self c.args.children.items l.yielded c.next.result i.0 (i.1 ∙ c.args.children.ok.0) l.yielded_by c.in-None.is c.next.ensures.steps) ∙ sym c.args.children.ok.0 in
    l.invariant.1.0 ∙ ap (λ (k : ℕ). pass_view (v.parts + k) v.sends v.sent v.stops (v.taken ++ all_of l.self.taken.items)) n

pub returns-clause-lists : goal.returns-clause-lists
returns-clause-lists g c =
    let i = c.into_iter-child-iterator.ensures.into_iter_gives in let l = c.loop-child in
    let n = ap length (all_given c.into_iter-child-iterator.result l.child-iterator c.next.new.self c.args.children.items l.yielded c.next.result i.0 (i.1 ∙ c.args.children.ok.0) l.yielded_by c.in-None.is c.next.ensures.steps) ∙ sym c.args.children.ok.0 in
    (l.self.taken.ok.0 ∙ l.invariant.1.2 ∙ n, l.self.handlers.ok.0 ∙ l.invariant.1.3 ∙ n)

pub returns-clause-served : goal.returns-clause-served
returns-clause-served g c =
    let i = c.into_iter-child-iterator.ensures.into_iter_gives in let l = c.loop-child in
    subst (λ ks. HandlersServed g.H.Handler.keeps g.H.Handler.handled (map (λ h. h.promise.handler.value) ks) l.self.handlers.items l.self.taken.items)
    (all_given c.into_iter-child-iterator.result l.child-iterator c.next.new.self c.args.children.items l.yielded c.next.result i.0 (i.1 ∙ c.args.children.ok.0) l.yielded_by c.in-None.is c.next.ensures.steps) l.invariant.1.4
