use Rattle.std.proofs.Common.{◌≡◌, ℕ, ◌+◌, ◌-◌, ◌<◌, ◌≤◌, List, ◌++◌, ap, sym, refl, ◌∙◌, arith, rules, length}
use Rattle.std.proofs.lemmas.List.{length-map}
use Rattle.connection_channel.specs.declared.channel_protocol.ChannelPassView.{ChannelPassView}
use Rattle.connection_channel.specs.ChannelInvariant.{times, once_below}
use Rattle.hand_over.specs.Outcome.{all_of}
use Rattle.hand_over.proofs.run_worker_pool.run.Goals as goal

few_fit : (k d n cap : ℕ) → k ≤ d → n ≡ d → n ≤ cap → k ≤ cap
few_fit k d n cap h e f = omega arith

room_for : (d n cap : ℕ) → n ≡ d → n ≤ cap → d ≤ cap
room_for d n cap e h = omega arith

numbers_fit : (s s' n limit cap cap' : ℕ) → s ≡ s' → s' + n ≤ limit → cap ≡ cap' → limit ≤ cap' → s + n ≤ cap
numbers_fit s s' n limit cap cap' e h f k = omega arith

-- all parts are back
whole : (p k a s d first : ℕ) → p ≡ a + k → k ≡ d → a ≡ s → s + d ≡ first → first ≡ 1024 → p ≡ 1024
whole p k a s d first e f h i j = omega arith

enough : (d parts : ℕ) → d ≤ 64 → parts ≡ 1024 → d < parts
enough d parts h e = omega arith

pub start_all-requires-clause-parts : goal.start_all-requires-clause-parts
start_all-requires-clause-parts g c = λ _ _. enough c.args.crew.desks.len _ c.requires.parts (ap (λ (w : ChannelPassView). w.parts) c.requires.view)

pub start_all-requires-clause-room : goal.start_all-requires-clause-room
start_all-requires-clause-room g c = λ _ _. c.requires.room

pub start_all-requires-clause-children : goal.start_all-requires-clause-children
start_all-requires-clause-children g c = let k = c.in_ok-children.ensures.children in λ _ _. (k.0, room_for c.args.crew.desks.len c.len.result c.in_ok-children.children.cap c.len.ensures k.1)

pub recall-requires-clause-room : goal.recall-requires-clause-room
recall-requires-clause-room g c =
    let k = c.in_ok-children.ensures.returned in let n = c.start_all.new.children.len in let d = c.args.crew.desks.len in
    λ _ _. (few_fit n d _ _ c.in-Err.ensures.few c.len.ensures k.2, few_fit n d _ _ c.in-Err.ensures.few c.len.ensures k.3)

pub returns-in-Err : goal.returns-in-Err
returns-in-Err g c = record { ok = tt; err = refl }

pub accept_all-fault-requires-clause-sends : goal.accept_all-fault-requires-clause-sends
accept_all-fault-requires-clause-sends g c =
    let v = c.in-Ok.ensures.view in let e = c.requires.view in
    (ap (λ (w : ChannelPassView). w.sends) v ∙ ap (λ (w : ChannelPassView). w.sends) e, ap (λ (w : ChannelPassView). w.sent) v ∙ ap (λ (w : ChannelPassView). w.sent) e)

pub accept_all-fault-requires-clause-none : goal.accept_all-fault-requires-clause-none
accept_all-fault-requires-clause-none g c = c.in_ok-children.ensures.unsent

pub recall-requires-in-Ok-clause-room : goal.recall-requires-in-Ok-clause-room
recall-requires-in-Ok-clause-room g c =
    let k = c.in_ok-children.ensures.returned in let n = c.start_all.new.children.len in let d = c.args.crew.desks.len in
    λ _ _. (few_fit n d _ _ c.in-Ok.ensures.few c.len.ensures k.2, few_fit n d _ _ c.in-Ok.ensures.few c.len.ensures k.3)

pub drain-requires-clause-whole : goal.drain-requires-clause-whole
drain-requires-clause-whole g c =
    let a = c.accept_all-fault.ensures.view in let r = c.recall-in-Ok.ensures.view in let s = c.in-Ok.ensures.all in let k = c.start_all.new.children in let d = c.args.crew.desks in (
      whole _ k.len _ _ d.len _ (ap (λ (w : ChannelPassView). w.parts) r)
          (k.ok.0 ∙ sym (length-map k.items (λ h. h.promise.handler.value)) ∙ ap length s.1 ∙ length-map d.items (λ d. d.handler) ∙ sym d.ok.0)
          (ap (λ (w : ChannelPassView). w.parts) a) s.0 (ap (λ (w : ChannelPassView). w.parts) c.requires.view),
      ap (λ (w : ChannelPassView). w.sends) r ∙ ap (λ (w : ChannelPassView). w.sends) a,
    )

pub drain-requires-clause-room : goal.drain-requires-clause-room
drain-requires-clause-room g c =
    let a = c.accept_all-fault.ensures.room in let n = c.accept_all-fault.new.self.numbers in
    numbers_fit _ _ n.len c.args.crew.limit n.cap c.in_ok-children.unsent.numbers.cap (ap (λ (w : ChannelPassView). w.sent) c.recall-in-Ok.ensures.view) a.0 a.1 c.in_ok-children.ensures.unsent.1

pub returns-clause-ok : goal.returns-clause-ok
returns-clause-ok g c =
    let a = c.accept_all-fault.ensures in
    let e = c.close.ensures in
    let r = c.recall-in-Ok.ensures in
    let s = c.in-Ok.ensures in
    let none = ap (λ (w : ChannelPassView). w.taken) a.view ∙ ap (λ (w : ChannelPassView). w.taken) s.view ∙ ap (λ (w : ChannelPassView). w.taken) c.requires.view in
    let taken = ap (λ (w : ChannelPassView). w.taken) r.view ∙ ap (λ (l : List ℕ). l ++ all_of c.recall-in-Ok.new.self.taken.items) none in
    let sent = ap (λ (w : ChannelPassView). w.sent) r.view in
    record {
      rise = omega (arith, a.came, e.came);
      once = λ x.
          let d = c.drain.ensures.once x in
          let k = a.once (g.A.Arrivals.came c.close.new.self - g.A.Arrivals.came c.args.arrivals.now) (omega (arith, a.came, e.came)) x in
          omega (arith, d, k, ap (λ (l : List ℕ). times x l) taken, ap (λ (n : ℕ). once_below x n) sent);
      rises = r.rises;
      lists = r.lists.0 ∙ c.start_all.new.children.ok.0 ∙ sym (length-map c.start_all.new.children.items (λ h. h.promise.handler.value)) ∙ ap length s.all.1;
      served = search rules;
      fault = rw e.last a.fault;
      stop = rw (e.came, e.last) a.stop;
    }

pub returns-clause-err : goal.returns-clause-err
returns-clause-err g c = tt
