use Rattle.std.proofs.Common.{◌≡◌, refl, ◌∙◌, box_value}
use Rattle.connections.specs.HeldConnections.{HeldState}
use Rattle.connections.proofs.HeldLemmas.{left_by}
use Rattle.connections.proofs.many.Connections.end.Goals as goal

pub returns-then-is_some-clause-left : goal.returns-then-is_some-clause-left
returns-then-is_some-clause-left g c = left_by box_value c.self.inside.slots _ c.args.place _ (λ i. (c.self.view_is i).held) (c.let_go.ensures.same ∙ c.take-ended.ensures.out) (λ (before after : HeldState). after ≡ before) (λ (h : HeldState). refl)

pub returns-clause-left : goal.returns-clause-left
returns-clause-left g c = left_by box_value c.self.inside.slots _ c.args.place _ (λ i. (c.self.view_is i).held) c.take-ended.ensures.out (λ (before after : HeldState). after ≡ before) (λ (h : HeldState). refl)
