-- A key's place, known and not known.
use Rattle.std.proofs.Common.{◌≡◌, ℕ, ◌∙◌, List, sym, ap, subst, arith, IfSome, IfNone, MatchOption}
use Rattle.std.specs.declared.option.Option.{Option}
use Rattle.std.specs.declared.option.Option.TheVariants.{None, Some}
use Rattle.place_names.specs.Naming.{Naming, NamingGrows, BearsOther, IsPlace, walk}

pub joined : {X : Type 0} (o : Option X) (A : Type 0) (B : X → Type 0) → IfSome o B → IfNone o A → MatchOption o A B
joined None A B s n = n
joined (Some x) A B s n = s

pub same_some : (x y : List ℕ) (o : Option (List ℕ)) → o ≡ Some x → o ≡ Some y → x ≡ y
same_some x y o p q = cc

pub place_grows : (old new : Naming) (key : List ℕ) (p : ℕ) → NamingGrows old new → IsPlace old key p → IsPlace new key p
place_grows old new key p g place = record {
  step = place.step;
  within = omega (arith, place.within, g.places);
  is = ap (λ n. walk n key place.step) g.places ∙ place.is;
  own = g.same p key place.own;
  before = λ j less. let o = place.before j less in
      subst (λ (n : ℕ). BearsOther new key (walk n key j)) (sym g.places) (o.0, g.same _ _ o.1, o.2);
}
