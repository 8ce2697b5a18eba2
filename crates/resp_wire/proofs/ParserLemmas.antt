-- Tests and steps that did not fail.
use Rattle.std.proofs.Common.{◌≡◌, ℕ, Bool, true, false, cond, List, [], ◌∷◌, Result, Ok, Err, refl, ap, ◌∙◌, ◌⊎◌, inl, inr}
use Rattle.std.proofs.lemmas.Bool.{eqb-true, eq-eqb}
use Rattle.std.specs.Prelude.{◌==◌}
use Rattle.resp_wire.specs.declared.fault.ProtocolFault.{ProtocolFault}
use Rattle.resp_wire.specs.declared.fault.Stop.{Stop}
use Rattle.resp_wire.specs.declared.fault.Stop.TheVariants.{Wrong}
use Rattle.resp_wire.specs.Parser.{◌>>=◌, byte_at, line_end_at}

-- the value of a step that did not fail
pub bind_ok : {A B : Type 0} (r : Result A Stop) (f : A → Result B Stop) (y : B) → (r >>= f) ≡ Ok y → (x : A) × (r ≡ Ok x) × (f x ≡ Ok y)
bind_ok (Ok x) f y e = (x, refl, e)
bind_ok (Err d) f y e = absurd cc

abbrev done : {A : Type 0} → A → Result A Stop
done x = Ok x

pub ok_is : {A : Type 0} (x y : A) → done x ≡ done y → x ≡ y
ok_is x y e = cc

-- which way a test went
pub chosen : {A : Type 0} (b : Bool) (x y z : A) → cond b x y ≡ z → ((b ≡ true) × (x ≡ z)) ⊎ ((b ≡ false) × (y ≡ z))
chosen true x y z e = inl (refl, e)
chosen false x y z e = inr (refl, e)

-- a test whose other way fails
pub guard_ok : {A : Type 0} (b : Bool) (d : Stop) (x : Result A Stop) (y : A) → cond b (Err d) x ≡ Ok y → (b ≡ false) × (x ≡ Ok y)
guard_ok true d x y e = absurd cc
guard_ok false d x y e = (refl, e)

pub wanted_ok : {A : Type 0} (b : Bool) (d : Stop) (x : Result A Stop) (y : A) → cond b x (Err d) ≡ Ok y → (b ≡ true) × (x ≡ Ok y)
wanted_ok true d x y e = (refl, e)
wanted_ok false d x y e = absurd cc

pub byte_takes : (wanted : ℕ) (f : ProtocolFault) (bytes rest : List ℕ) → byte_at wanted f bytes ≡ Ok rest → bytes ≡ wanted ∷ rest
unfolding byte_at
byte_takes wanted f [] rest e = absurd cc
byte_takes wanted f (b ∷ bytes) rest e =
    let w = wanted_ok (b == wanted) (Wrong f) (Ok bytes) rest e in
    let is : b ≡ wanted = eqb-true b wanted w.0 in
    let same : bytes ≡ rest = ok_is bytes rest w.1 in
    cc

pub byte_again : (wanted : ℕ) (f : ProtocolFault) (rest : List ℕ) → byte_at wanted f (wanted ∷ rest) ≡ Ok rest
unfolding byte_at
byte_again wanted f rest = rw (eq-eqb wanted wanted refl) refl

pub line_end_takes : (f : ProtocolFault) (bytes rest : List ℕ) → line_end_at f bytes ≡ Ok rest → bytes ≡ 13 ∷ 10 ∷ rest
unfolding line_end_at
line_end_takes f bytes rest e =
    let b = bind_ok (byte_at 13 f bytes) (byte_at 10 f) rest e in
    byte_takes 13 f bytes b.0 b.1 ∙ ap (λ (t : List ℕ). 13 ∷ t) (byte_takes 10 f b.0 rest b.2)

pub line_end_again : (f : ProtocolFault) (rest : List ℕ) → line_end_at f (13 ∷ 10 ∷ rest) ≡ Ok rest
unfolding line_end_at byte_at
line_end_again f rest = refl
