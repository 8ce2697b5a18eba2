-- `refuses` where `allocate` calls it: what it is handed, and the answer that comes back. Assumes `Logic`.
use Rattle.std.proofs.Common.{◌≡◌, ℕ, zero, suc, Bool, List, [], ◌∷◌, refl, ap}
use seplogic.Ra.Ura.{Ura}
use mir.Syntax.{Body, skip, seq}
use mir.Val.{Val, vbool, vptr}
use base.Logic.{SProp, ent, ex, guard, sep, id⊢}
use base.Fml.{Lft, Share, ftrue, fsep, flft}
use prog.Memory.{Memory}
use prog.Routine.{Routine}
use types.Logic.{Logic, sem}
use contract.Monad.{Fun}
use types.Kit.{‵, raw, ◌⊛◌, some, later, ◌$◌, ◌∵◌, !, qed, move, keep, use1, split, join, pick, fjoin, feq_i, feq_l, check, await, updating, now as at_once, done, show}
use denote.RattleType.{RattleType}
use denote.Memory.{hidden_shr}
use denote.Builtin.{u64, bool}
use denote.Steps.{nothing, only}
use denote.Triple.Statement.{Contract}
use denote.Triple.Spec.{triple_of}
use Rattle.std.specs.contracts.cell.Cell as cell
use Rattle.fuse_alloc.specs.contracts.refuses as refuses_contract

abbrev pub Counter : RattleType
Counter = cell.the_row u64

module _ {M : Type 1} {𝓤 : Ura M} (𝓛 : Logic 𝓤) (at_mem : Memory → SProp 𝓤) (run : Routine → Fun 𝓤) where
  abbrev pub Refuses : Contract 𝓤
  Refuses = triple_of 𝓛 refuses_contract.signature (refuses_contract.spec 𝓛 at_mem run)

  -- the call with a `&` to the counter at this place
  abbrev pub at_counter : Lft → Share → ℕ × ℕ → Refuses.Ghost
  at_counter κ q place = (((κ, tt), (q, tt), tt, (record { ref_ptr = place; now = record { value = tt } }, tt), (vptr place.0 place.1 ∷ [], tt)), tt)

module _ {M : Type 1} {𝓤 : Ura M} (𝓛 : Logic 𝓤) (at_mem : Memory → SProp 𝓤) (run : Routine → Fun 𝓤) (κ : Lft) (q : Share) (place : ℕ × ℕ) where
  open 𝓛 use {H, A}

  pub counter_goes : ent 𝓤 (sep 𝓤 (sem 𝓛 (hidden_shr Counter κ (record { value = tt }) place.0 place.1)) (A.lft κ q)) ((Refuses 𝓛 at_mem run).pre (at_counter 𝓛 at_mem run κ q place))
  counter_goes =
      qed 𝓛 (‵ (hidden_shr Counter κ (record { value = tt }) place.0 place.1) ∷ ‵ (flft κ q) ∷ []) ∵ feq_i ! (List Val) (vptr place.0 place.1 ∷ []) (vptr place.0 place.1 ∷ []) refl $ fjoin ! $
      nothing ! $ move ! (1 ∷ []) $ fjoin ! $ nothing ! $ move ! (2 ∷ []) $ join ! $ join ! $ nothing ! $ move ! (1 ∷ []) $ done !

  pub counter_gives : (v : Val) → ent 𝓤 ((Refuses 𝓛 at_mem run).post (at_counter 𝓛 at_mem run κ q place) v) (H.⇛ (ex 𝓤 (λ (r : Bool). guard 𝓤 (v ≡ vbool r) (A.lft κ q))))
  counter_gives v =
      qed 𝓛 (raw ((Refuses 𝓛 at_mem run).post (at_counter 𝓛 at_mem run κ q place) v) ∷ []) ∵ updating ! $
      use1 𝓛 (later (some (λ (r : Bool). ((‵ (flft κ q) ⊛ ‵ ftrue) ⊛ ‵ (bool.own_val r (v ∷ []))) ⊛ some (λ (ws : Unit {0} × Unit {0}). ‵ (fsep ftrue ftrue) ⊛ ‵ ftrue)))) (id⊢ 𝓤 _) $ await ! tt $ pick ! (λ r.
      split ! $ split ! $ move ! (1 ∷ []) $ feq_l ! (λ e. split ! $ at_once ! $
      show ! (λ (b : Bool). guard 𝓤 (v ≡ vbool b) (A.lft κ q)) r $ check ! (ap only e) $ keep ! (0 ∷ []) $ done !))

abbrev behind_first : Body → Body
behind_first (seq first more) = more
behind_first _ = skip

-- a body without its first n statements
abbrev pub after : ℕ → Body → Body
after zero body = body
after (suc n) body = after n (behind_first body)
