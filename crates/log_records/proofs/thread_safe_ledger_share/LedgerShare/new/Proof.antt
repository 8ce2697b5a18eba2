-- The share goes into the struct.
use Rattle.std.proofs.Common.{◌≡◌, List, [], ◌∷◌, ◌++◌, refl, ap, ◌∙◌}
use mir.Syntax.{a_type, dcons, dnil}
use mir.Val.{Val, vstruct, vcons, vnil, of_list}
use mir.MapTy.{inst_fn}
use base.Logic.{SProp, emp}
use base.Fml.{fsep, feq, ftrue}
use contract.Monad.{fact, fact_i}
use contract.Running.{tables}
use types.Kit.{‵, raw, ◌⊛◌, ◌$◌, ◌∵◌, !, qed, by, move, keep, split, fjoin, fpack, use0, feq_i}
use types.Run.{of_opd, no_more, and_then, returns, enter}
use types.ByLocal.{alloc_all, pass_all, free_all, look_at, get, sets}
use types.Part.{agg}
use denote.RattleType.{RattleType, owns, Valss}
use denote.Signature.{types_at, plain}
use denote.Steps.{nothing}
use denote.Exit.{no}
use denote.Laws.{Is}
use denote.Param.{param, bounded}
use denote.Triple.Entry.{alive}
use denote.Triple.Walked.{Stays, walk_of, stay_dropped, Goes-dropped}
use Rattle.std.proofs.raw_atomic.Walks.{proved, leaves}
use Rattle.std.specs.declared.sync.ledger.Ledger.{Ghosts}
use Rattle.std.specs.contracts.sync.ledger.Share as share
use Rattle.log_records.specs.contracts.thread_safe_ledger_share.LedgerShare as kept
use Rattle.log_records.specs.contracts.thread_safe_ledger_share.LedgerShare.TheInside as inside
use Rattle.log_records.specs.contracts.thread_safe_ledger_share.LedgerShare.new.{ended, clauses}
use Rattle.log_records.specs.contracts.thread_safe_ledger_share.LedgerShare.new.Key.{name as #self}
use Rattle.log_records.proofs.thread_safe_ledger_share.LedgerShare.new.Statement.{statement}
use Rattle.log_records.proofs.thread_safe_ledger_share.LedgerShare.new.Code as code

-- the machine values of a share and of the struct round it: neither has a byte
abbrev share_val : Val
share_val = vstruct (vcons (vstruct vnil) vnil)

abbrev kept_val : Val
kept_val = vstruct (vcons share_val vnil)

share_told : (R : RattleType) (g : Ghosts R.Denot) (d : (share.the_row R g).Denot) (vs : List Val) → Is (share.the_row R g) d vs → vs ≡ share_val ∷ []
share_told R g d vs so = let is = so.0 in is.1.0 ∙ ap (λ (ws : List Val). vstruct (of_list (ws ++ [])) ∷ []) is.1.1.0.1.0

pub new_spec : {M : Type 1} → statement M
new_spec 𝓤 𝓛 𝓜 𝓡 wired L _ g d _ =
    let H = 𝓛.H in
    let 𝓣 = tables 𝓤 H 𝓜 𝓡 𝓡.env in
    let R : RattleType = param 0 L in
    let En = ended L g d in
    let c = clauses L g d 𝓛 𝓜.mem 𝓡.returns in
    let inst = bounded (a_type ∷ []) (L, tt) (dcons d dnil) in
    let fn = inst_fn inst code.function in
    let Sr : RattleType = share.the_row R g in
    let Ir : RattleType = inside.the_row R g in
    let Kr : RattleType = kept.the_row R g in
    let hs : Stays En.signature.params En.kept = (stay_dropped (plain (λ _. Sr)) no, tt) in
    proved 𝓛 En hs c 𝓜 𝓡 (Goes-dropped 𝓛 1 (plain (λ _. Sr)) no (λ κs x f. refl), tt) (#self inst) fn (code.unfolded 𝓤 H 𝓜 𝓡 wired (L, tt) d)
    (λ κs. ((λ x. share_val ∷ []), tt)) (λ κs. ((λ x vs so. share_told R g x vs so), tt)) (λ κs qs bounds a gh are.
    let x : Sr.Denot = a.0 in
    let within : Ir.Denot = record { share = x } in
    let r : Kr.Denot = record { parts = x.parts; amount = x.amount } in
    let y : (walk_of 𝓛 En hs c).Ghost = ((κs, qs, bounds, a, (share_val ∷ [], tt)), gh) in
    let Post : Val → SProp 𝓤 = (walk_of 𝓛 En hs c).post y in
    qed 𝓛 ((raw (alive 𝓛 En.signature κs qs) ⊛ ‵ (owns (types_at En.signature.params κs) a y.0.4)) ∷ raw ((c κs a).requires gh) ∷ []) ∵
    split ! $ keep ! (1 ∷ 0 ∷ []) $ feq_i ! (List Val) (kept_val ∷ []) (kept_val ∷ []) refl $ fjoin ! $
    fpack ! (Valss (Sr ∷ [])) (λ vss. fsep (feq (List Val) (kept_val ∷ []) (vstruct (of_list (vss.0 ++ [])) ∷ [])) (owns (Sr ∷ []) (x, tt) vss)) (share_val ∷ [], tt) $
    nothing ! $ move ! (1 ∷ 0 ∷ []) $ fjoin ! $
    nothing ! $ move ! (1 ∷ 0 ∷ []) $ fjoin ! $
    fpack ! ((n : Ir.Denot) × ((kept.the_view R g n ≡ r) × Unit {0})) (λ n. fsep (Ir.own_val n.0 (kept_val ∷ [])) ftrue) (within, (refl, tt)) $
    enter ! 𝓣.C 𝓣.Λ fn (share_val ∷ []) Post $ alloc_all ! (λ l. pass_all ! refl ((tt, (tt, tt)), tt) $
    sets ! (of_opd ! (get ! refl)) refl (tt, (tt, tt)) $ sets ! (agg ! (and_then ! (get ! refl) (no_more !))) refl (tt, ((tt, tt), tt)) $
    use0 𝓛 (raw (fact 𝓤 (r ≡ r))) (fact_i 𝓤 (r ≡ r) (emp 𝓤) refl) $ nothing ! $ nothing ! $ fjoin ! $
    returns ! (look_at ! 0 refl) $ free_all ! refl $ keep ! (3 ∷ 0 ∷ 2 ∷ 1 ∷ []) $ by ! (leaves 𝓛 En hs c y kept_val r (tt, tt) (tt, tt))))
