use Rattle.std.proofs.Common.{◌≡◌, ℕ, ◌<◌, ◌∙◌, List, length, set, get_or, ap, inl, inr, arith, IfSome}
use Rattle.std.proofs.lemmas.List.{set-get_or, get_or_default}
use Rattle.std.proofs.lemmas.Bool.{cases_eq}
use Rattle.std.proofs.Common.{sym}
use Rattle.std.specs.declared.option.Option.{Option}
use Rattle.std.specs.declared.option.Option.TheVariants.{None, Some}
use Rattle.place_names.specs.Naming.{name_at_place}
use Rattle.set_table.specs.TableAndPassViews.{PassView}
use Rattle.table_lifetime.specs.ClosingAudit.{pass_at, no_pass}
use Rattle.table_lifetime.proofs.closing_audit.passes_agree_on_names.compare_at.Goals as goal

carried : (k all : Option (List ℕ)) (x : List ℕ) → IfSome k (λ y. all ≡ Some y) → k ≡ Some x → all ≡ Some x
carried None all x h e = cc
carried (Some y) all x h e = cc

same_set : {S : Type 0} (xs : List S) (i : ℕ) (s t : S) → s ≡ get_or xs i s → t ≡ s → set xs i t ≡ xs
same_set xs i s t at e = ap (set xs i) (e ∙ at) ∙ set-get_or xs i s

pub loop-i-preserved : goal.loop-i-preserved
loop-i-preserved g c =
    let i = c.loop-i.i in
    let inv = c.loop-i.invariant in
    let pass = c.index_mut.result.now in
    let less : i < length c.loop-i.passes.items = omega (arith, c.loop-i-test.true, c.len-i-end.ensures, ap length inv.same, c.args.passes.now.ok) in
    let here : pass ≡ pass_at c.args.passes.now.items i =
    c.index_mut.ensures.value ∙ get_or_default c.loop-i.passes.items i pass no_pass less ∙ ap (λ ps. pass_at ps i) inv.same in
    record {
      same = same_set c.loop-i.passes.items i pass c.tell_name.new.self c.index_mut.ensures.value c.tell_name.ensures.same ∙ inv.same;
      cell = c.tell_name.ensures.cell ∙ inv.cell;
      knows = λ j x below e. elim (cases_eq j i) [
        | inl is ↦ carried (name_at_place pass.notes.known c.args.place) c.tell_name.new.all.known x c.tell_name.ensures.known (ap (λ (p : PassView). name_at_place p.notes.known c.args.place) (here ∙ ap (pass_at c.args.passes.now.items) (sym is)) ∙ e)
        | inr n ↦ carried c.loop-i.all.known c.tell_name.new.all.known x c.tell_name.ensures.all (inv.knows j x (omega arith) e)
      ];
    }
