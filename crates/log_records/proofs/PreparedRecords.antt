-- The record of what an owner has prepared: by the set at its key, and by what the command makes of the world.
use Rattle.std.proofs.Common.{◌≡◌, ℕ, Bool, List, Option, None, Some, option_map, if◌then◌else◌, refl, sym, ap, subst, ◌∙◌}
use Rattle.std.specs.Cmp.Lexicographic.{nat_list_eq_equiv}
use Rattle.resp_wire.specs.Response.{Response}
use Rattle.zset_core.specs.SortedSet.{Members}
use Rattle.zset_commands.specs.AbstractCommand.{Asked, Meaning, key_of}
use Rattle.zset_core.specs.Semantics.{act, act_at, step}
use Rattle.sorted_sets.specs.SetAndOwnerViews.{HasNoSet, IsPreparedAt, IsPreparedFor, IsSetAt, Next, OwnerView, SetView, Shows, ShowsAt, next_for}
use Rattle.zset_core.specs.SetsByKey.{World, put_set, set_at}
use Rattle.log_records.specs.EffectRecords.{effect_record, next_record, prepared_record, record_made, record_made_at, record_of_next, record_of_owner_next}
use Rattle.log_records.proofs.SameWorlds.{set_at-put_set-same}

-- what an owner shows that has prepared a command
prepared_at_is : (world : World) (key : List ℕ) (meaning : Meaning) (next : Option (List ℕ × Next)) → IsPreparedAt world (Some key) meaning next
    → (done : Members × Response) × (step (set_at world key) meaning ≡ Some done) × (next ≡ Some (key, record { meaning = meaning; members = done.0; reply = done.1 }))
prepared_at_is world key meaning next shown = by (step (set_at world key) meaning) shown
  where
    by : (o : Option (Members × Response)) → ShowsAt key o meaning next → (done : Members × Response) × (o ≡ Some done) × (next ≡ Some (key, record { meaning = meaning; members = done.0; reply = done.1 }))
    by None not_shown = absurd not_shown
    by (Some done) is = (done, refl, is)

pub prepared_some : (world : World) (key : Option (List ℕ)) (meaning : Meaning) (next : Option (List ℕ × Next)) → IsPreparedAt world key meaning next → (n : List ℕ × Next) × (next ≡ Some n)
prepared_some world None meaning next shown = absurd shown
prepared_some world (Some key) meaning next shown =
    let p = prepared_at_is world key meaning next shown in
    ((key, record { meaning = meaning; members = p.0.0; reply = p.0.1 }), p.2)

-- and its set at that key
pub set_prepared : (owner : OwnerView) (key : List ℕ) (set : SetView) (meaning : Meaning) → IsSetAt owner key set → IsPreparedAt owner.world (Some key) meaning owner.next
    → (next : Next) × (owner.next ≡ Some (key, next)) × (set.next ≡ Some next) × IsPreparedFor set.members meaning set.next
set_prepared owner key set meaning at prepared =
    let p = prepared_at_is owner.world key meaning owner.next prepared in
    let n : Next = record { meaning = meaning; members = p.0.0; reply = p.0.1 } in
    let shown : set.next ≡ Some n = at.next ∙ ap (λ (o : Option (List ℕ × Next)). next_for o key) p.2 ∙ ap (λ (b : Bool). if b then Some n else None) (nat_list_eq_equiv.refl key) in
    let steps : step set.members meaning ≡ Some p.0 = ap (λ (m : Members). step m meaning) at.members ∙ p.1 in
    (n, p.2, shown, subst (λ (o : Option (Members × Response)). Shows o meaning set.next) (sym steps) shown)

pub no_set_prepared : (owner : OwnerView) (key : List ℕ) (meaning : Meaning) → HasNoSet owner key → IsPreparedAt owner.world (Some key) meaning owner.next → ⊥
no_set_prepared owner key meaning none prepared =
    let p = prepared_at_is owner.world key meaning owner.next prepared in
    let n : Next = record { meaning = meaning; members = p.0.0; reply = p.0.1 } in
    let shown : next_for owner.next key ≡ Some n = ap (λ (o : Option (List ℕ × Next)). next_for o key) p.2 ∙ ap (λ (b : Bool). if b then Some n else None) (nat_list_eq_equiv.refl key) in
    let no_way : Some n ≡ None = sym shown ∙ none.next in
    cc

pub same_record : (command : Asked) (owner : OwnerView) (key : List ℕ) (set : SetView) (n : Next) → IsSetAt owner key set → owner.next ≡ Some (key, n) → set.next ≡ Some n → next_record command set ≡ prepared_record command owner
same_record command owner key set n at shown here =
    ap (record_of_next command set.members) here ∙ ap (λ (m : Members). effect_record command m n.members) at.members ∙ sym (ap (record_of_owner_next command owner.world) shown)

-- ---- what the command makes of the world
made_at : (command : Asked) (world : World) (key : Option (List ℕ)) (next : Option (List ℕ × Next)) → IsPreparedAt world key command.meaning next
    → record_made_at key command world (act_at world key command.meaning) ≡ record_of_owner_next command world next
made_at command world None next shown = absurd shown
made_at command world (Some key) next shown =
    let p = prepared_at_is world key command.meaning next shown in
    ap (λ (o : Option (Members × Response)). record_made_at (Some key) command world (option_map (λ done. (put_set world key done.0, done.1)) o)) p.1
    ∙ ap (effect_record command (set_at world key)) (set_at-put_set-same world key p.0.0) ∙ sym (ap (record_of_owner_next command world) p.2)

pub record_made_is : (command : Asked) (world : World) (next : Option (List ℕ × Next)) → IsPreparedAt world (key_of command.meaning) command.meaning next
    → record_made command world (act world command.meaning) ≡ record_of_owner_next command world next
record_made_is command world next shown = made_at command world (key_of command.meaning) next shown
