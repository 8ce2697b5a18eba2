use Rattle.std.proofs.Common.{◌≡◌, [], ◌∷◌, ◌++◌, drop, length, refl, arith, sym, ◌∙◌, ap, length-append, rules}
use Rattle.std.specs.Option.{option_copied}
use Rattle.std.specs.FinMap as fin
use Rattle.std.proofs.lemmas.Result.{err_from_is_err_and}
use Rattle.zset_core.specs.SetsByKey.{set_at}
use Rattle.log_records.specs.Dump.{set_records, records_at}
use Rattle.log_records.proofs.DumpPrefix.{front_of_image, front_in_set, cut_behind, told_set, records_more, all_keys}
use Rattle.log_records.proofs.KeyWalk.{left_from, left_is, next_key, there_is, headed, ended, shorter}
use Rattle.append_log.proofs.rewriting.put_sets.Goals as goal

pub keys-init : goal.keys-init
keys-init g c = record { done = []; rest = fin.keys c.args.owner.now.world; cut = refl; next_is = c.key_after-next.ensures; count_is = refl; told = search rules; good = refl }

pub returns-in_err-rows-clause-written : goal.returns-in_err-rows-clause-written
returns-in_err-rows-clause-written g c =
    let i = c.keys.invariant in
    let p = err_from_is_err_and c.from_residual.result c.from_residual.ensures.1 in
    rw (p.1, p.2) (front_of_image c.args.owner.now.world i.done i.rest _ _ i.cut i.told, i.good)

pub returns-in_err-put_set-clause-written : goal.returns-in_err-put_set-clause-written
returns-in_err-put_set-clause-written g c =
    let i = c.keys.invariant in
    let key = c.in-Some.key.now in
    let cut = i.cut ∙ ap (λ l. i.done ++ l) (headed i.rest key (sym (ap option_copied c.in-Some.is) ∙ i.next_is)) in
    let rows = c.deref.ensures.value ∙ c.in_ok-rows.ensures in
    let p = err_from_is_err_and c.from_residual-in_err-put_set.result c.from_residual-in_err-put_set.ensures.1 in
    rw (p.1, p.2) (front_in_set c.args.owner.now.world i.done key (drop 1 i.rest) cut _ _ _ i.told (rw rows at c.in_err-put_set.ensures.written.0), rw i.good at c.in_err-put_set.ensures.written.1)

pub key_after-next-requires-in-Some-clause-present : goal.key_after-next-requires-in-Some-clause-present
key_after-next-requires-in-Some-clause-present g c =
    let i = c.keys.invariant in
    let key = c.in-Some.key.now in
    let cut = i.cut ∙ ap (λ l. i.done ++ l) (headed i.rest key (sym (ap option_copied c.in-Some.is) ∙ i.next_is)) in
    there_is c.args.owner.now.world i.done key (drop 1 i.rest) cut

pub keys-smaller : goal.keys-smaller
keys-smaller g c =
    let i = c.keys.invariant in
    let world = c.args.owner.now.world in
    let key = c.in-Some.key.now in
    let head = headed i.rest key (sym (ap option_copied c.in-Some.is) ∙ i.next_is) in
    let cut = i.cut ∙ ap (λ l. i.done ++ l) head in
    let behind : left_from (fin.keys world) (option_copied c.key_after-next-in-Some.result) ≡ drop 1 i.rest =
    ap (left_from (fin.keys world)) (c.key_after-next-in-Some.ensures ∙ next_key world i.done key (drop 1 i.rest) cut) ∙ left_is world (i.done ++ key ∷ []) (drop 1 i.rest) (cut_behind world i.done key (drop 1 i.rest) cut) in
    let now : left_from (fin.keys world) (option_copied c.keys.next) ≡ i.rest = ap (left_from (fin.keys world)) i.next_is ∙ left_is world i.done i.rest i.cut in
    omega (arith, shorter i.rest key head, ap length behind, ap length now)

pub keys-preserved : goal.keys-preserved
keys-preserved g c =
    let i = c.keys.invariant in
    let world = c.args.owner.now.world in
    let key = c.in-Some.key.now in
    let cut = i.cut ∙ ap (λ l. i.done ++ l) (headed i.rest key (sym (ap option_copied c.in-Some.is) ∙ i.next_is)) in
    let rows = c.deref.ensures.value ∙ c.in_ok-rows.ensures in
    let wrote = rw rows at c.in_ok-put_set.ensures in
    record {
      done = i.done ++ key ∷ [];
      rest = drop 1 i.rest;
      cut = cut_behind world i.done key (drop 1 i.rest) cut;
      next_is = c.key_after-next-in-Some.ensures ∙ next_key world i.done key (drop 1 i.rest) cut;
      count_is = omega (arith, c.saturating_add-count.ensures, i.count_is, wrote.count, ap length (records_more world i.done key (drop 1 i.rest) cut), length-append (records_at world i.done) (set_records key (set_at world key)));
      told = told_set world i.done key (drop 1 i.rest) cut _ _ _ i.told wrote.written.0;
      good = c.in_ok-put_set.ensures.written.1 ∙ i.good;
    }

pub returns-in-Ok-clause-count : goal.returns-in-Ok-clause-count
returns-in-Ok-clause-count g c =
    let i = c.keys.invariant in
    rw (all_keys c.args.owner.now.world i.done i.rest i.cut (ended i.rest (sym (ap option_copied c.in_default.is) ∙ i.next_is))) at i.count_is

pub returns-in-Ok-clause-written : goal.returns-in-Ok-clause-written
returns-in-Ok-clause-written g c =
    let i = c.keys.invariant in
    (c.in-Ok.ensures.told ∙ (rw (all_keys c.args.owner.now.world i.done i.rest i.cut (ended i.rest (sym (ap option_copied c.in_default.is) ∙ i.next_is))) at i.told), c.in-Ok.ensures.failures ∙ i.good)

pub returns-in-Err-clause-written : goal.returns-in-Err-clause-written
returns-in-Err-clause-written g c =
    let i = c.keys.invariant in
    (front_of_image c.args.owner.now.world i.done i.rest _ _ i.cut (c.in-Err.ensures.told ∙ i.told), search rules)
