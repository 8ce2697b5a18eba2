use Rattle.std.proofs.Common.{refl, ◌≡◌, ◌<◌, ◌∷◌, [], ◌++◌, rules, arith, ◌∙◌, ap, length, take, drop, min, length-drop}
use Rattle.std.proofs.lemmas.List.{length_push}
use Rattle.std.proofs.lemmas.Result.{err_from_is_err_and}
use Rattle.log_records.proofs.RecordPieces.{cut_more, told_more, front_of_set, take_at_most, drop_at_most}
use Rattle.log_records.proofs.dumping.put_set.Goals as goal

pub returns-in_err-put_record-clause-written : goal.returns-in_err-put_record-clause-written
returns-in_err-put_record-clause-written g c =
    let i = c.pieces.invariant in
    let rest = c.pieces.rest.now in
    let cut_at : c.min.result ≡ min 512 (length rest) = search rules in
    let some : 0 < length rest = search rules in
    let piece = c.split_at.ensures.front ∙ ap (λ n. take n rest) cut_at ∙ take_at_most 512 (length rest) rest refl in
    let p = err_from_is_err_and c.from_residual.result c.from_residual.ensures.1 in
    rw (p.1, p.2) (front_of_set c.args.key.now c.args.rows.now rest i.done i.cut some _ _ _ i.told (rw piece at c.in_err-put_record.ensures.0), rw i.good at c.in_err-put_record.ensures.1)

pub pieces-preserved : goal.pieces-preserved
pieces-preserved g c =
    let i = c.pieces.invariant in
    let rest = c.pieces.rest.now in
    let cut_at : c.min.result ≡ min 512 (length rest) = search rules in
    let some : 0 < length rest = search rules in
    let piece = c.split_at.ensures.front ∙ ap (λ n. take n rest) cut_at ∙ take_at_most 512 (length rest) rest refl in
    let behind = c.split_at.ensures.back ∙ ap (λ n. drop n rest) cut_at ∙ drop_at_most 512 (length rest) rest refl in
    record {
      done = i.done ++ take 512 rest ∷ [];
      cut = rw behind (cut_more c.args.key.now c.args.rows.now rest i.done i.cut some);
      count_is = omega (arith, i.count_is, length_push i.done (take 512 rest));
      few = omega (arith, i.few, some, ap length behind, length-drop 512 rest);
      told = told_more c.args.key.now c.args.rows.now rest i.done i.cut some _ _ _ i.told (rw piece at c.in_ok-put_record.ensures.0);
      good = c.in_ok-put_record.ensures.1 ∙ i.good;
    }
