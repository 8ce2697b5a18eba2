use Rattle.std.proofs.Common.{◌∙◌, ◌++◌, ℕ, ℤ, List, Option, SFits, w64, to_z-of_z, ap, sym, rules, append-nil}
use Rattle.std.specs.List.{flat_map}
use Rattle.resp_wire.specs.RequestEncoding.{argument}
use Rattle.log_records.specs.EffectRecords.{words_behind}
use Rattle.log_records.proofs.EntryTexts.{bytes_scored, on_ok}
use Rattle.log_records.proofs.record.write_entry.Goals as goal

pub returns-in-None : goal.returns-in-None
returns-in-None g c =
    let out = c.args.text.now.items in
    on_ok c.write_bulk.result _ _ (λ is. is ∙ ap (λ (l : List ℕ). out ++ l) (sym (ap (λ (o : Option ℤ). flat_map argument (words_behind c.args.member.now o)) c.in-None.is ∙ append-nil (argument c.args.member.now)))) c.write_bulk.ensures.ok

pub returns-in_ok-write_number_bulk-in-Some : goal.returns-in_ok-write_number_bulk-in-Some
returns-in_ok-write_number_bulk-in-Some g c =
    let out = c.args.text.now.items in
    let f : SFits w64 c.in-Some.score = search rules in
    on_ok c.write_bulk-in-Some.result _ _ (λ is. bytes_scored out c.write_number_bulk.new.out.items c.write_bulk-in-Some.new.out.items c.args.member.now c.in-Some.score _ (to_z-of_z f) c.in_ok-write_number_bulk-in-Some.ensures.ok is
    ∙ ap (λ (o : Option ℤ). out ++ flat_map argument (words_behind c.args.member.now o)) (sym c.in-Some.is)) c.write_bulk-in-Some.ensures.ok
