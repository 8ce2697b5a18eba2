use Rattle.std.proofs.Common.{ap, sym, ◌∙◌, []}
use Rattle.std.specs.FinMap as fin
use Rattle.std.proofs.lemmas.List.{append-nil}
use Rattle.log_records.specs.Dump.{image}
use Rattle.log_records.specs.Records.{text_of_records}
use Rattle.log_records.specs.Replay.{replay}
use Rattle.log_records.proofs.DumpReplay.{image_leads}
use Rattle.log_records.proofs.DumpRequests.{header_is, image_requests}
use Rattle.log_records.proofs.RecordTexts.{reads_text, nothing_short}
use Rattle.log_records.proofs.dumping.replays_back.Goals as goal

pub returns : goal.returns
returns g c =
    let world = c.args.owner.now.world in
    let records = image world in
    let read = reads_text c.longest.ensures.whole c.longest.ensures.most (text_of_records records) records [] (header_is, image_requests world (fin.keys world) c.bounds.ensures) nothing_short (sym (append-nil (text_of_records records))) in
    record {
      all = record { unfaulted = read.1; replayed = ap (replay fin.empty) read.0 ∙ image_leads c.printed_scores.ensures.read_back c.printed_scores.ensures.plain world c.bounds.ensures };
      whole = read.2;
    }
