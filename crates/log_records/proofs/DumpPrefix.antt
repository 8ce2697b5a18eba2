-- What a rewrite has written after some of the sets.
use Rattle.std.proofs.Common.{◌≡◌, ℕ, List, [], ◌∷◌, ◌++◌, sym, ◌∙◌, ap, subst, append_assoc, Option}
use Rattle.std.proofs.lemmas.List.{append-nil}
use Rattle.std.proofs.lemmas.Grind.{flat_map-append}
use Rattle.std.specs.FinMap as fin
use Rattle.std.specs.Io.KnownBytes.{append_known}
use Rattle.zset_core.specs.SetsByKey.{World, set_at}
use Rattle.log_records.specs.Records.{Record, text_of_records}
use Rattle.log_records.specs.Dump.{set_records, records_at, dump}
use Rattle.log_records.specs.RewriteOutcome.{TakesPrefix}
use Rattle.resp_wire.proofs.CallerLemmas.{append_known-append_known}
use Rattle.log_records.proofs.RecordPieces.{text_of_records-append, front_all, front_first, front_behind}

records_at-append : (world : World) (a b : List (List ℕ)) → records_at world (a ++ b) ≡ records_at world a ++ records_at world b
records_at-append world a b = flat_map-append (λ key. set_records key (set_at world key)) a b

-- the sets of the first keys were written
pub front_of_image : (world : World) (done rest : List (List ℕ)) (first new : Option (List ℕ)) → fin.keys world ≡ done ++ rest → new ≡ append_known first (text_of_records (records_at world done))
    → TakesPrefix first new (text_of_records (dump world))
front_of_image world done rest first new cut told =
    subst (λ (l : List ℕ). TakesPrefix first new l)
    (sym (ap text_of_records (ap (records_at world) cut ∙ records_at-append world done rest) ∙ text_of_records-append (records_at world done) (records_at world rest)))
    (front_first first new (text_of_records (records_at world done)) (text_of_records (records_at world rest)) (front_all first new _ told))

-- all sets were written
pub all_keys : (world : World) (done rest : List (List ℕ)) → fin.keys world ≡ done ++ rest → rest ≡ [] → records_at world done ≡ dump world
all_keys world done rest cut none = ap (records_at world) (sym (cut ∙ ap (λ (l : List (List ℕ)). done ++ l) none ∙ append-nil done))

module _ (world : World) (done : List (List ℕ)) (key : List ℕ) (rest : List (List ℕ)) (cut : fin.keys world ≡ done ++ key ∷ rest) where
  pub cut_behind : fin.keys world ≡ (done ++ key ∷ []) ++ rest
  cut_behind = cut ∙ sym (append_assoc done (key ∷ []) rest)

  -- the records of one set more
  pub records_more : records_at world (done ++ key ∷ []) ≡ records_at world done ++ set_records key (set_at world key)
  records_more =
      records_at-append world done (key ∷ [])
      ∙ ap (λ (l : List Record). records_at world done ++ l) (append-nil (set_records key (set_at world key)))

  pub told_set : (first old new : Option (List ℕ)) → old ≡ append_known first (text_of_records (records_at world done)) → new ≡ append_known old (text_of_records (set_records key (set_at world key)))
      → new ≡ append_known first (text_of_records (records_at world (done ++ key ∷ [])))
  told_set first old new was now =
      now ∙ ap (λ (k : Option (List ℕ)). append_known k (text_of_records (set_records key (set_at world key)))) was
      ∙ append_known-append_known first (text_of_records (records_at world done)) (text_of_records (set_records key (set_at world key)))
      ∙ ap (append_known first) (sym (ap text_of_records records_more ∙ text_of_records-append (records_at world done) (set_records key (set_at world key))))

  -- a set was not written whole
  pub front_in_set : (first old new : Option (List ℕ)) → old ≡ append_known first (text_of_records (records_at world done)) → TakesPrefix old new (text_of_records (set_records key (set_at world key)))
      → TakesPrefix first new (text_of_records (dump world))
  front_in_set first old new was t =
      let before = text_of_records (records_at world done) in
      let set = text_of_records (set_records key (set_at world key)) in
      let after = text_of_records (records_at world rest) in
      let all : text_of_records (dump world) ≡ before ++ (set ++ after) =
      ap text_of_records (ap (records_at world) cut_behind ∙ records_at-append world (done ++ key ∷ []) rest) ∙ text_of_records-append (records_at world (done ++ key ∷ [])) (records_at world rest)
      ∙ ap (λ (l : List ℕ). l ++ after) (ap text_of_records records_more ∙ text_of_records-append (records_at world done) (set_records key (set_at world key)))
      ∙ append_assoc before set after in
      subst (λ (l : List ℕ). TakesPrefix first new l) (sym all) (front_behind first old new before (set ++ after) was (front_first old new set after t))
