use Rattle.std.proofs.Common.{◌≡◌, [], ◌∷◌, take}
use Rattle.std.specs.Prelude.{codes}
use Rattle.std.specs.List.{flat_map}
use Rattle.score_bounds.specs.ScoreTexts.{score_text}
use Rattle.log_records.proofs.dumping.words_of.Given as goal

abbrev pub invariant-loop-row : goal.invariant-loop-row
invariant-loop-row g l = l.words.items ≡ codes "ZADD" ∷ (l.key ∷ flat_map (λ p. score_text p.0 ∷ p.1 ∷ []) (take l.row-index l.pairs))
