use Rattle.score_bounds.proofs.Grammar.{score_value-score_text, IsPlain-score_text}
use Rattle.score_bounds.proofs.grammar_laws.printed_scores.Goals as goal

pub returns : goal.returns
returns c = record { read_back = score_value-score_text; plain = IsPlain-score_text }
