use Rattle.score_bounds.proofs.Grammar.{score_value-spelled, SpellsScore-read}
use Rattle.score_bounds.proofs.grammar_laws.score_grammar.Goals as goal

pub returns : goal.returns
returns c = record { spelled = SpellsScore-read; read = score_value-spelled }
