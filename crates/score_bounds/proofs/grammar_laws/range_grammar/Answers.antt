use Rattle.score_bounds.proofs.BoundGrammar.{range_value-spelled, SpellsRange-read}
use Rattle.score_bounds.proofs.grammar_laws.range_grammar.Goals as goal

pub returns : goal.returns
returns c = record { spelled = SpellsRange-read; read = range_value-spelled }
