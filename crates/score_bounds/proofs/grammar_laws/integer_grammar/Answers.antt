use Rattle.score_bounds.proofs.Grammar.{integer_value-spelled, SpellsInteger-read}
use Rattle.score_bounds.proofs.grammar_laws.integer_grammar.Goals as goal

pub returns : goal.returns
returns c = record { spelled = SpellsInteger-read; read = integer_value-spelled }
