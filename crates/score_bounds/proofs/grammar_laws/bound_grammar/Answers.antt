use Rattle.score_bounds.proofs.BoundGrammar.{bound_value-spelled, SpellsBound-read}
use Rattle.score_bounds.proofs.grammar_laws.bound_grammar.Goals as goal

pub returns : goal.returns
returns c = record { spelled = SpellsBound-read; read = bound_value-spelled }
