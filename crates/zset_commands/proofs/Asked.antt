-- What a request is read as, by the first refusal whose condition holds and by its meaning.
use Rattle.std.proofs.Common.{◌≡◌, ℕ, List, refl, Some, None, Ok, Err}
use Rattle.zset_commands.specs.AbstractCommand.{Meaning}
use Rattle.zset_commands.specs.CommandGrammar.{first_of, conditions, refusal_of, meaning, asked}
use Rattle.zset_commands.specs.declared.refusal.Refusal.{Refusal}

pub asked-ok : (words : List (List ℕ)) (value : Meaning) → first_of (conditions words) ≡ None → meaning words ≡ Some value → asked words ≡ Ok value
unfolding asked refusal_of
asked-ok words value unrefused means = rw (unrefused, means) refl

pub asked-err : (words : List (List ℕ)) (refusal : Refusal) → first_of (conditions words) ≡ Some refusal → asked words ≡ Err refusal
unfolding asked refusal_of
asked-err words refusal refused = rw refused refl
