-- What a command names fits into a request.
use Rattle.std.proofs.Common.{ℕ, ◌≤◌, ℤ, List, [], ◌∷◌, map, length, drop, length-drop, arith}
use Rattle.std.specs.List.{AllByRecursion}
use Rattle.resp_wire.specs.RequestEncoding.{IsArgument, IsRequest}
use Rattle.zset_commands.specs.AbstractCommand.{Changes}
use Rattle.zset_commands.specs.MeaningOfForm.{change_of, meaning_of, scored, word_at, IsWhole, IsWholeChange}
use Rattle.zset_commands.specs.RequestLimits.{FitsRequest, IsSpelled, PutsSpelled, PutsSpelledPairs}
use Rattle.zset_commands.specs.declared.parsed_arguments.Form.{Form}
use Rattle.zset_commands.specs.declared.parsed_arguments.Form.TheVariants as forms
use Rattle.zset_commands.specs.declared.parsed_arguments.ChangeForm.{ChangeForm}
use Rattle.zset_commands.specs.declared.parsed_arguments.ChangeForm.TheVariants.{Add, Increase, Remove, RemoveRange}
use Rattle.zset_commands.proofs.ReadWithinLimits.{each_by_recursion, each_drop}

names_spelled : (ps : List (ℤ × List ℕ)) → AllByRecursion IsSpelled ps → AllByRecursion IsArgument (map (λ p. p.1) ps)
names_spelled [] h = tt
names_spelled (p ∷ ps) h = (h.0.1, names_spelled ps h.1)

few_scored : (scores : List ℤ) (words : List (List ℕ)) → length (scored scores words) ≤ length scores
few_scored [] words = omega arith
few_scored (s ∷ scores) [] = omega arith
few_scored (s ∷ scores) (w ∷ []) = omega arith
few_scored (s ∷ scores) (w ∷ m ∷ words) = omega (arith, few_scored scores words)

change_fits : {A : Type 0} (words : List (List ℕ)) (change : ChangeForm A) → IsRequest words → IsWholeChange words change → PutsSpelledPairs (change_of words change)
    → FitsRequest (Changes (word_at words 1) (change_of words change))
change_fits words (Add flags changed first scores) request whole puts = record {
  each = names_spelled (scored scores.items (drop first words)) puts;
  few = omega (arith, request.few, whole.0, whole.2, few_scored scores.items (drop first words));
}
change_fits words (Increase flags given member) request whole puts = record { each = (puts.1, tt); few = omega arith }
change_fits words Remove request whole puts = record {
  each = each_drop 2 words (each_by_recursion words request.each);
  few = omega (arith, request.few, whole, length-drop 2 words);
}
change_fits words (RemoveRange range) request whole puts = record { each = tt; few = omega arith }

pub form_fits : {A : Type 0} (words : List (List ℕ)) (form : Form A) → IsRequest words → IsWhole words form → PutsSpelled (meaning_of words form) → FitsRequest (meaning_of words form)
form_fits words forms.Ping request whole puts = record { each = tt; few = omega arith }
form_fits words (forms.Asks question) request whole puts = record { each = tt; few = omega arith }
form_fits words (forms.Changes change) request whole puts = change_fits words change request whole puts
