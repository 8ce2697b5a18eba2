-- What a command keeps of its words once they are read: places of words and numbers, so that running it reads no text again.
use Rattle.std.specs.Prelude.{◌≡◌, ℕ, ◌+◌, ◌*◌, ◌<◌, ◌≤◌, ℤ, List, [], ◌∷◌, length, drop, slice_get}
use Rattle.std.specs.List.{slice_index_or}
use Rattle.zset_commands.specs.AbstractCommand.{Meaning, Question, Change}
use Rattle.zset_commands.specs.AbstractCommand as meanings
use Rattle.zset_commands.specs.declared.given_pairs.GivenPairs.{GivenPairs}
use Rattle.zset_commands.specs.declared.parsed_arguments.Form.{Form}
use Rattle.zset_commands.specs.declared.parsed_arguments.Form.TheVariants.{Ping, Asks, Changes}
use Rattle.zset_commands.specs.declared.parsed_arguments.QuestionForm.{QuestionForm}
use Rattle.zset_commands.specs.declared.parsed_arguments.QuestionForm.TheVariants.{Score, Card, Count, ListRange}
use Rattle.zset_commands.specs.declared.parsed_arguments.ChangeForm.{ChangeForm}
use Rattle.zset_commands.specs.declared.parsed_arguments.ChangeForm.TheVariants.{Add, Increase, Remove, RemoveRange}

-- a word of a request, or the empty one past its end
abbrev pub word_at : List (List ℕ) → ℕ → List ℕ
word_at words place = slice_index_or words place []

-- scores with the members of the pairs that they were read from
abbrev pub scored : List ℤ → List (List ℕ) → List (ℤ × List ℕ)
scored (score ∷ scores) (text ∷ member ∷ more) = (score, member) ∷ scored scores more
scored _ _ = []

-- the pairs of a ZADD
abbrev pub given_pairs : {A : Type 0} → GivenPairs A → List (ℤ × List ℕ)
given_pairs pairs = scored pairs.scores.now pairs.arguments.now

-- what a question asks, by the words of its command and its form
abbrev pub question_of : List (List ℕ) → QuestionForm → Question
question_of words Score = meanings.Score (word_at words 2)
question_of words Card = meanings.Card
question_of words (Count range) = meanings.Count range
question_of words (ListRange range with_scores limit) = meanings.ListRange range with_scores limit

-- what a change does, by the words of its command and its form
abbrev pub change_of : {A : Type 0} → List (List ℕ) → ChangeForm A → Change
change_of words (Add flags changed first scores) = meanings.Add flags changed (scored scores.items (drop first words))
change_of words (Increase flags given member) = meanings.Increase flags given (word_at words member)
change_of words Remove = meanings.Remove (drop 2 words)
change_of words (RemoveRange range) = meanings.RemoveRange range

-- what a command asks for, by its words and its form
abbrev pub meaning_of : {A : Type 0} → List (List ℕ) → Form A → Meaning
meaning_of words Ping = meanings.Ping (slice_get words 1)
meaning_of words (Asks question) = meanings.Asks (word_at words 1) (question_of words question)
meaning_of words (Changes change) = meanings.Changes (word_at words 1) (change_of words change)

-- the words that a question speaks of are there
abbrev pub IsWholeQuestion : List (List ℕ) → QuestionForm → Type 0
IsWholeQuestion words Score = length words ≡ 3
IsWholeQuestion words Card = length words ≡ 2
IsWholeQuestion words (Count range) = length words ≡ 4
IsWholeQuestion words (ListRange range with_scores limit) = 4 ≤ length words

-- those that a change speaks of
abbrev pub IsWholeChange : {A : Type 0} → List (List ℕ) → ChangeForm A → Type 0
IsWholeChange words (Add flags changed first scores) = (2 ≤ first) × (0 < length scores.items) × (first + 2 * length scores.items ≡ length words)
IsWholeChange words (Increase flags given member) = (1 < length words) × (member < length words)
IsWholeChange words Remove = 2 < length words
IsWholeChange words (RemoveRange range) = length words ≡ 4

abbrev pub IsWhole : {A : Type 0} → List (List ℕ) → Form A → Type 0
IsWhole words Ping = Unit {0}
IsWhole words (Asks question) = IsWholeQuestion words question
IsWhole words (Changes change) = IsWholeChange words change
