-- What a request can carry: keys and members of at most 65,536 bytes, scores of 64 bits, and at most so many arguments.
use Rattle.std.specs.Prelude.{◌≤◌, ◌+◌, ◌*◌, ℕ, ℤ, List, [], ◌∷◌, map, length, IfSome}
use Rattle.std.specs.List.{AllByRecursion}
use Rattle.resp_wire.specs.RequestEncoding.{IsArgument, most_arguments}
use Rattle.score_bounds.specs.ScoreTexts.{IsScore}
use Rattle.zset_commands.specs.AbstractCommand.{Meaning, Ping, Asks, Changes, Change, Add, Increase, Remove, RemoveRange, key_of}

-- a score with its member that a request can carry
abbrev pub IsSpelled : ℤ × List ℕ → Type 0
IsSpelled p = IsScore p.0 × IsArgument p.1

-- a change puts no other pairs into a set
abbrev pub PutsSpelledPairs : Change → Type 0
PutsSpelledPairs (Add flags changed pairs) = AllByRecursion IsSpelled pairs
PutsSpelledPairs (Increase flags given member) = IsSpelled (given, member)
PutsSpelledPairs (Remove members) = Unit {0}
PutsSpelledPairs (RemoveRange range) = Unit {0}

abbrev pub PutsSpelled : Meaning → Type 0
PutsSpelled (Ping text) = Unit {0}
PutsSpelled (Asks key question) = Unit {0}
PutsSpelled (Changes key change) = PutsSpelledPairs change

pub record IsBoundedMeaning (meaning : Meaning) : Type 0 where
  pub key : IfSome (key_of meaning) IsArgument
  pub puts : PutsSpelled meaning

-- the members that a change names, in its order. ZREMRANGEBYSCORE names none
abbrev pub names_of_change : Change → List (List ℕ)
names_of_change (Add flags changed pairs) = map (λ p. p.1) pairs
names_of_change (Increase flags given member) = member ∷ []
names_of_change (Remove names) = names
names_of_change (RemoveRange range) = []

-- the members that a command names to change them
abbrev pub names_in : Meaning → List (List ℕ)
names_in (Ping text) = []
names_in (Asks key question) = []
names_in (Changes key change) = names_of_change change

-- how many arguments a request needs to change the members that a change names: of ZADD also a score for each
abbrev pub change_arguments : Change → ℕ
change_arguments (Add flags changed pairs) = 2 * length pairs
change_arguments (Increase flags given member) = 2
change_arguments (Remove members) = length members
change_arguments (RemoveRange range) = 0

abbrev pub naming_arguments : Meaning → ℕ
naming_arguments (Ping text) = 0
naming_arguments (Asks key question) = 0
naming_arguments (Changes key change) = change_arguments change

-- a request of the same name and key, without options, can change the members that a command names
pub record FitsRequest (meaning : Meaning) : Type 0 where
  pub each : AllByRecursion IsArgument (names_in meaning)
  pub few : 2 + naming_arguments meaning ≤ most_arguments
