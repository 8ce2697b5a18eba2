-- Requests as bytes (RESP2: an array of bulk strings), and the two arrays that stand for no request.
use Rattle.std.specs.Prelude.{ℕ, ◌<◌, ◌≤◌, List, [], ◌∷◌, ◌++◌, length, decimal, All}
use Rattle.std.specs.List.{flat_map}

-- the most arguments of a request, its command's name among them
abbrev pub most_arguments : ℕ
most_arguments = 1027

-- the most bytes of an argument
abbrev pub longest_argument : ℕ
longest_argument = 65536

-- a number in decimal, and the end of its line
abbrev pub line : ℕ → List ℕ
line n = decimal n ++ 13 ∷ 10 ∷ []

-- an argument, which RESP2 calls a bulk string: `$`, its length, its bytes, the end of the line
abbrev pub argument : List ℕ → List ℕ
argument value = 36 ∷ (line (length value) ++ (value ++ 13 ∷ 10 ∷ []))

-- a request: `*`, the number of its arguments, the arguments
abbrev pub request : List (List ℕ) → List ℕ
request arguments = 42 ∷ (line (length arguments) ++ flat_map argument arguments)

-- an argument is no longer than that
abbrev pub IsArgument : List ℕ → Type 0
IsArgument value = length value ≤ longest_argument

-- a request has an argument or more
pub record IsRequest (arguments : List (List ℕ)) : Type 0 where
  pub some : 0 < length arguments
  pub few : length arguments ≤ most_arguments
  pub each : All IsArgument arguments

-- what a stream consists of: requests, and the empty and the null array, which ask for nothing
pub data Item : Type 0 where
  Ask : (arguments : List (List ℕ)) → Item
  SkipZero : Item
  SkipMinus : Item

-- the bytes of an item: the skips are `*0` and `*-1`, each with its line end
abbrev pub encoding_of : Item → List ℕ
encoding_of (Ask arguments) = request arguments
encoding_of SkipZero = 42 ∷ line 0
encoding_of SkipMinus = 42 ∷ 45 ∷ 49 ∷ 13 ∷ 10 ∷ []

abbrev pub IsItem : Item → Type 0
IsItem (Ask arguments) = IsRequest arguments
IsItem SkipZero = Unit {0}
IsItem SkipMinus = Unit {0}

abbrev pub IsSkip : Item → Type 0
IsSkip (Ask arguments) = ⊥
IsSkip SkipZero = Unit {0}
IsSkip SkipMinus = Unit {0}
