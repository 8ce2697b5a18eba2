-- Where the first wrong byte of a text stands, row by row as in the table of docs/FORMATS.md, by the bytes alone.
use Rattle.std.specs.Prelude.{◌≡◌, ◌≢◌, ◌⊎◌, ℕ, ◌+◌, ◌*◌, ◌<◌, ◌≤◌, List, [], ◌∷◌, ◌++◌, length, decimal, All}
use Rattle.std.specs.List.{flat_map}
use Rattle.resp_messages.specs.RequestEncoding.{most_arguments, longest_argument, line, argument, IsArgument}

-- ---- bytes

abbrev pub IsDigit : ℕ → Type 0
IsDigit b = (48 ≤ b) × (b ≤ 57)

-- the first byte is there, and is another
abbrev pub BeginsOtherwise : ℕ → List ℕ → Type 0
BeginsOtherwise wanted [] = ⊥
BeginsOtherwise wanted (b ∷ more) = b ≢ wanted

-- the first byte is there, and is no digit
abbrev pub BeginsWithNoDigit : List ℕ → Type 0
BeginsWithNoDigit [] = ⊥
BeginsWithNoDigit (b ∷ more) = IsDigit b → ⊥

-- in place of the end of a line stands another first byte, or another second one behind the right first one
abbrev pub EndsNoLine : List ℕ → Type 0
EndsNoLine [] = ⊥
EndsNoLine (a ∷ []) = a ≢ 13
EndsNoLine (a ∷ b ∷ more) = (a ≢ 13) ⊎ ((a ≡ 13) × (b ≢ 10))

-- ---- numbers

-- digits that spell no more than the limit, and a further one that makes it exceeded
pub record Exceeds (limit : ℕ) (text : List ℕ) : Type 0 where
  pub before : ℕ
  pub digit : ℕ
  pub more : List ℕ
  pub within : before ≤ limit
  pub is_digit : digit < 10
  pub beyond : limit < before * 10 + digit
  pub text_is : text ≡ decimal before ++ (48 + digit) ∷ more

-- behind a number stands neither a digit that goes on with it, as none does behind 0, nor the end of the line
abbrev pub IsWrongBehind : ℕ → List ℕ → Type 0
IsWrongBehind number [] = ⊥
IsWrongBehind number (b ∷ more) = EndsNoLine (b ∷ more) × (IsDigit b → number ≡ 0)

-- a number up to the limit, and a wrong byte behind it
pub record EndsWrong (limit : ℕ) (text : List ℕ) : Type 0 where
  pub number : ℕ
  pub behind : List ℕ
  pub within : number ≤ limit
  pub wrong : IsWrongBehind number behind
  pub text_is : text ≡ decimal number ++ behind

-- what begins like -1 goes on or ends otherwise
abbrev pub IsNoMinusOne : List ℕ → Type 0
IsNoMinusOne [] = ⊥
IsNoMinusOne (b ∷ more) = (b ≢ 49) ⊎ ((b ≡ 49) × EndsNoLine more)

-- neither a digit nor a minus; or a minus that begins no -1
abbrev pub BeginsNoCount : List ℕ → Type 0
BeginsNoCount [] = ⊥
BeginsNoCount (b ∷ more) = ((b ≢ 45) × (IsDigit b → ⊥)) ⊎ ((b ≡ 45) × IsNoMinusOne more)

-- ---- the rows

-- the first byte of a request, not `*`
abbrev pub HasNoStar : List ℕ → Type 0
HasNoStar text = BeginsOtherwise 42 text

-- in the count, a digit that makes it exceed the most arguments
pub record HasTooManyArguments (text : List ℕ) : Type 0 where
  pub behind : List ℕ
  pub exceeds : Exceeds most_arguments behind
  pub text_is : text ≡ 42 ∷ behind

-- any other wrong byte from `*` to the end of its line
pub record HasWrongCount (text : List ℕ) : Type 0 where
  pub behind : List ℕ
  pub wrong : BeginsNoCount behind ⊎ EndsWrong most_arguments behind
  pub text_is : text ≡ 42 ∷ behind

-- behind the line of a count stand whole arguments, fewer than it says, and then this
pub record IsDue (text next : List ℕ) : Type 0 where
  pub count : ℕ
  pub whole : List (List ℕ)
  pub most : count ≤ most_arguments
  pub few : length whole < count
  pub each : All IsArgument whole
  pub text_is : text ≡ 42 ∷ (line count ++ (flat_map argument whole ++ next))

-- the first byte of an argument, not `$`
pub record HasNoDollar (text : List ℕ) : Type 0 where
  pub next : List ℕ
  pub due : IsDue text next
  pub wrong : BeginsOtherwise 36 next

-- in a length, a digit that makes it exceed the most bytes
pub record HasTooLong (text : List ℕ) : Type 0 where
  pub behind : List ℕ
  pub due : IsDue text (36 ∷ behind)
  pub exceeds : Exceeds longest_argument behind

-- any other wrong byte from `$` to the end of its line
pub record HasWrongLength (text : List ℕ) : Type 0 where
  pub behind : List ℕ
  pub due : IsDue text (36 ∷ behind)
  pub wrong : BeginsWithNoDigit behind ⊎ EndsWrong longest_argument behind

-- behind the bytes of an argument, not the end of a line
pub record HasNoEnd (text : List ℕ) : Type 0 where
  pub value : List ℕ
  pub behind : List ℕ
  pub due : IsDue text (36 ∷ (line (length value) ++ (value ++ behind)))
  pub fits : IsArgument value
  pub wrong : EndsNoLine behind
