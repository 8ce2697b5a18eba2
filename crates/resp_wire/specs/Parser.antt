-- What stands at the start of a text, from left to right: a value and the bytes behind it; or the text ends
-- too soon to say; or there is a byte that no encoding allows, and its place says which fault it is.
use Rattle.std.specs.Prelude.{ℕ, zero, suc, ◌+◌, ◌*◌, ◌-◌, List, [], ◌∷◌, length, take, drop, Option, Some, None, Result, Ok, Err, nat_lt, ◌==◌, if◌then◌else◌}
use Rattle.std.specs.Char.{is_ascii_digit}
use Rattle.resp_wire.specs.declared.fault.ProtocolFault.{ProtocolFault}
use Rattle.resp_wire.specs.declared.fault.ProtocolFault.TheVariants.{NotAnArray, BadNumber, TooManyArguments, TooLong, BadBulk}
use Rattle.resp_wire.specs.declared.fault.Stop.{Stop}
use Rattle.resp_wire.specs.declared.fault.Stop.TheVariants.{Short, Wrong}
use Rattle.resp_messages.specs.RequestEncoding.{most_arguments, longest_argument, Item, Ask, SkipZero, SkipMinus}

-- one thing after another
infixl 10 ◌>>=◌
abbrev pub ◌>>=◌ : {A B : Type 0} → Result A Stop → (A → Result B Stop) → Result B Stop
(Ok x) >>= f = f x
(Err e) >>= f = Err e

-- one byte that has to stand there
unfoldable pub byte_at : ℕ → ProtocolFault → List ℕ → Result (List ℕ) Stop
byte_at wanted fault [] = Err Short
byte_at wanted fault (b ∷ bytes) = if b == wanted then Ok bytes else Err (Wrong fault)

-- the end of a line
unfoldable pub line_end_at : ProtocolFault → List ℕ → Result (List ℕ) Stop
line_end_at fault bytes = byte_at 13 fault bytes >>= byte_at 10 fault

-- the digits that are left of a number whose first ones make n, and the end of its line
unfoldable pub digits_at : ℕ → ProtocolFault → ℕ → List ℕ → Result (ℕ × List ℕ) Stop
digits_at limit over n [] = Err Short
digits_at limit over n (b ∷ bytes) =
    if is_ascii_digit b
    then (if n == 0 then Err (Wrong BadNumber)
    else (if nat_lt limit (n * 10 + (b - 48)) then Err (Wrong over) else digits_at limit over (n * 10 + (b - 48)) bytes))
    else (line_end_at BadNumber (b ∷ bytes) >>= λ rest. Ok (n, rest))

-- a number up to the limit, with no sign and no leading zero, and the end of its line
unfoldable pub number_at : ℕ → ProtocolFault → List ℕ → Result (ℕ × List ℕ) Stop
number_at limit over [] = Err Short
number_at limit over (b ∷ bytes) = if is_ascii_digit b then digits_at limit over (b - 48) bytes else Err (Wrong BadNumber)

-- so many bytes, and the end of a line
unfoldable pub body_at : ℕ → List ℕ → Result (List ℕ × List ℕ) Stop
body_at n bytes = if nat_lt (length bytes) n then Err Short else (line_end_at BadBulk (drop n bytes) >>= λ rest. Ok (take n bytes, rest))

-- an argument
unfoldable pub argument_at : List ℕ → Result (List ℕ × List ℕ) Stop
argument_at bytes = byte_at 36 BadBulk bytes >>= λ rest. (number_at longest_argument TooLong rest >>= λ n. body_at n.0 n.1)

-- so many arguments
unfoldable pub arguments_at : ℕ → List ℕ → Result (List (List ℕ) × List ℕ) Stop
arguments_at zero bytes = Ok ([], bytes)
arguments_at (suc n) bytes = argument_at bytes >>= λ first. (arguments_at n first.1 >>= λ others. Ok (first.0 ∷ others.0, others.1))

-- the number behind `*`, where None is the -1, and the end of its line
unfoldable pub count_at : List ℕ → Result (Option ℕ × List ℕ) Stop
count_at [] = Err Short
count_at (b ∷ bytes) =
    if b == 45 then (byte_at 49 BadNumber bytes >>= λ rest. (line_end_at BadNumber rest >>= λ after. Ok (None, after)))
    else (number_at most_arguments TooManyArguments (b ∷ bytes) >>= λ n. Ok (Some n.0, n.1))

-- the first line of an item
unfoldable pub head_at : List ℕ → Result (Option ℕ × List ℕ) Stop
head_at bytes = byte_at 42 NotAnArray bytes >>= count_at

-- what follows that line
unfoldable pub behind_head : Option ℕ → List ℕ → Result (Item × List ℕ) Stop
behind_head None bytes = Ok (SkipMinus, bytes)
behind_head (Some zero) bytes = Ok (SkipZero, bytes)
behind_head (Some (suc n)) bytes = arguments_at (suc n) bytes >>= λ arguments. Ok (Ask arguments.0, arguments.1)

-- a request or a skip
unfoldable pub item_at : List ℕ → Result (Item × List ℕ) Stop
item_at bytes = head_at bytes >>= λ head. behind_head head.0 head.1
