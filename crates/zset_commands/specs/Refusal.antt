-- Refusals: their numbers and texts, which are this project's own, and when a command that was read is refused.
use Rattle.std.specs.Prelude.{◌≡◌, ℕ, List, Option, None, codes}
use Rattle.zset_commands.specs.declared.refusal.Refusal.{Refusal}
use Rattle.zset_commands.specs.declared.refusal.Refusal.TheVariants.{NoMemory, UnknownCommand, WrongArity, Syntax, NxAndXx, GtLtNx, IncrPair, BadScore, BadBound, BadInteger, TableFull, Spent, ScoreOverflow, LogBroken, LogFull, LogRefused, OutOfStep}

-- of 2 to 16 the one with the least number is told; 17 is looked for before 12, and 1 comes wherever an allocation fails
abbrev pub refusal_number : Refusal → ℕ
refusal_number NoMemory = 1
refusal_number UnknownCommand = 2
refusal_number WrongArity = 3
refusal_number Syntax = 4
refusal_number NxAndXx = 5
refusal_number GtLtNx = 6
refusal_number IncrPair = 7
refusal_number BadScore = 8
refusal_number BadBound = 9
refusal_number BadInteger = 10
refusal_number TableFull = 11
refusal_number Spent = 12
refusal_number ScoreOverflow = 13
refusal_number LogBroken = 14
refusal_number LogFull = 15
refusal_number LogRefused = 16
refusal_number OutOfStep = 17

-- the text of the error reply, behind its '-'
abbrev pub refusal_text : Refusal → List ℕ
refusal_text NoMemory = codes "ERR 1 out of memory"
refusal_text UnknownCommand = codes "ERR 2 unknown command"
refusal_text WrongArity = codes "ERR 3 wrong number of arguments"
refusal_text Syntax = codes "ERR 4 syntax error"
refusal_text NxAndXx = codes "ERR 5 NX and XX exclude each other"
refusal_text GtLtNx = codes "ERR 6 GT, LT and NX exclude each other"
refusal_text IncrPair = codes "ERR 7 INCR takes one pair"
refusal_text BadScore = codes "ERR 8 score is not a whole number of 64 bits"
refusal_text BadBound = codes "ERR 9 min or max is not a score bound"
refusal_text BadInteger = codes "ERR 10 LIMIT takes two whole numbers"
refusal_text TableFull = codes "ERR 11 no place left for a key"
refusal_text Spent = codes "ERR 12 place is spent"
refusal_text ScoreOverflow = codes "ERR 13 score out of range"
refusal_text LogBroken = codes "ERR 14 append file failed earlier"
refusal_text LogFull = codes "ERR 15 append file is full"
refusal_text LogRefused = codes "ERR 16 append file failed"
refusal_text OutOfStep = codes "ERR 17 place and pass disagree"

-- out of memory at any time, and where the definition of the commands has no answer: a sum of INCR is no score
abbrev pub IsRefused : {X : Type 0} → Refusal → Option X → Type 0
IsRefused NoMemory result = Unit {0}
IsRefused ScoreOverflow result = result ≡ None
IsRefused _ result = ⊥
