-- What a command asks for, whatever words it came in (Redis command pages of PING, ZADD, ZREM, ZREMRANGEBYSCORE, ZSCORE, ZCARD, ZCOUNT,
-- ZRANGEBYSCORE).
use Rattle.std.specs.Prelude.{ℕ, Bool, true, false, not, ◌||◌, ℤ, List, Option, None, Some}
use Rattle.score_bounds.specs.declared.ranges_and_cuts.Range.{Range}
use Rattle.zset_commands.specs.declared.flags.Flags.{Flags}
use Rattle.zset_commands.specs.declared.limit.Limit.{Limit}

-- a question of a set, which leaves its members as they are
pub data Question : Type 0 where
  -- ZSCORE
  Score : (member : List ℕ) → Question
  -- ZCARD
  Card : Question
  -- ZCOUNT
  Count : (range : Range) → Question
  -- ZRANGEBYSCORE
  ListRange : (range : Range) (with_scores : Bool) (limit : Option Limit) → Question

-- a change of a set
pub data Change : Type 0 where
  -- ZADD: scores with their members; `changed` is the option CH
  Add : (flags : Flags) (changed : Bool) (pairs : List (ℤ × List ℕ)) → Change
  -- ZADD with INCR: what is added to the score of a member
  Increase : (flags : Flags) (given : ℤ) (member : List ℕ) → Change
  -- ZREM
  Remove : (members : List (List ℕ)) → Change
  -- ZREMRANGEBYSCORE
  RemoveRange : (range : Range) → Change

pub data Meaning : Type 0 where
  -- PING, with the text to repeat
  Ping : (text : Option (List ℕ)) → Meaning
  -- a question of the set at a key
  Asks : (key : List ℕ) (question : Question) → Meaning
  -- a change of the set at a key
  Changes : (key : List ℕ) (change : Change) → Meaning

-- the key of the set that a command asks for
abbrev pub key_of : Meaning → Option (List ℕ)
key_of (Ping text) = None
key_of (Asks key question) = Some key
key_of (Changes key change) = Some key

-- whether a command is one of those that change sets
abbrev pub is_writing : Meaning → Bool
is_writing (Ping text) = false
is_writing (Asks key question) = false
is_writing (Changes key change) = true

-- whether a change makes a set where its key has none: ZADD without XX
abbrev pub makes_a_set : Change → Bool
makes_a_set (Add flags changed pairs) = not flags.xx
makes_a_set (Increase flags given member) = not flags.xx
makes_a_set (Remove members) = false
makes_a_set (RemoveRange range) = false

-- whether a command makes a set where its key has none: a ZADD without XX
abbrev pub is_creating : Meaning → Bool
is_creating (Ping text) = false
is_creating (Asks key question) = false
is_creating (Changes key change) = makes_a_set change

-- whether a change is a ZADD with options, CH and INCR among them
abbrev pub is_optioned : Change → Bool
is_optioned (Add flags changed pairs) = flags.nx || flags.xx || flags.gt || flags.lt || changed
is_optioned (Increase flags given member) = true
is_optioned (Remove members) = false
is_optioned (RemoveRange range) = false

abbrev pub has_options : Meaning → Bool
has_options (Ping text) = false
has_options (Asks key question) = false
has_options (Changes key change) = is_optioned change

-- whether a change takes members out and adds none: ZREM and ZREMRANGEBYSCORE
abbrev pub takes_out : Change → Bool
takes_out (Add flags changed pairs) = false
takes_out (Increase flags given member) = false
takes_out (Remove members) = true
takes_out (RemoveRange range) = true

abbrev pub is_removing : Meaning → Bool
is_removing (Ping text) = false
is_removing (Asks key question) = false
is_removing (Changes key change) = takes_out change

-- the range whose members a change removes, if it removes those of a range
abbrev pub range_of_change : Change → Option Range
range_of_change (Add flags changed pairs) = None
range_of_change (Increase flags given member) = None
range_of_change (Remove members) = None
range_of_change (RemoveRange range) = Some range

abbrev pub range_to_remove : Meaning → Option Range
range_to_remove (Ping text) = None
range_to_remove (Asks key question) = None
range_to_remove (Changes key change) = range_of_change change

-- a command as contracts see it: the words that it came in, and what they ask for
pub record Asked : Type 0 where
  pub words : List (List ℕ)
  pub meaning : Meaning
