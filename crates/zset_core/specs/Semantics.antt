-- What a command makes of a sorted set, and of the world at its key, and its reply.
use Rattle.std.specs.Prelude.{ℕ, ◌+◌, ◌-◌, Bool, true, false, not, ◌&&◌, ◌||◌, if◌then◌else◌, ℤ, pos, negsuc, ◌+ℤ◌, int_le, List, [], ◌∷◌, map, length, take, drop, codes, Option, None, Some, option_map}
use Rattle.std.specs.List.{filter, flat_map}
use Rattle.std.specs.Ordering.{int_eq}
use Rattle.std.specs.FinMap as map_of
use Rattle.resp_wire.specs.Response.{Response, Integer, BulkString, NullBulk, Array, SimpleString}
use Rattle.score_bounds.specs.declared.ranges_and_cuts.Range.{Range}
use Rattle.score_bounds.specs.RangesAndCuts.{is_in}
use Rattle.score_bounds.specs.ScoreTexts.{is_score, score_text}
use Rattle.zset_core.specs.SortedSet.{Members, Pair, listing}
use Rattle.zset_core.specs.SetsByKey.{World, put_set, set_at}
use Rattle.zset_commands.specs.AbstractCommand.{Meaning, key_of, Ping, Asks, Changes, Question, Score, Card, Count, ListRange, Change, Add, Increase, Remove, RemoveRange}
use Rattle.zset_commands.specs.declared.flags.Flags.{Flags}
use Rattle.zset_core.specs.declared.pair_outcome.Outcome.{Outcome}
use Rattle.zset_core.specs.declared.pair_outcome.Outcome.TheVariants.{Stopped, Added, Changed, Same}
use Rattle.zset_commands.specs.declared.limit.Limit.{Limit}

-- GT keeps a member's score from one that is not greater, LT from one that is not less
abbrev pub keeps_score : Flags → ℤ → ℤ → Bool
keeps_score flags old score = (flags.gt && int_le score old) || (flags.lt && int_le old score)

-- what a pair of ZADD comes to, by the score that its member has
abbrev pub outcome_of : Flags → Option ℤ → ℤ → Outcome
outcome_of flags None score = if flags.xx then Stopped else Added
outcome_of flags (Some old) score =
    if flags.nx then Stopped else if keeps_score flags old score then Stopped else if int_eq score old then Same else Changed

-- whether it is written
abbrev pub writes : Outcome → Bool
writes Stopped = false
writes Added = true
writes Changed = true
writes Same = false

-- the set after one pair
abbrev pub put_one : Flags → Members → List ℕ → ℤ → Members
put_one flags members member score =
    if writes (outcome_of flags (map_of.get members member) score) then map_of.insert members member score else members

-- the set after each pair in turn
abbrev pub put_all : Flags → Members → List Pair → Members
put_all flags members [] = members
put_all flags members (p ∷ ps) = put_all flags (put_one flags members p.1 p.0) ps

-- what a pair counts in the reply: those added, with CH also those whose score was changed
abbrev pub counted : Bool → Outcome → ℕ
counted changed Stopped = 0
counted changed Added = 1
counted changed Changed = if changed then 1 else 0
counted changed Same = 0

abbrev pub count_all : Flags → Bool → Members → List Pair → ℕ
count_all flags changed members [] = 0
count_all flags changed members (p ∷ ps) =
    counted changed (outcome_of flags (map_of.get members p.1) p.0) + count_all flags changed (put_one flags members p.1 p.0) ps

-- with INCR, NX stops the pair of a member that is there, and XX that of one that is not, before the sum is formed; GT and LT
-- are asked of the sum
abbrev pub is_barred : Flags → Option ℤ → Bool
is_barred flags None = flags.xx
is_barred flags (Some old) = flags.nx

-- the score that INCR gives a member, or none where the sum is no score
abbrev pub sum_of : Option ℤ → ℤ → Option ℤ
sum_of None given = Some given
sum_of (Some old) given = if is_score (old +ℤ given) then Some (old +ℤ given) else None

-- the reply to INCR
abbrev pub increase_reply : Outcome → ℤ → Response
increase_reply Stopped score = NullBulk
increase_reply Added score = BulkString (score_text score)
increase_reply Changed score = BulkString (score_text score)
increase_reply Same score = BulkString (score_text score)

abbrev pub increase : Flags → Members → List ℕ → ℤ → Option (Members × Response)
increase flags members member given =
    let old = map_of.get members member in
    if is_barred flags old then Some (members, NullBulk)
    else option_map (λ score. (put_one flags members member score, increase_reply (outcome_of flags old score) score)) (sum_of old given)

-- the set without some members
abbrev pub remove_all : Members → List (List ℕ) → Members
remove_all members [] = members
remove_all members (name ∷ names) = remove_all (map_of.remove members name) names

-- the members whose scores are outside a range
unfoldable pub without_range : Range → Members → Members
without_range range members = map_of.from_entries (filter (λ entry. not (is_in range entry.1)) (map_of.entries members))

-- the reply that tells a score, or that there is none
abbrev pub score_reply : Option ℤ → Response
score_reply None = NullBulk
score_reply (Some score) = BulkString (score_text score)

-- LIMIT: pairs from an offset on, none where it is negative
abbrev pub from_offset : ℤ → List Pair → List Pair
from_offset (pos n) ps = drop n ps
from_offset (negsuc n) ps = []

-- and as many of them as the count says, all where it is negative
abbrev pub at_most : ℤ → List Pair → List Pair
at_most (pos n) ps = take n ps
at_most (negsuc n) ps = ps

abbrev pub apply_limit : Option Limit → List Pair → List Pair
apply_limit None ps = ps
apply_limit (Some limit) ps = at_most limit.count (from_offset limit.offset ps)

-- the elements of the reply: members, with WITHSCORES each followed by its score
abbrev pub elements : Bool → List Pair → List (List ℕ)
elements false ps = map (λ p. p.1) ps
elements true ps = flat_map (λ p. p.1 ∷ score_text p.0 ∷ []) ps

-- the reply to a question of a set
abbrev pub answer : Members → Question → Response
answer members (Score member) = score_reply (map_of.get members member)
answer members Card = Integer (pos (map_of.len members))
answer members (Count range) = Integer (pos (length (listing (is_in range) members)))
answer members (ListRange range with_scores limit) = Array (elements with_scores (apply_limit limit (listing (is_in range) members)))

-- what a change leaves of a set, and its reply; none where a sum of INCR is no score
abbrev pub changed_by : Members → Change → Option (Members × Response)
changed_by members (Add flags changed pairs) = Some (put_all flags members pairs, Integer (pos (count_all flags changed members pairs)))
changed_by members (Increase flags given member) = increase flags members member given
changed_by members (Remove names) =
    Some (remove_all members names, Integer (pos (map_of.len members - map_of.len (remove_all members names))))
changed_by members (RemoveRange range) = Some (without_range range members, Integer (pos (length (listing (is_in range) members))))

-- the reply to PING
abbrev pub echo : Option (List ℕ) → Response
echo None = SimpleString (codes "PONG")
echo (Some text) = BulkString text

-- what a command leaves of the set that it asks for, and its reply; none where a sum of INCR is no score
abbrev pub step : Members → Meaning → Option (Members × Response)
step members (Ping text) = Some (members, echo text)
step members (Asks key question) = Some (members, answer members question)
step members (Changes key change) = changed_by members change

-- what a command makes of the set at its key, if it has one
abbrev pub act_at : World → Option (List ℕ) → Meaning → Option (World × Response)
act_at world None meaning = option_map (λ done. (world, done.1)) (step map_of.empty meaning)
act_at world (Some key) meaning = option_map (λ done. (put_set world key done.0, done.1)) (step (set_at world key) meaning)

-- what a command leaves of a world, and its reply; none where a sum of INCR is no score
abbrev pub act : World → Meaning → Option (World × Response)
act world meaning = act_at world (key_of meaning) meaning
