-- Commands that are answered with the column as it stands.
use Rattle.std.specs.Prelude.{Some}
use Rattle.ripple_column.specs.Content.{ColumnState}
use Rattle.ripple_column.specs.RangeAnswer.{HasAnswer}
use Rattle.zset_commands.specs.AbstractCommand.{Meaning, Ping, Asks, Changes, Question, Score, Card, Count, ListRange}

-- a question of a member or of how many there are always is, one that names a range where the column has its answer
abbrev pub IsReady : ColumnState → Question → Type 0
IsReady c (Score member) = Unit {0}
IsReady c Card = Unit {0}
IsReady c (Count range) = HasAnswer c range
IsReady c (ListRange range with_scores limit) = HasAnswer c range

-- a command that asks no set, or changes one, never is
abbrev pub IsReadyFor : ColumnState → Meaning → Type 0
IsReadyFor c (Ping text) = ⊥
IsReadyFor c (Asks key question) = IsReady c question
IsReadyFor c (Changes key change) = ⊥

-- ZRANGEBYSCORE with LIMIT lists a window of a range for which the column has its answer
abbrev pub ListsAWindow : ColumnState → Question → Type 0
ListsAWindow c (ListRange range with_scores (Some limit)) = HasAnswer c range
ListsAWindow c _ = ⊥

abbrev pub ListsWindow : ColumnState → Meaning → Type 0
ListsWindow c (Ping text) = ⊥
ListsWindow c (Asks key question) = ListsAWindow c question
ListsWindow c (Changes key change) = ⊥
