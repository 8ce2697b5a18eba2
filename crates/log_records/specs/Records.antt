-- The text of an append file: records one behind the other, each the encoding in RESP2 of a request whose command changes sets.
use Rattle.std.specs.Prelude.{◌≡◌, ℕ, ◌≤◌, List, ◌++◌, length, take, None, IsOkAnd, IsTrue}
use Rattle.std.specs.List.{flat_map, AllByRecursion}
use Rattle.resp_wire.specs.RequestEncoding.{request, IsRequest}
use Rattle.resp_wire.specs.Stream.{requests, fault}
use Rattle.zset_commands.specs.AbstractCommand.{is_writing}
use Rattle.zset_commands.specs.CommandGrammar.{asked}

-- a record: the arguments of a command
abbrev pub Record : Type 0
Record = List (List ℕ)

-- the bytes of records
abbrev pub text_of_records : List Record → List ℕ
text_of_records records = flat_map request records

-- a request that is read as one of the commands that change sets: ZADD, ZREM, ZREMRANGEBYSCORE
pub record IsRecord (words : Record) : Type 0 where
  pub is_request : IsRequest words
  pub writes : IsOkAnd (asked words) (λ meaning. IsTrue (is_writing meaning))

abbrev pub AreRecords : List Record → Type 0
AreRecords records = AllByRecursion IsRecord records

-- a prefix of the text of one record, perhaps nothing or all of it
pub record IsRecordPrefix (bytes : List ℕ) : Type 0 where
  pub record_of : Record
  pub more : List ℕ
  pub is_record : IsRecord record_of
  pub whole : bytes ++ more ≡ request record_of

-- bytes that a reload takes without a fault: their requests are the first of these records, and all of those
-- whose text the bytes reach
pub record ReadsPrefix (bytes : List ℕ) (records : List Record) : Type 0 where
  pub unfaulted : fault bytes ≡ None
  pub count : ℕ
  pub requests_are : requests bytes ≡ take count records
  pub reaches : (k : ℕ) → k ≤ length records → length (text_of_records (take k records)) ≤ length bytes → k ≤ count
