-- Replies by RESP2's names of their types, and as bytes.
use Rattle.std.specs.Prelude.{ℕ, ℤ, List, [], ◌∷◌, ◌++◌, length}
use Rattle.std.specs.List.{flat_map}
use Rattle.std.specs.Fmt.{signed_decimal}
use Rattle.resp_messages.specs.declared.reply.Reply.{Reply}
use Rattle.resp_messages.specs.declared.reply.Reply.TheVariants.{Int, Bulk, Null, List as Listed, Simple, Fault}
use Rattle.resp_messages.specs.RequestEncoding.{line, argument}

-- a reply, whatever memory it stands in
pub data Response : Type 0 where
  Integer : (number : ℤ) → Response
  BulkString : (bytes : List ℕ) → Response
  NullBulk : Response
  Array : (elements : List (List ℕ)) → Response
  SimpleString : (text : List ℕ) → Response
  ErrorText : (text : List ℕ) → Response

abbrev pub response_of : {A : Type 0} → Reply A → Response
response_of (Int number) = Integer number
response_of (Bulk bytes) = BulkString bytes
response_of Null = NullBulk
response_of (Listed elements) = Array elements
response_of (Simple text) = SimpleString text.now
response_of (Fault text) = ErrorText text.now

-- the bytes of a reply (RESP2)
abbrev pub encoded : Response → List ℕ
encoded (Integer number) = 58 ∷ (signed_decimal number ++ 13 ∷ 10 ∷ [])
encoded (BulkString bytes) = argument bytes
encoded NullBulk = 36 ∷ 45 ∷ 49 ∷ 13 ∷ 10 ∷ []
encoded (Array elements) = 42 ∷ (line (length elements) ++ flat_map argument elements)
encoded (SimpleString text) = 43 ∷ (text ++ 13 ∷ 10 ∷ [])
encoded (ErrorText text) = 45 ∷ (text ++ 13 ∷ 10 ∷ [])
