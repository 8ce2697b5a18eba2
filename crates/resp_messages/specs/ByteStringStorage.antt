-- The bytes of a byte string, wherever they stand.
use Rattle.std.specs.Prelude.{ℕ, List}
use Rattle.resp_messages.specs.declared.bytes.Storage.{Storage}
use Rattle.resp_messages.specs.declared.bytes.Storage.TheVariants.{InPlace, Apart}

abbrev pub stored_bytes : {A : Type 0} → Storage A → List ℕ
stored_bytes (InPlace bytes) = bytes
stored_bytes (Apart bytes) = bytes.items
