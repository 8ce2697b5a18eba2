-- A stream of bytes: its items from the start as far as they are whole, the rest behind them, and the
-- fault of that rest. `longest` and `cut` in src/laws.rt say what these are without this recursion.
use Rattle.std.specs.Prelude.{ℕ, zero, suc, List, [], ◌∷◌, length, Option, Some, None, Result, Ok, Err}
use Rattle.resp_wire.specs.declared.fault.ProtocolFault.{ProtocolFault}
use Rattle.resp_wire.specs.declared.fault.Stop.{Stop}
use Rattle.resp_wire.specs.declared.fault.Stop.TheVariants.{Short, Wrong}
use Rattle.resp_messages.specs.RequestEncoding.{Item, Ask, SkipZero, SkipMinus}
use Rattle.resp_wire.specs.Parser.{item_at}

-- an item, before what more gives behind it
abbrev pub prepend_item : (List ℕ → List Item × List ℕ) → List ℕ → Result (Item × List ℕ) Stop → List Item × List ℕ
prepend_item more bytes (Ok first) = (first.0 ∷ (more first.1).0, (more first.1).1)
prepend_item more bytes (Err stop) = ([], bytes)

-- the first n items, or as many as are whole, and what is left
unfoldable pub split_items : ℕ → List ℕ → List Item × List ℕ
split_items zero bytes = ([], bytes)
split_items (suc n) bytes = prepend_item (split_items n) bytes (item_at bytes)

-- the requests among items
abbrev pub requests_among : List Item → List (List (List ℕ))
requests_among [] = []
requests_among (Ask arguments ∷ items) = arguments ∷ requests_among items
requests_among (SkipZero ∷ items) = requests_among items
requests_among (SkipMinus ∷ items) = requests_among items

-- all whole items: an item has a byte or more, so there are no more items than bytes
unfoldable pub items : List ℕ → List Item
items bytes = (split_items (length bytes) bytes).0

-- the requests of a stream
unfoldable pub requests : List ℕ → List (List (List ℕ))
requests bytes = requests_among (items bytes)

-- the bytes behind its last whole item
unfoldable pub rest : List ℕ → List ℕ
rest bytes = (split_items (length bytes) bytes).1

abbrev pub fault_of : {X : Type 0} → Result X Stop → Option ProtocolFault
fault_of (Ok x) = None
fault_of (Err Short) = None
fault_of (Err (Wrong f)) = Some f

-- None where the rest may still become an item
unfoldable pub fault : List ℕ → Option ProtocolFault
fault bytes = fault_of (item_at (rest bytes))
