-- A parsing function of the code gives what the parser of `Parser` gives.
use Rattle.std.specs.Prelude.{◌≡◌, Result, Ok, Err}
use Rattle.resp_wire.specs.declared.fault.Stop.{Stop}
use Rattle.resp_wire.specs.declared.fault.Failure.{Failure}
use Rattle.resp_wire.specs.declared.fault.Failure.TheVariants as failures

-- its value is seen by view
abbrev pub Gives : {X Y : Type 0} → (X → Y) → Result X Stop → Result Y Stop → Type 0
Gives view (Ok x) read = read ≡ Ok (view x)
Gives view (Err e) read = read ≡ Err e

abbrev pub Fails : {Y : Type 0} → Failure → Result Y Stop → Type 0
Fails failures.Memory read = Unit {0}
Fails (failures.Stop e) read = read ≡ Err e

-- the same, unless memory runs out
abbrev pub GivesUnlessFull : {X Y : Type 0} → (X → Y) → Result X Failure → Result Y Stop → Type 0
GivesUnlessFull view (Ok x) read = read ≡ Ok (view x)
GivesUnlessFull view (Err e) read = Fails e read
