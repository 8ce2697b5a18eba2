-- The numbers and the error texts of the faults of the protocol.
use Rattle.std.specs.Prelude.{ℕ, List, codes}
use Rattle.resp_wire.specs.declared.fault.ProtocolFault.{ProtocolFault}
use Rattle.resp_wire.specs.declared.fault.ProtocolFault.TheVariants.{NotAnArray, BadNumber, TooManyArguments, TooLong, BadBulk}

abbrev pub number_of : ProtocolFault → ℕ
number_of NotAnArray = 2
number_of BadNumber = 3
number_of TooManyArguments = 4
number_of TooLong = 5
number_of BadBulk = 6

abbrev pub text_of : ProtocolFault → List ℕ
text_of NotAnArray = codes "ERR protocol 2 not an array"
text_of BadNumber = codes "ERR protocol 3 bad number"
text_of TooManyArguments = codes "ERR protocol 4 too many arguments"
text_of TooLong = codes "ERR protocol 5 argument too long"
text_of BadBulk = codes "ERR protocol 6 bad bulk string"
