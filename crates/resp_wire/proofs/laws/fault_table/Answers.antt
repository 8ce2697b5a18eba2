use Rattle.resp_wire.specs.declared.fault.ProtocolFault.TheVariants.{NotAnArray, BadNumber, TooManyArguments, TooLong, BadBulk}
use Rattle.resp_wire.proofs.FaultRows.{row_of}
use Rattle.resp_wire.proofs.FaultsTold.{told}
use Rattle.resp_wire.proofs.laws.fault_table.Goals as goal

pub returns : goal.returns
returns c = record {
  not_an_array = λ text. (row_of text NotAnArray, told text NotAnArray);
  bad_number = λ text. (row_of text BadNumber, told text BadNumber);
  too_many_arguments = λ text. (row_of text TooManyArguments, told text TooManyArguments);
  too_long = λ text. (row_of text TooLong, told text TooLong);
  bad_bulk = λ text. (row_of text BadBulk, told text BadBulk);
}
