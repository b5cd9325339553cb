-- The fault is the file's.
use Rattle.std.proofs.Common.{refl, rules}
use Rattle.check_steps.proofs.netlists.parse_netlist.Goals as goal

pub returns-in-Err-Fault-clause-stop : goal.returns-in-Err-Fault-clause-stop
returns-in-Err-Fault-clause-stop c = (refl, c.read_circuit.ensures.fault c.in-Err-Fault.fault (search rules))
