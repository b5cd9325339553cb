-- What each plain netlist is: closed, and of a size that its numbers can count.
use Rattle.std.specs.Prelude.{◌^◌, ◌<◌, length}
use Rattle.circuits.specs.Circuits.{Circuit, IsClosed, signals_in}

-- A closed circuit with few enough signals and outputs for each to have a number.
pub record IsPlainNet (circuit : Circuit) : Type 0 where
  pub closed : IsClosed circuit
  pub signals : signals_in circuit < 2 ^ 30
  pub outputs : length circuit.outputs < 2 ^ 32
