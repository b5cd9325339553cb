-- Pairs of ports of two circuits (signed bijections of inputs and of outputs: Katebi and Markov, DATE 2010).
use Rattle.std.specs.Prelude.{◌≡◌, ◌≢◌, ◌⊎◌, ℕ, ◌<◌, List, length, AllPairs}
use Rattle.circuits.specs.declared.port.Pair.{Pair}
use Rattle.circuits.specs.declared.port.PortKind.{PortKind}
use Rattle.circuits.specs.declared.port.PortKind.TheVariants.{Input, Output}
use Rattle.circuits.specs.Netlists.{Net}
use Rattle.net_core.specs.Sides.{Graphs}

-- how many ports of a kind a circuit has
abbrev pub ports_in : Net → PortKind → ℕ
ports_in net Input = net.inputs
ports_in net Output = length net.outputs

-- Two circuits have the same number of inputs, and the same number of outputs.
pub record HaveAsMany (first second : Net) : Type 0 where
  pub inputs : first.inputs ≡ second.inputs
  pub outputs : length first.outputs ≡ length second.outputs

-- The ports that a pair names exist.
pub record IsKnown (graphs : Graphs) (pair : Pair) : Type 0 where
  pub from : pair.from < ports_in graphs.first pair.kind
  pub to : pair.to < ports_in graphs.second pair.kind

-- One pair stands before another: inputs come first, the first ports of a kind ascend, and no two go to one port.
pub record StandInOrder (one other : Pair) : Type 0 where
  pub inputs_first : one.kind ≡ Output → other.kind ≡ Output
  pub ascending : one.kind ≡ other.kind → one.from < other.from
  pub apart : one.kind ≡ other.kind → one.to ≢ other.to

-- pairs as an account has to list them: in order, and no two with one port
abbrev pub AreOrdered : List Pair → Type 0
AreOrdered pairs = AllPairs StandInOrder pairs

-- Two pairs that no matching has both of: of one kind, they differ, and share the first or the second port.
pub record Clash (one other : Pair) : Type 0 where
  pub same_kind : one.kind ≡ other.kind
  pub differ : one ≢ other
  pub share : (one.from ≡ other.from) ⊎ (one.to ≡ other.to)
