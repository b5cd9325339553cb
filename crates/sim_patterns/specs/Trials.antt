-- Vectors that pairs are tried on, 64 in a word (parallel-pattern simulation, as in textbooks of digital testing).
use Rattle.std.specs.Prelude.{◌≡◌, ℕ, ◌<◌, ◌≤◌, Bool, List, length, Contains}
use Rattle.circuits.specs.declared.port.Pair.{Pair}
use Rattle.circuits.specs.declared.port.PortKind.TheVariants.{Output}
use Rattle.circuits.specs.Netlists.{Net, function_of}
use Rattle.net_core.specs.Sides.{Graphs}
use Rattle.word_sim.specs.Columns.{Table, vector_at}
use Rattle.sim_patterns.specs.declared.trials.Trials.{Trials}
use Rattle.sim_patterns.specs.declared.trials.Suspect.{Suspect}

-- A table of at least a block of eight words has n columns.
pub record HasColumns (columns : ℕ) (table : Table) : Type 0 where
  pub count : length table.columns ≡ columns
  pub some : 8 ≤ table.words

-- There is a column for each input of a circuit and for each output, with as many words.
pub record AreTrials (net : Net) (trials : Trials) : Type 0 where
  pub inputs : HasColumns net.inputs trials.inputs
  pub outputs : length trials.outputs.columns ≡ length net.outputs
  pub words : trials.outputs.words ≡ trials.inputs.words

-- On each vector of the inputs the outputs are those of the circuit.
pub record AreComputed (net : Net) (trials : Trials) : Type 0 where
  pub vectors : (word lane : ℕ)
      → word < trials.inputs.words
      → lane < 64
      → vector_at trials.outputs word lane ≡ function_of net (vector_at trials.inputs word lane)

-- A vector is one of a table's.
pub record IsVectorOf (table : Table) (vector : List Bool) : Type 0 where
  pub word : ℕ
  pub lane : ℕ
  pub there : word < table.words
  pub bit : lane < 64
  pub vector_is : vector ≡ vector_at table word lane

-- A pair of an output that is assigned, and a vector of the first circuit's inputs.
pub record IsSuspect (graphs : Graphs) (pairs : List Pair) (suspect : Suspect) : Type 0 where
  pub assigned : Contains pairs suspect.pair
  pub of_output : suspect.pair.kind ≡ Output
  pub places : length suspect.vector ≡ graphs.first.inputs
