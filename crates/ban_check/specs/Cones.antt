-- Cones of outputs, and the values of their signals.
use Rattle.std.specs.Prelude.{◌≡◌, ℕ, ◌+◌, ◌-◌, ◌<◌, ◌≤◌, ◌==◌, List, length, All, AllPairs, Contains, Option, Some, slice_index_or}
use Rattle.std.specs.Map.{lookup}
use Rattle.circuits.specs.declared.netlist.Gate.{Gate}
use Rattle.circuits.specs.declared.netlist.Lit.{Lit}
use Rattle.circuits.specs.Literals.{signal_of}
use Rattle.circuits.specs.Netlists.{Net}
use Rattle.net_core.specs.Cones.{output_signal}
use Rattle.net_core.specs.Sides.{Graphs}
use Rattle.net_core.specs.Values.{Operations, with_values}

-- the operands of gate t
abbrev pub gate_at : List Gate → ℕ → Gate
gate_at gates t = slice_index_or gates t (record { a = record { 0 = 0 }; b = record { 0 = 0 } })

-- the literal that output k has
abbrev pub output_at : Net → ℕ → Lit
output_at net k = slice_index_or net.outputs k (record { 0 = 0 })

-- a signal is the constant's, an input's, or that of one of these gates
abbrev pub IsWithin : ℕ → List ℕ → ℕ → Type 0
IsWithin first cone s = first ≤ s → Contains cone (s - first)

-- Gates that ascend, with those of their operands.
pub record IsClosed (first : ℕ) (gates : List Gate) (cone : List ℕ) : Type 0 where
  pub ascending : AllPairs (λ one other. one < other) cone
  pub there : All (λ t. t < length gates) cone
  pub first_operands : All (λ t. IsWithin first cone (signal_of (gate_at gates t).a)) cone
  pub second_operands : All (λ t. IsWithin first cone (signal_of (gate_at gates t).b)) cone

-- Such gates, with that of an output, if it has one.
pub record IsConeOf (net : Net) (output : ℕ) (cone : List ℕ) : Type 0 where
  pub closed : IsClosed (1 + net.inputs) net.gates cone
  pub has_output : IsWithin (1 + net.inputs) cone (output_signal net output)

-- The signals before the gates have what they had, and each of the cone's first gates has its value.
pub record AreConeValues {V : Type 0} (on : Operations V) (first : ℕ) (gates : List Gate) (cone : List ℕ) (done : ℕ)
    (before values : List V) : Type 0 where
  pub room : length values ≡ first + length gates
  pub front : (s : ℕ) → s < first → slice_index_or values s on.absent ≡ slice_index_or before s on.absent
  pub gates_are : (j : ℕ) → j < done
      → slice_index_or values (first + slice_index_or cone j 0) on.absent
      ≡ slice_index_or (with_values on before gates) (first + slice_index_or cone j 0) on.absent

-- the cone that is kept of an output
abbrev pub cone_kept : List (ℕ × List ℕ) → ℕ → Option (List ℕ)
cone_kept entries output = lookup (λ other. output == other) entries

-- what is kept of outputs are their cones
abbrev pub AreCones : Net → List (ℕ × List ℕ) → Type 0
AreCones net entries = (output : ℕ) (cone : List ℕ) → cone_kept entries output ≡ Some cone → IsConeOf net output cone

-- The circuits of two sides are those of the pair.
pub record AreSidesOf (graphs : Graphs) (first second : Net) : Type 0 where
  pub first_is : first ≡ graphs.first
  pub second_is : second ≡ graphs.second
