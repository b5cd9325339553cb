-- The decided claims of all outputs of two circuits (unateness and support of functions, as in textbooks of logic
-- synthesis).
use Rattle.std.specs.Prelude.{◌≡◌, ℕ, List, ◌∷◌, [], ◌++◌, length, map, All, Contains}
use Rattle.circuits.specs.Literals.{EachAt}
use Rattle.circuits.specs.declared.port.Pair.{Pair}
use Rattle.circuits.specs.declared.port.PortKind.TheVariants.{Input, Output}
use Rattle.net_core.specs.Sides.{Graphs, graph_of}
use Rattle.net_core.specs.declared.graphs.Side.{Side}
use Rattle.net_core.specs.declared.graphs.Side.TheVariants.{First, Second}
use Rattle.account_core.specs.Facts.{AreFacts}
use Rattle.account_core.specs.Given.{Decided, decided_by}
use Rattle.account_core.specs.Ports.{AreOrdered, IsKnown}
use Rattle.ban_book.specs.Vectors.{HaveNoFacts}
use Rattle.ban_book.specs.declared.input_claims.InputClaims.{InputClaims}
use Rattle.ban_book.specs.Rows.{IsRow}
use Rattle.account_core.specs.Assigned.{IsPart}
use Rattle.class_refine.specs.declared.grounds.Grounds.{Grounds}
use Rattle.class_refine.specs.declared.rows.Rows.{Rows}
use Rattle.class_refine.specs.Swaps.{IsSwapIndex}

-- The row of an output, with an entry for each input.
pub record IsWholeRow (graphs : Graphs) (facts : List Decided) (side : Side) (output : ℕ) (row : List InputClaims) : Type 0 where
  pub is : IsRow facts side output row
  pub whole : length row ≡ (graph_of graphs side).inputs

-- The rows of the first outputs of a circuit.
pub record AreRowsOf (graphs : Graphs) (facts : List Decided) (side : Side) (count : ℕ) (rows : List (List InputClaims)) : Type 0 where
  pub many : length rows ≡ count
  pub each : EachAt (IsWholeRow graphs facts side) rows

-- The rows of all outputs of both circuits, and an index of the facts of two inputs.
pub record AreAllRows (graphs : Graphs) (facts : List Decided) (rows : Rows) : Type 0 where
  pub first : AreRowsOf graphs facts First (length graphs.first.outputs) rows.first
  pub second : AreRowsOf graphs facts Second (length graphs.second.outputs) rows.second
  pub swaps : IsSwapIndex facts rows.swaps.entries

-- what the facts decide
abbrev pub decided : Grounds → List Decided
decided grounds = map decided_by grounds.facts.now

-- The facts are of the two circuits, and the rows are of them.
pub record AreGrounds (grounds : Grounds) : Type 0 where
  pub lawful : AreFacts grounds.graphs.now grounds.facts.now
  pub rows_are : AreAllRows grounds.graphs.now (decided grounds) grounds.rows.now

-- Pairs of inputs, in order.
pub record AreInputs (graphs : Graphs) (pairs : List Pair) : Type 0 where
  pub known : All (IsKnown graphs) pairs
  pub ordered : AreOrdered pairs
  pub inputs : All (λ pair. pair.kind ≡ Input) pairs

-- The assigned pairs of inputs, in order.
pub record AreInputsOf (assigned pairs : List Pair) : Type 0 where
  pub part : IsPart assigned pairs
  pub inputs : All (λ pair. pair.kind ≡ Input) pairs
  pub all : All (λ pair. pair.kind ≡ Input → Contains pairs pair) assigned

-- facts show nothing of pairs of inputs and of any one of some outputs' pairs
abbrev pub ShowNothingAt : Graphs → List Decided → List Pair → List Pair → Type 0
ShowNothingAt graphs facts inputs assigned =
    All (λ output. output.kind ≡ Output → HaveNoFacts graphs facts (inputs ++ output ∷ [])) assigned
