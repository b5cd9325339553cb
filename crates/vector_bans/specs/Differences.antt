-- Vectors on which an output differs from its partner, as values of a ban (three values: Eichelberger, IBM J. Res. Dev.
-- 1965).
use Rattle.std.specs.Prelude.{◌≡◌, ◌≢◌, ◌<◌, ℕ, Bool, List, length, map, remove, All, Contains, slice_index_or}
use Rattle.std.specs.List.{range_with_len}
use Rattle.circuits.specs.Bijections.{place_of, sign_of}
use Rattle.circuits.specs.declared.port.Pair.{Pair}
use Rattle.circuits.specs.declared.port.PortKind.{PortKind}
use Rattle.circuits.specs.declared.port.PortKind.TheVariants.{Input}
use Rattle.net_core.specs.Sides.{Graphs}
use Rattle.net_core.specs.declared.matching.Matching.{Matching}
use Rattle.word_sim.specs.declared.tri.Tri.{Tri}
use Rattle.word_sim.specs.declared.tri.Tri.TheVariants.{X}
use Rattle.account_core.specs.Ports.{AreOrdered, IsKnown}
use Rattle.account_core.specs.Vectors.{first_value, second_value, signed}
use Rattle.account_core.specs.Assigned.{IsPart}
use Rattle.ban_book.specs.Rows.{HasOneOutput}
use Rattle.oracle_core.specs.Oracles.{IsDifference}
use Rattle.vector_bans.specs.declared.difference.Difference.{Difference}
use Rattle.vector_bans.specs.declared.difference.Counterexample.{Counterexample}

-- the pair of a port whose entries are these
abbrev pub pair_from : PortKind → List (ℕ × Bool) → ℕ → Pair
pair_from kind entries port = record { kind = kind; from = port; to = place_of entries port; flip = sign_of entries port }

-- An output hasn't the bit that a matching asks of it, on a vector.
pub record Differs (graphs : Graphs) (matching : Matching) (difference : Difference) : Type 0 where
  pub output : difference.output < length graphs.first.outputs
  pub vector : IsDifference graphs matching difference.output difference.vector

-- The partner of an output has a definite value, and not the one that the pair asks of it.
pub record IsWrong (graphs : Graphs) (pairs : List Pair) (pair : Pair) (values : List Tri) : Type 0 where
  pub definite : second_value graphs pairs values pair.to ≢ X
  pub differ : first_value graphs values pair.from ≢ signed pair.flip (second_value graphs pairs values pair.to)

-- It may be tried whether an output's partner is wrong on these values, by which the output has this one.
pub record MayTry (graphs : Graphs) (pair : Pair) (values : List Tri) (first : Tri) : Type 0 where
  pub output : pair.to < length graphs.second.outputs
  pub places : length values ≡ graphs.first.inputs
  pub first_is : first ≡ first_value graphs values pair.from

-- Some of the pairs, in order, among them one of outputs, on which values show that the output differs from its
-- partner.
pub record IsShown (graphs : Graphs) (whole : List Pair) (pair : Pair) (values : List Tri) (pairs : List Pair) : Type 0 where
  pub among : All (Contains whole) pairs
  pub ordered : AreOrdered pairs
  pub known : All (IsKnown graphs) pairs
  pub output : HasOneOutput pairs pair
  pub places : length values ≡ graphs.first.inputs
  pub definite : first_value graphs values pair.from ≢ X
  pub wrong : IsWrong graphs pairs pair values

-- these pairs are shown by these values
abbrev pub AreShown : Graphs → List Pair → Counterexample → Type 0
AreShown graphs whole shown = IsShown graphs whole shown.pair shown.values shown.pairs

-- Some of the assigned pairs, in order, all of inputs.
pub record AreAssignedInputs (assigned pairs : List Pair) : Type 0 where
  pub part : IsPart assigned pairs
  pub inputs : All (λ pair. pair.kind ≡ Input) pairs

-- The pairs without one, of an input, on which the output is wrong too.
pub record IsLeftOut (graphs : Graphs) (pair : Pair) (values : List Tri) (pairs : List Pair) (place : ℕ)
    (fewer : List Pair) : Type 0 where
  pub fewer_is : fewer ≡ remove pairs place
  pub input : (d : Pair) → (slice_index_or pairs place d).kind ≡ Input
  pub wrong : IsWrong graphs fewer pair values

-- the pairs of all ports of a kind, in order
abbrev pub pairs_from : PortKind → List (ℕ × Bool) → List Pair
pairs_from kind entries = map (pair_from kind entries) (range_with_len 0 (length entries))
