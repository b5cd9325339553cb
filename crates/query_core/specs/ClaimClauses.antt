-- The clauses of a claim's query, of which some are present and the others stand as the clause of variable 0.
use Rattle.std.specs.Prelude.{◌≡◌, ℕ, ◌*◌, ◌-◌, ◌/◌, ◌==◌, ◌||◌, Bool, true, false, List, [], ◌∷◌, length, map, nat_lt, slice_index_or, if◌then◌else◌}
use Rattle.std.specs.List.{range_with_len}
use Rattle.circuits.specs.Literals.{bit}
use Rattle.circuits.specs.Netlists.{Net}
use Rattle.bit_list.specs.Marking.{listed_marks}
use Rattle.cnf_core.specs.declared.literal.SatLit.{SatLit}
use Rattle.cnf_core.specs.Clauses.{Formula, clause_at}
use Rattle.net_core.specs.Sides.{Graphs, graph_of}
use Rattle.net_core.specs.Cones.{ReachesGate}
use Rattle.claim_core.specs.declared.claims.Claim.{Claim}
use Rattle.claim_core.specs.declared.query.Query.{Query}
use Rattle.claim_core.specs.Claims.{IsClaim}
use Rattle.claim_core.specs.ClaimQueries.{claim_query}
use Rattle.claim_core.specs.Queries.{circuit_of}
use Rattle.claim_core.specs.Formulas.{formula_of, left_variables, query_clauses, right_variables, true_literal}
use Rattle.claim_core.specs.ConeClauses.{AreReached, left_gates, right_gates}
use Rattle.query_core.specs.declared.variables.Variables.{Variables}
use Rattle.query_core.specs.Variables.{AreFor, variable_at, variables_in}

-- A query both of whose cones are one output's, with a mark for each gate whose clauses are present, or all present.
pub record PartialQuery : Type 0 where
  pub graphs : Graphs
  pub query : Query
  pub marked : List Bool
  pub whole : Bool

-- the gate of a clause's number, where either circuit of a query has this many gates
abbrev pub gate_of : ℕ → ℕ → ℕ
gate_of gates id = if nat_lt (id - 1) (3 * gates) then (id - 1) / 3 else (id - 1 - 3 * gates) / 3

-- the clause of a number is that of variable 0, an output's, or one of a marked gate
abbrev pub is_of_marked : ℕ → List Bool → ℕ → Bool
is_of_marked gates marked id = (id == 0) || (nat_lt (6 * gates) id || bit marked (gate_of gates id))

-- the clause of a number is present
abbrev pub is_present : PartialQuery → ℕ → Bool
is_present part id = part.whole || is_of_marked (left_gates part.graphs part.query) part.marked id

-- a clause of the query where it is present; else that of variable 0, which asks nothing
abbrev pub present_clause : PartialQuery → ℕ → List SatLit
present_clause part id = if is_present part id then clause_at (query_clauses part.graphs part.query) id else true_literal ∷ []

-- the clauses of a query as far as they are present
abbrev pub present_formula : PartialQuery → Formula
present_formula part = record {
  variables = (formula_of part.graphs part.query).variables;
  clauses = map (present_clause part) (range_with_len 0 (length (query_clauses part.graphs part.query)));
}

-- Gates that output k reaches, ascending, with a mark for each of them.
pub record IsMarkedCone (net : Net) (k : ℕ) (gates : List ℕ) (marked : List Bool) : Type 0 where
  pub are : AreReached net k gates
  pub marks : marked ≡ listed_marks (length net.gates) gates

-- the variables are right for the gates that the right output reaches
abbrev pub AreRightInCone : Graphs → Query → Variables → Type 0
AreRightInCone graphs query right =
    (t : ℕ) → ReachesGate (circuit_of graphs query.right) query.right.output t → variable_at right t ≡ slice_index_or (right_variables graphs query) t 0

-- What gives a claim's clauses: variables that are right for the gates of the cone, or for all.
pub record IsPartialQuery (graphs : Graphs) (query : Query) (left right : Variables) (gates : List ℕ) (marked : List Bool) (whole : Bool)
    : Type 0 where
  pub claim : Claim
  pub placed : IsClaim graphs claim
  pub asks : query ≡ claim_query graphs claim
  pub cone : IsMarkedCone (graph_of graphs claim.side) claim.output gates marked
  pub left_is : variables_in left (left_gates graphs query) ≡ left_variables graphs query
  pub left_fits : AreFor (left_gates graphs query) left
  pub right_fits : AreFor (right_gates graphs query) right
  pub of_cone : whole ≡ false → AreRightInCone graphs query right
  pub of_all : whole ≡ true → variables_in right (right_gates graphs query) ≡ right_variables graphs query
