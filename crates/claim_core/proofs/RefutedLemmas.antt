-- A query whose clauses a log refutes is met by no vector.
use Rattle.std.proofs.Common.{ℕ, ◌<◌, Bool, length}
use Rattle.circuits.specs.Matches.{HavePorts, IsMatchOfFunctions}
use Rattle.cnf_core.proofs.DerivationLaws.{refuted_unmet}
use Rattle.net_core.specs.Sides.{Graphs}
use Rattle.net_core.specs.declared.matching.Matching.{Matching}
use Rattle.net_core.specs.Graph.{IsGraph}
use Rattle.claim_core.specs.declared.query.Query.{Query}
use Rattle.claim_core.specs.Queries.{IsUnmet}
use Rattle.claim_core.specs.Formulas.{IsRefuted, formula_of}
use Rattle.claim_core.specs.MatchQueries.{match_query}
use Rattle.claim_core.proofs.AssignmentLemmas.{assignment_there}
use Rattle.claim_core.proofs.MatchLemmas.{match_of_unmet}

pub unmet : (graphs : Graphs) (query : Query) → IsGraph graphs.first → IsGraph graphs.second → IsRefuted graphs query → IsUnmet graphs query
unmet graphs query first second refuted x same meets =
    let there = assignment_there graphs query x first second refuted.fits same meets in
    refuted_unmet (formula_of graphs query) refuted.lines there.0 refuted.refuted there.1

pub match_of_refuted : (graphs : Graphs) (matching : Matching) → IsGraph graphs.first → IsGraph graphs.second → HavePorts graphs.first graphs.second matching.inputs matching.outputs → ((k : ℕ) (value : Bool) → k < length graphs.first.outputs → IsRefuted graphs (match_query graphs.first.inputs matching k value)) → IsMatchOfFunctions graphs.first graphs.second matching.inputs matching.outputs
match_of_refuted graphs matching first second ports each =
    match_of_unmet graphs matching first second ports (λ k value below. unmet graphs (match_query graphs.first.inputs matching k value) first second (each k value below))
