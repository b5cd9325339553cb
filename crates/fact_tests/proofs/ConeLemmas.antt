-- The clauses of a query's cones, and lines that say something new beside them.
use Rattle.std.proofs.Common.{ℕ, ◌+◌, ◌<◌, List, [], ◌∷◌, ◌++◌, All, refl}
use Rattle.std.specs.List.{AllByRecursion}
use Rattle.std.proofs.lemmas.List.Elements.{All-from_recursion}
use Rattle.circuits.specs.declared.netlist.Gate.{Gate}
use Rattle.cnf_core.specs.declared.literal.SatLit.{SatLit}
use Rattle.net_core.specs.Sides.{Graphs}
use Rattle.net_core.specs.declared.graphs.Side.{Side}
use Rattle.net_core.specs.declared.graphs.Side.TheVariants.{First, Second}
use Rattle.net_core.specs.Graph.{IsGraph}
use Rattle.net_core.specs.Sides.{graph_of}
use Rattle.claim_core.specs.declared.query.Query.{Query}
use Rattle.claim_core.specs.Queries.{IsQuery, circuit_of}
use Rattle.claim_core.specs.Formulas.{query_clauses, gate_clauses, half_clauses, left_literals, right_literals}
use Rattle.claim_core.specs.ConeClauses.{AllOfCones}
use Rattle.oracle_core.specs.Work.{IsNewBeside}
use Rattle.claim_core.proofs.ConeLaws.{cone_id_there}

pub graph_is : (graphs : Graphs) (side : Side) → IsGraph graphs.first → IsGraph graphs.second → IsGraph (graph_of graphs side)
graph_is graphs First first second = first
graph_is graphs Second first second = second

-- no clause of a query is empty
gates_some : (literals : List SatLit) (first : ℕ) (gates : List Gate) → AllByRecursion (IsNewBeside []) (gate_clauses literals first gates)
gates_some literals first [] = tt
gates_some literals first (gate ∷ gates) = (refl, (refl, (refl, gates_some literals (first + 1) gates)))

some_append : (xs ys : List (List SatLit)) → AllByRecursion (IsNewBeside []) xs → AllByRecursion (IsNewBeside []) ys → AllByRecursion (IsNewBeside []) (xs ++ ys)
some_append [] ys one other = other
some_append (x ∷ xs) ys one other = (one.0, some_append xs ys one.1 other)

clauses_some : (graphs : Graphs) (query : Query) → AllByRecursion (IsNewBeside []) (query_clauses graphs query)
clauses_some graphs query =
    let left = circuit_of graphs query.left in
    let right = circuit_of graphs query.right in
    (refl, some_append (half_clauses left (left_literals graphs query)) _ (gates_some (left_literals graphs query) (left.inputs + 1) left.gates) (some_append (half_clauses right (right_literals graphs query)) _ (gates_some (right_literals graphs query) (right.inputs + 1) right.gates) (refl, (refl, tt))))

pub none_empty : (graphs : Graphs) (query : Query) → All (IsNewBeside []) (query_clauses graphs query)
none_empty graphs query = All-from_recursion (IsNewBeside []) (query_clauses graphs query) (clauses_some graphs query)

-- the empty line says something that no clause says
pub empty_is_new : (graphs : Graphs) (query : Query) → IsGraph graphs.first → IsGraph graphs.second → IsQuery graphs query → AllOfCones graphs query (IsNewBeside [])
empty_is_new graphs query first second fits id of_cone =
    none_empty graphs query id [] (cone_id_there graphs query id first second fits of_cone)
