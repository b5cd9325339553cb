-- The clauses of a query that belong to its two cones.
use Rattle.std.specs.Prelude.{◌≡◌, ◌⊎◌, ◌↔◌, ℕ, ◌+◌, ◌*◌, ◌<◌, ◌≤◌, Bool, true, List, [], ◌∷◌, length, All, AllPairs, Contains}
use Rattle.circuits.specs.Netlists.{Net}
use Rattle.cnf_core.specs.declared.literal.SatLit.{SatLit}
use Rattle.cnf_core.specs.Clauses.{clause_at, is_met}
use Rattle.net_core.specs.Sides.{Graphs}
use Rattle.net_core.specs.Cones.{ReachesGate}
use Rattle.claim_core.specs.declared.query.Query.{Query}
use Rattle.claim_core.specs.Queries.{circuit_of}
use Rattle.claim_core.specs.Formulas.{query_clauses}

-- One of the three clauses of a gate that output k reaches, where the clauses of gate 0 are from number `first` on.
pub record IsOfReachedGate (net : Net) (k first id : ℕ) : Type 0 where
  pub gate : ℕ
  pub reached : ReachesGate net k gate
  pub from : first + 3 * gate ≤ id
  pub to : id < first + 3 * gate + 3

-- how many gates a query's two circuits have
abbrev pub left_gates : Graphs → Query → ℕ
left_gates graphs query = length (circuit_of graphs query.left).gates

-- how many gates the circuit of a query's right cone has
abbrev pub right_gates : Graphs → Query → ℕ
right_gates graphs query = length (circuit_of graphs query.right).gates

-- The number of a clause that belongs to the cones: that of variable 0; those of a left gate that the left output
-- reaches; those of a right gate that the right output reaches; those of the two outputs.
abbrev pub IsConeId : Graphs → Query → ℕ → Type 0
IsConeId graphs query id =
    (id ≡ 0)
    ⊎ IsOfReachedGate (circuit_of graphs query.left) query.left.output 1 id
    ⊎ IsOfReachedGate (circuit_of graphs query.right) query.right.output (1 + 3 * left_gates graphs query) id
    ⊎ (id ≡ 1 + 3 * (left_gates graphs query + right_gates graphs query))
    ⊎ (id ≡ 2 + 3 * (left_gates graphs query + right_gates graphs query))

-- what holds of each clause that belongs to the cones
abbrev pub AllOfCones : Graphs → Query → (List SatLit → Type 0) → Type 0
AllOfCones graphs query P = (id : ℕ) → IsConeId graphs query id → P (clause_at (query_clauses graphs query) id)

-- an assignment meets these clauses
abbrev pub MeetsCones : Graphs → Query → List Bool → Type 0
MeetsCones graphs query assignment = AllOfCones graphs query (λ clause. is_met assignment clause ≡ true)

-- the gates that output k reaches, ascending
pub record AreReached (net : Net) (k : ℕ) (gates : List ℕ) : Type 0 where
  pub ascending : AllPairs (λ one other. one < other) gates
  pub there : All (λ t. t < length net.gates) gates
  pub reached : (t : ℕ) → (Contains gates t ↔ ReachesGate net k t)

-- Those that one of the outputs reaches.
pub record IsSomeCone (net : Net) (gates : List ℕ) : Type 0 where
  pub output : ℕ
  pub are : AreReached net output gates

-- the three numbers of each of these gates' clauses
abbrev pub gate_ids : ℕ → List ℕ → List ℕ
gate_ids first [] = []
gate_ids first (t ∷ gates) = (first + 3 * t) ∷ (first + 3 * t + 1) ∷ (first + 3 * t + 2) ∷ gate_ids first gates

-- the numbers of the clauses that belong to the cones, ascending
pub record AreConeIds (graphs : Graphs) (query : Query) (ids : List ℕ) : Type 0 where
  pub ascending : AllPairs (λ one other. one < other) ids
  pub there : All (λ id. id < length (query_clauses graphs query)) ids
  pub cones : (id : ℕ) → (Contains ids id ↔ IsConeId graphs query id)

-- A query of two circuits, with the numbers of the clauses that belong to its cones.
pub record Coned : Type 0 where
  pub graphs : Graphs
  pub query : Query
  pub ids : List ℕ
