-- The numbers of the cones' clauses, one after the other, and what is known once one more was gone over.
use Rattle.std.proofs.Common.{◌≡◌, ◌↔◌, ◌==◌, ℕ, zero, suc, ◌+◌, ◌%◌, ◌<◌, ◌≤◌, false, List, length, nat_lt, All, AllPairs, Contains, slice_index_or, inl, inr, sym, ◌∙◌, ap, subst, arith, lt-ltb, eq-eqb}
use Rattle.std.proofs.lemmas.Bool.{and_from, cases_lt, cases_eq, false≢true}
use Rattle.std.proofs.lemmas.List.{get_or_default}
use Rattle.cnf_core.specs.declared.literal.SatLit.{SatLit}
use Rattle.cnf_core.specs.declared.log.LogLine.{LogLine}
use Rattle.net_core.specs.Sides.{Graphs}
use Rattle.net_core.specs.Graph.{IsGraph}
use Rattle.claim_core.specs.declared.query.Query.{Query}
use Rattle.claim_core.specs.Queries.{IsQuery}
use Rattle.claim_core.specs.Formulas.{query_clauses}
use Rattle.claim_core.specs.ConeClauses.{IsConeId}
use Rattle.joint_hash.specs.declared.gates.ConeGate.{ConeGate}
use Rattle.joint_hash.specs.declared.twins.Twin.{Twin}
use Rattle.joint_hash.specs.Trees.{AreJoined, IsGateOf}
use Rattle.joint_hash.specs.Classes.{IsUnderWay, IsVisited, first_with, is_last, twin_of}
use Rattle.joint_hash.proofs.GateLemmas.{gate_cone, gate_there, gate_third, nested}
use Rattle.joint_hash.proofs.TreeLemmas.{joined_all}

-- ---- nothing is between two limits

pub under_way_later : (graphs : Graphs) (query : Query) (limit next : ℕ) (lines : List LogLine) (firsts : List ((SatLit × SatLit) × ConeGate)) (twins : List (ℕ × Twin)) → IsUnderWay graphs query limit lines firsts twins → limit ≤ next → ((gate : ConeGate) → IsGateOf graphs query gate → gate.id + 2 < next → gate.id + 2 < limit) → IsUnderWay graphs query next lines firsts twins
under_way_later graphs query limit next lines firsts twins way le none = record {
  lemmas = way.lemmas;
  merged = record {
    are_twins = way.merged.are_twins;
    have_gates = λ v twin is.
        let has = way.merged.have_gates v twin is in
        record { gate = has.gate; visited = later has.gate has.visited; variable_is = has.variable_is };
    kept = λ p gate is.
        let kept = way.merged.kept p gate is in
        record { visited = later gate kept.visited; operands_are = kept.operands_are; itself = kept.itself };
    found = λ gate visited. way.merged.found gate (record { is_gate = visited.is_gate; early = none gate visited.is_gate visited.early });
    sound = way.merged.sound;
  };
}
  where
    later : (gate : ConeGate) → IsVisited (IsGateOf graphs query) limit gate → IsVisited (IsGateOf graphs query) next gate
    later gate visited = record { is_gate = visited.is_gate; early = omega (arith, visited.early, le) }

-- a number that is no gate's last is passed
pub passed_other : (graphs : Graphs) (query : Query) (id : ℕ) (lines : List LogLine) (firsts : List ((SatLit × SatLit) × ConeGate)) (twins : List (ℕ × Twin)) → IsUnderWay graphs query id lines firsts twins → is_last id ≡ false → IsUnderWay graphs query (id + 1) lines firsts twins
passed_other graphs query id lines firsts twins way other =
    under_way_later graphs query id (id + 1) lines firsts twins way (omega arith) (λ gate is below.
    elim (cases_eq (gate.id + 2) id) [
      | inl here ↦
          let third : id % 3 ≡ 0 = subst (λ n. n % 3 ≡ 0) here (gate_third graphs query gate is) in
          absurd (false≢true (sym other ∙ and_from (nat_lt 0 id) (id % 3 == 0) (lt-ltb 0 id (omega (arith, here))) (eq-eqb (id % 3) 0 third)))
      | inr apart ↦ omega (arith, below, apart)
    ])

-- ---- ascending numbers

-- the least number that is above the first k of these
abbrev pub above_first : List ℕ → ℕ → ℕ
above_first ids zero = 0
above_first ids (suc k) = 1 + slice_index_or ids k 0

module _ (ids : List ℕ) (ascending : AllPairs (λ one other. one < other) ids) where
  at_most : (j k : ℕ) → j ≤ k → k < length ids → slice_index_or ids j 0 ≤ slice_index_or ids k 0
  at_most j k le within =
      elim (cases_eq j k) [
        | inl same ↦ omega (arith, ap (λ i. slice_index_or ids i 0) same)
        | inr other ↦ let less : slice_index_or ids j 0 < slice_index_or ids k 0 = ascending j k 0 (omega (arith, le, other)) within in omega (arith, less)
      ]

  below_first : (j k : ℕ) → j < k → k ≤ length ids → slice_index_or ids j 0 < above_first ids k
  below_first j zero less within = absurd (omega (arith, less))
  below_first j (suc k) less within = omega (arith, at_most j k (omega (arith, less)) (omega (arith, within)))

  first_below : (k : ℕ) → k < length ids → above_first ids k ≤ slice_index_or ids k 0
  first_below zero within = omega arith
  first_below (suc k) within = let less : slice_index_or ids k 0 < slice_index_or ids (suc k) 0 = ascending k (suc k) 0 (omega arith) within in omega (arith, less)

  -- what is less stands before
  stands_before : (j k : ℕ) → j < length ids → slice_index_or ids j 0 < slice_index_or ids k 0 → j < k
  stands_before j k within less =
      elim (cases_lt j k) [ inl before ↦ before | inr after ↦ absurd (omega (arith, less, at_most k j after within)) ]

module _ (graphs : Graphs) (query : Query) (ids : List ℕ) (ascending : AllPairs (λ one other. one < other) ids) (there : All (λ id. id < length (query_clauses graphs query)) ids) (cones : (id : ℕ) → (Contains ids id ↔ IsConeId graphs query id)) (lines : List LogLine) (firsts : List ((SatLit × SatLit) × ConeGate)) (twins : List (ℕ × Twin)) where
  -- a gate's last clause has a place
  place_of : (gate : ConeGate) → IsGateOf graphs query gate → (j : ℕ) × (j < length ids) × (slice_index_or ids j 0 ≡ gate.id + 2)
  place_of gate is =
      let has = (cones (gate.id + 2)).1 (gate_cone graphs query gate is) in
      (has.0, has.1, get_or_default ids has.0 0 (gate.id + 2) has.1 ∙ has.2)

  pub up_to_next : (k : ℕ) → k < length ids → IsUnderWay graphs query (above_first ids k) lines firsts twins → IsUnderWay graphs query (slice_index_or ids k 0) lines firsts twins
  up_to_next k within way =
      under_way_later graphs query (above_first ids k) (slice_index_or ids k 0) lines firsts twins way (first_below ids ascending k within) (λ gate is below.
      let place = place_of gate is in
      let before = stands_before ids ascending place.0 k place.1 (omega (arith, place.2, below)) in
      omega (arith, place.2, below_first ids ascending place.0 k before (omega (arith, within))))

  pub up_to_end : (k : ℕ) → k ≡ length ids → IsUnderWay graphs query (above_first ids k) lines firsts twins → IsUnderWay graphs query (length (query_clauses graphs query)) lines firsts twins
  up_to_end k end way =
      under_way_later graphs query (above_first ids k) (length (query_clauses graphs query)) lines firsts twins way (last k (omega (arith, end))) (λ gate is below.
      let place = place_of gate is in
      omega (arith, place.2, below_first ids ascending place.0 k (omega (arith, place.1, end)) (omega (arith, end))))
    where
      last : (k : ℕ) → k ≤ length ids → above_first ids k ≤ length (query_clauses graphs query)
      last zero within = omega arith
      last (suc k) within = omega (arith, there k 0 (omega (arith, within)))

-- ---- at the start and at the end

pub all_joined : (graphs : Graphs) (query : Query) (lines : List LogLine) (firsts : List ((SatLit × SatLit) × ConeGate)) (twins : List (ℕ × Twin)) → IsGraph graphs.first → IsGraph graphs.second → IsQuery graphs query → IsUnderWay graphs query (length (query_clauses graphs query)) lines firsts twins → AreJoined graphs query lines
all_joined graphs query lines firsts twins first second fits way gate is =
    joined_all (IsGateOf graphs query) (nested graphs query first second fits) (length (query_clauses graphs query)) (query_clauses graphs query) lines (first_with firsts) (twin_of twins) way.merged (gate_there graphs query) gate is
