-- Lemmas that join the gates of the cones, with more.
use Rattle.std.proofs.Common.{List, [], ◌∷◌, ◌++◌, Contains, inl, inr, sym, subst}
use Rattle.std.proofs.lemmas.List.{map-append}
use Rattle.std.proofs.lemmas.List.Elements.{Contains-append_left}
use Rattle.cnf_core.specs.declared.literal.SatLit.{SatLit}
use Rattle.cnf_core.specs.declared.log.LogLine.{LogLine}
use Rattle.cnf_core.specs.Clauses.{opposite}
use Rattle.cnf_core.specs.Derivations.{clauses_of}
use Rattle.net_core.specs.Sides.{Graphs}
use Rattle.claim_core.specs.declared.query.Query.{Query}
use Rattle.claim_core.specs.Formulas.{formula_of}
use Rattle.joint_hash.specs.Merging.{AreKept, AreLemmas}
use Rattle.joint_hash.specs.Trees.{AreEqualBy, AreJoining}

-- a clause of lines is one of more lines
clause_later : (lines : List LogLine) (line : LogLine) (clause : List SatLit) → Contains (clauses_of lines) clause → Contains (clauses_of (lines ++ line ∷ [])) clause
clause_later lines line clause there =
    subst (λ (cs : List (List SatLit)). Contains cs clause) (sym (map-append (λ (l : LogLine). l.clause) lines (line ∷ []))) (Contains-append_left (clauses_of lines) (line.clause ∷ []) clause there)

pub kept_more : (lines : List LogLine) (line : LogLine) → AreKept lines (lines ++ line ∷ [])
kept_more lines line clause there = clause_later lines line clause there

-- gates that lines join stay joined where their clauses are kept
equal_kept : (old new : List LogLine) (one other : SatLit) → AreKept old new → AreEqualBy old one other → AreEqualBy new one other
equal_kept old new one other kept equal = record {
  to = kept (opposite one ∷ other ∷ []) equal.to;
  back = kept (one ∷ opposite other ∷ []) equal.back;
}

pub joining_kept : (graphs : Graphs) (query : Query) (old new : List LogLine) → AreJoining graphs query old → AreLemmas (formula_of graphs query) new → AreKept old new → AreJoining graphs query new
joining_kept graphs query old new are lemmas kept = record {
  lemmas = lemmas;
  joined = λ gate is_gate.
      let before = are.joined gate is_gate in
      record {
        first = before.first;
        is_gate = before.is_gate;
        is_first = before.is_first;
        one_tree = before.one_tree;
        joined = elim before.joined [ inl same ↦ inl same | inr equal ↦ inr (equal_kept old new before.first.output gate.output kept equal) ];
      };
}
