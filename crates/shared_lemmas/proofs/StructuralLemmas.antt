-- A query that structure refutes: its lemmas are there before, and the empty line is learned.
use Rattle.std.proofs.Common.{◌≡◌, ℕ, ◌+◌, ◌<◌, ◌||◌, false, List, [], ◌∷◌, ◌++◌, length, take, slice_index_or, inl, inr, refl, sym, ap, subst, ◌∙◌, arith}
use Rattle.std.specs.List.{list_any}
use Rattle.std.proofs.lemmas.Bool.{cases_Bool, false≢true}
use Rattle.std.proofs.lemmas.List.{get_or_push, length-append, map-append, take-append-le, take_all}
use Rattle.std.proofs.lemmas.List.Folds.{list_any-append, list_any_at}
use Rattle.circuits.specs.declared.netlist.Gate.{Gate}
use Rattle.cnf_core.specs.declared.literal.SatLit.{SatLit}
use Rattle.cnf_core.specs.declared.log.LogLine.{LogLine}
use Rattle.cnf_core.specs.declared.stop.Stop.{Stop}
use Rattle.cnf_core.specs.declared.stop.Stop.TheVariants.{Spent, Memory}
use Rattle.cnf_core.specs.Clauses.{clause_at}
use Rattle.cnf_core.specs.Derivations.{IsRefutation, clauses_of, has_all, is_empty}
use Rattle.cnf_core.proofs.LineLemmas.{derived_more}
use Rattle.net_core.specs.Sides.{Graphs}
use Rattle.claim_core.specs.declared.query.Query.{Query}
use Rattle.claim_core.specs.ConeClauses.{AreConeIds, Coned}
use Rattle.claim_core.specs.Formulas.{formula_of, gate_clauses, half_clauses, left_literals, output_literal, query_clauses, right_literals}
use Rattle.claim_core.specs.Queries.{circuit_of}
use Rattle.query_core.specs.declared.ledger.Asked.{Asked}
use Rattle.query_core.specs.Ledgers.{IsRefused, Ledgered, charged_front, entry_of, opened, with_line, with_lines}
use Rattle.joint_hash.specs.Merging.{AreClosedBy}
use Rattle.ask_core.specs.Answers.{IsAskedIn, IsLearnedLine, IsStoppedAfter}
use Rattle.ask_core.proofs.BoundLemmas.{last_is}

-- what holds of the cones' circuits and query holds of these
pub of_cones : (P : Graphs → Query → Type 0) (graphs : Graphs) (query : Query) (cones : Coned) → cones.graphs ≡ graphs → cones.query ≡ query → P cones.graphs cones.query → P graphs query
of_cones P graphs query cones graphs_are query_is holds = subst (P graphs) query_is (subst (λ (g : Graphs). P g cones.query) graphs_are holds)

-- the empty clause has all the literals of the empty clause alone
all_of_none : (clause : List SatLit) → has_all [] clause ≡ is_empty clause
all_of_none [] = refl
all_of_none (literal ∷ others) = refl

-- no clause of a query is empty
gates_filled : (literals : List SatLit) (first : ℕ) (gates : List Gate) → list_any is_empty (gate_clauses literals first gates) ≡ false
gates_filled literals first [] = refl
gates_filled literals first (gate ∷ gates) = gates_filled literals (first + 1) gates

query_filled : (graphs : Graphs) (query : Query) → list_any is_empty (query_clauses graphs query) ≡ false
query_filled graphs query =
    let left = circuit_of graphs query.left in
    let right = circuit_of graphs query.right in
    let ls = half_clauses left (left_literals graphs query) in
    let rs = half_clauses right (right_literals graphs query) in
    let one = output_literal left (left_literals graphs query) query.left.output query.left_value in
    let other = output_literal right (right_literals graphs query) query.right.output query.right_value in
    let outputs = (one ∷ []) ∷ (other ∷ []) ∷ [] in
    list_any-append is_empty ls (rs ++ outputs)
    ∙ (ap (λ b. b || list_any is_empty (rs ++ outputs)) (gates_filled (left_literals graphs query) (left.inputs + 1) left.gates)
    ∙ (list_any-append is_empty rs outputs ∙ ap (λ b. b || list_any is_empty outputs) (gates_filled (right_literals graphs query) (right.inputs + 1) right.gates)))

one_filled : (clauses : List (List SatLit)) (k : ℕ) (d : List SatLit) → k < length clauses → list_any is_empty clauses ≡ false → has_all [] (slice_index_or clauses k d) ≡ false
one_filled clauses k d within filled =
    let full : is_empty (slice_index_or clauses k d) ≡ false = elim (cases_Bool (is_empty (slice_index_or clauses k d))) [
      | inl empty ↦ absurd (false≢true (sym filled ∙ list_any_at is_empty clauses k d within empty))
      | inr more ↦ more
    ] in
    all_of_none (slice_index_or clauses k d) ∙ full

-- the empty line is learned after the lemmas
learned : (graphs : Graphs) (query : Query) (ids : List ℕ) (lemmas : List LogLine) (last : LogLine) → AreConeIds graphs query ids → AreClosedBy (formula_of graphs query) lemmas last → IsLearnedLine graphs query lemmas last
learned graphs query ids lemmas last are closed = record {
  derived = closed.derived;
  fresh = λ id cone.
      let listed = (are.cones id).1 cone in
      let there : id < length (query_clauses graphs query) = subst (λ i. i < length (query_clauses graphs query)) listed.2 (are.there listed.0 id listed.1) in
      ap (λ c. has_all c (clause_at (query_clauses graphs query) id)) closed.empty ∙ one_filled (query_clauses graphs query) id [] there (query_filled graphs query);
  unlike_earlier = λ k d within.
      ap (λ c. has_all c (slice_index_or (clauses_of lemmas) k d)) closed.empty ∙ one_filled (clauses_of lemmas) k d within closed.are.filled;
}

pub asked_closed : (graphs : Graphs) (query : Query) (ids : List ℕ) (lemmas : List LogLine) (last : LogLine) (old new : Ledgered) → AreConeIds graphs query ids → AreClosedBy (formula_of graphs query) lemmas last → new.budget ≡ old.budget → new.asked ≡ with_line last (opened query lemmas old.asked) → IsAskedIn graphs query old new
asked_closed graphs query ids lemmas last old new are closed budget asked = record {
  lemmas = lemmas;
  are = closed.are;
  with_them = record {
    lines = lines;
    begin = take-append-le (length lemmas) lemmas (last ∷ []) (omega arith) ∙ take_all (length lemmas) lemmas (omega arith);
    derived = derived_more (formula_of graphs query) lemmas last closed.are.derived closed.derived;
    learned = λ k d late within.
        let at : k ≡ length lemmas = omega (arith, late, within, length-append lemmas (last ∷ [])) in
        let front : take k lines ≡ lemmas = ap (λ n. take n lines) at ∙ (take-append-le (length lemmas) lemmas (last ∷ []) (omega arith) ∙ take_all (length lemmas) lemmas (omega arith)) in
        let is : slice_index_or lines k d ≡ last = get_or_push lemmas last d k (sym at) in
        subst (λ earlier. IsLearnedLine graphs query earlier (slice_index_or lines k d)) (sym front) (subst (IsLearnedLine graphs query lemmas) (sym is) (learned graphs query ids lemmas last are closed));
    budget = budget;
    asked = asked ∙ ap (λ (e : Asked). with_lines (e.lines ++ last ∷ []) (opened query lemmas old.asked)) (last_is (charged_front old.asked) (entry_of query lemmas));
  };
}
  where
    lines : List LogLine
    lines = lemmas ++ last ∷ []

-- the empty line is charged, or the budget is spent with it
pub charged_closed : (graphs : Graphs) (query : Query) (ids : List ℕ) (lemmas : List LogLine) (last : LogLine) (old first new : Ledgered) → AreConeIds graphs query ids → AreClosedBy (formula_of graphs query) lemmas last → first ≡ record old { asked = opened query lemmas old.asked } → new ≡ record first { asked = with_line last first.asked } → IsAskedIn graphs query old new
charged_closed graphs query ids lemmas last old first new are closed opened_is charged =
    asked_closed graphs query ids lemmas last old new are closed (ap (λ (l : Ledgered). l.budget) charged ∙ ap (λ (l : Ledgered). l.budget) opened_is) (ap (λ (l : Ledgered). l.asked) charged ∙ ap (λ (l : Ledgered). with_line last l.asked) opened_is)

pub stopped_closed : (graphs : Graphs) (query : Query) (ids : List ℕ) (lemmas : List LogLine) (last : LogLine) (old first new : Ledgered) (stop : Stop) → AreConeIds graphs query ids → AreClosedBy (formula_of graphs query) lemmas last → first ≡ record old { asked = opened query lemmas old.asked } → IsRefused first last new stop → IsStoppedAfter (IsAskedIn graphs query old new) old new stop
stopped_closed graphs query ids lemmas last old first new Memory are closed opened_is refused = tt
stopped_closed graphs query ids lemmas last old first new (Spent learned) are closed opened_is refused =
    let budget : first.budget ≡ old.budget = ap (λ (l : Ledgered). l.budget) opened_is in
    record {
      asked = asked_closed graphs query ids lemmas last old new are closed (ap (λ (l : Ledgered). l.budget) refused.refused ∙ budget) (ap (λ (l : Ledgered). l.asked) refused.refused ∙ ap (λ (l : Ledgered). with_line last l.asked) opened_is);
      learned_is = refused.learned_is ∙ budget;
      used = refused.counted ∙ budget;
      made = refused.made ∙ ap (λ n. n + 1) budget;
      spent = ap (λ (l : Ledgered). l.spent) refused.refused;
    }

pub refuted_closed : (graphs : Graphs) (query : Query) (lemmas : List LogLine) (last : LogLine) → AreClosedBy (formula_of graphs query) lemmas last → IsRefutation (formula_of graphs query) (lemmas ++ last ∷ [])
refuted_closed graphs query lemmas last closed = record {
  derived = derived_more (formula_of graphs query) lemmas last closed.are.derived closed.derived;
  closed =
      ap (list_any is_empty) (map-append (λ (l : LogLine). l.clause) lemmas (last ∷ []))
      ∙ (list_any-append is_empty (clauses_of lemmas) (last.clause ∷ [])
      ∙ (ap (λ b. b || list_any is_empty (last.clause ∷ [])) closed.are.filled ∙ ap (λ c. is_empty c || false) closed.empty));
}
