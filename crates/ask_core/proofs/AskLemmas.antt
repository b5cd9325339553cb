-- What a solver's answer over the clauses of a query's cones says of the query.
use Rattle.std.proofs.Common.{◌≡◌, ℕ, ◌+◌, ◌<◌, ◌≤◌, Bool, true, false, List, [], ◌∷◌, ◌++◌, length, take, drop, All, Contains, slice_index_or, inl, inr, refl, take-append-drop, sym, ◌∙◌, ap, subst, arith}
use Rattle.std.specs.List.{list_any}
use Rattle.std.proofs.lemmas.Bool.{both_ways}
use Rattle.std.proofs.lemmas.List.Folds.{list_any_at}
use Rattle.std.proofs.lemmas.List.{get_or-map, length-map, map-append}
use Rattle.std.proofs.lemmas.List.Elements.{Contains-append_left}
use Rattle.std.proofs.lemmas.List.FromFn.{length-map-range_with_len, map-range_with_len_more}
use Rattle.circuits.specs.Literals.{bit}
use Rattle.cnf_core.specs.declared.literal.SatLit.{SatLit}
use Rattle.cnf_core.specs.declared.stop.Stop.{Stop}
use Rattle.cnf_core.specs.declared.stop.Stop.TheVariants.{Spent, Memory}
use Rattle.cnf_core.specs.Clauses.{Formula, Meets, clause_at, is_met, opposite}
use Rattle.cnf_core.specs.Derivations.{AreDerived, clauses_of, is_empty, line_fault, has_all}
use Rattle.cnf_core.specs.declared.log.LogLine.{LogLine}
use Rattle.joint_hash.specs.Merging.{AreLemmas}
use Rattle.joint_hash.specs.Trees.{AreJoined}
use Rattle.learn_solver.proofs.AdvanceLemmas.{derived_after}
use Rattle.net_core.specs.Sides.{Graphs}
use Rattle.claim_core.specs.declared.query.Query.{Query}
use Rattle.claim_core.specs.Queries.{vector_in}
use Rattle.claim_core.specs.Formulas.{Asking, formula_of}
use Rattle.claim_core.specs.ConeClauses.{AllOfCones, AreConeIds, Coned, IsConeId, MeetsCones}
use Rattle.cnf_core.specs.Charges.{Charging}
use Rattle.query_core.specs.Ledgers.{Ledgered, charging_of, one_if, opened, with_lines}
use Rattle.query_core.proofs.ChargingLemmas.{asked_after, is_opened}
use Rattle.learn_solver.specs.Solvers.{IsExtended, Solving, wanted}
use Rattle.learn_solver.specs.Solvers.{IsStopped as IsSolverStopped}
use Rattle.ask_core.specs.Renamings.{AreShort}
use Rattle.ask_core.specs.Solved.{start_of, with_lines_of}
use Rattle.ask_core.specs.Answers.{IsAskedIn, IsAskedWith, IsStoppedAfter}
use Rattle.circuits.proofs.Lists.{All-front, All-back}

pub vector_more : (n : ℕ) (values : List Bool) → vector_in (n + 1) values ≡ vector_in n values ++ bit values (1 + n) ∷ []
vector_more n values = map-range_with_len_more (λ i. bit values (1 + i)) 0 n n (omega arith)

pub vector_length : (n : ℕ) (values : List Bool) → length (vector_in n values) ≡ n
vector_length n values = length-map-range_with_len (λ i. bit values (1 + i)) 0 n

-- what holds of all clauses that are to be met holds of that of each number
wanted-each : (P : List SatLit → Type 0) (formula : Formula) (ids : List ℕ) (id : ℕ) → All P (wanted formula ids) → Contains ids id → P (clause_at formula.clauses id)
wanted-each P formula ids id all (k, within, is) =
    let here : k < length (wanted formula ids) = omega (arith, within, length-map ids (clause_at formula.clauses)) in
    subst (λ j. P (clause_at formula.clauses j)) is (subst P (get_or-map (clause_at formula.clauses) ids k id [] within) (all k [] here))

-- A solver for the clauses of a query's cones, with lemmas.
pub record IsOfCones (graphs : Graphs) (query : Query) (lemmas : List LogLine) (s : Solving) : Type 0 where
  pub formula : s.formula ≡ formula_of graphs query
  pub ids : (id : ℕ) → IsConeId graphs query id → Contains s.ids id
  pub lines : s.lines ≡ lemmas
  pub derived : AreDerived (formula_of graphs query) lemmas

-- what holds of all that are to be met holds of all clauses of the cones
all-cones : (P : List SatLit → Type 0) (graphs : Graphs) (query : Query) (lemmas : List LogLine) (s : Solving) → IsOfCones graphs query lemmas s → All P (wanted s.formula s.ids) → AllOfCones graphs query P
all-cones P graphs query lemmas s of all id cone =
    subst (λ (f : Formula). P (clause_at f.clauses id)) of.formula (wanted-each P s.formula s.ids id all (of.ids id cone))

pub meets_cones : {O : Type 0} (graphs : Graphs) (query : Query) (lemmas : List LogLine) (s new : Solving) (first after : Charging O) (values : List Bool) → IsOfCones graphs query lemmas s → IsExtended s new first after → Meets values (wanted new.formula new.ids) → MeetsCones graphs query values
meets_cones {O} graphs query lemmas s new first after values of extended meets =
    let same = ap (λ f. wanted f new.ids) extended.formula ∙ ap (wanted s.formula) extended.ids in
    all-cones (λ clause. is_met values clause ≡ true) graphs query lemmas s of (subst (λ (cs : List (List SatLit)). Meets values cs) same meets)

-- a query was asked by lemmas
pub asked_with : (graphs : Graphs) (query : Query) (lemmas : List LogLine) (s new : Solving) (old first after : Ledgered) → IsOfCones graphs query lemmas s → 0 < length first.asked → first ≡ record old { asked = opened query lemmas old.asked } → IsExtended s new (charging_of first) (charging_of after) → IsAskedWith lemmas graphs query old after
asked_with graphs query lemmas s new old first after of there opened_is extended = record {
  lines = new.lines;
  begin = ap (λ (ls : List LogLine). take (length ls) new.lines) (sym of.lines) ∙ (extended.kept ∙ of.lines);
  derived = subst (λ f. AreDerived f new.lines) (extended.formula ∙ of.formula) (derived_after s new (charging_of first) (charging_of after) (subst (λ f. AreDerived f s.lines) (sym of.formula) (subst (λ (ls : List LogLine). AreDerived (formula_of graphs query) ls) (sym of.lines) of.derived)) extended);
  learned = λ k d after_lemmas within.
      let added = extended.added k d (omega (arith, ap length of.lines, after_lemmas)) within in
      let P : List SatLit → Type 0 = λ c. has_all (slice_index_or new.lines k d).clause c ≡ false in
      record {
        derived = ap (λ f. line_fault f (clauses_of (take k new.lines)) (slice_index_or new.lines k d)) (sym of.formula) ∙ added.derived;
        fresh = all-cones P graphs query lemmas s of (All-front P (wanted s.formula s.ids) (clauses_of (take k new.lines)) added.fresh);
        unlike_earlier = All-back P (wanted s.formula s.ids) (clauses_of (take k new.lines)) added.fresh;
      };
  budget = extended.budget ∙ ap (λ (l : Ledgered). l.budget) opened_is;
  asked = asked_after first after new.lines (is_opened first there) (extended.opened ∙ is_opened first there) extended.lines_are extended.others ∙ ap (λ (l : Ledgered). with_lines new.lines l.asked) opened_is;
}

-- no answer, where less is said of what was asked
pub stopped_weaker : {P Q : Type 0} (old new : Ledgered) (stop : Stop) → (P → Q) → IsStoppedAfter P old new stop → IsStoppedAfter Q old new stop
stopped_weaker old new Memory weaker stopped = tt
stopped_weaker old new (Spent learned) weaker stopped = record {
  asked = weaker stopped.asked;
  learned_is = stopped.learned_is;
  used = stopped.used;
  made = stopped.made;
  spent = stopped.spent;
}

pub stopped_with : (graphs : Graphs) (query : Query) (lemmas : List LogLine) (s new : Solving) (old first after : Ledgered) (stop : Stop) → IsOfCones graphs query lemmas s → 0 < length first.asked → first ≡ record old { asked = opened query lemmas old.asked } → IsSolverStopped s new (charging_of first) (charging_of after) stop → IsStoppedAfter (IsAskedWith lemmas graphs query old after) old after stop
stopped_with graphs query lemmas s new old first after Memory of there opened_is stopped = tt
stopped_with graphs query lemmas s new old first after (Spent learned) of there opened_is stopped = record {
  asked = asked_with graphs query lemmas s new old first after of there opened_is stopped.extended;
  learned_is = stopped.learned_is ∙ ap (λ (l : Ledgered). l.budget) opened_is;
  used = omega (arith, stopped.used, ap one_if stopped.spent, ap (λ (l : Ledgered). l.budget) opened_is);
  made = omega (arith, stopped.used, ap (λ (l : Ledgered). l.budget) opened_is);
  spent = stopped.spent;
}

-- the solver that is made for the clauses of the cones, of which a base gives each
pub made_of_base : (graphs : Graphs) (query : Query) (lemmas : List LogLine) (cones : Coned) (base : Asking) (ids : List ℕ) (s : Solving) → cones.graphs ≡ graphs → cones.query ≡ query → base ≡ record { graphs = graphs; query = query } → ids ≡ cones.ids → AreConeIds cones.graphs cones.query cones.ids → AreDerived (formula_of graphs query) lemmas → s ≡ record { formula = formula_of base.graphs base.query; ids = ids; lines = lemmas } → IsOfCones graphs query lemmas s
made_of_base graphs query lemmas cones base ids s graphs_are query_is base_is ids_are cone_ids derived is = record {
  formula = ap (λ (x : Solving). x.formula) is ∙ ap (λ (b : Asking). formula_of b.graphs b.query) base_is;
  ids = λ id cone.
      let own = (cone_ids.cones id).1 (subst (λ (q : Query). IsConeId cones.graphs q id) (sym query_is) (subst (λ (g : Graphs). IsConeId g query id) (sym graphs_are) cone)) in
      subst (λ (xs : List ℕ). Contains xs id) (sym (ap (λ (x : Solving). x.ids) is ∙ ids_are)) own;
  lines = ap (λ (x : Solving). x.lines) is;
  derived = derived;
}

-- lines that begin with lemmas by which gates are joined join them too
pub joined_longer : (graphs : Graphs) (query : Query) (lemmas lines : List LogLine) → AreJoined graphs query lemmas → take (length lemmas) lines ≡ lemmas → AreJoined graphs query lines
joined_longer graphs query lemmas lines are begin gate is =
    let joined = are gate is in
    record {
      first = joined.first;
      is_gate = joined.is_gate;
      is_first = joined.is_first;
      one_tree = joined.one_tree;
      joined = elim (joined.joined) [
        | inl same ↦ inl same
        | inr equal ↦ inr (record { to = longer (opposite joined.first.output ∷ gate.output ∷ []) equal.to; back = longer (joined.first.output ∷ opposite gate.output ∷ []) equal.back })
      ];
    }
  where
    longer : (clause : List SatLit) → Contains (clauses_of lemmas) clause → Contains (clauses_of lines) clause
    longer clause has =
        let rest = drop (length lemmas) lines in
        let split : lemmas ++ rest ≡ lines = ap (λ (ls : List LogLine). ls ++ rest) (sym begin) ∙ take-append-drop (length lemmas) lines in
        subst (λ (cs : List (List SatLit)). Contains cs clause) (sym (map-append (λ (l : LogLine). l.clause) lemmas rest) ∙ ap clauses_of split) (Contains-append_left (clauses_of lemmas) (clauses_of rest) clause has)

-- clauses of which none is empty or longer than three literals are short
pub short_from : (clauses : List (List SatLit)) → list_any is_empty clauses ≡ false → All (λ clause. length clause ≤ 3) clauses → AreShort clauses
short_from clauses filled short k d within = (some (slice_index_or clauses k d) refl, short k d within)
  where
    some : (clause : List SatLit) → slice_index_or clauses k d ≡ clause → 1 ≤ length clause
    some [] is = absurd (both_ways (list_any is_empty clauses) filled (list_any_at is_empty clauses k d within (ap is_empty is)))
    some (l ∷ clause) is = omega arith

-- A query that is asked by the clauses of its cones and by lemmas that join gates, in an entry that was opened for it.
module _ (graphs : Graphs) (query : Query) (lemmas : List LogLine) (cones : Coned) (old first after : Ledgered) (graphs_are : cones.graphs ≡ graphs) (query_is : cones.query ≡ query) (ids : AreConeIds cones.graphs cones.query cones.ids) (are : AreLemmas (formula_of cones.graphs cones.query) lemmas) where
  abbrev pub start : Solving
  start = start_of (formula_of cones.graphs cones.query) cones.ids lemmas

  abbrev pub done : Solving
  done = with_lines_of start (charging_of after)

  -- what holds of the cones' circuits and query holds of these
  of_these : (P : Graphs → Query → Type 0) → P cones.graphs cones.query → P graphs query
  of_these P holds = subst (P graphs) query_is (subst (λ (g : Graphs). P g cones.query) graphs_are holds)

  own : AreLemmas (formula_of graphs query) lemmas
  own = of_these (λ g q. AreLemmas (formula_of g q) lemmas) are

  of : IsOfCones graphs query lemmas start
  of =
      let both : Asking = record { graphs = cones.graphs; query = cones.query } in
      made_of_base graphs query lemmas cones both cones.ids start graphs_are query_is (λ i. record { graphs = graphs_are i; query = query_is i }) refl ids own.derived refl

  pub cones_asked : 0 < length first.asked → first ≡ record old { asked = opened query lemmas old.asked } → IsExtended start done (charging_of first) (charging_of after) → IsAskedIn graphs query old after
  cones_asked there opened_is extended = record {
    lemmas = lemmas;
    are = own;
    with_them = asked_with graphs query lemmas start done old first after of there opened_is extended;
  }

  pub cones_stopped : (stop : Stop) → 0 < length first.asked → first ≡ record old { asked = opened query lemmas old.asked } → IsSolverStopped start done (charging_of first) (charging_of after) stop → IsStoppedAfter (IsAskedIn graphs query old after) old after stop
  cones_stopped stop there opened_is stopped =
      stopped_weaker old after stop (λ is. record { lemmas = lemmas; are = own; with_them = is }) (stopped_with graphs query lemmas start done old first after stop of there opened_is stopped)

  pub cones_met : (values : List Bool) → IsExtended start done (charging_of first) (charging_of after) → Meets values (wanted done.formula done.ids) → MeetsCones graphs query values
  cones_met values extended meets = meets_cones graphs query lemmas start done (charging_of first) (charging_of after) values of extended meets

  pub cones_joined : (lines : List LogLine) → AreJoined cones.graphs cones.query lemmas → IsExtended start done (charging_of first) (charging_of after) → lines ≡ done.lines → AreJoined graphs query lines
  cones_joined lines joined extended lines_are =
      subst (AreJoined graphs query) (sym lines_are) (joined_longer graphs query lemmas done.lines (of_these (λ g q. AreJoined g q lemmas) joined) extended.kept)
