-- What excluding the beginnings of vectors makes of a log and a ledger, and how it ends.
use Rattle.std.proofs.Common.{◌≡◌, ℕ, suc, ◌+◌, ◌^◌, ◌<◌, ◌≤◌, ◌||◌, Bool, true, false, List, [], ◌∷◌, ◌++◌, length, drop, map, All, Contains, Result, Ok, Err, OnOk, IfErr, nat_lt, slice_index_or, Option, None, Some, IfSome, IfNone, is_some, inl, inr, refl, sym, ap, subst, ◌∙◌, arith, append_assoc}
use Rattle.std.specs.List.{list_any, list_all, range_with_len}
use Rattle.std.proofs.lemmas.Bool.{both_ways, cases_eq, false≢true, or_cases, or_left, or_right}
use Rattle.std.proofs.lemmas.List.{get_or-append-add, get_or-map, length-append, map-append, take-append-drop}
use Rattle.std.proofs.lemmas.List.Elements.{All-append}
use Rattle.std.proofs.lemmas.List.FromFn.{fill_by_all, get_or-range_with_len, length-range_with_len}
use Rattle.std.proofs.lemmas.List.Folds.{list_any-append, list_any_at, list_any_none}
use Rattle.std.proofs.lemmas.List.Recursion.{and_from_places}
use Rattle.circuits.specs.Literals.{vector_of}
use Rattle.circuits.proofs.Codes.{code_of, code_of-below, length-vector_of, vector_of-code_of}
use Rattle.cnf_core.specs.declared.literal.SatLit.{SatLit}
use Rattle.cnf_core.specs.declared.log.LogLine.{LogLine}
use Rattle.cnf_core.specs.Clauses.{clause_at, opposite, variable_of}
use Rattle.cnf_core.specs.Derivations.{IsRefutation, clauses_of, hint_fault, is_empty, is_same, is_true, repeats_variable, has_all}
use Rattle.cnf_core.specs.declared.stop.Stop.{Stop}
use Rattle.net_core.specs.Sides.{Graphs}
use Rattle.net_core.specs.Graph.{IsGraph}
use Rattle.claim_core.specs.declared.query.Query.{Query}
use Rattle.claim_core.specs.Queries.{IsQuery}
use Rattle.claim_core.specs.Formulas.{Asking, formula_of, query_clauses}
use Rattle.cnf_core.specs.Charges.{Charging, IsCharged, IsRefused}
use Rattle.learn_solver.specs.Searches.{last_line}
use Rattle.learn_solver.specs.Solvers.{IsAdded, IsAsking, IsExtended, active}
use Rattle.learn_solver.specs.Solvers.{IsStopped as IsHalted}
use Rattle.cnf_core.proofs.LiteralLemmas.{same_itself}
use Rattle.learn_solver.proofs.AdvanceLemmas.{derived_after}
use Rattle.cnf_core.proofs.LineLemmas.{clauses_more}
use Rattle.learn_solver.proofs.SolverLemmas.{line_from}
use Rattle.learn_solver.proofs.StepLemmas.{asking_charged, extended_charged, last_added, stopped_one}
use Rattle.ask_core.proofs.AskLemmas.{IsOfCones}
use Rattle.joint_hash.proofs.LineLemmas.{no_lemmas}
use Rattle.fact_tests.proofs.ConeLemmas.{none_empty}
use Rattle.table_oracle.specs.declared.splitting.Splitting.{Splitting}
use Rattle.table_oracle.specs.Splits.{AllExcluded, IsBeginning, IsCovering, IsExcluded, IsNew, IsSplitting, clauses_in, excluding, solving_of}
use Rattle.table_oracle.proofs.ExcludingLemmas.{excluding_known, excluding_once}
use Rattle.claim_core.proofs.ConeLaws.{cone_id_there}

-- the first n clauses all say something that this one doesn't
abbrev pub AreNewUpTo : List (List SatLit) → List SatLit → ℕ → Type 0
AreNewUpTo clauses clause count = (k : ℕ) (d : List SatLit) → k < count → k < length clauses → has_all clause (slice_index_or clauses k d) ≡ false

-- All beginnings of n bits were excluded.
pub record IsSplitTo {O : Type 0} (splitting : Splitting) (old now : List LogLine) (before ledger : Charging O) (bits : ℕ) : Type 0 where
  pub within : bits ≤ splitting.inputs
  pub extended : IsExtended (solving_of splitting.base old) (solving_of splitting.base now) before ledger
  pub asking : IsAsking ledger now
  pub excluded : AllExcluded (clauses_in splitting.base now) bits

-- The beginnings of n bits were excluded whose numbers are below one, and all longer ones before.
pub record IsSplitUpTo {O : Type 0} (splitting : Splitting) (old now : List LogLine) (before ledger : Charging O) (bits code : ℕ) : Type 0 where
  pub extended : IsExtended (solving_of splitting.base old) (solving_of splitting.base now) before ledger
  pub asking : IsAsking ledger now
  pub closed : bits < splitting.inputs → AllExcluded (clauses_in splitting.base now) (bits + 1)
  pub excluded : (c : ℕ) → c < code → IsExcluded (clauses_in splitting.base now) (vector_of bits c)

-- what is excluded stays so
pub still_excluded : {O : Type 0} (asking : Asking) (old new : List LogLine) (before after : Charging O) (bits : List Bool) → IsExtended (solving_of asking old) (solving_of asking new) before after → IsExcluded (clauses_in asking old) bits → IsExcluded (clauses_in asking new) bits
still_excluded {O} asking old new before after bits extended excluded =
    let p = has_all (excluding bits) in
    let front = query_clauses asking.graphs asking.query in
    let rest = drop (length old) new in
    let whole : new ≡ old ++ rest = sym (take-append-drop (length old) new) ∙ ap (λ ls. ls ++ rest) extended.kept in
    let clauses : clauses_in asking new ≡ clauses_in asking old ++ clauses_of rest = ap (λ ls. front ++ clauses_of ls) whole ∙ (ap (λ cs. front ++ cs) (map-append (λ (l : LogLine). l.clause) old rest) ∙ sym (append_assoc front (clauses_of old) (clauses_of rest))) in
    ap (list_any p) clauses ∙ (list_any-append p (clauses_in asking old) (clauses_of rest) ∙ or_left (list_any p (clauses_in asking old)) (list_any p (clauses_of rest)) excluded)

pub all_still : {O : Type 0} (asking : Asking) (old new : List LogLine) (before after : Charging O) (count : ℕ) → IsExtended (solving_of asking old) (solving_of asking new) before after → AllExcluded (clauses_in asking old) count → AllExcluded (clauses_in asking new) count
all_still {O} asking old new before after count extended all bits size =
    still_excluded asking old new before after bits extended (all bits size)

-- each beginning has a number
pub all_by_codes : (clauses : List (List SatLit)) (count : ℕ) → ((c : ℕ) → c < 2 ^ count → IsExcluded clauses (vector_of count c)) → AllExcluded clauses count
all_by_codes clauses count each bits size =
    let below : code_of bits < 2 ^ count = subst (λ n. code_of bits < 2 ^ n) size (code_of-below bits) in
    let is : vector_of count (code_of bits) ≡ bits = ap (λ n. vector_of n (code_of bits)) (sym size) ∙ sym (vector_of-code_of bits) in
    subst (IsExcluded clauses) is (each (code_of bits) below)

-- what is begun by n bits, where all longer beginnings are excluded
pub begun : (splitting : Splitting) (lines : List LogLine) (bits code : ℕ) (x : List Bool) → x ≡ vector_of bits code → bits ≤ splitting.inputs → (bits < splitting.inputs → AllExcluded (clauses_in splitting.base lines) (bits + 1)) → IsBeginning splitting lines x
begun splitting lines bits code x is within closed =
    let size : length x ≡ bits = ap length is ∙ length-vector_of bits code in
    record {
      within = omega (arith, size, within);
      closed = λ less b. closed (omega (arith, size, less)) (x ++ b ∷ []) (length-append x (b ∷ []) ∙ ap (λ n. n + 1) size);
    }

-- a clause that has literals of this one alone excludes what it excludes
pub covered : (clauses : List (List SatLit)) (bits : List Bool) (id : ℕ) → IsCovering clauses (excluding bits) id → IsExcluded clauses bits
covered clauses bits id covering =
    list_any_at (has_all (excluding bits)) clauses id [] covering.within covering.has

pub not_excluded : (clauses : List (List SatLit)) (bits : List Bool) → IsNew clauses (excluding bits) → IsExcluded clauses bits → ⊥
not_excluded clauses bits new excluded =
    both_ways (list_any (has_all (excluding bits)) clauses) (list_any_none (has_all (excluding bits)) clauses new) excluded

-- ---- one line

-- a clause has its own literals
own_literals : (clause : List SatLit) → has_all clause clause ≡ true
own_literals clause =
    let d : SatLit = record { 0 = 0 } in
    and_from_places (list_all (is_true clause)) (is_true clause) refl (λ _ _. refl) clause d (λ k within. list_any_at (is_same (slice_index_or clause k d)) clause k d within (same_itself (slice_index_or clause k d)))

pub excluded_by : (asking : Asking) (lines : List LogLine) (line : LogLine) (bits : List Bool) → line.clause ≡ excluding bits → IsExcluded (clauses_in asking (lines ++ line ∷ [])) bits
excluded_by asking lines line bits is =
    let p = has_all (excluding bits) in
    let front = query_clauses asking.graphs asking.query in
    let clauses : clauses_in asking (lines ++ line ∷ []) ≡ clauses_in asking lines ++ line.clause ∷ [] = ap (λ cs. front ++ cs) (clauses_more lines line) ∙ sym (append_assoc front (clauses_of lines) (line.clause ∷ [])) in
    ap (list_any p) clauses
    ∙ (list_any-append p (clauses_in asking lines) (line.clause ∷ [])
    ∙ or_right (list_any p (clauses_in asking lines)) (p line.clause || false) (or_left (p line.clause) false (ap p is ∙ own_literals (excluding bits))))

-- all clauses are looked at
pub all_looked : (asking : Asking) (lines : List LogLine) → active (solving_of asking lines).formula (solving_of asking lines).ids lines ≡ clauses_in asking lines
all_looked asking lines =
    let front = query_clauses asking.graphs asking.query in
    ap (λ cs. cs ++ clauses_of lines) (sym (fill_by_all (clause_at front) front (length front) [] refl (λ k within. refl)))

-- a line that says something new stands after none that is empty
none_closed : (clauses : List (List SatLit)) (clause : List SatLit) → IsNew clauses clause → list_any is_empty clauses ≡ false
none_closed [] clause new = refl
none_closed ([] ∷ clauses) clause new = absurd (both_ways true (new 0 [] (omega arith)) refl)
none_closed ((l ∷ c) ∷ clauses) clause new = none_closed clauses clause (λ k d within. new (suc k) d (omega (arith, within)))

new_after : (front lines : List (List SatLit)) (clause : List SatLit) → IsNew (front ++ lines) clause → IsNew lines clause
new_after front lines clause new k d within =
    subst (λ c. has_all clause c ≡ false) (get_or-append-add front lines k d) (new (length front + k) d (omega (arith, within, length-append front lines)))

pub line_added : (splitting : Splitting) (lines : List LogLine) (bits : List Bool) (line : LogLine) → IsSplitting splitting → length bits ≤ splitting.inputs → line.clause ≡ excluding bits → IsNew (clauses_in splitting.base lines) line.clause → hint_fault (clauses_in splitting.base lines) (map opposite line.clause) line.hints ≡ None → IsAdded (solving_of splitting.base lines).formula (solving_of splitting.base lines).ids lines line
line_added splitting lines bits line is within clause new hints =
    let asking = splitting.base in
    let formula = formula_of asking.graphs asking.query in
    let few : length bits < formula.variables = omega (arith, within, is.inputs) in
    record {
      derived = line_from formula (clauses_of lines) line (record {
        unclosed = none_closed (clauses_of lines) line.clause (new_after (query_clauses asking.graphs asking.query) (clauses_of lines) line.clause new);
        known = subst (λ c. list_all (λ l. nat_lt (variable_of l) formula.variables) c ≡ true) (sym clause) (excluding_known formula.variables bits few);
        once = subst (λ c. repeats_variable c ≡ false) (sym clause) (excluding_once bits);
        hints = hints;
      });
      fresh = subst (λ (cs : List (List SatLit)). All (λ other. has_all line.clause other ≡ false) cs) (sym (all_looked asking lines)) new;
    }

-- the line is charged
pub line_charged : {O : Type 0} (asking : Asking) (lines new : List LogLine) (line : LogLine) (first after : Charging O) (r : Result (Unit {0}) Stop) → IsAsking first lines → new ≡ lines ++ line ∷ [] → IsAdded (solving_of asking lines).formula (solving_of asking lines).ids lines line → OnOk r (IsCharged first (last_line new) after) → OnOk r (IsExtended (solving_of asking lines) (solving_of asking new) first after)
line_charged {O} asking lines new line first after (Err stop) ready more added charged = tt
line_charged {O} asking lines new line first after (Ok done) ready more added charged =
    let grown = ap (solving_of asking) more in
    let last = last_added (solving_of asking lines) (solving_of asking new) line grown in
    extended_charged (solving_of asking lines) (solving_of asking new) line first after ready grown added (subst (λ (l : LogLine). IsCharged first l after) last charged)

-- and its entry goes on
pub line_asked : {O : Type 0} (asking : Asking) (lines new : List LogLine) (line : LogLine) (first after : Charging O) (r : Result (Unit {0}) Stop) → IsAsking first lines → new ≡ lines ++ line ∷ [] → OnOk r (IsCharged first (last_line new) after) → OnOk r (IsAsking after new)
line_asked {O} asking lines new line first after (Err stop) ready more charged = tt
line_asked {O} asking lines new line first after (Ok done) ready more charged =
    let last = last_added (solving_of asking lines) (solving_of asking new) line (ap (solving_of asking) more) in
    subst (IsAsking after) (sym more) (asking_charged lines line first after ready (subst (λ (l : LogLine). IsCharged first l after) last charged))

pub line_stopped : {O : Type 0} (asking : Asking) (lines new : List LogLine) (line : LogLine) (first after : Charging O) (r : Result (Unit {0}) Stop) → IsAsking first lines → new ≡ lines ++ line ∷ [] → IsAdded (solving_of asking lines).formula (solving_of asking lines).ids lines line → IfErr r (IsRefused first (last_line new) after) → IfErr r (IsHalted (solving_of asking lines) (solving_of asking new) first after)
line_stopped {O} asking lines new line first after (Ok done) ready more added refused = tt
line_stopped {O} asking lines new line first after (Err stop) ready more added refused =
    let grown = ap (solving_of asking) more in
    let last = last_added (solving_of asking lines) (solving_of asking new) line grown in
    stopped_one (solving_of asking lines) (solving_of asking new) line first after stop ready grown added (subst (λ (l : LogLine). IsRefused first l after stop) last refused)

pub on_ok : {P : Type 0} (r : Result (Unit {0}) Stop) → P → OnOk r P
on_ok {P} (Ok done) holds = holds
on_ok {P} (Err stop) holds = tt

-- ---- the end

-- a query whose clauses are all looked at, without lines
pub of_cones : (graphs : Graphs) (query : Query) (asking : Asking) (lines : List LogLine) → asking ≡ record { graphs = graphs; query = query } → lines ≡ [] → IsGraph graphs.first → IsGraph graphs.second → IsQuery graphs query → IsOfCones graphs query [] (solving_of asking lines)
of_cones graphs query asking lines is none first second fits = record {
  formula = ap (λ (a : Asking). formula_of a.graphs a.query) is;
  ids = λ id cone.
      let count = length (query_clauses graphs query) in
      let below = cone_id_there graphs query id first second fits cone in
      subst (λ (a : Asking). Contains (range_with_len 0 (length (query_clauses a.graphs a.query))) id) (sym is) (id, omega (arith, below, length-range_with_len 0 count), get_or-range_with_len 0 count id id below ∙ own id);
  lines = none;
  derived = (no_lemmas (formula_of graphs query) [] refl).derived;
}
  where
    own : (n : ℕ) → 0 + n ≡ n
    own n = omega arith

empty_found : (clauses : List (List SatLit)) → list_any (has_all []) clauses ≡ true → list_any is_empty clauses ≡ true
empty_found [] found = found
empty_found ([] ∷ clauses) found = refl
empty_found ((l ∷ c) ∷ clauses) found = empty_found clauses found

-- once the vectors of no bits at all are excluded, the log is closed
pub closes : (asking : Asking) (lines : List LogLine) → AllExcluded (clauses_in asking lines) 0 → list_any is_empty (clauses_of lines) ≡ true
closes asking lines excluded =
    let front = query_clauses asking.graphs asking.query in
    let found : (list_any (has_all []) front || list_any (has_all []) (clauses_of lines)) ≡ true = sym (list_any-append (has_all []) front (clauses_of lines)) ∙ excluded [] refl in
    elim (or_cases (list_any (has_all []) front) (list_any (has_all []) (clauses_of lines)) found) [
      | inl here ↦ absurd (both_ways (list_any (has_all []) front) (list_any_none (has_all []) front (none_empty asking.graphs asking.query)) here)
      | inr following ↦ empty_found (clauses_of lines) following
    ]

-- and it is a refutation
pub refuted : {O : Type 0} (asking : Asking) (old lines : List LogLine) (before after : Charging O) → old ≡ [] → IsExtended (solving_of asking old) (solving_of asking lines) before after → AllExcluded (clauses_in asking lines) 0 → IsRefutation (formula_of asking.graphs asking.query) lines
refuted {O} asking old lines before after none extended excluded = record {
  derived = derived_after (solving_of asking old) (solving_of asking lines) before after (λ k d within. absurd (omega (arith, within, ap length none))) extended;
  closed = closes asking lines excluded;
}

-- ---- looking for a clause

pub new_next : (lines : List LogLine) (clause : List SatLit) (k : ℕ) (line : LogLine) → AreNewUpTo (clauses_of lines) clause k → line ≡ slice_index_or lines k line → k < length lines → has_all clause line.clause ≡ false → AreNewUpTo (clauses_of lines) clause (k + 1)
new_next lines clause k line new is there fresh j d below within =
    elim (cases_eq j k) [
      | inl here ↦
          let at : slice_index_or (clauses_of lines) k d ≡ line.clause = get_or-map (λ (l : LogLine). l.clause) lines k line d there ∙ ap (λ (l : LogLine). l.clause) (sym is) in
          ap (λ i. has_all clause (slice_index_or (clauses_of lines) i d)) here ∙ (ap (has_all clause) at ∙ fresh)
      | inr before ↦ new j d (omega (arith, below, before)) within
    ]

pub new_both : (front lines : List (List SatLit)) (clause : List SatLit) → IsNew front clause → IsNew lines clause → IsNew (front ++ lines) clause
new_both front lines clause one other = All-append (λ c. has_all clause c ≡ false) front lines one other

pub covering_after : (front lines : List (List SatLit)) (clause : List SatLit) (count place : ℕ) → count ≡ length front → IsCovering lines clause place → IsCovering (front ++ lines) clause (count + place)
covering_after front lines clause count place count_is covering = record {
  within = omega (arith, count_is, covering.within, length-append front lines);
  has = ap (λ k. has_all clause (clause_at (front ++ lines) (k + place))) count_is ∙ (ap (has_all clause) (get_or-append-add front lines place []) ∙ covering.has);
}

pub covered_some : (clauses : List (List SatLit)) (bits : List Bool) (clause : List SatLit) (found : Option ℕ) → clause ≡ excluding bits → is_some found ≡ true → IfSome found (IsCovering clauses clause) → IsExcluded clauses bits
covered_some clauses bits clause None is some covering = absurd (false≢true some)
covered_some clauses bits clause (Some id) is some covering = covered clauses bits id (subst (λ c. IsCovering clauses c id) is covering)

pub not_covered : (clauses : List (List SatLit)) (clause : List SatLit) (found : Option ℕ) → is_some found ≡ false → IfNone found (IsNew clauses clause) → IsNew clauses clause
not_covered clauses clause None none new = new
not_covered clauses clause (Some id) none new = absurd (false≢true (sym none))

-- a line that excludes these bits, which no clause covers, may be added; what was asked of is what was lent
pub may_be_added : (splitting : Splitting) (lines looked read : List LogLine) (bits : List Bool) (line : LogLine) (clause : List SatLit) (found : Option ℕ)
    → IsSplitting splitting
    → length bits ≤ splitting.inputs
    → line.clause ≡ excluding bits
    → looked ≡ lines
    → read ≡ lines
    → clause ≡ line.clause
    → is_some found ≡ false
    → IfNone found (IsNew (clauses_in splitting.base looked) clause)
    → hint_fault (clauses_in splitting.base read) (map opposite (excluding bits)) line.hints ≡ None
    → IsAdded (solving_of splitting.base lines).formula (solving_of splitting.base lines).ids lines line
may_be_added splitting lines looked read bits line clause found is within clause_is looked_is read_is own none covered derived =
    let base = splitting.base in
    let uncovered = subst (λ (ls : List LogLine). IfNone found (IsNew (clauses_in base ls) clause)) looked_is covered in
    let fresh = subst (IsNew (clauses_in base lines)) own (not_covered (clauses_in base lines) clause found none uncovered) in
    let hints =
    ap (λ (cl : List SatLit). hint_fault (clauses_in base lines) (map opposite cl) line.hints) clause_is
    ∙ (ap (λ (ls : List LogLine). hint_fault (clauses_in base ls) (map opposite (excluding bits)) line.hints) (sym read_is) ∙ derived) in
    line_added splitting lines bits line is within clause_is fresh hints
