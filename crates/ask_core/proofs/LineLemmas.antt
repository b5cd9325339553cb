-- Lines over dense variables are derived where they are.
use Rattle.std.proofs.Common.{◌≡◌, ℕ, ◌+◌, ◌-◌, ◌*◌, ◌%◌, ◌<◌, ◌==◌, ◌&&◌, ◌||◌, not, cond, Bool, true, false, List, [], ◌∷◌, ◌++◌, length, map, All, None, nat_lt, slice_index_or, inl, inr, refl, sym, ◌∙◌, ap, arith}
use Rattle.std.specs.List.{list_any, list_all}
use Rattle.std.proofs.lemmas.Bool.{cases_lt, eq-eqb, le-ltb, lt-ltb}
use Rattle.std.proofs.lemmas.Bool.Decides.{eqb_tells}
use Rattle.std.proofs.lemmas.List.{append_assoc, get_or_append_left, get_or-append_right, get_or-map, length-append, length-map, map-append}
use Rattle.std.proofs.lemmas.List.Folds.{list_any-append}
use Rattle.std.proofs.lemmas.List.Elements.{All-append, All-head, All-tail}
use Rattle.cnf_core.specs.declared.literal.SatLit.{SatLit}
use Rattle.cnf_core.specs.declared.log.LogLine.{LogLine}
use Rattle.cnf_core.specs.Clauses.{Formula, clause_at, is_negated, literal_of, opposite, variable_of, AreKnown}
use Rattle.cnf_core.specs.Derivations.{clauses_of, hint_fault, is_empty, line_fault}
use Rattle.cnf_core.proofs.LiteralLemmas.{itself, negated-opposite, same_number, variable_of-literal, variable_of-opposite, opposite-literal}
use Rattle.learn_solver.proofs.SolverLemmas.{line_from, line_known, line_says}
use Rattle.ask_core.specs.Renamings.{AreNames, IsRenaming, renamed, renumbered, translated}
use Rattle.ask_core.proofs.RenameLemmas.{Renames, hints_renamed, once_renamed, opposites_known, opposites_renamed}
use Rattle.std.proofs.Math.Bool.{not-not}

pub is_negated-literal : (v : ℕ) (b : Bool) → is_negated (literal_of v b) ≡ not b
is_negated-literal v true = elim (eqb_tells (2 * v % 2) 1) [ inl (odd, e) ↦ absurd (omega (arith, e)) | inr (even, e) ↦ even ]
is_negated-literal v false = eq-eqb ((2 * v + 1) % 2) 1 (omega arith)

-- two tests agree where each says what the other does
tests_agree : (a b c d : ℕ) → (a ≡ b → c ≡ d) → (c ≡ d → a ≡ b) → (a == b) ≡ (c == d)
tests_agree a b c d there back =
    elim (eqb_tells a b) [
      | inl (yes_, e) ↦ yes_ ∙ sym (eq-eqb c d (there e))
      | inr (no_, e) ↦ elim (eqb_tells c d) [ inl (is, f) ↦ absurd (e (back f)) | inr (is, f) ↦ no_ ∙ sym is ]
    ]

-- names that are apart rename literals apart
pub names_rename : (variables : ℕ) (names : List ℕ) → AreNames variables names → Renames (length names) (renamed names)
names_rename variables names are = record {
  turned = λ l. opposite-literal (name l) (not (is_negated l)) ∙ (ap (literal_of (name l)) (ap not (sym (negated-opposite l))) ∙ ap (λ v. literal_of (slice_index_or names v 0) (not (is_negated (opposite l)))) (sym (variable_of-opposite l)));
  same = λ l m below there. tests_agree (renamed names l).0 (renamed names m).0 l.0 m.0
      (λ e. back l m below there (same_number (renamed names l) (renamed names m) e))
      (λ e. ap (λ x. (renamed names x).0) (same_number l m e));
  apart = λ l m below there. tests_agree (variable_of (renamed names l)) (variable_of (renamed names m)) (variable_of l) (variable_of m)
      (λ e. are.apart (variable_of l) (variable_of m) below there (sym (variable_of-literal (name l) (not (is_negated l))) ∙ (e ∙ variable_of-literal (name m) (not (is_negated m)))))
      (λ e. variable_of-literal (name l) (not (is_negated l)) ∙ (ap (λ v. slice_index_or names v 0) e ∙ sym (variable_of-literal (name m) (not (is_negated m)))));
}
  where
    name : SatLit → ℕ
    name l = slice_index_or names (variable_of l) 0

    back : (l m : SatLit) → variable_of l < length names → variable_of m < length names → renamed names l ≡ renamed names m → l.0 ≡ m.0
    back l m below there e =
        let variables_are : name l ≡ name m = sym (variable_of-literal (name l) (not (is_negated l))) ∙ (ap variable_of e ∙ variable_of-literal (name m) (not (is_negated m))) in
        let v = are.apart (variable_of l) (variable_of m) below there variables_are in
        let signs : not (not (is_negated l)) ≡ not (not (is_negated m)) = sym (is_negated-literal (name l) (not (is_negated l))) ∙ (ap is_negated e ∙ is_negated-literal (name m) (not (is_negated m))) in
        let s = sym (not-not (not (is_negated l))) ∙ (ap not signs ∙ not-not (not (is_negated m))) in
        ap (λ (x : SatLit). x.0) (sym (itself l) ∙ (ap (λ w. literal_of w (not (is_negated l))) v ∙ (ap (literal_of (variable_of m)) s ∙ itself m)))

-- a renamed clause is over the formula's variables
pub names_known : (variables : ℕ) (names : List ℕ) → AreNames variables names → (clause : List SatLit) → AreKnown (length names) clause → list_all (λ l. nat_lt (variable_of l) variables) (map (renamed names) clause) ≡ true
names_known variables names are [] known = refl
names_known variables names are (l ∷ clause) known =
    let own = All-head (λ (x : SatLit). variable_of x < length names) l clause known in
    let low : variable_of (renamed names l) < variables = omega (arith, variable_of-literal (slice_index_or names (variable_of l) 0) (not (is_negated l)), are.known (variable_of l) 0 own) in
    ap (λ b. b && list_all (λ x. nat_lt (variable_of x) variables) (map (renamed names) clause)) (lt-ltb (variable_of (renamed names l)) variables low)
    ∙ names_known variables names are clause (All-tail (λ (x : SatLit). variable_of x < length names) l clause known)

-- the clauses of translated lines
pub clauses_translated : (names numbers : List ℕ) (next : ℕ) (lines : List LogLine) → clauses_of (map (translated names numbers next) lines) ≡ map (map (renamed names)) (clauses_of lines)
clauses_translated names numbers next [] = refl
clauses_translated names numbers next (line ∷ lines) = ap (λ cs. map (renamed names) line.clause ∷ cs) (clauses_translated names numbers next lines)

pub empties_renamed : (r : SatLit → SatLit) (clauses : List (List SatLit)) → list_any is_empty (map (map r) clauses) ≡ list_any is_empty clauses
empties_renamed r [] = refl
empties_renamed r ([] ∷ clauses) = refl
empties_renamed r ((l ∷ clause) ∷ clauses) = empties_renamed r clauses

-- the clauses of lemmas and of translated lines after them
pub clauses_after : (names numbers : List ℕ) (next : ℕ) (lemmas taken : List LogLine) → clauses_of (lemmas ++ map (translated names numbers next) taken) ≡ clauses_of lemmas ++ map (map (renamed names)) (clauses_of taken)
clauses_after names numbers next lemmas taken =
    map-append (λ (l : LogLine). l.clause) lemmas (map (translated names numbers next) taken) ∙ ap (λ cs. clauses_of lemmas ++ cs) (clauses_translated names numbers next taken)

-- each clause that a line may use is the renamed one of its number
pub at_renumbered : (small full : Formula) (names numbers : List ℕ) (lemmas taken : List LogLine) → IsRenaming small names numbers full lemmas → (k : ℕ) → k < length (small.clauses ++ clauses_of taken)
    → (renumbered numbers (length full.clauses + length lemmas) k < length (full.clauses ++ (clauses_of lemmas ++ map (map (renamed names)) (clauses_of taken))))
    × (clause_at (full.clauses ++ (clauses_of lemmas ++ map (map (renamed names)) (clauses_of taken))) (renumbered numbers (length full.clauses + length lemmas) k) ≡ map (renamed names) (clause_at (small.clauses ++ clauses_of taken) k))
at_renumbered small full names numbers lemmas taken is k within =
    let next = length full.clauses + length lemmas in
    let r = renamed names in
    let more = map (map r) (clauses_of taken) in
    let front = full.clauses ++ clauses_of lemmas in
    let sizes = length-map lemmas (λ (l : LogLine). l.clause) in
    let front_size : length front ≡ next = omega (arith, length-append full.clauses (clauses_of lemmas), sizes) in
    let whole_size = length-append front more in
    let more_size = length-map (clauses_of taken) (map r) in
    let joined = append_assoc full.clauses (clauses_of lemmas) more in
    elim (cases_lt k (length numbers)) [
      | inl early ↦
          let id = slice_index_or numbers k 0 in
          let number : renumbered numbers next k ≡ id = ap (λ b. cond b id (next + (k - length numbers))) (lt-ltb k (length numbers) early) in
          let low : id < next = is.there k 0 early in
          let first : clause_at (front ++ more) id ≡ clause_at front id = get_or_append_left front more [] id (omega (arith, low, front_size)) in
          let own : clause_at (small.clauses ++ clauses_of taken) k ≡ clause_at small.clauses k = get_or_append_left small.clauses (clauses_of taken) [] k (omega (arith, early, is.count)) in
          (omega (arith, number, low, front_size, whole_size, ap length joined), ap (clause_at (full.clauses ++ (clauses_of lemmas ++ more))) number ∙ (ap (λ cs. clause_at cs id) (sym joined) ∙ (first ∙ (is.each k early ∙ ap (map r) (sym own)))))
      | inr late ↦
          let j = k - length numbers in
          let number : renumbered numbers next k ≡ next + j = ap (λ b. cond b (slice_index_or numbers k 0) (next + (k - length numbers))) (le-ltb k (length numbers) late) in
          let small_size = length-append small.clauses (clauses_of taken) in
          let below : j < length (clauses_of taken) = omega (arith, late, within, small_size, is.count) in
          let first : clause_at (front ++ more) (next + j) ≡ clause_at more (next + j - length front) = get_or-append_right front more (length front) (next + j) [] refl (omega (arith, front_size)) in
          let index : next + j - length front ≡ j = omega (arith, front_size) in
          let turned : clause_at more j ≡ map r (clause_at (clauses_of taken) j) = get_or-map (map r) (clauses_of taken) j [] [] below in
          let own : clause_at (small.clauses ++ clauses_of taken) k ≡ clause_at (clauses_of taken) (k - length small.clauses) = get_or-append_right small.clauses (clauses_of taken) (length small.clauses) k [] refl (omega (arith, late, is.count)) in
          let same : k - length small.clauses ≡ j = omega (arith, is.count) in
          (omega (arith, number, below, more_size, front_size, whole_size, ap length joined), ap (clause_at (full.clauses ++ (clauses_of lemmas ++ more))) number ∙ (ap (λ cs. clause_at cs (next + j)) (sym joined) ∙ (first ∙ (ap (clause_at more) index ∙ (turned ∙ ap (map r) (sym (own ∙ ap (clause_at (clauses_of taken)) same)))))))
    ]

-- a line that is derived is derived where it is translated
pub line_translated : (small full : Formula) (names numbers : List ℕ) (lemmas taken : List LogLine) (line : LogLine) → IsRenaming small names numbers full lemmas → list_any is_empty (clauses_of lemmas) ≡ false → All (AreKnown (length names)) (clauses_of taken) → line_fault small (clauses_of taken) line ≡ None
    → line_fault full (clauses_of (lemmas ++ map (translated names numbers (length full.clauses + length lemmas)) taken)) (translated names numbers (length full.clauses + length lemmas) line) ≡ None
line_translated small full names numbers lemmas taken line is filled known good =
    let next = length full.clauses + length lemmas in
    let r = renamed names in
    let renames = names_rename full.variables names is.names_are in
    let n = length names in
    let said = line_says small (clauses_of taken) line good in
    let own : AreKnown n line.clause = λ k d below. omega (arith, is.variables, line_known small (clauses_of taken) line good k d below) in
    let cs = clauses_of lemmas ++ map (map r) (clauses_of taken) in
    let all_known : All (AreKnown n) (small.clauses ++ clauses_of taken) = All-append (AreKnown n) small.clauses (clauses_of taken) is.known known in
    let hints : hint_fault (full.clauses ++ cs) (map r (map opposite line.clause)) (map (renumbered numbers next) line.hints) ≡ None = hints_renamed n r renames (small.clauses ++ clauses_of taken) (full.clauses ++ cs) (renumbered numbers next) all_known (at_renumbered small full names numbers lemmas taken is) (map opposite line.clause) line.hints (opposites_known n line.clause own) said.hints in
    let fine : line_fault full cs (translated names numbers next line) ≡ None = line_from full cs (translated names numbers next line) (record {
      unclosed = list_any-append is_empty (clauses_of lemmas) (map (map r) (clauses_of taken)) ∙ (ap (λ b. b || list_any is_empty (map (map r) (clauses_of taken))) filled ∙ (empties_renamed r (clauses_of taken) ∙ said.unclosed));
      known = names_known full.variables names is.names_are line.clause own;
      once = once_renamed n r renames line.clause own ∙ said.once;
      hints = ap (λ ls. hint_fault (full.clauses ++ cs) ls (map (renumbered numbers next) line.hints)) (opposites_renamed n r renames line.clause) ∙ hints;
    }) in
    ap (λ cl. line_fault full cl (translated names numbers next line)) (clauses_after names numbers next lemmas taken) ∙ fine
