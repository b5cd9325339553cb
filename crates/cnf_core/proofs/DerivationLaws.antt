-- What is derived by hints follows: no assignment meets a formula that a log refutes.
use Rattle.std.proofs.Common.{◌≡◌, ◌≢◌, ℕ, zero, suc, ◌<◌, ◌≤◌, ◌&&◌, ◌||◌, not, cond, Bool, true, false, List, [], ◌∷◌, ◌++◌, length, map, filter, take, Option, None, Some, nat_lt, slice_index_or, inl, inr, refl, sym, ◌∙◌, ap, subst, arith}
use Rattle.std.specs.List.{list_any, list_all}
use Rattle.std.proofs.lemmas.Bool.{and_parts, cases_Bool, false≢true, false_from_ne_true, ltb-true, or_from, or_right, true_from_ne_false}
use Rattle.std.proofs.lemmas.List.{append-nil, append_assoc}
use Rattle.std.proofs.lemmas.List.Folds.{list_all-append, list_all-map, list_any-append, list_any_at, list_any_none}
use Rattle.std.proofs.lemmas.List.Recursion.{and_at, and_from_places}
use Rattle.std.proofs.lemmas.Map.Views.{Contains-from_any, any-filter_same}
use Rattle.std.proofs.lemmas.List.Elements.{All-contains, All-push}
use Rattle.std.proofs.Math.Seq.{take-suc, take-length}
use Rattle.circuits.proofs.Expansions.{literal_bit-inverse}
use Rattle.cnf_core.specs.declared.literal.SatLit.{SatLit}
use Rattle.cnf_core.specs.declared.log.LogLine.{LogLine}
use Rattle.cnf_core.specs.declared.effect.Effect.TheVariants.{Makes, Neither}
use Rattle.cnf_core.specs.declared.fault.LineFault.{LineFault}
use Rattle.cnf_core.specs.declared.fault.LineFault.TheVariants as fault
use Rattle.cnf_core.specs.Clauses.{Formula, Meets, is_met, as_signal, literal_bit, opposite, clause_at}
use Rattle.cnf_core.specs.Derivations.{is_same, is_true, is_false, effect_by, effect_of, fault_after, hint_fault, is_empty, line_fault, clauses_of, AreDerived, IsRefutation, no_line}
use Rattle.cnf_core.proofs.LineLemmas.{clauses_more, line_says}
use Rattle.cnf_core.proofs.LiteralLemmas.{same_literal}

-- the opposite of a literal has the other bit
pub opposite_bit : (a : List Bool) (l : SatLit) → literal_bit a (opposite l) ≡ not (literal_bit a l)
opposite_bit a l = literal_bit-inverse a (as_signal l)

-- where an assignment makes all of these true, it makes each of them true
found_true : (a : List Bool) (made : List SatLit) (l : SatLit) → list_all (literal_bit a) made ≡ true → is_true made l ≡ true → literal_bit a l ≡ true
found_true a made l all found =
    All-contains (λ m. literal_bit a m ≡ true) made l (λ k d within. and_at (list_all (literal_bit a)) (literal_bit a) refl (λ _ _. refl) made k d within all) (Contains-from_any same_literal l made found)

-- what it makes true isn't false
true_is_open : (a : List Bool) (made : List SatLit) (l : SatLit) → list_all (literal_bit a) made ≡ true → literal_bit a l ≡ true → is_false made l ≡ false
true_is_open a made l all holds =
    false_from_ne_true (is_false made l) (λ there. false≢true (sym (opposite_bit a l ∙ ap not holds) ∙ found_true a made (opposite l) all there))

-- a clause that is met has a true literal among those that aren't false
still_met : (a : List Bool) (made : List SatLit) (clause : List SatLit) → list_all (literal_bit a) made ≡ true → list_any (literal_bit a) clause ≡ true → list_any (literal_bit a) (filter (λ l. not (is_false made l)) clause) ≡ true
still_met a made clause all met =
    any-filter_same (literal_bit a) (λ l. not (is_false made l)) true (λ l holds. ap not (true_is_open a made l all holds)) clause ∙ met

-- one literal, written once or more, is true where one of them is
only_true : (a : List Bool) (l : SatLit) (others : List SatLit) → list_all (is_same l) others ≡ true → (literal_bit a l || list_any (literal_bit a) others) ≡ true → literal_bit a l ≡ true
only_true a l others alone met = true_from_ne_false (literal_bit a l) (λ fails.
    let none = list_any_none (literal_bit a) others (λ k d within.
    let same = same_literal l (slice_index_or others k d) (and_at (list_all (is_same l)) (is_same l) refl (λ _ _. refl) others k d within alone) in
    sym (ap (literal_bit a) same) ∙ fails) in
    false≢true (sym (or_from (literal_bit a l) (list_any (literal_bit a) others) fails none) ∙ met))

-- after a clause that is met there is a fault, where there is one after each true literal that it makes
after_met : (a : List Bool) (made open_ones : List SatLit) (hints : List ℕ) (go_on : SatLit → Option LineFault) → list_any (literal_bit a) open_ones ≡ true → ((l : SatLit) → literal_bit a l ≡ true → go_on l ≢ None) → fault_after (effect_by made open_ones) hints go_on ≢ None
after_met a made [] hints go_on met after none = absurd (false≢true met)
after_met a made (l ∷ others) hints go_on met after none =
    elim (cases_Bool (list_all (is_same l) others && not (is_true made l))) [
      | inl unit ↦
          let parts = and_parts (list_all (is_same l) others) (not (is_true made l)) unit in
          after l (only_true a l others parts.0 met) (sym (ap (λ b. fault_after (cond b (Makes l) Neither) hints go_on) unit) ∙ none)
      | inr neither ↦ let e = sym (ap (λ b. fault_after (cond b (Makes l) Neither) hints go_on) neither) ∙ none in cc
    ]

-- one more is true
one_more : (a : List Bool) (made : List SatLit) (l : SatLit) → list_all (literal_bit a) made ≡ true → literal_bit a l ≡ true → list_all (literal_bit a) (made ++ l ∷ []) ≡ true
one_more a made l all holds = list_all-append (literal_bit a) made (l ∷ []) ∙ (ap (λ b. b && list_all (literal_bit a) (l ∷ [])) all ∙ ap (λ b. b && true) holds)

-- hints without a fault lead to a conflict, which no assignment that meets the clauses allows
pub no_conflict : (a : List Bool) (clauses : List (List SatLit)) (hints : List ℕ) (made : List SatLit) → Meets a clauses → list_all (literal_bit a) made ≡ true → hint_fault clauses made hints ≢ None
no_conflict a clauses [] made meets all none = cc
no_conflict a clauses (hint ∷ hints) made meets all none =
    elim (cases_Bool (nat_lt hint (length clauses))) [
      | inl there ↦
          let met = meets hint [] (ltb-true hint (length clauses) there) in
          let go_on : SatLit → Option LineFault = λ l. hint_fault clauses (made ++ l ∷ []) hints in
          let open_ones = filter (λ l. not (is_false made l)) (clause_at clauses hint) in
          after_met a made open_ones hints go_on (still_met a made (clause_at clauses hint) all met) (λ l holds. no_conflict a clauses hints (made ++ l ∷ []) meets (one_more a made l all holds)) (sym (ap (λ b. cond b (fault_after (effect_of made (clause_at clauses hint)) hints go_on) (Some fault.UnknownHint)) there) ∙ none)
      | inr unknown ↦ let e = sym (ap (λ b. cond b (fault_after (effect_of made (clause_at clauses hint)) hints (λ l. hint_fault clauses (made ++ l ∷ []) hints)) (Some fault.UnknownHint)) unknown) ∙ none in cc
    ]

-- where a clause isn't met, its negation holds
negation_holds : (a : List Bool) (clause : List SatLit) → is_met a clause ≡ false → list_all (literal_bit a) (map opposite clause) ≡ true
negation_holds a clause unmet =
    list_all-map (literal_bit a) opposite clause
    ∙ and_from_places (list_all (λ l. literal_bit a (opposite l))) (λ l. literal_bit a (opposite l)) refl (λ _ _. refl) clause (record { 0 = 0 }) (λ k within.
    let l = slice_index_or clause k (record { 0 = 0 }) in
    let fails = false_from_ne_true (literal_bit a l) (λ holds. false≢true (sym unmet ∙ list_any_at (literal_bit a) clause k (record { 0 = 0 }) within holds)) in
    opposite_bit a l ∙ ap not fails)

-- a derived clause follows
pub derived_met : (formula : Formula) (taken : List (List SatLit)) (line : LogLine) (a : List Bool) → line_fault formula taken line ≡ None → Meets a (formula.clauses ++ taken) → is_met a line.clause ≡ true
derived_met formula taken line a none meets =
    elim (cases_Bool (is_met a line.clause)) [
      | inl met ↦ met
      | inr unmet ↦ absurd (no_conflict a (formula.clauses ++ taken) line.hints (map opposite line.clause) meets (negation_holds a line.clause unmet) (line_says formula taken line none).hints)
    ]

-- what meets a formula meets the first n lines of a derivation
pub lines_met : (formula : Formula) (lines : List LogLine) (a : List Bool) (k : ℕ) → AreDerived formula lines → Meets a formula.clauses → k ≤ length lines → Meets a (formula.clauses ++ clauses_of (take k lines))
lines_met formula lines a zero derived meets within = subst (Meets a) (sym (append-nil formula.clauses)) meets
lines_met formula lines a (suc k) derived meets within =
    let below : k < length lines = omega (arith, within) in
    let line = slice_index_or lines k no_line in
    let before = lines_met formula lines a k derived meets (omega (arith, within)) in
    let met = derived_met formula (clauses_of (take k lines)) line a (derived k no_line below) before in
    let more = All-push (λ clause. is_met a clause ≡ true) (formula.clauses ++ clauses_of (take k lines)) line.clause before met in
    let split : clauses_of (take (suc k) lines) ≡ clauses_of (take k lines) ++ line.clause ∷ [] = ap clauses_of (take-suc lines k no_line below) ∙ clauses_more (take k lines) line in
    subst (Meets a) (append_assoc formula.clauses (clauses_of (take k lines)) (line.clause ∷ []) ∙ ap (λ more. formula.clauses ++ more) (sym split)) more

-- one empty clause is like another
both_empty : (c d : List SatLit) → (is_empty c && is_empty d) ≡ true → c ≡ d
both_empty [] [] e = refl
both_empty [] (l ∷ d) e = absurd (false≢true e)
both_empty (l ∷ c) d e = absurd (false≢true e)

-- no assignment meets a formula that a log refutes
pub refuted_unmet : (formula : Formula) (lines : List LogLine) (a : List Bool) → IsRefutation formula lines → Meets a formula.clauses → ⊥
refuted_unmet formula lines a refutes meets =
    let all = lines_met formula lines a (length lines) refutes.derived meets (omega arith) in
    let whole = subst (λ ls. Meets a (formula.clauses ++ clauses_of ls)) (take-length lines) all in
    let found = list_any-append is_empty formula.clauses (clauses_of lines) ∙ or_right (list_any is_empty formula.clauses) (list_any is_empty (clauses_of lines)) refutes.closed in
    false≢true (All-contains (λ clause. is_met a clause ≡ true) (formula.clauses ++ clauses_of lines) [] whole (Contains-from_any both_empty [] (formula.clauses ++ clauses_of lines) found))
