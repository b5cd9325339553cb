-- A line of a log is derived under its new numbers, where the lines in its hints are kept.
use Rattle.std.proofs.Common.{◌≡◌, ℕ, ◌+◌, ◌-◌, ◌<◌, ◌≤◌, Bool, true, List, [], ◌∷◌, ◌++◌, length, map, All, None, Some, slice_index_or, inl, inr, refl, sym, ◌∙◌, ap, subst, arith}
use Rattle.std.proofs.lemmas.Bool.{cases_lt}
use Rattle.std.proofs.lemmas.List.{get_or_append_left, get_or-append_right, length-append}
use Rattle.std.proofs.lemmas.List.Elements.{All-cons, All-head, All-nil, All-tail}
use Rattle.circuits.specs.Literals.{bit}
use Rattle.cnf_core.specs.declared.literal.SatLit.{SatLit}
use Rattle.cnf_core.specs.declared.log.LogLine.{LogLine}
use Rattle.cnf_core.specs.declared.fault.LineFault.TheVariants as fault
use Rattle.cnf_core.specs.Clauses.{Formula, clause_at, opposite}
use Rattle.cnf_core.specs.Derivations.{effect_of, hint_fault, is_empty, line_fault}
use Rattle.cnf_core.proofs.LineLemmas.{line_from, line_says}
use Rattle.cnf_core.proofs.HintLemmas.{hint_says, step_conflict, step_makes}
use Rattle.refusal_core.specs.Trims.{kept, number_of}
use Rattle.refusal_core.proofs.KeptLemmas.{kept_at, kept_below}
use Rattle.account_trim.proofs.KeptLemmas.{none_kept}

-- a clause that is there stands among others under its new number
abbrev pub StandsAt : List (List SatLit) → List (List SatLit) → (ℕ → ℕ) → ℕ → Type 0
StandsAt clauses all f hint = hint < length clauses → (f hint < length all) × (clause_at all (f hint) ≡ clause_at clauses hint)

-- hints lead to a conflict wherever their clauses stand
hints_kept : (clauses all : List (List SatLit)) (f : ℕ → ℕ) (made : List SatLit) (hints : List ℕ) → All (StandsAt clauses all f) hints → hint_fault clauses made hints ≡ None → hint_fault all made (map f hints) ≡ None
hints_kept clauses all f made [] each e = absurd (let x : Some fault.NoConflict ≡ None = e in cc)
hints_kept clauses all f made (hint ∷ hints) each e =
    let says = hint_says clauses made hint hints e in
    let there = All-head (StandsAt clauses all f) hint hints each says.0 in
    let effect = ap (effect_of made) there.1 in
    elim says.1 [
      | inl (conflict, none) ↦ subst (λ left. hint_fault all made (f hint ∷ map f left) ≡ None) (sym none) (step_conflict all made (f hint) there.0 (effect ∙ conflict))
      | inr (m, makes, goes) ↦ step_makes all made (f hint) (map f hints) m there.0 (effect ∙ makes) (hints_kept clauses all f (made ++ m ∷ []) hints (All-tail (StandsAt clauses all f) hint hints each) goes)
    ]

-- all hints without a fault are there
pub hints_there : (clauses : List (List SatLit)) (made : List SatLit) (hints : List ℕ) → hint_fault clauses made hints ≡ None → All (λ h. h < length clauses) hints
hints_there clauses made [] e = All-nil (λ h. h < length clauses)
hints_there clauses made (hint ∷ hints) e =
    let says = hint_says clauses made hint hints e in
    elim says.1 [
      | inl (conflict, none) ↦ subst (λ left. All (λ h. h < length clauses) (hint ∷ left)) (sym none) (All-cons (λ h. h < length clauses) hint [] says.0 (All-nil (λ h. h < length clauses)))
      | inr (m, makes, goes) ↦ All-cons (λ h. h < length clauses) hint hints says.0 (hints_there clauses (made ++ m ∷ []) hints goes)
    ]

pub line_hints_there : (formula : Formula) (taken : List (List SatLit)) (line : LogLine) → line_fault formula taken line ≡ None → All (λ h. h < length (formula.clauses ++ taken)) line.hints
line_hints_there formula taken line good = hints_there (formula.clauses ++ taken) (map opposite line.clause) line.hints (line_says formula taken line good).hints

-- A hint's new number: that of a formula's clause stays, and that of a line is its number among those that are kept.
pub record IsNewHint (base : ℕ) (marks : List Bool) (f : ℕ → ℕ) (hint : ℕ) : Type 0 where
  pub low : hint < base → f hint ≡ hint
  pub line : base ≤ hint → hint - base < length marks → bit marks (hint - base) ≡ true
  pub high : base ≤ hint → hint - base < length marks → f hint ≡ base + number_of marks (hint - base)

stands_at : (clauses taken : List (List SatLit)) (marks : List Bool) (f : ℕ → ℕ) (hint : ℕ) → length marks ≡ length taken → IsNewHint (length clauses) marks f hint → StandsAt (clauses ++ taken) (clauses ++ kept marks taken) f hint
stands_at clauses taken marks f hint many is there =
    elim (cases_lt hint (length clauses)) [
      | inl low ↦
          let same = is.low low in (
            omega (arith, low, same, length-append clauses (kept marks taken)),
            ap (clause_at (clauses ++ kept marks taken)) same ∙ (get_or_append_left clauses (kept marks taken) [] hint low ∙ sym (get_or_append_left clauses taken [] hint low)),
          )
      | inr late ↦
          let within : hint - length clauses < length taken = omega (arith, late, there, length-append clauses taken) in
          let in_marks : hint - length clauses < length marks = omega (arith, within, many) in
          let same = is.high late in_marks in
          let marked = is.line late in_marks in
          let number = number_of marks (hint - length clauses) in
          let place : f hint - length clauses ≡ number = omega (arith, same) in (
            omega (arith, same, kept_below marks taken (hint - length clauses) many within marked, length-append clauses (kept marks taken)),
            get_or-append_right clauses (kept marks taken) (length clauses) (f hint) [] refl (omega (arith, same))
                ∙ (ap (clause_at (kept marks taken)) place
                ∙ (kept_at marks taken (hint - length clauses) [] many within marked
                ∙ sym (get_or-append_right clauses taken (length clauses) hint [] refl late))),
          )
    ]

all_stand : (clauses taken : List (List SatLit)) (marks : List Bool) (f : ℕ → ℕ) (hints : List ℕ) → length marks ≡ length taken → All (IsNewHint (length clauses) marks f) hints → All (StandsAt (clauses ++ taken) (clauses ++ kept marks taken) f) hints
all_stand clauses taken marks f hints many each k d below = stands_at clauses taken marks f (slice_index_or hints k d) many (each k d below)

pub line_kept : (formula : Formula) (taken : List (List SatLit)) (marks : List Bool) (f : ℕ → ℕ) (line : LogLine)
    → length marks ≡ length taken
    → All (IsNewHint (length formula.clauses) marks f) line.hints
    → line_fault formula taken line ≡ None
    → line_fault formula (kept marks taken) (record { clause = line.clause; hints = map f line.hints }) ≡ None
line_kept formula taken marks f line many each good =
    let said = line_says formula taken line good in
    line_from formula (kept marks taken) (record { clause = line.clause; hints = map f line.hints }) (record {
      unclosed = none_kept is_empty marks taken said.unclosed;
      known = said.known;
      once = said.once;
      hints = hints_kept (formula.clauses ++ taken) (formula.clauses ++ kept marks taken) f (map opposite line.clause) line.hints (all_stand formula.clauses taken marks f line.hints many each) said.hints;
    })
