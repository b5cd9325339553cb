-- Lines of a log: what it says that one has no fault, and one line more.
use Rattle.std.proofs.Common.{◌≡◌, ◌<◌, not, cond, Bool, true, false, List, [], ◌∷◌, ◌++◌, length, map, take, Option, None, Some, nat_lt, slice_index_or, inl, inr, refl, sym, ◌∙◌, ap, arith}
use Rattle.std.specs.List.{list_any, list_all}
use Rattle.std.proofs.lemmas.Bool.{cases_eq, cond-false}
use Rattle.std.proofs.lemmas.List.{get_or_append_left, get_or_at, length-append, map-append, take-append-le, take_at}
use Rattle.cnf_core.specs.declared.literal.SatLit.{SatLit}
use Rattle.cnf_core.specs.declared.log.LogLine.{LogLine}
use Rattle.cnf_core.specs.declared.fault.LineFault.{LineFault}
use Rattle.cnf_core.specs.declared.fault.LineFault.TheVariants as fault
use Rattle.cnf_core.specs.Clauses.{Formula, opposite, variable_of}
use Rattle.cnf_core.specs.Derivations.{AreDerived, clauses_of, hint_fault, is_empty, line_fault, repeats_variable}

-- What it says that a line has no fault.
pub record IsLine (formula : Formula) (taken : List (List SatLit)) (line : LogLine) : Type 0 where
  pub unclosed : list_any is_empty taken ≡ false
  pub known : list_all (λ l. nat_lt (variable_of l) formula.variables) line.clause ≡ true
  pub once : repeats_variable line.clause ≡ false
  pub hints : hint_fault (formula.clauses ++ taken) (map opposite line.clause) line.hints ≡ None

pub line_says : (formula : Formula) (taken : List (List SatLit)) (line : LogLine) → line_fault formula taken line ≡ None → IsLine formula taken line
line_says formula taken line e =
    let parts = by_tests (list_any is_empty taken) (list_all (λ l. nat_lt (variable_of l) formula.variables) line.clause) (repeats_variable line.clause) (hint_fault (formula.clauses ++ taken) (map opposite line.clause) line.hints) e in
    record { unclosed = parts.0; known = parts.1; once = parts.2; hints = parts.3 }
  where
    by_tests : (a b c : Bool) (h : Option LineFault) → cond a (Some fault.Closed) (cond (not b) (Some fault.UnknownVariable) (cond c (Some fault.TwiceVariable) h)) ≡ None → (a ≡ false) × (b ≡ true) × (c ≡ false) × (h ≡ None)
    by_tests true b c h e = absurd (let x : Some fault.Closed ≡ None = e in cc)
    by_tests false false c h e = absurd (let x : Some fault.UnknownVariable ≡ None = e in cc)
    by_tests false true true h e = absurd (let x : Some fault.TwiceVariable ≡ None = e in cc)
    by_tests false true false h e = (refl, refl, refl, e)

pub line_from : (formula : Formula) (taken : List (List SatLit)) (line : LogLine) → IsLine formula taken line → line_fault formula taken line ≡ None
line_from formula taken line is =
    cond-false (list_any is_empty taken) (Some fault.Closed) (cond (not (list_all (λ l. nat_lt (variable_of l) formula.variables) line.clause)) (Some fault.UnknownVariable) (cond (repeats_variable line.clause) (Some fault.TwiceVariable) (hint_fault (formula.clauses ++ taken) (map opposite line.clause) line.hints))) is.unclosed
    ∙ (ap (λ b. cond (not b) (Some fault.UnknownVariable) (cond (repeats_variable line.clause) (Some fault.TwiceVariable) (hint_fault (formula.clauses ++ taken) (map opposite line.clause) line.hints))) is.known
    ∙ (ap (λ b. cond b (Some fault.TwiceVariable) (hint_fault (formula.clauses ++ taken) (map opposite line.clause) line.hints)) is.once ∙ is.hints))

-- one line more that is derived
pub derived_more : (formula : Formula) (lines : List LogLine) (line : LogLine) → AreDerived formula lines → line_fault formula (clauses_of lines) line ≡ None → AreDerived formula (lines ++ line ∷ [])
derived_more formula lines line derived good k d within =
    elim (cases_eq k (length lines)) [
      | inl last ↦
          let at = get_or_at lines line [] d k (sym last) in
          let front : take k (lines ++ line ∷ []) ≡ lines = take_at lines (line ∷ []) k (sym last) in
          ap (λ l. line_fault formula (clauses_of (take k (lines ++ line ∷ []))) l) at ∙ (ap (λ ls. line_fault formula (clauses_of ls) line) front ∙ good)
      | inr other ↦
          let early : k < length lines = omega (arith, other, within, length-append lines (line ∷ [])) in
          let at = get_or_append_left lines (line ∷ []) d k early in
          let front : take k (lines ++ line ∷ []) ≡ take k lines = take-append-le k lines (line ∷ []) (omega (arith, early)) in
          ap (λ l. line_fault formula (clauses_of (take k (lines ++ line ∷ []))) l) at ∙ (ap (λ ls. line_fault formula (clauses_of ls) (slice_index_or lines k d)) front ∙ derived k d early)
    ]

pub clauses_more : (lines : List LogLine) (line : LogLine) → clauses_of (lines ++ line ∷ []) ≡ clauses_of lines ++ line.clause ∷ []
clauses_more lines line = map-append (λ (l : LogLine). l.clause) lines (line ∷ [])
