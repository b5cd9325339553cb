-- Derivation of clauses by hinted unit propagation (reverse unit propagation, Goldberg and Novikov, DATE 2003; with
-- hints as in LRAT, Cruz-Filipe and others, CADE 2017; the kinds of fault and their order are this project's).
use Rattle.std.specs.Prelude.{◌≡◌, ℕ, ◌==◌, ◌&&◌, ◌||◌, not, Bool, true, false, List, [], ◌∷◌, ◌++◌, length, map, filter, take, Option, None, Some, nat_lt}
use Rattle.std.specs.Prelude.{if◌then◌else◌}
use Rattle.std.specs.List.{list_any, list_all}
use Rattle.circuits.specs.Literals.{EachAt}
use Rattle.cnf_core.specs.declared.literal.SatLit.{SatLit}
use Rattle.cnf_core.specs.declared.log.LogLine.{LogLine}
use Rattle.cnf_core.specs.declared.effect.Effect.{Effect}
use Rattle.cnf_core.specs.declared.effect.Effect.TheVariants.{Conflict, Makes, Neither}
use Rattle.cnf_core.specs.declared.fault.LineFault.{LineFault}
use Rattle.cnf_core.specs.declared.fault.LineFault.TheVariants as fault
use Rattle.cnf_core.specs.Clauses.{Formula, variable_of, opposite, clause_at}

-- the same variable with the same sign
abbrev pub is_same : SatLit → SatLit → Bool
is_same one other = one.0 == other.0

-- whether a literal is one of these, which were made true
abbrev pub is_true : List SatLit → SatLit → Bool
is_true made literal = list_any (is_same literal) made

-- whether its opposite is
abbrev pub is_false : List SatLit → SatLit → Bool
is_false made literal = is_true made (opposite literal)

-- whether all literals of another clause are among a clause's
abbrev pub has_all : List SatLit → List SatLit → Bool
has_all clause other = list_all (is_true clause) other

-- what a clause does, by its literals that aren't false
abbrev pub effect_by : List SatLit → List SatLit → Effect
effect_by made [] = Conflict
effect_by made (literal ∷ others) = if list_all (is_same literal) others && not (is_true made literal) then Makes literal else Neither

-- what a clause does where these literals were made true: it is a conflict, a unit, or neither
abbrev pub effect_of : List SatLit → List SatLit → Effect
effect_of made clause = effect_by made (filter (λ literal. not (is_false made literal)) clause)

-- what is wrong after a clause with this effect, where hints are left; a literal that is made goes on
abbrev pub fault_after : Effect → List ℕ → (SatLit → Option LineFault) → Option LineFault
fault_after Conflict [] go_on = None
fault_after Conflict (hint ∷ hints) go_on = Some fault.AfterConflict
fault_after (Makes literal) hints go_on = go_on literal
fault_after Neither hints go_on = Some fault.NotUnit

-- what is wrong with hints: each clause but the last makes a literal true, and the last is a conflict
abbrev pub hint_fault : List (List SatLit) → List SatLit → List ℕ → Option LineFault
hint_fault clauses made [] = Some fault.NoConflict
hint_fault clauses made (hint ∷ hints) =
    if nat_lt hint (length clauses) then
    fault_after (effect_of made (clause_at clauses hint)) hints (λ literal. hint_fault clauses (made ++ literal ∷ []) hints)
    else Some fault.UnknownHint

-- a clause without a literal, which no assignment meets
abbrev pub is_empty : List SatLit → Bool
is_empty [] = true
is_empty (literal ∷ others) = false

-- some variable stands twice in a clause, with either sign
abbrev pub repeats_variable : List SatLit → Bool
repeats_variable [] = false
repeats_variable (literal ∷ others) = list_any (λ other. variable_of other == variable_of literal) others || repeats_variable others

-- stands where a list has no line
abbrev pub no_line : LogLine
no_line = record { clause = []; hints = [] }

-- what is wrong with a line that stands after these clauses of a log
abbrev pub line_fault : Formula → List (List SatLit) → LogLine → Option LineFault
line_fault formula taken line =
    if list_any is_empty taken then Some fault.Closed
    else if not (list_all (λ literal. nat_lt (variable_of literal) formula.variables) line.clause) then Some fault.UnknownVariable
    else if repeats_variable line.clause then Some fault.TwiceVariable
    else hint_fault (formula.clauses ++ taken) (map opposite line.clause) line.hints

-- the clauses of lines
abbrev pub clauses_of : List LogLine → List (List SatLit)
clauses_of lines = map (λ line. line.clause) lines

-- each line is derived from the formula and from the lines before it
abbrev pub AreDerived : Formula → List LogLine → Type 0
AreDerived formula lines = EachAt (λ k line. line_fault formula (clauses_of (take k lines)) line ≡ None) lines

-- Lines that are derived, of which the last is empty.
pub record IsRefutation (formula : Formula) (lines : List LogLine) : Type 0 where
  pub derived : AreDerived formula lines
  pub closed : list_any is_empty (clauses_of lines) ≡ true
