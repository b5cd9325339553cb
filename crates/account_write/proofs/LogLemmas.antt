-- The lines of a log that refutes its formula are taken, up to the empty one, which closes it.
use Rattle.std.proofs.Common.{◌≡◌, ℕ, suc, ◌||◌, Bool, true, false, cond, List, [], ◌∷◌, ◌++◌, map, take, Option, None, Some, slice_index_or, refl, sym, subst, arith, append_assoc}
use Rattle.std.specs.List.{list_any}
use Rattle.std.proofs.lemmas.Bool.{false≢true}
use Rattle.std.proofs.lemmas.List.{append-nil}
use Rattle.circuits.specs.Literals.{EachAt}
use Rattle.cnf_core.specs.declared.literal.SatLit.{SatLit}
use Rattle.cnf_core.specs.declared.log.LogLine.{LogLine}
use Rattle.cnf_core.specs.declared.fault.LineFault.{LineFault}
use Rattle.cnf_core.specs.declared.fault.LineFault.TheVariants as fault
use Rattle.cnf_core.specs.Clauses.{Formula}
use Rattle.cnf_core.specs.Derivations.{clauses_of, is_empty, line_fault, IsRefutation}
use Rattle.account_file.specs.declared.record.Record.TheVariants as entry
use Rattle.account_check.specs.Accounts.{Account, after}
use Rattle.account_check.proofs.LogLemmas.{empty_more}
use Rattle.account_write.proofs.TakenLemmas.{IsTaken, Lead, lead_first, lead_one}

-- each line is derived from the formula, the clauses taken before, and the lines before it
abbrev pub AreDerivedBehind : Formula → List (List SatLit) → List LogLine → Type 0
AreDerivedBehind formula taken lines = EachAt (λ k line. line_fault formula (taken ++ clauses_of (take k lines)) line ≡ None) lines

-- An open log: an account for the clauses taken, how it takes a line that is derived, and where the empty line leads.
pub record IsOpenLog (formula : Formula) (at : List (List SatLit) → Account) (closed : Account) : Type 0 where
  pub takes : (taken : List (List SatLit)) (line : LogLine) → line_fault formula taken line ≡ None → IsTaken (at taken) (entry.Line line)
  pub goes_on : (taken : List (List SatLit)) (literal : SatLit) (clause : List SatLit) (hints : List ℕ) → after (at taken) (entry.Line (record { clause = literal ∷ clause; hints = hints })) ≡ at (taken ++ (literal ∷ clause) ∷ [])
  pub closes : (taken : List (List SatLit)) (hints : List ℕ) → after (at taken) (entry.Line (record { clause = []; hints = hints })) ≡ closed

closed_fault : (b : Bool) (x : Option LineFault) → b ≡ true → cond b (Some fault.Closed) x ≡ None → ⊥
closed_fault true x e none = cc
closed_fault false x e none = cc

tail_derived : (formula : Formula) (taken : List (List SatLit)) (line : LogLine) (lines : List LogLine) → AreDerivedBehind formula taken (line ∷ lines) → AreDerivedBehind formula (taken ++ line.clause ∷ []) lines
tail_derived formula taken line lines derived k d below =
    let e = append_assoc taken (line.clause ∷ []) (clauses_of (take k lines)) in
    subst (λ t. line_fault formula t (slice_index_or lines k d) ≡ None) (sym e) (derived (suc k) d (omega (arith, below)))

head_derived : (formula : Formula) (taken : List (List SatLit)) (line : LogLine) (lines : List LogLine) → AreDerivedBehind formula taken (line ∷ lines) → line_fault formula taken line ≡ None
head_derived formula taken line lines derived =
    subst (λ t. line_fault formula t line ≡ None) (append-nil taken) (derived 0 line (omega arith))

-- after the empty line there is none
last_line : (formula : Formula) (taken : List (List SatLit)) (lines : List LogLine) → list_any is_empty taken ≡ true → AreDerivedBehind formula taken lines → lines ≡ []
last_line formula taken [] closed derived = refl
last_line formula taken (line ∷ lines) closed derived = absurd (closed_fault (list_any is_empty taken) _ closed (head_derived formula taken line lines derived))

pub log_leads : (formula : Formula) (at : List (List SatLit) → Account) (closed : Account) → IsOpenLog formula at closed
    → (taken : List (List SatLit)) (lines : List LogLine) → list_any is_empty taken ≡ false
    → AreDerivedBehind formula taken lines → list_any is_empty (clauses_of lines) ≡ true
    → Lead (at taken) (map (λ line. entry.Line line) lines) closed
log_leads formula at closed open_log taken [] unclosed derived ends = absurd (false≢true ends)
log_leads formula at closed open_log taken (line ∷ lines) unclosed derived ends =
    by line.clause line.hints ends (head_derived formula taken line lines derived) (tail_derived formula taken line lines derived)
    (λ next rest. log_leads formula at closed open_log next lines rest)
  where
    by : (clause : List SatLit) (hints : List ℕ) → (is_empty clause || list_any is_empty (clauses_of lines)) ≡ true
        → line_fault formula taken (record { clause = clause; hints = hints }) ≡ None
        → AreDerivedBehind formula (taken ++ clause ∷ []) lines
        → ((next : List (List SatLit)) → list_any is_empty next ≡ false → AreDerivedBehind formula next lines → list_any is_empty (clauses_of lines) ≡ true → Lead (at next) (map (λ l. entry.Line l) lines) closed)
        → Lead (at taken) (entry.Line (record { clause = clause; hints = hints }) ∷ map (λ l. entry.Line l) lines) closed
    by [] hints ends right rest go =
        let none : lines ≡ [] = last_line formula (taken ++ [] ∷ []) lines (empty_more taken [] unclosed) rest in
        subst (λ ls. Lead (at taken) (entry.Line (record { clause = []; hints = hints }) ∷ map (λ l. entry.Line l) ls) closed) (sym none)
        (lead_one (open_log.takes taken (record { clause = []; hints = hints }) right) (open_log.closes taken hints))
    by (literal ∷ clause) hints ends right rest go =
        let next = taken ++ (literal ∷ clause) ∷ [] in
        lead_first (open_log.takes taken (record { clause = literal ∷ clause; hints = hints }) right)
        (subst (λ a. Lead a (map (λ l. entry.Line l) lines) closed) (sym (open_log.goes_on taken literal clause hints)) (go next (empty_more taken (literal ∷ clause) unclosed) rest ends))

-- a whole log
pub refutation_leads : (formula : Formula) (at : List (List SatLit) → Account) (closed : Account) (lines : List LogLine) → IsOpenLog formula at closed → IsRefutation formula lines → Lead (at []) (map (λ line. entry.Line line) lines) closed
refutation_leads formula at closed lines open_log refutation = log_leads formula at closed open_log [] lines refl refutation.derived refutation.closed
