-- A lemma more: an implication between two variables.
use Rattle.std.proofs.Common.{◌≡◌, ◌≢◌, ℕ, ◌+◌, ◌<◌, ◌≤◌, ◌&&◌, ◌||◌, not, cond, true, false, List, [], ◌∷◌, ◌++◌, length, map, All, Contains, None, Some, nat_lt, slice_index_or, inl, inr, refl, sym, ◌∙◌, ap, subst, arith, ne_eqb}
use Rattle.std.specs.List.{list_any, list_all}
use Rattle.std.proofs.lemmas.Bool.{cond-false, lt-ltb}
use Rattle.std.proofs.lemmas.List.{map-append}
use Rattle.std.proofs.lemmas.List.Folds.{list_any-append}
use Rattle.std.proofs.lemmas.List.Elements.{All-push}
use Rattle.cnf_core.specs.declared.literal.SatLit.{SatLit}
use Rattle.cnf_core.specs.declared.log.LogLine.{LogLine}
use Rattle.cnf_core.specs.declared.fault.LineFault.TheVariants as fault
use Rattle.cnf_core.specs.Clauses.{Formula, opposite, variable_of}
use Rattle.cnf_core.specs.Derivations.{clauses_of, hint_fault, is_empty, line_fault, repeats_variable}
use Rattle.cnf_core.proofs.LineLemmas.{derived_more}
use Rattle.joint_hash.specs.Chains.{AreListed}
use Rattle.joint_hash.specs.Merging.{AreLemmas, IsImplication}

-- a clause of two variables has none twice
known_pair : (n : ℕ) (a b : SatLit) → variable_of a < n → variable_of b < n → list_all (λ l. nat_lt (variable_of l) n) (a ∷ b ∷ []) ≡ true
known_pair n a b below there =
    ap (λ t. t && (nat_lt (variable_of b) n && true)) (lt-ltb (variable_of a) n below) ∙ ap (λ t. t && true) (lt-ltb (variable_of b) n there)

once_pair : (a b : SatLit) → variable_of a ≢ variable_of b → repeats_variable (a ∷ b ∷ []) ≡ false
once_pair a b apart = ap (λ t. (t || false) || (false || false)) (ne_eqb (variable_of b) (variable_of a) (λ e. apart (sym e)))

line_good : (formula : Formula) (taken : List (List SatLit)) (a b : SatLit) (hints : List ℕ) → list_any is_empty taken ≡ false → variable_of a < formula.variables → variable_of b < formula.variables → variable_of a ≢ variable_of b → hint_fault (formula.clauses ++ taken) (map opposite (a ∷ b ∷ [])) hints ≡ None → line_fault formula taken (record { clause = a ∷ b ∷ []; hints = hints }) ≡ None
line_good formula taken a b hints unclosed below there apart good =
    let clause = a ∷ b ∷ [] in
    cond-false (list_any is_empty taken) (Some fault.Closed) (cond (not (list_all (λ l. nat_lt (variable_of l) formula.variables) clause)) (Some fault.UnknownVariable) (cond (repeats_variable clause) (Some fault.TwiceVariable) (hint_fault (formula.clauses ++ taken) (map opposite clause) hints))) unclosed
    ∙ (ap (λ t. cond (not t) (Some fault.UnknownVariable) (cond (repeats_variable clause) (Some fault.TwiceVariable) (hint_fault (formula.clauses ++ taken) (map opposite clause) hints))) (known_pair formula.variables a b below there)
    ∙ (ap (λ t. cond t (Some fault.TwiceVariable) (hint_fault (formula.clauses ++ taken) (map opposite clause) hints)) (once_pair a b apart) ∙ good))

-- fewer numbers are listed too
fewer_listed : (count : ℕ) (listed ids hints : List ℕ) → AreListed count listed ids → All (Contains ids) hints → AreListed count listed hints
fewer_listed count listed ids hints are among k d within = at (slice_index_or hints k d) (among k d within)
  where
    at : (id : ℕ) → Contains ids id → id < count → Contains listed id
    at id (j, below, is) = subst (λ i. i < count → Contains listed i) is (are j id below)

-- so a line that is hinted by some of the clauses is an implication by these
pub implied_by : (formula : Formula) (one other : SatLit) (ids hints : List ℕ) (clause : List SatLit) → IsImplication formula (record { clause = one ∷ other ∷ []; hints = ids }) → clause ≡ one ∷ other ∷ [] → All (Contains ids) hints → IsImplication formula (record { clause = clause; hints = hints })
implied_by formula one other ids hints clause is clause_is among = record {
  start = is.start;
  end = is.end;
  is_start = is.is_start;
  is_end = is.is_end;
  clause = elim is.clause [ inl to ↦ inl (clause_is ∙ to) | inr back ↦ inr (clause_is ∙ back) ];
  between = fewer_listed (length formula.clauses) (0 ∷ is.start.id ∷ (is.start.id + 1) ∷ (is.end.id + 2) ∷ []) ids hints is.between among;
}

pub lemma_more : (formula : Formula) (lines : List LogLine) (clause : List SatLit) (hints : List ℕ) (a b : SatLit) → AreLemmas formula lines → clause ≡ a ∷ b ∷ [] → variable_of a < formula.variables → variable_of b < formula.variables → variable_of a ≢ variable_of b → hint_fault (formula.clauses ++ clauses_of lines) (map opposite clause) hints ≡ None → IsImplication formula (record { clause = clause; hints = hints }) → AreLemmas formula (lines ++ record { clause = clause; hints = hints } ∷ [])
lemma_more formula lines clause hints a b are is below there apart good implies =
    let line : LogLine = record { clause = clause; hints = hints } in
    let pair = a ∷ b ∷ [] in
    let fine : line_fault formula (clauses_of lines) (record { clause = pair; hints = hints }) ≡ None = line_good formula (clauses_of lines) a b hints are.filled below there apart (ap (λ c. hint_fault (formula.clauses ++ clauses_of lines) (map opposite c) hints) (sym is) ∙ good) in
    record {
      derived = derived_more formula lines line are.derived (ap (λ c. line_fault formula (clauses_of lines) (record { clause = c; hints = hints })) is ∙ fine);
      filled =
          ap (list_any is_empty) (map-append (λ (l : LogLine). l.clause) lines (line ∷ []))
          ∙ (list_any-append is_empty (clauses_of lines) (clause ∷ [])
          ∙ (ap (λ t. t || (is_empty clause || false)) are.filled ∙ ap (λ c. is_empty c || false) is));
      short = subst (All (λ (c : List SatLit). length c ≤ 3)) (sym (map-append (λ (l : LogLine). l.clause) lines (line ∷ []))) (All-push (λ (c : List SatLit). length c ≤ 3) (clauses_of lines) clause are.short (omega (arith, ap length is)));
      implications = All-push (IsImplication formula) lines line are.implications implies;
    }

pub no_lemmas : (formula : Formula) (lines : List LogLine) → lines ≡ [] → AreLemmas formula lines
no_lemmas formula lines none = subst (λ ls. AreLemmas formula ls) (sym none) (record { derived = λ k d below. absurd (omega (arith, below)); filled = refl; short = λ k d below. absurd (omega (arith, below)); implications = λ k d below. absurd (omega (arith, below)) })
