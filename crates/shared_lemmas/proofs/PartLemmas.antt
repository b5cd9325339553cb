-- A line is derived wherever the clauses at its hints stand.
use Rattle.std.proofs.Common.{◌≡◌, ◌⊎◌, ℕ, ◌-◌, ◌<◌, ◌≤◌, ◌==◌, ◌||◌, cond, Bool, true, false, List, [], ◌∷◌, ◌++◌, length, map, take, Contains, Option, None, Some, nat_lt, slice_index_or, inl, inr, refl, sym, ◌∙◌, ap, subst, arith}
use Rattle.std.specs.List.{list_any, list_all}
use Rattle.std.proofs.lemmas.Bool.{cases_lt, eq-eqb, eqb-true, false≢true, le-ltb, lt-ltb}
use Rattle.std.proofs.lemmas.List.{get_or_append_left, get_or-append_right, get_or-map, get_or-take, length-append, length-map, length-take, nil_from_length, take-map}
use Rattle.std.proofs.lemmas.List.Elements.{All-push, Contains-get_or}
use Rattle.std.proofs.lemmas.List.Folds.{list_any-append}
use Rattle.cnf_core.specs.declared.literal.SatLit.{SatLit}
use Rattle.cnf_core.specs.declared.log.LogLine.{LogLine}
use Rattle.cnf_core.specs.Clauses.{Formula, clause_at, opposite, variable_of}
use Rattle.cnf_core.specs.Derivations.{AreDerived, IsRefutation, clauses_of, hint_fault, is_empty, line_fault, repeats_variable}
use Rattle.learn_solver.proofs.AdvanceLemmas.{unrefuted_more}
use Rattle.learn_solver.proofs.SolverLemmas.{clauses_more, derived_more, hints_carried, line_from, line_says}
use Rattle.shared_lemmas.specs.declared.common.Common.{Common}
use Rattle.shared_lemmas.specs.Parts.{ArePlaced, AreWritten, GoesOn, HaveCommon, IsLastOf, IsRenumbered, IsWrittenAs, IsWrittenOf, MayGoOn, Trims, number_in}

module _ (common : Common) (one other : Formula) (source target : List LogLine) (numbers : List (Option ℕ)) (have : HaveCommon common one other) (placed : ArePlaced common.count source target numbers) where
  -- a clause that has a number in the other log stands there
  stands : (place h n : ℕ) → h < length (one.clauses ++ clauses_of (take place source)) → number_in common numbers h ≡ Some n → (n < length (other.clauses ++ clauses_of target)) × (clause_at (other.clauses ++ clauses_of target) n ≡ clause_at (one.clauses ++ clauses_of (take place source)) h)
  stands place h n within number =
      let mine = clauses_of target in
      let theirs = clauses_of (take place source) in
      let mine_size = length-append other.clauses mine in
      let their_size = length-append one.clauses theirs in
      elim (cases_lt h common.same) [
        | inl low ↦
            let found : Some h ≡ Some n = sym (ap (λ b. cond b (Some h) (cond (nat_lt h common.count) None (slice_index_or numbers (h - common.count) None))) (lt-ltb h common.same low)) ∙ number in
            let is : n ≡ h = cc in
            let there = get_or_append_left other.clauses mine [] h (omega (arith, low, have.within, have.other_count)) in
            let here = get_or_append_left one.clauses theirs [] h (omega (arith, low, have.within, have.count)) in
            (omega (arith, is, low, have.within, have.other_count, mine_size), ap (clause_at (other.clauses ++ mine)) is ∙ (there ∙ (have.same h low ∙ sym here)))
        | inr late ↦ elim (cases_lt h common.count) [
          | inl early ↦
              let found : None ≡ Some n = sym (ap (λ b. cond b (Some h) (cond (nat_lt h common.count) None (slice_index_or numbers (h - common.count) None))) (le-ltb h common.same late) ∙ ap (λ b. cond b None (slice_index_or numbers (h - common.count) None)) (lt-ltb h common.count early)) ∙ number in
              absurd (let x : None ≡ Some n = found in cc)
          | inr past ↦
              let found : slice_index_or numbers (h - common.count) None ≡ Some n = sym (ap (λ b. cond b (Some h) (cond (nat_lt h common.count) None (slice_index_or numbers (h - common.count) None))) (le-ltb h common.same late) ∙ ap (λ b. cond b None (slice_index_or numbers (h - common.count) None)) (le-ltb h common.count past)) ∙ number in
              let is = placed (h - common.count) n found in
              let there = get_or-append_right other.clauses mine (length other.clauses) n [] refl (omega (arith, is.late, have.other_count)) in
              let here = get_or-append_right one.clauses theirs (length one.clauses) h [] refl (omega (arith, past, have.count)) in
              let own_place : n - length other.clauses ≡ n - common.count = omega (arith, have.other_count) in
              let their_place : h - length one.clauses ≡ h - common.count = omega (arith, have.count) in
              let sizes = length-map target (λ (l : LogLine). l.clause) in
              let front : clause_at theirs (h - common.count) ≡ clause_at (clauses_of source) (h - common.count) =
              ap (λ cs. clause_at cs (h - common.count)) (sym (take-map (λ (l : LogLine). l.clause) place source))
              ∙ get_or-take place (clauses_of source) (h - common.count) [] (omega (arith, past, within, their_size, have.count, length-map (take place source) (λ (l : LogLine). l.clause), shorter place source)) in
              (omega (arith, is.late, is.there, have.other_count, mine_size, sizes), there ∙ (ap (clause_at mine) own_place ∙ (is.same ∙ (sym front ∙ (sym (ap (clause_at theirs) their_place) ∙ sym here)))))
        ]
      ]
    where
      shorter : (n : ℕ) (xs : List LogLine) → length (take n xs) ≤ n
      shorter n xs = omega (arith, length-take n xs)

  -- a line with other numbers is derived where it is written
  pub line_carried : (place : ℕ) (d line own : LogLine) → AreDerived one source → MayGoOn other target → place < length source → slice_index_or source place d ≡ line → IsRenumbered common numbers line own → line_fault other (clauses_of target) own ≡ None
  line_carried place d line own derived goes within at renumbered =
      let taken = clauses_of (take place source) in
      let good : line_fault one taken line ≡ None = ap (line_fault one taken) (sym at) ∙ derived place d within in
      let said = line_says one taken line good in
      line_from other (clauses_of target) own (record {
        unclosed = goes.unclosed;
        known =
            ap (λ v. list_all (λ l. nat_lt (variable_of l) v) own.clause) have.variables
            ∙ (ap (λ c. list_all (λ l. nat_lt (variable_of l) one.variables) c) renumbered.clause ∙ said.known);
        once = ap repeats_variable renumbered.clause ∙ said.once;
        hints =
            ap (λ c. hint_fault (other.clauses ++ clauses_of target) (map opposite c) own.hints) renumbered.clause
            ∙ hints_carried (one.clauses ++ taken) (other.clauses ++ clauses_of target) (number_in common numbers) (stands place) (map opposite line.clause) line.hints own.hints renumbered.hints said.hints;
      })

-- a log goes on by a line that isn't empty
pub one_more : (formula : Formula) (lines : List LogLine) (line : LogLine) → MayGoOn formula lines → line_fault formula (clauses_of lines) line ≡ None → is_empty line.clause ≡ false → MayGoOn formula (lines ++ line ∷ [])
one_more formula lines line goes good filled = record {
  derived = derived_more formula lines line goes.derived good;
  unclosed = unrefuted_more lines line goes.unclosed filled;
}

pub nothing_goes_on : (formula : Formula) → MayGoOn formula []
nothing_goes_on formula = record { derived = λ k d within. absurd (omega (arith, within)); unclosed = refl }

-- an empty line closes a log
pub closed_by : (formula : Formula) (lines : List LogLine) (line : LogLine) → MayGoOn formula lines → line_fault formula (clauses_of lines) line ≡ None → is_empty line.clause ≡ true → IsRefutation formula (lines ++ line ∷ [])
closed_by formula lines line goes good empty = record {
  derived = derived_more formula lines line goes.derived good;
  closed =
      ap (list_any is_empty) (clauses_more lines line)
      ∙ (list_any-append is_empty (clauses_of lines) (line.clause ∷ [])
      ∙ (ap (λ b. b || (is_empty line.clause || false)) goes.unclosed ∙ ap (λ b. b || false) empty));
}

-- whether a clause is empty, by its length
pub filled_by : (clause : List SatLit) (b : Bool) → b ≡ (length clause == 0) → b ≡ false → is_empty clause ≡ false
filled_by [] b told no_ = absurd (false≢true (sym no_ ∙ (told ∙ eq-eqb 0 0 refl)))
filled_by (l ∷ clause) b told no_ = refl

pub empty_by : (clause : List SatLit) (b : Bool) → b ≡ (length clause == 0) → b ≡ true → is_empty clause ≡ true
empty_by clause b told yes_ = ap is_empty (nil_from_length clause (eqb-true (length clause) 0 (sym told ∙ yes_)))

-- the part of a refutation on which its last line rests refutes too
pub trimmed : (common : Common) (lines part : List LogLine) (numbers : List (Option ℕ)) (last own : LogLine) → common.same ≡ common.count → IsLastOf lines last → ArePlaced common.count lines part numbers → GoesOn common lines [] part → IsRenumbered common numbers last own → is_empty own.clause ≡ true → Trims common.count lines (part ++ own ∷ [])
trimmed common lines part numbers last own whole is_last placed goes_on renumbered empty formula count refutes =
    let have : HaveCommon common formula formula = record {
      variables = refl;
      count = count;
      other_count = count;
      within = omega (arith, whole);
      same = λ id low. refl;
    } in
    let goes = goes_on formula formula have refutes.derived (nothing_goes_on formula) in
    closed_by formula part own goes (line_carried common formula formula lines part numbers have placed (length lines - 1) last last own refutes.derived goes (omega (arith, is_last.some)) (is_last.is last) renumbered) empty

-- ---- lines that were written

-- the number of a clause of a formula is its own
number_kept : (common : Common) (numbers : List (Option ℕ)) (source target : List LogLine) (h id : ℕ) → ArePlaced common.count source target numbers → number_in common numbers h ≡ Some id → id < common.count → h ≡ id
number_kept common numbers source target h id placed number early =
    elim (cases_lt h common.same) [
      | inl low ↦
          let found : Some h ≡ Some id = sym (ap (λ b. cond b (Some h) (cond (nat_lt h common.count) None (slice_index_or numbers (h - common.count) None))) (lt-ltb h common.same low)) ∙ number in
          let is : h ≡ id = cc in
          is
      | inr late ↦ elim (cases_lt h common.count) [
        | inl below ↦
            let found : None ≡ Some id = sym (ap (λ b. cond b (Some h) (cond (nat_lt h common.count) None (slice_index_or numbers (h - common.count) None))) (le-ltb h common.same late) ∙ ap (λ b. cond b None (slice_index_or numbers (h - common.count) None)) (lt-ltb h common.count below)) ∙ number in
            absurd (let x : None ≡ Some id = found in cc)
        | inr past ↦
            let found : slice_index_or numbers (h - common.count) None ≡ Some id = sym (ap (λ b. cond b (Some h) (cond (nat_lt h common.count) None (slice_index_or numbers (h - common.count) None))) (le-ltb h common.same late) ∙ ap (λ b. cond b None (slice_index_or numbers (h - common.count) None)) (le-ltb h common.count past)) ∙ number in
            absurd (omega (arith, early, (placed (h - common.count) id found).late))
      ]
    ]

pub written_as : (common : Common) (numbers : List (Option ℕ)) (source target : List LogLine) (line own : LogLine) → ArePlaced common.count source target numbers → IsRenumbered common numbers line own → IsWrittenAs common.count line own
written_as common numbers source target line own placed is = record {
  clause = is.clause;
  hints = λ k d within early.
      let f = number_in common numbers in
      let there : k < length line.hints = omega (arith, within, ap length is.hints, length-map line.hints f, length-map own.hints (λ (n : ℕ). Some n)) in
      let number : f (slice_index_or line.hints k d) ≡ Some (slice_index_or own.hints k d) = sym (get_or-map f line.hints k d None there) ∙ (ap (λ xs. slice_index_or xs k None) is.hints ∙ get_or-map (λ (n : ℕ). Some n) own.hints k d None within) in
      subst (Contains line.hints) (number_kept common numbers source target (slice_index_or line.hints k d) (slice_index_or own.hints k d) placed number early) (Contains-get_or line.hints k d there);
}

-- nothing is written
pub none_written : (count : ℕ) (source target : List LogLine) → AreWritten count source target target
none_written count source target k d within = inl (Contains-get_or target k d within)

-- one line is
pub one_written : (count : ℕ) (source target : List LogLine) (own : LogLine) → IsWrittenOf count source own → AreWritten count source target (target ++ own ∷ [])
one_written count source target own is =
    All-push (λ l. Contains target l ⊎ IsWrittenOf count source l) target own (none_written count source target) (inr is)

-- lines that were written one after the other
pub written_after : (count : ℕ) (source old mid new : List LogLine) → AreWritten count source old mid → AreWritten count source mid new → AreWritten count source old new
written_after count source old mid new first then_ k d within = at (slice_index_or new k d) (then_ k d within)
  where
    at : (own : LogLine) → Contains mid own ⊎ IsWrittenOf count source own → Contains old own ⊎ IsWrittenOf count source own
    at own (inl (j, below, is)) = subst (λ l. Contains old l ⊎ IsWrittenOf count source l) is (first j own below)
    at own (inr of) = inr of
