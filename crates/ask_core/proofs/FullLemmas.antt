-- What was learned over dense variables, in terms of the formula.
use Rattle.std.proofs.Common.{◌≡◌, ℕ, zero, suc, ◌+◌, ◌-◌, ◌<◌, ◌≤◌, ◌^◌, ◌||◌, not, Bool, true, false, List, [], ◌∷◌, ◌++◌, length, map, take, All, Result, Ok, Err, IfOk, IfErr, slice_index_or, refl, sym, ◌∙◌, ap, subst, arith}
use Rattle.std.specs.List.{list_any}
use Rattle.std.proofs.lemmas.List.{append_assoc, get_or-append_right, get_or-map, get_or-take, length-append, length-map, length-take-le, map-append, take-map, take-take, take_at}
use Rattle.std.proofs.lemmas.List.Folds.{list_any-append}
use Rattle.std.proofs.lemmas.List.Elements.{All-append, All-map, All-tail}
use Rattle.circuits.specs.Literals.{bit, differ}
use Rattle.cnf_core.specs.declared.literal.SatLit.{SatLit}
use Rattle.cnf_core.specs.declared.log.LogLine.{LogLine}
use Rattle.cnf_core.specs.declared.stop.Stop.{Stop}
use Rattle.cnf_core.specs.declared.stop.Stop.TheVariants.{Spent, Memory}
use Rattle.cnf_core.specs.Clauses.{Formula, clause_at, is_met, is_negated, literal_bit, opposite, variable_of, AreKnown}
use Rattle.cnf_core.specs.Charges.{Charging}
use Rattle.cnf_core.specs.Derivations.{AreDerived, clauses_of, is_empty, line_fault, has_all, no_line}
use Rattle.learn_solver.specs.Solvers.{IsAdded, IsAsking, IsExtended, IsStopped, active}
use Rattle.ask_core.specs.declared.verdict.DenseVerdict.{DenseVerdict}
use Rattle.ask_core.specs.declared.verdict.DenseVerdict.TheVariants.{Model as Full, Refuted as Logged}
use Rattle.learn_solver.specs.declared.verdict.Finding.{Finding}
use Rattle.learn_solver.specs.declared.verdict.Finding.TheVariants.{Model, Refuted}
use Rattle.learn_solver.proofs.AdvanceLemmas.{derived_after}
use Rattle.learn_solver.proofs.SolverLemmas.{line_known, line_says, lines_known, steps_there}
use Rattle.ask_core.specs.Renamings.{AreShort, IsRenaming, IsSpread, renamed, translated}
use Rattle.ask_core.specs.Solved.{AreCharged, AreLearned, IsDenseVerdict, IsFound, IsSettled, IsTranslated, IsUnsettled, start_of, with_lines_of}
use Rattle.ask_core.proofs.RenameLemmas.{has_all_renamed, met_renamed}
use Rattle.cnf_core.proofs.LiteralLemmas.{variable_of-literal}
use Rattle.ask_core.proofs.LineLemmas.{clauses_after, empties_renamed, is_negated-literal, line_translated, names_rename}
use Rattle.std.proofs.Math.Bool.{not-not}
use Rattle.circuits.proofs.Lists.{All-front}

-- learned lines are over dense variables
pub learned_known : (small : Formula) (n : ℕ) (lines : List LogLine) → AreLearned small lines → small.variables ≡ n → All (AreKnown n) (clauses_of lines)
learned_known small n lines learned variables = subst (λ m. All (AreKnown m) (clauses_of lines)) variables (lines_known small lines learned.derived)

-- their hints are numbers
pub learned_few : (small : Formula) (lines : List LogLine) (next : ℕ) → AreLearned small lines → next < 2 ^ 63 → length small.clauses < 2 ^ 62 → length lines < 2 ^ 62 → All (λ line. All (λ hint. next + hint < 2 ^ 64) line.hints) lines
learned_few small lines next learned low few fewer k d within j e below =
    let line = slice_index_or lines k d in
    let taken = clauses_of (take k lines) in
    let there = steps_there (small.clauses ++ taken) (map opposite line.clause) line.hints (line_says small taken line (learned.derived k d within)).hints j e below in
    omega (arith, there, low, few, fewer, within, length-append small.clauses taken, length-map (take k lines) (λ (l : LogLine). l.clause), length-take-le k lines (omega (arith, within)))

-- the first n lines are learned
learned_front : (small : Formula) (lines : List LogLine) (n : ℕ) → n ≤ length lines → AreLearned small lines → AreLearned small (take n lines)
learned_front small lines n fits learned = record {
  derived = λ k d within.
      let low : k < n = omega (arith, within, length-take-le n lines fits) in
      ap (λ ls. line_fault small (clauses_of ls) (slice_index_or (take n lines) k d)) (take-take k n lines (omega (arith, low)))
      ∙ (ap (λ l. line_fault small (clauses_of (take k lines)) l) (get_or-take n lines k d low) ∙ learned.derived k d (omega (arith, low, fits)));
  fresh = λ k d within.
      let low : k < n = omega (arith, within, length-take-le n lines fits) in
      subst (λ ls. All (λ clause. has_all (slice_index_or (take n lines) k d).clause clause ≡ false) (small.clauses ++ clauses_of ls)) (sym (take-take k n lines (omega (arith, low))))
      (subst (λ (l : LogLine). All (λ clause. has_all l.clause clause ≡ false) (small.clauses ++ clauses_of (take k lines))) (sym (get_or-take n lines k d low)) (learned.fresh k d (omega (arith, low, fits))));
}

take_after : (xs ys : List LogLine) (k : ℕ) → length xs ≤ k → take k (xs ++ ys) ≡ xs ++ take (k - length xs) ys
take_after [] ys k late = ap (λ n. take n ys) (let e : k ≡ k - 0 = omega arith in e)
take_after (x ∷ xs) ys zero late = absurd (omega (arith, late))
take_after (x ∷ xs) ys (suc k) late = ap (λ ls. x ∷ ls) (take_after xs ys k (omega (arith, late)) ∙ ap (λ n. xs ++ take n ys) (let e : k - length xs ≡ suc k - length (x ∷ xs) = omega arith in e))

-- What is known of dense variables and lemmas.
pub record IsTranslating (small : Formula) (names numbers : List ℕ) (full : Formula) (ids : List ℕ) (lemmas : List LogLine) : Type 0 where
  pub renaming : IsRenaming small names numbers full lemmas
  pub whole : map (clause_at full.clauses) ids ++ clauses_of lemmas ≡ map (map (renamed names)) small.clauses
  pub filled : list_any is_empty (clauses_of lemmas) ≡ false
  pub derived : AreDerived full lemmas

none_empty : (clauses : List (List SatLit)) → AreShort clauses → list_any is_empty clauses ≡ false
none_empty [] short = refl
none_empty ([] ∷ clauses) short = absurd (omega (arith, (short 0 [] (omega arith)).0))
none_empty ((l ∷ clause) ∷ clauses) short = none_empty clauses (All-tail (λ (c : List SatLit). (1 ≤ length c) × (length c ≤ 3)) (l ∷ clause) clauses short)

pub translating : (small : Formula) (names numbers : List ℕ) (full : Formula) (ids : List ℕ) (lemmas : List LogLine) → IsRenaming small names numbers full lemmas → map (clause_at full.clauses) ids ++ clauses_of lemmas ≡ map (map (renamed names)) small.clauses → AreShort (clauses_of lemmas) → AreDerived full lemmas → IsTranslating small names numbers full ids lemmas
translating small names numbers full ids lemmas renaming whole short derived = record {
  renaming = renaming;
  whole = whole;
  filled = none_empty (clauses_of lemmas) short;
  derived = derived;
}

module _ (small : Formula) (names numbers : List ℕ) (full : Formula) (ids : List ℕ) (lemmas : List LogLine) (is : IsTranslating small names numbers full ids lemmas) where
  abbrev t : LogLine → LogLine
  t line = translated names numbers (length full.clauses + length lemmas) line

  -- the clauses that are looked at before a line
  looked_at : (taken : List LogLine) → active full ids (lemmas ++ map t taken) ≡ map (map (renamed names)) (small.clauses ++ clauses_of taken)
  looked_at taken =
      let front = map (clause_at full.clauses) ids in
      ap (λ cs. front ++ cs) (clauses_after names numbers (length full.clauses + length lemmas) lemmas taken)
      ∙ (sym (append_assoc front (clauses_of lemmas) (map (map (renamed names)) (clauses_of taken)))
      ∙ (ap (λ cs. cs ++ map (map (renamed names)) (clauses_of taken)) is.whole ∙ sym (map-append (map (renamed names)) small.clauses (clauses_of taken))))

  -- a line of the formula is added
  one_added : (lines : List LogLine) (j : ℕ) → j < length lines → AreLearned small lines → IsAdded full ids (lemmas ++ map t (take j lines)) (t (slice_index_or lines j no_line))
  one_added lines j within learned =
      let n = length names in
      let line = slice_index_or lines j no_line in
      let taken = take j lines in
      let front = learned_front small lines j (omega (arith, within)) learned in
      let known = learned_known small n taken front is.renaming.variables in
      let good = learned.derived j no_line within in
      let own : AreKnown n line.clause = subst (λ m. AreKnown m line.clause) is.renaming.variables (line_known small (clauses_of taken) line good) in
      let all_known : All (AreKnown n) (small.clauses ++ clauses_of taken) = All-append (AreKnown n) small.clauses (clauses_of taken) is.renaming.known known in
      let fresh = learned.fresh j no_line within in
      let P : List SatLit → Type 0 = λ c. has_all (map (renamed names) line.clause) c ≡ false in
      record {
        derived = line_translated small full names numbers lemmas taken line is.renaming is.filled known good;
        fresh = subst (All P) (sym (looked_at taken)) (All-map P (map (renamed names)) (small.clauses ++ clauses_of taken) (λ k d below. has_all_renamed n (renamed names) (names_rename full.variables names is.renaming.names_are) line.clause (slice_index_or (small.clauses ++ clauses_of taken) k d) own (all_known k d below) ∙ fresh k d below));
      }

  -- lines of the formula are added
  extended_by : {O : Type 0} (lines : List LogLine) (before after : Charging O) → AreLearned small lines → before.lines ≡ lemmas → after.lines ≡ before.lines ++ map t lines → after.made ≡ before.made + length lines → after.budget ≡ before.budget → after.opened ≡ before.opened → after.others ≡ before.others → IsExtended (start_of full ids lemmas) (with_lines_of (start_of full ids lemmas) after) before after
  extended_by {O} lines before after learned first lines_are made budget opened others =
      let ls : after.lines ≡ lemmas ++ map t lines = lines_are ∙ ap (λ xs. xs ++ map t lines) first in
      let sizes = length-append lemmas (map t lines) in
      let more = length-map lines t in
      record {
        formula = refl;
        ids = refl;
        longer = omega (arith, ap length ls, sizes);
        kept = ap (take (length lemmas)) ls ∙ take_at lemmas (map t lines) (length lemmas) refl;
        added = subst (λ (xs : List LogLine). (k : ℕ) (d : LogLine) → length lemmas ≤ k → k < length xs → IsAdded full ids (take k xs) (slice_index_or xs k d)) (sym ls) (λ k d late within.
            let j = k - length lemmas in
            let low : j < length lines = omega (arith, late, within, sizes, more) in
            let front : take k (lemmas ++ map t lines) ≡ lemmas ++ map t (take j lines) = take_after lemmas (map t lines) k late ∙ ap (λ xs. lemmas ++ xs) (take-map t j lines) in
            let at : slice_index_or (lemmas ++ map t lines) k d ≡ t (slice_index_or lines j no_line) = get_or-append_right lemmas (map t lines) (length lemmas) k d refl late ∙ get_or-map t lines j no_line d low in
            subst (λ (l : LogLine). IsAdded full ids (take k (lemmas ++ map t lines)) l) (sym at) (subst (λ xs. IsAdded full ids xs (t (slice_index_or lines j no_line))) (sym front) (one_added lines j low learned)));
        budget = budget;
        opened = opened;
        others = others;
        lines_are = refl;
        counted = omega (arith, made, ap length ls, sizes, more);
      }

  charged_extended : {O : Type 0} (lines : List LogLine) (before after : Charging O) → AreLearned small lines → before.lines ≡ lemmas → AreCharged before (map t lines) after → IsExtended (start_of full ids lemmas) (with_lines_of (start_of full ids lemmas) after) before after
  charged_extended {O} lines before after learned first charged =
      let c = charged.charged in
      extended_by lines before after learned first (ap (λ (x : Charging O). x.lines) c) (ap (λ (x : Charging O). x.made) c ∙ ap (λ n. before.made + n) (length-map lines t)) (ap (λ (x : Charging O). x.budget) c) (ap (λ (x : Charging O). x.opened) c) (ap (λ (x : Charging O). x.others) c)

  -- a literal has its bit
  bit_spread : (values bits : List Bool) → IsSpread names values full.variables bits → (l : SatLit) → variable_of l < length names → literal_bit bits (renamed names l) ≡ literal_bit values l
  bit_spread values bits spread l below =
      let v = slice_index_or names (variable_of l) 0 in
      let s = not (is_negated l) in
      ap (λ n. differ (bit bits n) (is_negated (renamed names l))) (variable_of-literal v s)
      ∙ (ap (λ b. differ b (is_negated (renamed names l))) (spread.each (variable_of l) below)
      ∙ ap (differ (bit values (variable_of l))) (is_negated-literal v s ∙ not-not (is_negated l)))

  verdict_of : {O : Type 0} (lines : List LogLine) (before after : Charging O) (own : Finding) (answer : DenseVerdict) → AreLearned small lines → before.lines ≡ lemmas → AreCharged before (map t lines) after → IsFound small lines own → IsTranslated names full.variables (lemmas ++ map t lines) own answer → IsDenseVerdict (with_lines_of (start_of full ids lemmas) after) answer
  verdict_of {O} lines before after (Model values) (Full bits) learned first charged found verdict =
      let r = renamed names in
      let all : All (λ c. is_met bits c ≡ true) (map (map r) small.clauses) = All-map (λ c. is_met bits c ≡ true) (map r) small.clauses (λ k d below. met_renamed (length names) r values bits (bit_spread values bits verdict) (slice_index_or small.clauses k d) (is.renaming.known k d below) ∙ found.1 k d below) in
      let both : All (λ c. is_met bits c ≡ true) (map (clause_at full.clauses) ids ++ clauses_of lemmas) = subst (All (λ c. is_met bits c ≡ true)) (sym is.whole) all in
      record { variables = verdict.size; meets = All-front (λ c. is_met bits c ≡ true) (map (clause_at full.clauses) ids) (clauses_of lemmas) both }
  verdict_of {O} lines before after Refuted (Logged whole) learned first charged found verdict =
      let extended = charged_extended lines before after learned first charged in
      let ls : after.lines ≡ lemmas ++ map t lines = ap (λ (x : Charging O). x.lines) charged.charged ∙ ap (λ xs. xs ++ map t lines) first in
      let closed : list_any is_empty (clauses_of (lemmas ++ map t lines)) ≡ true =
      ap (list_any is_empty) (clauses_after names numbers (length full.clauses + length lemmas) lemmas lines)
      ∙ (list_any-append is_empty (clauses_of lemmas) (map (map (renamed names)) (clauses_of lines))
      ∙ (ap (λ b. b || list_any is_empty (map (map (renamed names)) (clauses_of lines))) is.filled ∙ (empties_renamed (renamed names) (clauses_of lines) ∙ found))) in
      let same : whole.lines ≡ after.lines = verdict ∙ sym ls in
      record {
        lines_are = same;
        refutes = record {
          derived = subst (AreDerived full) (sym same) (derived_after (start_of full ids lemmas) (with_lines_of (start_of full ids lemmas) after) before after is.derived extended);
          closed = ap (λ xs. list_any is_empty (clauses_of xs)) verdict ∙ closed;
        };
      }
  verdict_of {O} lines before after (Model values) (Logged whole) learned first charged found verdict = absurd verdict
  verdict_of {O} lines before after Refuted (Full bits) learned first charged found verdict = absurd verdict

  pub dense_verdict : {O : Type 0} (before after : Charging O) (r : Result DenseVerdict Stop) → before.lines ≡ lemmas → IfOk r (IsSettled small names numbers full lemmas before after) → IfOk r (IsDenseVerdict (with_lines_of (start_of full ids lemmas) after))
  dense_verdict {O} before after (Ok answer) first s = verdict_of s.lines before after s.own answer s.learned first s.charged s.found s.verdict
  dense_verdict {O} before after (Err stop) first s = tt

  pub dense_extended : {O : Type 0} (before after : Charging O) (r : Result DenseVerdict Stop) → before.lines ≡ lemmas → IfOk r (IsSettled small names numbers full lemmas before after) → IfOk r (λ _. IsExtended (start_of full ids lemmas) (with_lines_of (start_of full ids lemmas) after) before after)
  dense_extended {O} before after (Ok answer) first s = charged_extended s.lines before after s.learned first s.charged
  dense_extended {O} before after (Err stop) first s = tt

  stopped_by : {O : Type 0} (before after : Charging O) (stop : Stop) → before.lines ≡ lemmas → IsUnsettled small names numbers full lemmas before after stop → IsStopped (start_of full ids lemmas) (with_lines_of (start_of full ids lemmas) after) before after stop
  stopped_by {O} before after Memory first cut = tt
  stopped_by {O} before after (Spent n) first cut =
      let over = cut.overdrawn in
      let c = over.refused in
      let m = over.count + 1 in
      let fits : m ≤ length cut.lines = omega (arith, over.there, length-map cut.lines t) in
      let part = take m cut.lines in
      let size = length-take-le m cut.lines fits in
      record {
        extended = extended_by part before after (learned_front small cut.lines m fits cut.learned) first (ap (λ (x : Charging O). x.lines) c ∙ ap (λ xs. before.lines ++ xs) (take-map t m cut.lines)) (ap (λ (x : Charging O). x.made) c ∙ omega (arith, size)) (ap (λ (x : Charging O). x.budget) c) (ap (λ (x : Charging O). x.opened) c) (ap (λ (x : Charging O). x.others) c);
        learned_is = over.told;
        spent = ap (λ (x : Charging O). x.spent) c;
        used = ap (λ (x : Charging O). x.made) c ∙ omega (arith, over.spent);
      }

  pub dense_stopped : {O : Type 0} (before after : Charging O) (r : Result DenseVerdict Stop) → before.lines ≡ lemmas → IfErr r (IsUnsettled small names numbers full lemmas before after) → IfErr r (IsStopped (start_of full ids lemmas) (with_lines_of (start_of full ids lemmas) after) before after)
  dense_stopped {O} before after (Ok answer) first cut = tt
  dense_stopped {O} before after (Err stop) first cut = stopped_by before after stop first cut

pub dense_asking : {O : Type 0} (small : Formula) (names numbers : List ℕ) (full : Formula) (lemmas : List LogLine) (before after : Charging O) (r : Result DenseVerdict Stop) → before.opened ≡ true → before.spent ≡ false → IfOk r (IsSettled small names numbers full lemmas before after) → IfOk r (λ _. IsAsking after after.lines)
dense_asking {O} small names numbers full lemmas before after (Ok answer) opened fresh s = record {
  opened = ap (λ (x : Charging O). x.opened) s.charged.charged ∙ opened;
  lines_are = refl;
  not_spent = ap (λ (x : Charging O). x.spent) s.charged.charged ∙ fresh;
}
dense_asking {O} small names numbers full lemmas before after (Err stop) opened fresh s = tt
