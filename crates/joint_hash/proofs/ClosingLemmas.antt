-- The empty line, derived by lemmas.
use Rattle.std.proofs.Common.{◌≡◌, ℕ, ◌++◌, List, [], map, None, Some, sym, ap, ◌∙◌}
use Rattle.std.specs.List.{list_any}
use Rattle.std.proofs.lemmas.Bool.{cond-false}
use Rattle.cnf_core.specs.declared.literal.SatLit.{SatLit}
use Rattle.cnf_core.specs.declared.log.LogLine.{LogLine}
use Rattle.cnf_core.specs.declared.fault.LineFault.TheVariants as fault
use Rattle.cnf_core.specs.Clauses.{Formula, opposite}
use Rattle.cnf_core.specs.Derivations.{clauses_of, hint_fault, is_empty, line_fault}
use Rattle.joint_hash.specs.Merging.{AreClosedBy, AreLemmas}

pub closed_by : (formula : Formula) (lemmas : List LogLine) (clause : List SatLit) (hints : List ℕ) → AreLemmas formula lemmas → clause ≡ [] → hint_fault (formula.clauses ++ clauses_of lemmas) (map opposite clause) hints ≡ None → AreClosedBy formula lemmas (record { clause = clause; hints = hints })
closed_by formula lemmas clause hints are is good =
    let whole = formula.clauses ++ clauses_of lemmas in
    let none : List SatLit = [] in
    record {
      are = are;
      empty = is;
      derived =
          ap (λ c. line_fault formula (clauses_of lemmas) (record { clause = c; hints = hints })) is
          ∙ (cond-false (list_any is_empty (clauses_of lemmas)) (Some fault.Closed) (hint_fault whole (map opposite none) hints) are.filled
          ∙ (ap (λ c. hint_fault whole (map opposite c) hints) (sym is) ∙ good));
    }
