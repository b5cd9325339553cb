use Rattle.std.proofs.Common.{◌≡◌, List, ℕ, None, ◌++◌}
use Rattle.std.proofs.lemmas.Result.{IfOk-weaker}
use Rattle.cnf_core.specs.declared.literal.SatLit.{SatLit}
use Rattle.cnf_core.specs.Derivations.{clauses_of, hint_fault}
use Rattle.claim_core.specs.Formulas.{query_clauses}
use Rattle.table_oracle.specs.Splits.{clauses_in}
use Rattle.table_oracle.proofs.ExcludingLemmas.{start}
use Rattle.table_oracle.proofs.splitting.Splitting.hints.Goals as goal

pub returns : goal.returns
returns c =
    let base = c.args.self.now.base in
    let bits = c.args.bits.now in
    IfOk-weaker c.hints_by_gates.result (λ (hs : List ℕ). (ls : List (List SatLit)) → hint_fault (query_clauses base.graphs base.query ++ ls) (start bits) hs ≡ None) (λ (hs : List ℕ). hint_fault (clauses_in base c.args.lines.now) (start bits) hs ≡ None) (λ hs all. all (clauses_of c.args.lines.now)) c.hints_by_gates.ensures
