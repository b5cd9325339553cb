use Rattle.std.proofs.Common.{ℕ, List, [], ◌∷◌, ◌++◌, ap, ◌∙◌}
use Rattle.cnf_core.specs.Derivations.{hint_fault}
use Rattle.table_oracle.specs.Splits.{clauses_in}
use Rattle.table_oracle.proofs.ExcludingLemmas.{start}
use Rattle.table_oracle.proofs.HintLemmas.{halves_derive}
use Rattle.table_oracle.proofs.splitting.Splitting.hints_by_halves.Goals as goal

pub returns : goal.returns
returns c =
    let clauses = clauses_in c.args.self.now.base c.args.lines.now in
    let bits = c.args.bits.now in
    let one = c.in_ok-covering_longer.field-0 in
    let other = c.in_ok-covering_longer-2.field-0 in
    let left = c.in_ok-covering_longer.ensures in
    let right = c.in_ok-covering_longer-2.ensures in
    let hints = c.in_ok-push-2.ensures.ok ∙ ap (λ (hs : List ℕ). hs ++ other ∷ []) (c.in_ok-push.ensures.ok ∙ ap (λ (hs : List ℕ). hs ++ one ∷ []) c.new-hints.ensures) in
    ap (hint_fault clauses (start bits)) hints ∙ halves_derive clauses bits one other left.within right.within left.has right.has (c.requires.new one [] left.within)
