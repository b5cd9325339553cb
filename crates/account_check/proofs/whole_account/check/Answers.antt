-- Since an account has one verdict at most, it is answered exactly; and a refusal that is accepted is right.
use Rattle.account_check.specs.declared.verdict.Verdict.TheVariants as verdict
use Rattle.account_check.proofs.RefusalLemmas.{right_refusal}
use Rattle.account_check.proofs.VerdictLemmas.{accepted_exactly, accepted_told, rejected_exactly, rejected_told}
use Rattle.account_check.proofs.whole_account.check.Goals as goal

pub returns-clause-accepted : goal.returns-clause-accepted
returns-clause-accepted c told memory =
    let graphs = c.args.graphs.now in
    let bytes = c.args.account.now in
    let is = c.verdict_on.ensures.verdict in
    (accepted_told graphs bytes c.verdict_on.result told is, accepted_exactly graphs bytes c.verdict_on.result told is memory)

pub returns-clause-rejected : goal.returns-clause-rejected
returns-clause-rejected c line why memory =
    let graphs = c.args.graphs.now in
    let bytes = c.args.account.now in
    let is = c.verdict_on.ensures.verdict in
    (rejected_told graphs bytes c.verdict_on.result line why is, rejected_exactly graphs bytes c.verdict_on.result line why is memory)

pub returns-clause-refused : goal.returns-clause-refused
returns-clause-refused c is =
    let graphs = c.args.graphs.now in
    let bytes = c.args.account.now in
    right_refusal graphs bytes c.first-first.ensures.sound c.second-second.ensures.sound (accepted_told graphs bytes c.verdict_on.result verdict.None c.verdict_on.ensures.verdict is)
