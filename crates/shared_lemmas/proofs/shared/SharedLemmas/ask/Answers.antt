-- The circuits are those that questions share.
use Rattle.std.proofs.Common.{sym, subst}
use Rattle.ask_core.specs.Answers.{Asks}
use Rattle.shared_lemmas.specs.Shared.{ArePaidIn, IsAskedBy, Sharing}
use Rattle.shared_lemmas.proofs.shared.SharedLemmas.ask.Goals as goal

pub returns-clause-asks : goal.returns-clause-asks
returns-clause-asks g c =
    subst (λ (s : Sharing). Asks (IsAskedBy (ArePaidIn s)) s.graphs c.args.query.now c.args.ledger.now c.ask_sharing.new.ledger c.ask_sharing.result) c.self.view_is c.ask_sharing.ensures.asks

pub returns-clause-paid : goal.returns-clause-paid
returns-clause-paid g c known =
    c.ask_sharing.ensures.paid (subst (λ (s : Sharing). ArePaidIn s c.args.ledger.now.asked) (sym c.self.view_is) known)
