-- The last entry has one line more, which is charged or refused.
use Rattle.std.proofs.Common.{arith}
use Rattle.query_core.proofs.LedgerLemmas.{is_charged, is_spent, kept_charged, kept_spent, lined_in, one_learned}
use Rattle.query_core.proofs.ledger.Ledger.charge.Goals as goal

pub invariant_of-self-then-self : goal.invariant_of-self-then-self
invariant_of-self-then-self c =
    kept_spent (lined_in c.self.view_is c.requires.not_spent c.requires.asked c.self.invariant c.in_ok-push_learned.ensures.pushed c.in_ok-push_learned.ensures.coded c.in_ok-push_learned.ensures.words)

pub returns-then-self-clause-refused : goal.returns-then-self-clause-refused
returns-then-self-clause-refused c =
    let lined = lined_in c.self.view_is c.requires.not_spent c.requires.asked c.self.invariant c.in_ok-push_learned.ensures.pushed c.in_ok-push_learned.ensures.coded c.in_ok-push_learned.ensures.words in
    is_spent c.self.view_is lined c.if-self.true

pub invariant_of-self-2 : goal.invariant_of-self-2
invariant_of-self-2 c =
    let lined = lined_in c.self.view_is c.requires.not_spent c.requires.asked c.self.invariant c.in_ok-push_learned.ensures.pushed c.in_ok-push_learned.ensures.coded c.in_ok-push_learned.ensures.words in
    kept_charged lined (omega (arith, c.if-self.false, c.self.invariant.within))

pub returns-clause-charged : goal.returns-clause-charged
returns-clause-charged c =
    let lined = lined_in c.self.view_is c.requires.not_spent c.requires.asked c.self.invariant c.in_ok-push_learned.ensures.pushed c.in_ok-push_learned.ensures.coded c.in_ok-push_learned.ensures.words in
    is_charged c.self.view_is lined

pub returns-clause-counted : goal.returns-clause-counted
returns-clause-counted c =
    let lined = lined_in c.self.view_is c.requires.not_spent c.requires.asked c.self.invariant c.in_ok-push_learned.ensures.pushed c.in_ok-push_learned.ensures.coded c.in_ok-push_learned.ensures.words in
    one_learned c.self.view_is lined
