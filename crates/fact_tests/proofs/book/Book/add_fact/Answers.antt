use Rattle.std.proofs.Common.{Ok, refl, sym, subst, All}
use Rattle.cnf_core.specs.declared.stop.Stop.TheVariants.{Memory}
use Rattle.net_core.specs.Sides.{Graphs}
use Rattle.account_core.specs.Facts.{AreFacts}
use Rattle.oracle_core.specs.Oracles.{Claims}
use Rattle.fact_tests.specs.Books.{IsKept, known_by}
use Rattle.fact_tests.proofs.BookLemmas.{claim_lawful, claims_ok, claims_stopped}
use Rattle.fact_tests.proofs.book.Book.add_fact.Goals as goal

pub returns-in_err-evidence : goal.returns-in_err-evidence
returns-in_err-evidence g c =
    subst (λ (graphs : Graphs). Claims c.args.claim c.args.self.now (known_by graphs c.self.inside.facts c.self.inside.kept) c.args.ledger.now c.evidence.new.ledger c.from_residual.result) (sym c.evidence.ensures.same)
    (claims_stopped (g.D.Decide.circuits c.self.inside.decider) c.self.inside.facts c.self.inside.kept c.args.claim c.args.self.now c.self.view_is c.self.invariant.facts_are c.self.invariant.kept_are c.requires.placed c.requires.missing c.args.ledger.now c.evidence.new.ledger c.self.inside.facts c.from_residual.result c.in_err-evidence.field-0.0 refl c.from_residual.ensures.1 c.requires.suits c.in_err-evidence.ensures.decides.stop)

pub returns-in_err-number : goal.returns-in_err-number
returns-in_err-number g c =
    subst (λ (graphs : Graphs). Claims c.args.claim c.args.self.now (known_by graphs c.add.new.self c.self.inside.kept) c.args.ledger.now c.evidence.new.ledger c.from_residual-in_err-number.result) (sym c.evidence.ensures.same)
    (claims_stopped (g.D.Decide.circuits c.self.inside.decider) c.self.inside.facts c.self.inside.kept c.args.claim c.args.self.now c.self.view_is c.self.invariant.facts_are c.self.invariant.kept_are c.requires.placed c.requires.missing c.args.ledger.now c.evidence.new.ledger c.add.new.self c.from_residual-in_err-number.result Memory c.in_err-number.ensures.refused c.from_residual-in_err-number.ensures.1 c.requires.suits tt)

pub invariant_of-self-2 : goal.invariant_of-self-2
invariant_of-self-2 g c = record {
  facts_are = subst (λ (graphs : Graphs). AreFacts graphs c.add.new.self) (sym c.evidence.ensures.same) (claim_lawful (g.D.Decide.circuits c.self.inside.decider) c.self.inside.facts c.self.inside.kept c.args.claim c.args.self.now c.self.view_is c.self.invariant.facts_are c.self.invariant.kept_are c.requires.placed c.requires.missing c.in_ok-evidence.evidence c.add.new.self c.in_ok-evidence.ensures.decides.answer c.in_ok-number.ensures.added);
  kept_are = subst (λ (graphs : Graphs). All (IsKept graphs) c.self.inside.kept) (sym c.evidence.ensures.same) c.self.invariant.kept_are;
}

pub returns : goal.returns
returns g c =
    subst (λ (graphs : Graphs). Claims c.args.claim c.args.self.now (known_by graphs c.add.new.self c.self.inside.kept) c.args.ledger.now c.evidence.new.ledger (Ok c.in_ok-number.number)) (sym c.evidence.ensures.same)
    (claims_ok (g.D.Decide.circuits c.self.inside.decider) c.self.inside.facts c.self.inside.kept c.args.claim c.args.self.now c.self.view_is c.self.invariant.facts_are c.self.invariant.kept_are c.requires.placed c.requires.missing c.args.ledger.now c.evidence.new.ledger c.in_ok-evidence.evidence c.add.new.self c.in_ok-number.number c.in_ok-evidence.ensures.decides.answer c.in_ok-evidence.ensures.decides.decided c.in_ok-evidence.ensures.decides.unspent c.requires.suits c.in_ok-number.ensures.added c.in_ok-number.ensures.number)
