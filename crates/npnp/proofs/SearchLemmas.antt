-- What a search of two graphs came to.
use Rattle.std.proofs.Common.{◌≡◌, ℕ, inr, List, Result, Err, refl, sym, ◌∙◌, subst, map}
use Rattle.net_core.specs.Sides.{Graphs}
use Rattle.npnp.specs.Solving.{Solves}
use Rattle.npnp.specs.declared.matching.Solved.{Solved}
use Rattle.check_steps.specs.declared.outcome.Outcome.{Outcome}
use Rattle.check_steps.specs.declared.outcome.Outcome.TheVariants as outcome
use Rattle.account_core.specs.Given.{decided_by}
use Rattle.account_core.specs.Facts.{AreFacts}
use Rattle.oracle_core.specs.Oracles.{Known}
use Rattle.account_core.specs.Steps.{AreValidBans}
use Rattle.account_core.specs.declared.fact.Fact.{Fact}
use Rattle.account_core.specs.declared.step.Ban.{Ban}

-- there was no room for an answer
pub no_room : (graphs : Graphs) (budget : ℕ) (result : Result Solved Outcome) → result ≡ Err outcome.Memory → Solves graphs budget result
no_room graphs budget result is = subst (Solves graphs budget) (sym is) (record { answer = tt; stopped = inr refl })

pub facts_for : (graphs : Graphs) (known old : Known) (facts : List Fact) → known.graphs ≡ old.graphs → graphs ≡ old.graphs → AreFacts known.graphs facts → AreFacts graphs facts
facts_for graphs known old facts same first lawful = subst (λ (g : Graphs). AreFacts g facts) (same ∙ sym first) lawful

pub bans_for : (graphs : Graphs) (known facts : List Fact) (held bans : List Ban) → facts ≡ known → bans ≡ held → AreValidBans graphs (map decided_by known) held → AreValidBans graphs (map decided_by facts) bans
bans_for graphs known facts held bans are same valid =
    subst (λ (fs : List Fact). AreValidBans graphs (map decided_by fs) bans) (sym are) (subst (λ (bs : List Ban). AreValidBans graphs (map decided_by known) bs) (sym same) valid)
