-- What is kept of a ban, or found.
use Rattle.std.proofs.Common.{sym, subst, ◌∙◌}
use Rattle.account_core.specs.Given.{ban_at}
use Rattle.ban_check.specs.PairIndices.{AreMissing, Beside}
use Rattle.ban_check.proofs.MissingLemmas.{kept_more}
use Rattle.ban_check.proofs.references.References.missing_of.Goals as goal

pub returns-in-Some-clause-missing : goal.returns-in-Some-clause-missing
returns-in-Some-clause-missing c =
    let told = c.self.invariant c.args.ban c.in-Some.missing (sym c.kept_of.ensures ∙ c.in-Some.is) in
    subst (λ (beside : Beside). AreMissing beside.pairs (ban_at beside.given c.args.ban) c.in-Some.missing) c.self.view_is told

pub invariant_of-self-2 : goal.invariant_of-self-2
invariant_of-self-2 c =
    let beside : Beside = record { given = c.self.inside.given.now; pairs = c.self.inside.pairs } in
    let found = subst (λ ban. AreMissing beside.pairs ban c.missing_of-missing.result) c.ban.ensures c.missing_of-missing.ensures in
    kept_more beside c.args.ban c.missing_of-missing.result c.self.inside.missing.entries c.keep.new.kept.entries c.in_ok-keep.ensures.kept found c.self.invariant

pub returns-clause-missing : goal.returns-clause-missing
returns-clause-missing c =
    let found = subst (λ ban. AreMissing c.self.inside.pairs ban c.missing_of-missing.result) c.ban.ensures c.missing_of-missing.ensures in
    subst (λ (beside : Beside). AreMissing beside.pairs (ban_at beside.given c.args.ban) c.missing_of-missing.result) c.self.view_is found
