-- The pair has a match: an account of it was accepted, or nothing came.
use Rattle.std.proofs.Common.{◌∙◌, refl, sym, subst}
use Rattle.circuits.specs.Matches.{HaveNpnpEqualFunctions}
use Rattle.account_core.specs.Ports.{HaveAsMany}
use Rattle.net_core.specs.Sides.{Graphs}
use Rattle.run_steps.specs.Steps.{IsProvedMatch, IsStopWithin}
use Rattle.check_steps.specs.Judged.{graphs_of}
use Rattle.check_steps.specs.Words.{default_budget}
use Rattle.run_steps.proofs.TryingLemmas.{as_many, equal, no_room, none_some, stopped, tried}
use Rattle.npnp.proofs.ResultLemmas.{err_is}
use Rattle.npnp.proofs.trying.try_of.Goals as goal

pub unreachable-requires : goal.unreachable-requires
unreachable-requires g c =
    let many = subst (λ (two : Graphs). HaveAsMany two.first two.second) (sym c.new-graphs.ensures) (as_many _ _ _ _ c.requires) in
    none_some c.new.result (c.new.ensures.exactly.1 many) c.in_default.not-Some

pub prove_match-requires : goal.prove_match-requires
prove_match-requires g c =
    let same = rw c.in-Some.is at c.new.ensures.same in
    record { equal = subst (λ (two : Graphs). HaveNpnpEqualFunctions two.first two.second) (sym (same ∙ c.new-graphs.ensures)) (equal _ _ _ _ c.requires) }

pub returns-in_err-account : goal.returns-in_err-account
returns-in_err-account g c =
    let o = c.in_err-account.field-0.0 in
    let same = rw c.in-Some.is at c.new.ensures.same in
    stopped _ (graphs_of c.args.pair.now.first c.args.pair.now.second) c.args.pair.now.hidden o _ (err_is _ c.from_residual.ensures.1) c.requires
    (subst (λ two. IsStopWithin two default_budget o) (same ∙ c.new-graphs.ensures) c.in_err-account.ensures.stopped)

pub returns-in_err-report : goal.returns-in_err-report
returns-in_err-report g c =
    no_room _ _ (err_is _ c.from_residual-in_err-report.ensures.1)

pub returns : goal.returns
returns g c =
    let two = graphs_of c.args.pair.now.first c.args.pair.now.second in
    let account = c.from_vec.result in
    let same = rw c.in-Some.is at c.new.ensures.same in
    tried _ two c.args.pair.now.hidden account _ c.requires
    (subst (IsProvedMatch two) (sym c.from_vec.ensures) (subst (λ graphs. IsProvedMatch graphs c.in_ok-account.account.items) (same ∙ c.new-graphs.ensures) c.in_ok-account.ensures.account))
    refl c.in_ok-report.ensures
