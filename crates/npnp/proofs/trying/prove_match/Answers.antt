-- The search came to a match, since there is one, and its account is accepted.
use Rattle.std.proofs.Common.{◌∙◌, subst, sym}
use Rattle.account_write.specs.Records.{account_of, records_of}
use Rattle.run_steps.specs.Steps.{IsProvedMatch}
use Rattle.run_steps.proofs.TryingLemmas.{ends_as, proved_match}
use Rattle.npnp.proofs.ResultLemmas.{err_is}
use Rattle.npnp.proofs.trying.prove_match.Goals as goal

pub returns-in_err-solved-clause-stopped : goal.returns-in_err-solved-clause-stopped
returns-in_err-solved-clause-stopped g c =
    ends_as _ _ c.in_err-solved.field-0.0 _ (err_is _ c.from_residual.ensures.1) c.in_err-solved.ensures.stopped

pub accept-requires : goal.accept-requires
accept-requires g c =
    let graphs = c.args.graphs.now in
    let solved = c.in_ok-solved.solved in
    let proved = proved_match graphs (account_of (records_of solved.account)) solved.outcome c.requires.equal c.in_ok-solved.ensures.answer in
    let is = c.deref.ensures.value ∙ c.in_ok-text.ensures in
    subst (λ two. IsProvedMatch two c.deref.result.now) (sym c.graphs.ensures.value) (subst (IsProvedMatch graphs) (sym is) proved)
