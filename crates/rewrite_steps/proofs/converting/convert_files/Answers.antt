-- The account was read and converted, or it isn't there, or a call failed.
use Rattle.std.proofs.Common.{Some, ap, sym, subst, ◌∙◌}
use Rattle.std.proofs.lemmas.Result.{err_from_is_err_and}
use Rattle.check_steps.specs.Files.{IsContent}
use Rattle.check_steps.specs.Stops.{outcome_of}
use Rattle.check_steps.proofs.ReadLemmas.{stop_is, stop_reading}
use Rattle.run_steps.proofs.CheckLemmas.{stopped}
use Rattle.rewrite_steps.proofs.ConvertLemmas.{converts_decides, no_old}
use Rattle.rewrite_steps.proofs.DecideLemmas.{stop_right}
use Rattle.rewrite_steps.proofs.converting.convert_files.Goals as goal

pub returns-in_err-account : goal.returns-in_err-account
returns-in_err-account g c =
    let p = err_from_is_err_and c.from_residual.result c.from_residual.ensures.1 in
    let s = c.in_err-account.field-0.0 in
    stopped _ _ _ _ _ (outcome_of s) tt (cc (p.1, p.2)) c.read_whole.ensures.files
    (λ tells words asks. stop_right _ words s)
    (stop_reading s)
    c.read_whole.ensures.last
    (λ e. c.read_whole.ensures.failed (cc (stop_is s e, c.in_err-account.was)))

pub returns-in-Some : goal.returns-in-Some
returns-in-Some g c =
    let asked = c.args.asked.now in
    let held = (g.S.Shelf.state c.args.shelf.now).held asked.account.now in
    converts_decides _ asked _ c.deref.result.now
    (λ tells. subst (λ content. IsContent held content) c.in-Some.is (c.in_ok-account.ensures.found tells) ∙ ap Some (sym c.deref.ensures.value))
    _ _ c.convert_to.result c.read_whole.ensures.files c.in_ok-account.ensures.clean c.convert_to.ensures

pub returns-in-None : goal.returns-in-None
returns-in-None g c =
    let asked = c.args.asked.now in
    let held = (g.S.Shelf.state c.args.shelf.now).held asked.account.now in
    no_old _ asked _ _ c.reported.result c.read_whole.ensures.files c.read_whole.ensures.last
    (λ tells. subst (λ content. IsContent held content) c.in-None.is (c.in_ok-account.ensures.found tells))
    c.reported.ensures.same c.reported.ensures.line c.reported.ensures.memory
