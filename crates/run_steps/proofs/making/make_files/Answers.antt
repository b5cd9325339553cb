-- The pair was made, and written or not.
use Rattle.std.proofs.lemmas.Result.{err_from_is_err_and}
use Rattle.std.proofs.Common.{refl}
use Rattle.run_steps.proofs.MakingLemmas.{no_pair, pair_made, pair_refused}
use Rattle.run_steps.proofs.making.make_files.Goals as goal

pub returns-in_err-report : goal.returns-in_err-report
returns-in_err-report g c =
    let p = err_from_is_err_and c.from_residual.result c.from_residual.ensures.1 in
    no_pair _ _ _ _ (cc (p.1, p.2))

pub returns-in_err-pair : goal.returns-in_err-pair
returns-in_err-pair g c =
    let p = err_from_is_err_and c.from_residual-in_err-pair.result c.from_residual-in_err-pair.ensures.1 in
    no_pair _ _ _ _ (cc (p.1, p.2))

pub returns-in_err-write_pair : goal.returns-in_err-write_pair
returns-in_err-write_pair g c =
    let p = err_from_is_err_and c.from_residual-in_err-write_pair.result c.from_residual-in_err-write_pair.ensures.1 in
    pair_refused _ _ _ c.in_ok-pair.ensures _ _ _ c.in_err-write_pair.field-0.0 (cc (p.1, p.2)) c.in_err-write_pair.ensures

pub returns : goal.returns
returns g c = pair_made _ _ _ c.in_ok-pair.ensures _ _ _ refl c.in_ok-report.ensures c.in_ok-write_pair.ensures
