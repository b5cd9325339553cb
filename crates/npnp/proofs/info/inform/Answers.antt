-- What is known of the file that was read, or what ends the run at it.
use Rattle.std.proofs.Common.{inl}
use Rattle.run_steps.proofs.CheckLemmas.{right_at_only, stopped}
use Rattle.run_steps.proofs.InfoLemmas.{informs}
use Rattle.npnp.proofs.ResultLemmas.{err_is}
use Rattle.npnp.proofs.info.inform.Goals as goal

pub returns-in_err-named : goal.returns-in_err-named
returns-in_err-named g c =
    let o = c.in_err-named.field-0.0 in
    stopped _ _ _ _ _ o tt (err_is _ c.from_residual.ensures.1) c.read_netlist.ensures.files
    (λ tells words asks. right_at_only _ words _ (inl (_, asks)) o (c.in_err-named.ensures.ended tells))
    c.in_err-named.ensures.reading
    c.read_netlist.ensures.last
    (λ e. c.read_netlist.ensures.failed (cc (e, c.in_err-named.was)))

pub returns : goal.returns
returns g c = informs _ c.args.info.now _ _ c.in_ok-named.named c.inform_of.result c.read_netlist.ensures.files c.in_ok-named.ensures.clean c.in_ok-named.ensures.found c.inform_of.ensures
