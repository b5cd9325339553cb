-- The netlist was read and swept, or the file is none, or a call failed.
use Rattle.std.proofs.Common.{inr, refl}
use Rattle.std.proofs.lemmas.Result.{err_from_is_err_and}
use Rattle.check_steps.specs.Asks.{sweep_request}
use Rattle.run_steps.proofs.CheckLemmas.{right_at_only, stopped}
use Rattle.rewrite_steps.proofs.SweepLemmas.{sweeps_decides}
use Rattle.rewrite_steps.proofs.sweeping.sweep_files.Goals as goal

pub returns-in_err-netlist : goal.returns-in_err-netlist
returns-in_err-netlist g c =
    let p = err_from_is_err_and c.from_residual.result c.from_residual.ensures.1 in
    let o = c.in_err-netlist.field-0.0 in
    let asked = c.args.asked.now in
    stopped _ _ _ _ _ o tt (cc (p.1, p.2)) c.read_netlist.ensures.files
    (λ tells words asks. right_at_only _ words asked.file.now (inr (sweep_request asked, asks, refl)) o (c.in_err-netlist.ensures.ended tells))
    c.in_err-netlist.ensures.reading
    c.read_netlist.ensures.last
    (λ e. c.read_netlist.ensures.failed (cc (e, c.in_err-netlist.was)))

pub returns : goal.returns
returns g c =
    sweeps_decides _ c.args.asked.now _ c.in_ok-netlist.netlist c.in_ok-netlist.ensures.found
    _ _ c.sweep_to.result c.read_netlist.ensures.files c.in_ok-netlist.ensures.clean c.sweep_to.ensures
