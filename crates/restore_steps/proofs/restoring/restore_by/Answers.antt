-- The netlist was written, or a first part of it.
use Rattle.std.proofs.Common.{Ok, Err, rules, subst}
use Rattle.std.proofs.lemmas.Result.{err_from_is_err_and}
use Rattle.run_steps.specs.Steps.{WritesText}
use Rattle.restore_steps.proofs.WrittenLemmas.{no_room, unwritten_netlist, written}
use Rattle.restore_steps.proofs.restoring.restore_by.Goals as goal

pub returns-in_err-netlist : goal.returns-in_err-netlist
returns-in_err-netlist g c =
    let p = err_from_is_err_and c.from_residual.result c.from_residual.ensures.1 in
    no_room _ _ _ _ _ _ (cc (p.1, p.2))

pub returns-in_err-report : goal.returns-in_err-report
returns-in_err-report g c =
    let p = err_from_is_err_and c.from_residual-in_err-report.result c.from_residual-in_err-report.ensures.1 in
    no_room _ _ _ _ _ _ (cc (p.1, p.2))

pub returns-in_err-write_named : goal.returns-in_err-write_named
returns-in_err-write_named g c =
    let p = err_from_is_err_and c.from_residual-in_err-write_named.result c.from_residual-in_err-write_named.ensures.1 in
    let o = c.in_err-write_named.field-0.0 in
    unwritten_netlist _ _ _ c.in_ok-netlist.netlist _ _ _ o _ (cc (p.1, p.2)) c.in_ok-netlist.ensures
    (subst (λ text. WritesText g.S.Shelf.tells c.args.name.now text (g.S.Shelf.state c.args.shelf.now) (g.S.Shelf.state c.write_named.new.shelf) (Err o)) c.new-text.ensures c.in_err-write_named.ensures)

pub returns : goal.returns
returns g c =
    written _ _ _ c.in_ok-netlist.netlist _ _ _ _ c.in_ok-netlist.ensures (search rules) c.in_ok-report.ensures
    (subst (λ text. WritesText g.S.Shelf.tells c.args.name.now text (g.S.Shelf.state c.args.shelf.now) (g.S.Shelf.state c.write_named.new.shelf) (Ok tt)) c.new-text.ensures c.in_ok-write_named.ensures)
