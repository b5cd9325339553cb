-- The netlist was written, or a first part of it.
use Rattle.std.proofs.Common.{Ok, Err, refl, subst}
use Rattle.std.proofs.lemmas.Result.{err_from_is_err_and}
use Rattle.run_steps.specs.Steps.{WritesText}
use Rattle.rewrite_steps.proofs.EndingLemmas.{no_room, unwritten_account, written}
use Rattle.rewrite_steps.proofs.ending.end_printed.Goals as goal

pub returns-in_err-report : goal.returns-in_err-report
returns-in_err-report g c =
    let p = err_from_is_err_and c.from_residual.result c.from_residual.ensures.1 in
    no_room _ _ _ _ _ _ (cc (p.1, p.2))

pub returns-in_err-write_named : goal.returns-in_err-write_named
returns-in_err-write_named g c =
    let p = err_from_is_err_and c.from_residual-in_err-write_named.result c.from_residual-in_err-write_named.ensures.1 in
    let o = c.in_err-write_named.field-0.0 in
    let old = g.S.Shelf.state c.args.shelf.now in
    let new = g.S.Shelf.state c.write_named.new.shelf in
    unwritten_account _ _ _ _ _ _ o _ (cc (p.1, p.2))
    (subst (λ text. WritesText g.S.Shelf.tells c.args.name.now text old new (Err o)) c.new-text.ensures c.in_err-write_named.ensures)

pub returns : goal.returns
returns g c =
    let old = g.S.Shelf.state c.args.shelf.now in
    let new = g.S.Shelf.state c.write_named.new.shelf in
    written _ _ _ _ _ _ _ refl c.in_ok-report.ensures
    (subst (λ text. WritesText g.S.Shelf.tells c.args.name.now text old new (Ok tt)) c.new-text.ensures c.in_ok-write_named.ensures)
