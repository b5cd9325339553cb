-- The first netlist was written, and then the second, or one of them wasn't.
use Rattle.std.proofs.Common.{subst, Ok, Err}
use Rattle.std.proofs.lemmas.Result.{err_from_is_err_and}
use Rattle.run_steps.specs.Steps.{WritesText}
use Rattle.run_steps.proofs.MakingLemmas.{first_refused, second_after}
use Rattle.run_steps.proofs.making.write_pair.Goals as goal

pub returns-in_err-write_named : goal.returns-in_err-write_named
returns-in_err-write_named g c =
    let p = err_from_is_err_and c.from_residual.result c.from_residual.ensures.1 in
    let o = c.in_err-write_named.field-0.0 in
    first_refused _ _ _ _ _ _ _ o _ (cc (p.1, p.2))
    (subst (λ text. WritesText g.S.Shelf.tells c.args.asked.now.first.now text (g.S.Shelf.state c.args.shelf.now) (g.S.Shelf.state c.write_named.new.shelf) (Err o)) c.new-first.ensures c.in_err-write_named.ensures)

pub returns : goal.returns
returns g c =
    let one = c.in_ok-write_named.ensures in
    second_after _ _ _ _ _ _ _ _ _
    (subst (λ text. WritesText g.S.Shelf.tells c.args.asked.now.first.now text (g.S.Shelf.state c.args.shelf.now) (g.S.Shelf.state c.write_named.new.shelf) (Ok tt)) c.new-first.ensures one)
    (subst (λ text. WritesText g.S.Shelf.tells c.args.asked.now.second.now text (g.S.Shelf.state c.write_named.new.shelf) (g.S.Shelf.state c.write_named-2.new.shelf) c.write_named-2.result) c.new-second.ensures c.write_named-2.ensures)
