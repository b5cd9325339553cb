use Rattle.std.proofs.Common.{◌+◌, ◌*◌, ◌%◌, length, arith}
use Rattle.std.proofs.lemmas.List.FromFn.{fill_by_all}
use Rattle.circuits.specs.Literals.{plain_literal, false_literal}
use Rattle.gen_pair.specs.Mixing.{window_of}
use Rattle.gen_pair.proofs.windows.fill.Goals as goal

pub returns-clause-made : goal.returns-clause-made
unfolding window_of
returns-clause-made c =
    fill_by_all (λ t. plain_literal ((2 * c.args.k + t) % 64 + 1)) c.loop-t.window (length c.args.window.now) false_literal c.loop-t.invariant.0
    (λ t h. c.loop-t.invariant.1 t false_literal (omega (arith, h, c.loop-t-test.false, c.loop-t.invariant.0)))
