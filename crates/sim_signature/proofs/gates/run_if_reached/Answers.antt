-- A gate with a marked operand is evaluated again, and any other keeps its block.
use Rattle.std.proofs.Common.{arith}
use Rattle.sim_signature.proofs.Reached.{kept-others, kept-place, run-others, run-place}
use Rattle.sim_signature.proofs.gates.run_if_reached.Goals as goal

pub returns-then-not-is_reached-clause-others : goal.returns-then-not-is_reached-clause-others
returns-then-not-is_reached-clause-others c s apart = kept-others c.args.before.now c.args.after.now c.args.marks.now c.args.place s apart

pub returns-then-not-is_reached-clause-place : goal.returns-then-not-is_reached-clause-place
returns-then-not-is_reached-clause-place c =
    kept-place c.args.gate c.args.place c.args.before.now c.args.after.now c.args.marks.now c.is_reached.result (omega (arith, c.requires.place, c.requires.marks_room)) c.is_reached.ensures c.if-not-is_reached.true

pub returns-clause-others : goal.returns-clause-others
returns-clause-others c s apart = run-others c.args.before.now c.args.after.now c.args.marks.now c.args.place s c.gate_after-block.result apart

pub returns-clause-place : goal.returns-clause-place
returns-clause-place c =
    run-place c.args.gate c.args.place c.args.before.now c.args.after.now c.args.marks.now c.gate_after-block.result (omega (arith, c.requires.place, c.requires.marks_room)) (omega (arith, c.requires.place, c.requires.after_room)) c.gate_after-block.ensures
