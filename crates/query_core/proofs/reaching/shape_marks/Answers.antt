-- The signals of the shape's inputs are marked, and no others.
use Rattle.std.proofs.Common.{◌+◌, ◌-◌, arith, false, length, take, inr, ap, ◌∙◌}
use Rattle.std.proofs.lemmas.List.{length-replicate}
use Rattle.circuits.specs.Literals.{bit}
use Rattle.query_core.specs.Reaching.{with_shape}
use Rattle.query_core.proofs.ShapeLemmas.{placed_within, shape_rest, shape_size, shape_start}
use Rattle.query_core.proofs.reaching.shape_marks.Goals as goal

pub mark_shape-requires : goal.mark_shape-requires
mark_shape-requires c =
    placed_within c.args.inputs (length c.none-marked.result - 1) c.args.shape c.requires.placed (omega (arith, c.requires.room, ap length c.none-marked.ensures, length-replicate c.args.signals false))

pub returns-clause-start : goal.returns-clause-start
returns-clause-start c =
    let n = c.args.inputs in
    let is = c.in_ok-mark_shape.ensures ∙ ap (with_shape c.args.shape) c.none-marked.ensures in
    ap (take (n + 1)) is ∙ shape_start n c.args.signals c.args.shape c.requires.placed c.requires.room

pub returns-clause-rest : goal.returns-clause-rest
returns-clause-rest c s high =
    let is = c.in_ok-mark_shape.ensures ∙ ap (with_shape c.args.shape) c.none-marked.ensures in
    ap (λ m. bit m s) is ∙ shape_rest c.args.shape c.args.inputs c.args.signals s c.requires.placed (inr high)

pub returns-clause-size : goal.returns-clause-size
returns-clause-size c =
    ap length c.in_ok-mark_shape.ensures ∙ (shape_size c.args.shape c.none-marked.result ∙ (ap length c.none-marked.ensures ∙ length-replicate c.args.signals false))
