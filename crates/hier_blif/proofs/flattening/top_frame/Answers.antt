use Rattle.std.proofs.Common.{◌+◌, ap, ◌∙◌, arith}
use Rattle.hier_blif.specs.Names.{inputs_of}
use Rattle.hier_blif.specs.Scopes.{model_at}
use Rattle.hier_blif.specs.Frames.{models_in}
use Rattle.hier_blif.proofs.TakeLemmas.{is_top_frame, keys_long, numbers_by_keys}
use Rattle.hier_blif.proofs.flattening.top_frame.Goals as goal

pub overflow_add-first : goal.overflow_add-first
overflow_add-first c = omega (arith, c.len.ensures.small)

pub returns : goal.returns
returns c =
    let models = models_in c.args.blocks.now in
    let words = inputs_of (model_at models 0) in
    let keys = c.input_names-names.result.now.keys in
    let long = c.len.ensures.len ∙ keys_long keys words c.input_names-names.ensures in
    is_top_frame models c.args.depth (1 + c.len.result) c.in_ok-inputs.inputs c.requires.top (ap (λ n. 1 + n) long) (numbers_by_keys keys words c.in_ok-inputs.inputs c.input_names-names.ensures c.in_ok-inputs.ensures)
