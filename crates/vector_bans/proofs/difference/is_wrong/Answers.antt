use Rattle.std.proofs.Common.{◌∙◌, length, ap}
use Rattle.std.proofs.lemmas.List.FromFn.{length-map-range_with_len}
use Rattle.account_core.specs.Vectors.{value_sent}
use Rattle.vector_bans.proofs.difference.is_wrong.Goals as goal

pub tri_output-requires-clause-inputs : goal.tri_output-requires-clause-inputs
tri_output-requires-clause-inputs c =
    ap length (c.deref.ensures.value ∙ c.in_ok-sent.ensures) ∙ (length-map-range_with_len (value_sent c.args.pairs.now c.args.tried.now.values.now) 0 c.inputs.result ∙ c.inputs.ensures.value)
