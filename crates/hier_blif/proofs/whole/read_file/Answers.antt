use Rattle.std.proofs.Common.{inl, ◌∙◌}
use Rattle.hier_blif.proofs.StopLemmas.{stop_passed}
use Rattle.hier_blif.proofs.whole.read_file.Goals as goal

pub flatten_models-requires-clause-models : goal.flatten_models-requires-clause-models
flatten_models-requires-clause-models c = c.deref.ensures.value ∙ c.in_ok-models.ensures.models

pub returns-in_err-models-clause-stop : goal.returns-in_err-models-clause-stop
returns-in_err-models-clause-stop c =
    stop_passed c.read_models.result _ _ _ _ c.in_err-models.was c.from_residual.ensures.1 c.read_models.ensures.stop (λ fault is. inl is)
