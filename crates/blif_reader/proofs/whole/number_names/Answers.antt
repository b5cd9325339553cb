use Rattle.std.proofs.Common.{subst, inl, inr, ◌∙◌}
use Rattle.blif_reader.specs.Numbers.{IsRepeatedPort}
use Rattle.blif_reader.specs.Names.{input_words}
use Rattle.blif_reader.specs.Blif.{blif_lines}
use Rattle.blif_reader.proofs.BlifLemmas.{repeated_port, inputs_named, names_numbered, name_redefined}
use Rattle.net_file.proofs.StopLemmas.{stop_passed}
use Rattle.blif_reader.proofs.whole.number_names.Goals as goal

pub returns-in_err-names-clause-stop : goal.returns-in_err-names-clause-stop
returns-in_err-names-clause-stop c =
    let ports = c.deref.ensures.value ∙ c.requires.surveyed.ports in
    stop_passed c.name_ports.result _ _ _ _ c.in_err-names.was c.from_residual.ensures.1 c.name_ports.ensures.stop (λ kind at found. inr (inr (inl (repeated_port (blif_lines c.args.input.now) kind at c.requires.declared (subst (λ ps. IsRepeatedPort ps kind at) ports found)))))

pub returns-in_err-add_defined-clause-stop : goal.returns-in_err-add_defined-clause-stop
returns-in_err-add_defined-clause-stop c =
    let lines = blif_lines c.args.input.now in
    let ports = c.deref.ensures.value ∙ c.requires.surveyed.ports in
    let defined = c.deref-2.ensures.value ∙ c.requires.surveyed.defined in
    let inputs = inputs_named lines _ _ _ c.requires.declared ports c.in_ok-names.ensures.named in
    stop_passed c.add_defined.result _ _ _ _ c.in_err-add_defined.was c.from_residual-in_err-add_defined.ensures.1 (c.add_defined.ensures.stop (input_words lines) inputs.1) (λ kind at again. inr (inr (inr (inl (name_redefined lines _ kind at inputs.0 defined again)))))

pub returns-clause-numbered : goal.returns-clause-numbered
returns-clause-numbered c =
    let ports = c.deref.ensures.value ∙ c.requires.surveyed.ports in
    let defined = c.deref-2.ensures.value ∙ c.requires.surveyed.defined in
    names_numbered (blif_lines c.args.input.now) _ _ _ _ _ c.requires.declared ports defined c.in_ok-names.ensures.named c.in_ok-add_defined.ensures.defined
