use Rattle.std.proofs.Common.{◌<◌, All, length, refl, ap, sym, subst, ◌∙◌, arith}
use Rattle.blif_reader.specs.Blif.{blif_lines}
use Rattle.hier_blif.specs.Widths.{HasWideCovers}
use Rattle.hier_blif.specs.Models.{models_of, top_of}
use Rattle.hier_blif.specs.Sizes.{IsSize}
use Rattle.hier_blif.specs.Checked.{IsCheckOf}
use Rattle.hier_blif.proofs.StopLemmas.{stop_passed}
use Rattle.hier_blif.proofs.WideLemmas.{models_wide}
use Rattle.hier_blif.proofs.WholeLemmas.{some_model, model_stop, flat_file, read_as}
use Rattle.hier_blif.proofs.whole.flatten_models.Goals as goal

pub checked_models-requires : goal.checked_models-requires
checked_models-requires c =
    record { top = subst (λ models. 0 < length models) (sym c.requires.models) (some_model (blif_lines c.args.input.now)) }

pub returns-in_err-checked-clause-stop : goal.returns-in_err-checked-clause-stop
returns-in_err-checked-clause-stop c =
    stop_passed c.checked_models.result _ _ _ _ c.in_err-checked.was c.from_residual.ensures.1 c.checked_models.ensures.fault (λ fault. model_stop c.args.input.now c.args.models.now (length c.args.input.now) fault c.requires.sound c.requires.models refl)

pub flatten_checked-requires-clause-some : goal.flatten_checked-requires-clause-some
flatten_checked-requires-clause-some c =
    subst (λ models. 0 < length models) (sym (c.in_ok-checked.ensures.checked.same ∙ c.requires.models)) (some_model (blif_lines c.args.input.now))

pub flatten_checked-requires-clause-checked : goal.flatten_checked-requires-clause-checked
flatten_checked-requires-clause-checked c =
    subst (λ models. IsCheckOf models c.in_ok-checked.checked) (sym c.in_ok-checked.ensures.checked.same) c.in_ok-checked.ensures.checked

pub flatten_checked-requires-clause-wide : goal.flatten_checked-requires-clause-wide
flatten_checked-requires-clause-wide c =
    subst (All HasWideCovers) (sym (c.in_ok-checked.ensures.checked.same ∙ c.requires.models)) (models_wide (blif_lines c.args.input.now) c.requires.sound)

pub name_net-requires-clause-file : goal.name_net-requires-clause-file
name_net-requires-clause-file c =
    flat_file c.args.input.now c.args.models.now c.in_ok-checked.checked c.in_ok-flat.flat c.requires.sound c.requires.models c.in_ok-checked.ensures.checked c.in_ok-flat.ensures

pub name_net-requires-clause-top : goal.name_net-requires-clause-top
name_net-requires-clause-top c =
    subst (λ models. 0 < length models) (sym (c.in_ok-checked.ensures.checked.same ∙ c.requires.models)) (some_model (blif_lines c.args.input.now))

pub name_net-requires-clause-models : goal.name_net-requires-clause-models
name_net-requires-clause-models c = c.in_ok-checked.ensures.checked.same ∙ c.requires.models

pub index-requires : goal.index-requires
index-requires c =
    let checked = c.in_ok-checked.checked in
    let some = subst (λ models. 0 < length models) (sym c.requires.models) (some_model (blif_lines c.args.input.now)) in
    omega (arith, some, c.in_ok-checked.ensures.checked.sizes.entries, checked.sizes.ok.0)

pub returns-clause-netlist : goal.returns-clause-netlist
returns-clause-netlist c =
    let lines = blif_lines c.args.input.now in
    let is = subst (λ models. IsCheckOf models c.in_ok-checked.checked) c.requires.models c.in_ok-checked.ensures.checked in
    let size = c.index.result.now in
    let sized = subst (IsSize (models_of lines) (top_of (models_of lines))) (sym c.index.ensures) (is.sizes.each 0 (some_model lines) size) in
    read_as c.args.input.now c.in_ok-net.net _ _ size c.in_ok-net.ensures.named (ap length c.requires.models) sized refl
