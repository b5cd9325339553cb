use Rattle.std.proofs.Common.{ap, ◌∙◌}
use Rattle.std.specs.Prelude.{position}
use Rattle.std.proofs.lemmas.List.{take_all}
use Rattle.hier_blif.specs.Names.{has_name}
use Rattle.hier_blif.specs.Scopes.{with_number}
use Rattle.hier_blif.proofs.LookUpLemmas.{numbered_more}
use Rattle.hier_blif.proofs.names.model_places.Goals as goal

pub loop-place-preserved : goal.loop-place-preserved
loop-place-preserved c name =
    let k = c.loop-place.place in
    numbered_more c.args.models.now k c.index-models-place.result c.loop-place.places c.put.new.self c.loop-place-test.true c.index-models-place.is c.loop-place.invariant (c.in_ok-put.ensures.ok ∙ ap (λ n. with_number c.loop-place.places n k) c.bytes.ensures.value) name

pub returns : goal.returns
returns c name =
    c.loop-place.invariant name ∙ ap (position (has_name name)) (take_all c.loop-place.place c.args.models.now c.loop-place-test.false)
