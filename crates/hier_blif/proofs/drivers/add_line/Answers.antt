use Rattle.std.proofs.Common.{refl, ap, ◌∙◌}
use Rattle.hier_blif.specs.Scopes.{with_number}
use Rattle.hier_blif.proofs.DriverLemmas.{ok_as, drives_cover, drives_none, drives_placed}
use Rattle.hier_blif.proofs.drivers.add_line.Goals as goal

pub returns-in-Cover : goal.returns-in-Cover
returns-in-Cover c =
    let old = c.args.driven.now in
    ok_as c.put.result _ _ (λ put. drives_cover c.args.scope.now.models.now c.args.line.now c.in-Cover.cover c.args.before old _ c.in-Cover.is (put ∙ ap (λ n. with_number old n c.args.before) c.bytes.ensures.value)) c.put.ensures.ok

pub returns-in-Instance : goal.returns-in-Instance
returns-in-Instance c =
    ok_as c.add_outputs.result _ _ (drives_placed c.args.scope.now.models.now c.args.line.now c.in-Instance.instance c.place_of-place.result c.args.before c.args.drivers.now c.index-drivers-place.result c.args.driven.now c.add_outputs.new.driven c.in-Instance.is c.place_of-place.ensures c.index-drivers-place.is c.requires.outputs c.requires.drivers) c.add_outputs.ensures

pub returns-in_default : goal.returns-in_default
returns-in_default c =
    drives_none c.args.scope.now.models.now c.args.line.now c.args.before _ _ c.in_default.not-Instance c.in_default.not-Cover refl
