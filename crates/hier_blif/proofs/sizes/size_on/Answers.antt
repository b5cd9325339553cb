use Rattle.std.proofs.Common.{refl}
use Rattle.hier_blif.proofs.SizeLemmas.{counts_instance, counts_cover, counts_none}
use Rattle.hier_blif.proofs.sizes.size_on.Goals as goal

pub returns-in-Cover : goal.returns-in-Cover
returns-in-Cover c = counts_cover c.args.scope.now.models.now c.args.line.now _ _ c.in-Cover.is refl refl

pub returns-in_default : goal.returns-in_default
returns-in_default c =
    counts_none c.args.scope.now.models.now c.args.line.now _ c.in_default.not-Instance c.in_default.not-Cover refl refl

pub returns-in-Instance : goal.returns-in-Instance
returns-in-Instance c =
    counts_instance c.args.scope.now.models.now c.args.line.now c.in-Instance.instance c.args.sizes.now c.place_of.result (record { instances = 0; covers = 0 }) c.in-Instance.is c.place_of.ensures c.requires.sizes
