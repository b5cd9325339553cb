-- One reference more, and then all.
use Rattle.std.proofs.Common.{◌++◌, None, ap, ◌∙◌}
use Rattle.account_trim.proofs.LinkLemmas.{all_referred, referred}
use Rattle.account_trim.proofs.ListLemmas.{flat_all, flat_next, flat_none}
use Rattle.account_trim.proofs.links.add_all_referred.Goals as goal

pub loop-reference-init : goal.loop-reference-init
loop-reference-init c = flat_none (referred c.args.place c.args.places.now) c.args.names.now

pub loop-reference-preserved : goal.loop-reference-preserved
loop-reference-preserved c = flat_next (referred c.args.place c.args.places.now) c.args.references.now c.args.names.now c.loop-reference.reference-index None c.loop-reference.names c.add_referred.new.names c.loop-reference-test.true c.loop-reference.invariant c.in_ok-add_referred.ensures

pub returns : goal.returns
returns c =
    flat_all (referred c.args.place c.args.places.now) c.args.references.now c.args.names.now c.loop-reference.reference-index c.loop-reference.names c.loop-reference-test.false c.loop-reference.invariant
    ∙ ap (λ l. c.args.names.now ++ l) (all_referred c.args.place c.args.places.now c.args.references.now)
