use Rattle.std.proofs.Common.{sym, subst}
use Rattle.std.proofs.lemmas.List.Elements.{Contains-get_or}
use Rattle.account_core.specs.Assigned.{IsPart}
use Rattle.ban_book.specs.Rows.{HasOneOutput}
use Rattle.vector_bans.specs.Differences.{AreAssignedInputs}
use Rattle.vector_bans.proofs.ForesightLemmas.{inputs_none, output_one, output_part}
use Rattle.vector_bans.proofs.suspicion.suspected_pairs.Goals as goal

pub loop-other-init : goal.loop-other-init
loop-other-init c = subst (AreAssignedInputs c.args.assigned.now) (sym c.new-pairs.ensures.items) (inputs_none c.args.assigned.now)

pub returns-clause-part : goal.returns-clause-part
returns-clause-part c =
    subst (IsPart c.args.assigned.now) (sym c.in_ok-push.ensures.items) (output_part c.args.assigned.now c.loop-other.pairs.items c.args.suspicion.output c.loop-other.invariant c.requires.assigned c.requires.output)

pub returns-clause-output : goal.returns-clause-output
returns-clause-output c =
    subst (λ l. HasOneOutput l c.args.suspicion.output) (sym c.in_ok-push.ensures.items) (output_one c.args.assigned.now c.loop-other.pairs.items c.args.suspicion.output c.loop-other.invariant c.requires.assigned c.requires.output)

pub add_suspected-requires-clause-assigned : goal.add_suspected-requires-clause-assigned
add_suspected-requires-clause-assigned c = Contains-get_or c.args.assigned.now c.loop-other.other-index _ c.loop-other-test.true
