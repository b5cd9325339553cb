-- The number's mark is set among marks that were lengthened up to it.
use Rattle.std.proofs.Common.{◌∙◌}
use Rattle.account_check.proofs.DropLemmas.{marked_there}
use Rattle.account_check.proofs.dropped.mark.Goals as goal

pub returns-clause-marked : goal.returns-clause-marked
returns-clause-marked c =
    c.set.ensures ∙ (marked_there c.lengthen.new.marks c.args.number c.in_default.ensures.there ∙ c.lengthen.ensures.same)
