-- A variable that isn't marked is listed.
use Rattle.std.proofs.Common.{Bool, List, length, sym, subst, ◌∙◌}
use Rattle.ask_core.specs.Renamings.{AreMarks}
use Rattle.ask_core.proofs.BaseLemmas.{marks_more}
use Rattle.ask_core.proofs.occurring.list.Goals as goal

pub returns-clause-marks : goal.returns-clause-marks
returns-clause-marks c =
    let marked = c.args.marked.now in
    let names = c.push.new.self.items in
    subst (λ (bs : List Bool). AreMarks (length marked) names bs) (sym c.in_ok-mark.ensures.marked) (marks_more (length marked) c.args.names.now.items names marked c.args.variable c.requires.marks c.requires.known c.requires.few (sym c.has.ensures ∙ c.if-has.false) c.in_ok-push.ensures.items)
