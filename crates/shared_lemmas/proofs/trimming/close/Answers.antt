-- The part with its last line refutes what the log refutes.
use Rattle.std.proofs.Common.{Option, IfSome, sym, ◌∙◌, ap, subst}
use Rattle.cnf_core.specs.declared.log.LogLine.{LogLine}
use Rattle.cnf_core.specs.Derivations.{is_empty}
use Rattle.shared_lemmas.specs.Parts.{IsRenumbered, Trims}
use Rattle.shared_lemmas.proofs.PartLemmas.{empty_by, trimmed}
use Rattle.shared_lemmas.proofs.trimming.close.Goals as goal

pub returns : goal.returns
returns c =
    let lines = c.args.lines.now in
    let last = c.args.last.now in
    let own = c.in-Some.own in
    let is = subst (λ (o : Option LogLine). IfSome o (IsRenumbered c.args.common c.args.numbers.now last)) c.in-Some.is c.in_ok-own.ensures in
    let empty = ap is_empty is.clause ∙ empty_by last.clause c.is_empty.result c.is_empty.ensures c.if-not-is_empty.false in
    subst (Trims c.args.common.count lines) (sym c.in_ok-push.ensures.items) (trimmed c.args.common lines c.args.part.items c.args.numbers.now last own c.requires.whole c.requires.last c.requires.placed c.requires.goes_on is empty)
