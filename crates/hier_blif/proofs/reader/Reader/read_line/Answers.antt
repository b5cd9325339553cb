-- Lines that say nothing themselves.
use Rattle.std.proofs.Common.{◌≡◌, Some, OnOk, IfErr, ap, subst, ◌∙◌}
use Rattle.blif_reader.specs.declared.directive.Directive.TheVariants.{End, PassedOver}
use Rattle.blif_reader.specs.Directives.{from_word, directive_of}
use Rattle.blif_reader.specs.Reading.{line_from}
use Rattle.hier_blif.specs.Stops.{IsStopBy}
use Rattle.hier_blif.specs.Reading.{fault_of, Advances}
use Rattle.hier_blif.proofs.reader.Reader.read_line.Goals as goal

pub returns-in-End-clause-advances : goal.returns-in-End-clause-advances
returns-in-End-clause-advances c =
    let line = line_from c.args.first c.args.lines.now in
    let end : End ≡ directive_of line = c.in-End.ensures ∙ ap from_word c.bytes.ensures.value in
    subst (λ d. OnOk c.read_end.result (Advances d line c.args.self.now c.read_end.new.self)) end (c.read_end.ensures.advances line)

pub returns-in-End-clause-stop : goal.returns-in-End-clause-stop
returns-in-End-clause-stop c =
    let line = line_from c.args.first c.args.lines.now in
    let end : End ≡ directive_of line = c.in-End.ensures ∙ ap from_word c.bytes.ensures.value in
    subst (λ d. IfErr c.read_end.result (IsStopBy (λ fault. fault_of c.args.self.now line d ≡ Some fault))) end (c.read_end.ensures.stop line)

pub returns-in-PassedOver-clause-advances : goal.returns-in-PassedOver-clause-advances
returns-in-PassedOver-clause-advances c =
    let line = line_from c.args.first c.args.lines.now in
    let passed : PassedOver ≡ directive_of line = c.in-PassedOver.ensures ∙ ap from_word c.bytes.ensures.value in
    subst (λ d. OnOk c.pass_over.result (Advances d line c.args.self.now c.pass_over.new.self)) passed (c.pass_over.ensures.advances line)

pub returns-in-PassedOver-clause-stop : goal.returns-in-PassedOver-clause-stop
returns-in-PassedOver-clause-stop c =
    let line = line_from c.args.first c.args.lines.now in
    let passed : PassedOver ≡ directive_of line = c.in-PassedOver.ensures ∙ ap from_word c.bytes.ensures.value in
    subst (λ d. IfErr c.pass_over.result (IsStopBy (λ fault. fault_of c.args.self.now line d ≡ Some fault))) passed (c.pass_over.ensures.stop line)
