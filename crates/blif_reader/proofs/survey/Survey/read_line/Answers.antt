use Rattle.std.proofs.Common.{◌≡◌, IfErr, ap, subst, ◌∙◌}
use Rattle.blif_reader.specs.declared.directive.Directive.TheVariants.{Model, End, PassedOver}
use Rattle.blif_reader.specs.Directives.{from_word, directive_of}
use Rattle.blif_reader.specs.Reading.{line_from}
use Rattle.blif_reader.specs.Surveys.{fault_of, IsStopAt, Advances}
use Rattle.blif_reader.proofs.survey.Survey.read_line.Goals as goal

pub returns-in-End-clause-advances : goal.returns-in-End-clause-advances
returns-in-End-clause-advances c =
    let line = line_from c.args.first c.args.lines.now in
    let end : End ≡ directive_of line = c.in-End.ensures ∙ ap from_word c.bytes.ensures.value in
    subst (λ d. Advances d line c.args.self.now c.read_end.new.self) end (c.read_end.ensures line)

pub returns-in-PassedOver-clause-advances : goal.returns-in-PassedOver-clause-advances
returns-in-PassedOver-clause-advances c =
    let line = line_from c.args.first c.args.lines.now in
    let passed_over : PassedOver ≡ directive_of line = c.in-PassedOver.ensures ∙ ap from_word c.bytes.ensures.value in
    subst (λ d. Advances d line c.args.self.now c.pass_over.new.self) passed_over (c.pass_over.ensures line)

pub returns-in-Model-clause-stop : goal.returns-in-Model-clause-stop
returns-in-Model-clause-stop c =
    let line = line_from c.args.first c.args.lines.now in
    let model : Model ≡ directive_of line = c.in-Model.ensures ∙ ap from_word c.bytes.ensures.value in
    subst (λ d. IfErr c.read_model.result (IsStopAt c.args.first (fault_of c.args.self.now line d))) model (c.read_model.ensures.stop line)
