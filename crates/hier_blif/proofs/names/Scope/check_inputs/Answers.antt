use Rattle.std.proofs.Common.{ap, not, subst, ◌∙◌}
use Rattle.blif_reader.specs.Numbers.{names_of}
use Rattle.text_core.specs.Piece.{Piece}
use Rattle.hier_blif.specs.declared.fault.HierKind.TheVariants as wrong
use Rattle.hier_blif.specs.Bindings.{formal_of}
use Rattle.hier_blif.specs.Stops.{first_of}
use Rattle.hier_blif.specs.NameFaults.{when, unbound_faults}
use Rattle.hier_blif.specs.Scopes.{HasKeys}
use Rattle.hier_blif.proofs.FindLemmas.{told_at}
use Rattle.hier_blif.proofs.KeyLemmas.{bound_told}
use Rattle.hier_blif.proofs.names.Scope.check_inputs.Goals as goal

pub returns-then-binds_inputs : goal.returns-then-binds_inputs
returns-then-binds_inputs c =
    let line = c.args.line.now in
    let names = names_of c.in_ok-formals.formals in
    let has = subst (λ words. HasKeys (λ (w : Piece). formal_of w.bytes) words names) c.deref.ensures.value c.in_ok-formals.ensures in
    let told = bound_told c.args.self.now.models.now line c.place_of.result names c.binds_inputs.result c.place_of.ensures has c.binds_inputs.ensures in
    ap (λ t. when t wrong.Unbound line.at) (told ∙ ap not c.if-binds_inputs.true)

pub returns : goal.returns
returns c =
    let line = c.args.line.now in
    let models = c.args.self.now.models.now in
    let names = names_of c.in_ok-formals.formals in
    let has = subst (λ words. HasKeys (λ (w : Piece). formal_of w.bytes) words names) c.deref.ensures.value c.in_ok-formals.ensures in
    let told = bound_told models line c.place_of.result names c.binds_inputs.result c.place_of.ensures has c.binds_inputs.ensures in
    told_at (unbound_faults models line) wrong.Unbound line.at c.fault_at.result c.fault_at.ensures (ap (λ t. first_of (when t wrong.Unbound line.at)) (told ∙ ap not c.if-binds_inputs.false))
