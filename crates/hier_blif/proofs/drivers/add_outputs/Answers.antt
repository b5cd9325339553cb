use Rattle.std.proofs.Common.{◌≡◌, ◌<◌, ◌≤◌, cond, length, get_or, ap, subst, ◌∙◌}
use Rattle.hier_blif.specs.Bindings.{formal_of, actual_of}
use Rattle.hier_blif.specs.Names.{is_among, outputs_of}
use Rattle.hier_blif.specs.Scopes.{model_at, with_number}
use Rattle.hier_blif.proofs.DriverLemmas.{bound_number}
use Rattle.hier_blif.proofs.FilledLemmas.{filled_more, filled_all}
use Rattle.hier_blif.proofs.drivers.add_outputs.Goals as goal

pub loop-word-preserved : goal.loop-word-preserved
loop-word-preserved c =
    let words = c.args.line.now.bindings in
    let value = c.deref-word-items.ensures.value in
    let k = c.loop-word.word-index in
    let word = c.word-item.result in
    let number = bound_number c.args.inside.now c.args.before in
    let old = c.loop-word.driven in
    let below : k < length words = subst (λ ws. k < length ws) value c.loop-word-test.true in
    let is : word ≡ get_or words k word = subst (λ ws. word ≡ get_or ws k word) value c.word-item.is in
    filled_more (λ word. is_among (formal_of word.bytes) (outputs_of (model_at c.args.scope.now.models.now c.args.place))) (λ word. actual_of word.bytes) number c.args.driven.now words k word old c.add_output.new.driven below is (c.in_ok-add_output.ensures ∙ ap (λ t. cond t (with_number old (actual_of word.bytes) (number word)) old) c.is_output-is_output.ensures) c.loop-word.invariant

pub returns : goal.returns
returns c =
    let words = c.args.line.now.bindings in
    let k = c.loop-word.word-index in
    let past : length words ≤ k = subst (λ ws. length ws ≤ k) c.deref-word-items.ensures.value c.loop-word-test.false in
    filled_all (λ word. is_among (formal_of word.bytes) (outputs_of (model_at c.args.scope.now.models.now c.args.place))) (λ word. actual_of word.bytes) (bound_number c.args.inside.now c.args.before) c.args.driven.now words k c.loop-word.driven past c.loop-word.invariant
