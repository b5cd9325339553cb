use Rattle.std.proofs.Common.{◌≡◌, ◌<◌, ◌≤◌, Bool, true, false, length, get_or, sym, ap, subst, ◌∙◌}
use Rattle.std.specs.Bool.{beq}
use Rattle.hier_blif.specs.declared.fault.HierKind.TheVariants as wrong
use Rattle.hier_blif.specs.Bindings.{formal_of}
use Rattle.hier_blif.specs.Names.{inputs_of, outputs_of, is_among, binds_input, binds_output}
use Rattle.hier_blif.specs.NameFaults.{binds_no_port, formal_faults}
use Rattle.hier_blif.specs.Scopes.{model_at}
use Rattle.hier_blif.proofs.FindLemmas.{wrong_word, word_more, word_stop, left_none, told_at}
use Rattle.hier_blif.proofs.names.Scope.check_formals.Goals as goal

-- two tests that are found
same_tests : (a b p q t : Bool) → a ≡ p → b ≡ q → beq a b ≡ t → beq p q ≡ t
same_tests a b p q t x y h = sym (ap (λ u. beq u b) x ∙ ap (beq p) y) ∙ h

pub loop-word-preserved : goal.loop-word-preserved
loop-word-preserved c =
    let models = c.args.self.now.models.now in
    let line = c.args.line.now in
    let k = c.loop-word.word-index in
    let word = c.word-item.result in
    let words = c.deref-word-items.ensures.value in
    let below : k < length line.bindings = subst (λ ws. k < length ws) words c.loop-word-test.true in
    let is : word ≡ get_or line.bindings k word = subst (λ ws. word ≡ get_or ws k word) words c.word-item.is in
    let input : c.is_input.result ≡ binds_input models line word = c.is_input.ensures ∙ ap (λ n. is_among (formal_of word.bytes) (inputs_of (model_at models n))) c.place_of-place.ensures in
    let output : c.is_output.result ≡ binds_output models line word = c.is_output.ensures ∙ ap (λ n. is_among (formal_of word.bytes) (outputs_of (model_at models n))) c.place_of-place.ensures in
    word_more wrong.Formal (binds_no_port models line) line.bindings k word below is c.loop-word.invariant (same_tests c.is_input.result c.is_output.result (binds_input models line word) (binds_output models line word) false input output c.if-is_input-is_output.false)

pub returns-then-is_input-is_output : goal.returns-then-is_input-is_output
returns-then-is_input-is_output c =
    let models = c.args.self.now.models.now in
    let line = c.args.line.now in
    let k = c.loop-word.word-index in
    let word = c.word-item.result in
    let words = c.deref-word-items.ensures.value in
    let below : k < length line.bindings = subst (λ ws. k < length ws) words c.loop-word-test.true in
    let is : word ≡ get_or line.bindings k word = subst (λ ws. word ≡ get_or ws k word) words c.word-item.is in
    let input : c.is_input.result ≡ binds_input models line word = c.is_input.ensures ∙ ap (λ n. is_among (formal_of word.bytes) (inputs_of (model_at models n))) c.place_of-place.ensures in
    let output : c.is_output.result ≡ binds_output models line word = c.is_output.ensures ∙ ap (λ n. is_among (formal_of word.bytes) (outputs_of (model_at models n))) c.place_of-place.ensures in
    let wrong_here = same_tests c.is_input.result c.is_output.result (binds_input models line word) (binds_output models line word) true input output c.if-is_input-is_output.true in
    told_at (formal_faults models line) wrong.Formal c.at.result c.fault_at.result c.fault_at.ensures (word_stop wrong.Formal (binds_no_port models line) line.bindings k word c.at.result below is c.loop-word.invariant wrong_here c.at.ensures.value)

pub returns : goal.returns
returns c =
    let models = c.args.self.now.models.now in
    let line = c.args.line.now in
    let k = c.loop-word.word-index in
    let past : length line.bindings ≤ k = subst (λ ws. length ws ≤ k) c.deref-word-items.ensures.value c.loop-word-test.false in
    left_none (wrong_word wrong.Formal (binds_no_port models line)) line.bindings k past c.loop-word.invariant
