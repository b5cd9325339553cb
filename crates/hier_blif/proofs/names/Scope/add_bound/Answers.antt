use Rattle.std.proofs.Common.{◌≡◌, ◌<◌, ◌≤◌, ◌++◌, ◌∷◌, [], cond, length, get_or, ap, subst, ◌∙◌}
use Rattle.hier_blif.specs.Bindings.{formal_of}
use Rattle.hier_blif.specs.Names.{actual, binds_port, is_among, ports_of_kind}
use Rattle.hier_blif.specs.Scopes.{model_at}
use Rattle.hier_blif.proofs.PushLemmas.{those, flat_more, those_end}
use Rattle.hier_blif.proofs.names.Scope.add_bound.Goals as goal

pub loop-word-preserved : goal.loop-word-preserved
loop-word-preserved c =
    let models = c.args.self.now.models.now in
    let line = c.args.line.now in
    let kind = c.args.kind in
    let k = c.loop-word.word-index in
    let word = c.word-item.result in
    let words = c.deref-word-items.ensures.value in
    let below : k < length line.bindings = subst (λ ws. k < length ws) words c.loop-word-test.true in
    let is : word ≡ get_or line.bindings k word = subst (λ ws. word ≡ get_or ws k word) words c.word-item.is in
    let binds : c.is_port.result ≡ binds_port kind models line word = c.is_port.ensures ∙ ap (λ n. is_among (formal_of word.bytes) (ports_of_kind kind (model_at models n))) c.place_of-place.ensures in
    flat_more (those actual (binds_port kind models line)) c.args.words.now.items line.bindings k word c.loop-word.words.items _ below is c.loop-word.invariant (c.in_ok-add_if.ensures ∙ ap (λ t. c.loop-word.words.items ++ cond t (actual word ∷ []) []) binds)

pub returns : goal.returns
returns c =
    let models = c.args.self.now.models.now in
    let line = c.args.line.now in
    let k = c.loop-word.word-index in
    let past : length line.bindings ≤ k = subst (λ ws. length ws ≤ k) c.deref-word-items.ensures.value c.loop-word-test.false in
    those_end actual (binds_port c.args.kind models line) c.args.words.now.items line.bindings k _ past c.loop-word.invariant
