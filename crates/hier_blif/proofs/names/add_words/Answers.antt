use Rattle.std.proofs.Common.{ap, ◌∷◌, ◌∙◌, ◌++◌, [], append_assoc}
use Rattle.std.proofs.lemmas.List.{take_all}
use Rattle.hier_blif.proofs.PushLemmas.{next_taken}
use Rattle.hier_blif.proofs.names.add_words.Goals as goal

pub loop-word-preserved : goal.loop-word-preserved
loop-word-preserved c =
    let begun = c.args.words.now.items in
    let from = c.args.from.now in
    let k = c.loop-word.word-index in
    let word = c.word-item.result in
    c.in_ok-push.ensures.items
    ∙ (ap (λ w. c.loop-word.words.items ++ w ∷ []) c.whole.ensures
    ∙ (ap (λ ws. ws ++ word ∷ []) c.loop-word.invariant
    ∙ (append_assoc begun _ (word ∷ []) ∙ ap (λ ws. begun ++ ws) (next_taken from k word c.loop-word-test.true c.word-item.is))))

pub returns : goal.returns
returns c =
    c.loop-word.invariant ∙ ap (λ ws. c.args.words.now.items ++ ws) (take_all c.loop-word.word-index c.args.from.now c.loop-word-test.false)
