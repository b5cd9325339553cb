use Rattle.std.proofs.Common.{◌≡◌, ◌<◌, length, get_or, subst, arith}
use Rattle.hier_blif.specs.Limits.{words_on}
use Rattle.hier_blif.proofs.LimitLemmas.{excess_on}
use Rattle.hier_blif.proofs.limits.find_excess.Goals as goal

pub returns-then-words-left : goal.returns-then-words-left
returns-then-words-left c =
    let left = c.loop-line.left in
    let words = c.words_on-words.result.now in
    let word = c.index-words-left.result in
    let within : left < length words = omega (arith, c.if-words-left.true) in
    let here = subst (λ ws. left < length ws) c.words_on-words.ensures within in
    let is = subst (λ ws. word ≡ get_or ws left word) c.words_on-words.ensures c.index-words-left.is in
    excess_on (words_on c.args.kind) c.args.lines.now c.loop-line.line-index c.line-item.result left c.at.result word c.loop-line-test.true c.line-item.is c.loop-line.invariant here is c.at.ensures.value
