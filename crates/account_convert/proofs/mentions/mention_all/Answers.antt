use Rattle.std.proofs.Common.{◌≡◌, ◌+◌, suc, drop, sym, ap, ◌∙◌, arith}
use Rattle.account_convert.specs.Tables.{all_mentioned}
use Rattle.account_convert.proofs.MentionLemmas.{named_more, none_left}
use Rattle.account_convert.proofs.mentions.mention_all.Goals as goal

pub loop-number-preserved : goal.loop-number-preserved
loop-number-preserved c =
    let i = c.loop-number.number-index in
    let next : i + 1 ≡ suc i = omega arith in
    ap (λ n. all_mentioned c.args.record_number c.mention.new.table (drop n c.args.numbers.now)) next
    ∙ (named_more c.args.record_number c.args.numbers.now i 0 c.loop-number.table c.mention.new.table c.loop-number-test.true c.mention.ensures
    ∙ c.loop-number.invariant)

pub returns : goal.returns
returns c =
    let none = none_left c.args.numbers.now c.loop-number.number-index (omega (arith, c.loop-number-test.false)) in
    ap (λ ns. all_mentioned c.args.record_number c.loop-number.table ns) (sym none) ∙ c.loop-number.invariant
