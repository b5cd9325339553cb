use Rattle.std.proofs.Common.{◌≡◌, ◌+◌, suc, None, drop, sym, ap, ◌∙◌, arith}
use Rattle.std.specs.Prelude.{option_to_list}
use Rattle.std.specs.List.{flat_map}
use Rattle.account_convert.specs.Tables.{all_mentioned}
use Rattle.account_convert.proofs.MentionLemmas.{none_left, referred_more}
use Rattle.account_convert.proofs.mentions.mention_referred.Goals as goal

pub loop-reference-preserved : goal.loop-reference-preserved
loop-reference-preserved c =
    let i = c.loop-reference.reference-index in
    let next : i + 1 ≡ suc i = omega arith in
    ap (λ n. all_mentioned c.args.record_number c.mention_reference.new.table (flat_map option_to_list (drop n c.args.refs.now))) next
    ∙ (referred_more c.args.record_number c.args.refs.now i None c.loop-reference.table c.mention_reference.new.table c.loop-reference-test.true c.mention_reference.ensures
    ∙ c.loop-reference.invariant)

pub returns : goal.returns
returns c =
    let none = none_left c.args.refs.now c.loop-reference.reference-index (omega (arith, c.loop-reference-test.false)) in
    ap (λ rs. all_mentioned c.args.record_number c.loop-reference.table (flat_map option_to_list rs)) (sym none) ∙ c.loop-reference.invariant
