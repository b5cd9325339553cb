use Rattle.std.proofs.Common.{refl, arith}
use Rattle.fact_bans.specs.Carrying.{all_of}
use Rattle.fact_bans.proofs.WiderLemmas.{all_wider, three_among}
use Rattle.fact_bans.proofs.exchanges.swap_mismatch.Goals as goal

pub returns-clause-covers : goal.returns-clause-covers
returns-clause-covers g c =
    let pairs = c.args.pairs in
    all_wider _ (all_of (record { one = pairs.other; other = pairs.one; output = pairs.output })) (all_of pairs) _ (three_among pairs.other pairs.one pairs.output (all_of pairs) (1, omega arith, refl) (0, omega arith, refl) (2, omega arith, refl)) c.by_values-2.ensures.covers
