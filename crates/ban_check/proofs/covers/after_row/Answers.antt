-- Too few references are left.
use Rattle.std.proofs.Common.{◌+◌, drop}
use Rattle.account_core.specs.Covers.{IsReference}
use Rattle.ban_check.proofs.BoolLemmas.{front}
use Rattle.ban_check.proofs.CoverLemmas.{references_short}
use Rattle.ban_check.proofs.covers.after_row.Goals as goal

pub returns-in_default-clause-rest : goal.returns-in_default-clause-rest
returns-in_default-clause-rest c more =
    let to = c.args.to.now in
    let k = c.loop-other.other-index in
    let beside = c.args.references.now in
    let short = references_short (IsReference beside.given beside.pairs) c.args.kind c.args.port _ (drop k to) (drop (k + 1) to) more c.loop-other.left.now (front to k 0 c.loop-other-test.true) c.in_default.len_below in
    ((λ all. short ((c.loop-other.invariant.1 more).0 all)), (λ none. absurd none))
