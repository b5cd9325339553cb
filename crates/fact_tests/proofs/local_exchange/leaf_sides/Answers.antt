-- The leaf gives the literal.
use Rattle.std.proofs.Common.{refl, subst, ap, ◌∙◌}
use Rattle.std.specs.Prelude.{IfSome}
use Rattle.net_core.specs.Values.{signed_word}
use Rattle.fact_tests.specs.LocalExchanges.{IsLeaf}
use Rattle.fact_tests.proofs.LocalLemmas.{leaf_tells}
use Rattle.fact_tests.proofs.local_exchange.leaf_sides.Goals as goal

pub returns : goal.returns
returns c =
    let near = c.args.near.now in
    let word = c.alternating-word.result in
    leaf_tells c.args.lit near (record { leaves = c.leaf_of.new.leaves; changed = near.changed }) c.in-Some.leaf word c.signed.result c.requires
    (subst (λ s. IsLeaf near.leaves c.leaf_of.new.leaves s c.in-Some.leaf) c.signal.ensures
    (subst (λ found. IfSome found (IsLeaf near.leaves c.leaf_of.new.leaves c.signal.result)) c.in-Some.is c.in_ok-leaf.ensures))
    refl c.alternating-word.ensures (c.signed.ensures.one ∙ ap (signed_word word) c.is_negated.ensures) (c.signed.ensures.other ∙ ap (signed_word word) c.is_negated.ensures)
