-- In the end no literal is left, so that no variable has a bit.
use Rattle.std.proofs.Common.{None, replicate, ◌∙◌, ap, arith}
use Rattle.std.proofs.Math.ListN.{drop_of_length-le}
use Rattle.std.specs.List.{list_any}
use Rattle.refute_check.specs.Values.{is_of}
use Rattle.refute_check.proofs.ValueLemmas.{all_none}
use Rattle.refute_check.proofs.values.unset.Goals as goal

pub returns : goal.returns
returns c =
    let l = c.loop-literal in
    all_none l.bits (λ v below. l.invariant.none v below (ap (list_any (is_of v)) (drop_of_length-le c.args.made.now (omega (arith, c.loop-literal-test.false))))) ∙ ap (λ n. replicate n None) l.invariant.same_length
