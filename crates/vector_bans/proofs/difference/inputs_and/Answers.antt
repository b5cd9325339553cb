use Rattle.std.proofs.Common.{◌++◌, ◌∷◌, [], ◌∙◌, sym, ap, map, arith}
use Rattle.std.specs.List.{range_with_len}
use Rattle.std.proofs.lemmas.List.FromFn.{map-range_with_len_more}
use Rattle.circuits.specs.declared.port.PortKind.TheVariants.{Input}
use Rattle.vector_bans.specs.Differences.{pair_from}
use Rattle.vector_bans.proofs.difference.inputs_and.Goals as goal

pub loop-port-preserved : goal.loop-port-preserved
loop-port-preserved c =
    c.in_ok-push.ensures.items ∙ (ap (λ l. l ++ c.pair_from.result ∷ []) c.loop-port.invariant ∙ (ap (λ r. map (pair_from Input c.args.matching.now.inputs) (range_with_len 0 c.loop-port.port) ++ r ∷ []) (c.pair_from.ensures ∙ ap (λ e. pair_from Input e c.loop-port.port) c.deref.ensures.value) ∙ sym (map-range_with_len_more (pair_from Input c.args.matching.now.inputs) 0 c.loop-port.port c.loop-port.port (omega arith))))
