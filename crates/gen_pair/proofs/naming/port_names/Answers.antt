use Rattle.std.proofs.Common.{map, ap, sym, ◌∙◌, [], ◌∷◌, ◌++◌, arith}
use Rattle.std.proofs.lemmas.List.FromFn.{map-range_with_len_more}
use Rattle.std.specs.List.{range_with_len}
use Rattle.gen_pair.specs.Names.{port_name}
use Rattle.gen_pair.proofs.naming.port_names.Goals as goal

pub loop-position-preserved : goal.loop-position-preserved
loop-position-preserved c =
    let position = c.loop-position.position in
    c.in_ok-push.ensures.ok ∙ ap (λ ns. ns ++ c.in_ok-name.name ∷ []) c.loop-position.invariant ∙ ap (λ n. map (port_name c.args.letter) (range_with_len 0 position) ++ n ∷ []) c.in_ok-name.ensures
    ∙ sym (map-range_with_len_more (port_name c.args.letter) 0 position position (omega arith))
