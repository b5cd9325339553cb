use Rattle.std.proofs.Common.{[], ◌∷◌, ◌++◌, map, take, ap, sym, ◌∙◌}
use Rattle.std.proofs.lemmas.List.{map_push, take_more}
use Rattle.print_laws.specs.Printable.{symbol_name}
use Rattle.run_steps.proofs.naming.symbol_names.Goals as goal

pub loop-name-preserved : goal.loop-name-preserved
loop-name-preserved c =
    let i = c.loop-name.name-index in
    let names = c.args.names.now in
    let name = c.name-item.result in
    c.in_ok-push.ensures.ok
    ∙ ap (λ ns. ns ++ c.in_ok-one.one ∷ []) c.loop-name.invariant
    ∙ ap (λ n. map symbol_name (take i names) ++ n ∷ []) c.in_ok-one.ensures
    ∙ sym (ap (map symbol_name) (take_more names i name c.loop-name-test.true ∙ ap (λ one. take i names ++ one ∷ []) (sym c.name-item.is)) ∙ map_push symbol_name (take i names) name)
