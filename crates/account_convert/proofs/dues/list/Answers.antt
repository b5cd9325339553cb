-- One number more.
use Rattle.std.proofs.Common.{◌∷◌, ◌++◌, [], sym, ap, ◌∙◌, arith}
use Rattle.std.proofs.lemmas.List.FromFn.{map-range_with_len_more}
use Rattle.account_convert.specs.Tables.{due_of}
use Rattle.account_convert.proofs.dues.list.Goals as goal

pub loop-place-preserved : goal.loop-place-preserved
loop-place-preserved c =
    let table = c.args.table.now in
    let i = c.loop-place.place in
    c.in_ok-push.ensures.items ∙ (ap (λ dues. dues ++ due_of table i ∷ []) c.loop-place.invariant ∙ sym (map-range_with_len_more (due_of table) 0 i i (omega arith)))
