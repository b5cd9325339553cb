-- The column has the block's words in their places.
use Rattle.std.proofs.Common.{◌≡◌, ◌<◌, [], get_or, length, set, ap, subst, sym, ◌∙◌}
use Rattle.std.specs.Simd.Lanes.{put_chunk}
use Rattle.word_sim.specs.Columns.{Table}
use Rattle.word_sim.proofs.Rows.{block-refilled}
use Rattle.word_sim.proofs.words.Words.set_block.Goals as goal

pub returns-clause-value : goal.returns-clause-value
returns-clause-value c =
    let columns = c.self.inside.columns.items in
    let column = c.args.column in
    let word = c.args.word in
    let block = c.args.block in
    let here : column < length columns = subst (λ (t : Table). column < length t.columns) (sym c.self.view_is) c.requires.column in
    let is = block-refilled columns column word block c.index_mut.result.now c.put_block.new.column here c.index_mut.ensures.value (c.put_block.ensures ∙ ap (λ list. put_chunk word list block) c.as_mut_slice.ensures.value) in
    let told : Table → Table = λ t. record { words = t.words; columns = set t.columns column (put_chunk word (get_or t.columns column []) block) } in
    let next : Table = record { words = c.self.inside.words; columns = set columns column (put_chunk word (get_or columns column []) block) } in
    let made : record { words = c.self.inside.words; columns = _ } ≡ next = ap (λ list. record { words = c.self.inside.words; columns = set columns column list }) is in
    made ∙ ap told c.self.view_is
