-- One block of the rows is written, and the rows before them stay.
use Rattle.std.proofs.Common.{◌≡◌, ◌≤◌, ◌<◌, ◌+◌, [], length, get_or, take, map, ap, subst, sym, ◌∙◌, arith}
use Rattle.std.proofs.lemmas.List.{length-map, length-set}
use Rattle.word_sim.specs.Columns.{literal_word, row_of, word_of}
use Rattle.word_sim.proofs.Rows.{block_written, row-before_block, row-block_written, take-step}
use Rattle.word_sim.proofs.simulation.take_blocks.Goals as goal

pub loop-k-preserved : goal.loop-k-preserved
loop-k-preserved c =
    let l = c.loop-k in
    let columns = l.table.columns in
    let values = c.args.values.now in
    let outputs = c.args.outputs.now in
    let word = c.args.word in
    let block = c.literal_block.result in
    let is : c.set_block.new.self.columns ≡ block_written columns l.k word block = ap (λ table. table.columns) c.set_block.ensures.value in
    let here : l.k < length columns = omega (arith, c.loop-k-test.true, l.invariant.3, c.requires.columns) in
    let long = c.literal_block.ensures.lanes in
    let within : word + length block ≤ length (get_or columns l.k []) = omega (arith, l.invariant.4 l.k [] here, l.invariant.2, c.requires.word, long) in (
      λ j h.
          let row = take-step (row_of columns (word + j)) (row_of (block_written columns l.k word block) (word + j)) (row_of values j) outputs l.k (word_of j block) (record { 0 = 0 }) c.loop-k-test.true (length-map columns (word_of (word + j)) ∙ (l.invariant.3 ∙ c.requires.columns)) (row-block_written columns l.k word j block (omega (arith, h, long)) within) (c.literal_block.ensures.words j h) (l.invariant.0 j h) in
          subst (λ columns. take (l.k + 1) (row_of columns (word + j)) ≡ map (literal_word (row_of values j)) (take (l.k + 1) outputs)) (sym is) row,
      λ w before. ap (λ columns. row_of columns w) is ∙ (row-before_block columns l.k word w block here before ∙ l.invariant.1 w before),
      ap (λ table. table.words) c.set_block.ensures.value ∙ l.invariant.2,
      ap length is ∙ (length-set columns l.k _ ∙ l.invariant.3),
      c.set_block.ensures.table,
    )
