-- One word of the row is written, and the rows before it stay.
use Rattle.std.proofs.Common.{◌≡◌, ◌≢◌, ◌<◌, ◌+◌, [], length, get_or, take, map, ap, subst, sym, ◌∙◌, arith}
use Rattle.std.proofs.lemmas.List.{length-map, length-set}
use Rattle.word_sim.specs.Columns.{literal_word, row_of, word_of}
use Rattle.word_sim.proofs.Rows.{take-step, row-other, row-written, written}
use Rattle.word_sim.proofs.simulation.take_row.Goals as goal

pub loop-k-preserved : goal.loop-k-preserved
loop-k-preserved c =
    let l = c.loop-k in
    let columns = l.table.columns in
    let values = c.args.values.now in
    let outputs = c.args.outputs.now in
    let word = c.args.word in
    let value = c.literal_value.result in
    let is : c.set.new.self.columns ≡ written columns l.k word value = ap (λ table. table.columns) c.set.ensures.value in
    let here : l.k < length columns = omega (arith, c.loop-k-test.true, l.invariant.3, c.requires.columns) in
    let within : word < length (get_or columns l.k []) = omega (arith, l.invariant.4 l.k [] here, l.invariant.2, c.requires.word) in
    let row = take-step (row_of columns word) (row_of (written columns l.k word value) word) values outputs l.k value (record { 0 = 0 }) c.loop-k-test.true (length-map columns (word_of word) ∙ (l.invariant.3 ∙ c.requires.columns)) (row-written columns l.k word value within) c.literal_value.ensures l.invariant.0 in (
      subst (λ columns. take (l.k + 1) (row_of columns word) ≡ map (literal_word values) (take (l.k + 1) outputs)) (sym is) row,
      λ w before.
          let apart : w ≢ word = λ e. absurd (omega (arith, before, e)) in
          ap (λ columns. row_of columns w) is ∙ (row-other columns l.k word value w here apart ∙ l.invariant.1 w before),
      ap (λ table. table.words) c.set.ensures.value ∙ l.invariant.2,
      ap length is ∙ (length-set columns l.k _ ∙ l.invariant.3),
      c.set.ensures.table,
    )
