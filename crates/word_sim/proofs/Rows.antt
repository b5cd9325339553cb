-- Rows of a table: one word of each column.
use Rattle.std.proofs.Common.{ℕ, ◌+◌, ◌-◌, ◌<◌, ◌≤◌, ◌≡◌, ◌≢◌, List, [], ◌∷◌, ◌++◌, length, get_or, replicate, set, take, drop, map, refl, sym, ap, subst, ◌∙◌, inl, inr, arith, bit_and}
use Rattle.std.specs.List.{refill}
use Rattle.std.specs.Simd.Lanes.{chunk, put_chunk}
use Rattle.std.proofs.lemmas.Bool.{cases_lt}
use Rattle.std.proofs.lemmas.List.{length-map, map-set, take_more, take_more_set, get_or-map, get_or-set_same, get_or-set_other, get_or-take, get_or-drop, get_or-replicate, get_or_default, set-get_or, map_more, take_at}
use Rattle.std.proofs.lemmas.Simd.{get_or-chunk, get_or-put_chunk_at, get_or-put_chunk_below, length-put_chunk}
use Rattle.circuits.specs.declared.netlist.Lit.{Lit}
use Rattle.circuits.specs.Netlists.{Net, function_of}
use Rattle.net_core.specs.Values.{KeepsOperations, blocks, words}
use Rattle.net_core.proofs.ValueLemmas.{lane_of_each, lane_of_signed}
use Rattle.word_sim.specs.Columns.{AreEvaluated, IsTable, Table, lane, row_of, word_of, vector_at, literal_word}

-- the row with one more word
pub put-step : (columns : List (List ℕ)) (values : List ℕ) (k w word : ℕ) → k < length columns → length columns < length values → word ≡ word_of w (get_or columns k []) → take (k + 1) values ≡ 0 ∷ take k (row_of columns w) → take (k + 1 + 1) (set values (k + 1) word) ≡ 0 ∷ take (k + 1) (row_of columns w)
put-step columns values k w word here room is so_far =
    let read : get_or (row_of columns w) k 0 ≡ word = get_or-map (word_of w) columns k [] 0 here ∙ sym is in
    let more : take (k + 1) (row_of columns w) ≡ take k (row_of columns w) ++ word ∷ [] = take_more (row_of columns w) k 0 (omega (arith, here, length-map columns (word_of w))) ∙ ap (λ n. take k (row_of columns w) ++ n ∷ []) read in
    take_more_set values (k + 1) word (omega arith) ∙ (ap (λ v. v ++ word ∷ []) so_far ∙ ap (λ v. 0 ∷ v) (sym more))

-- one word of a column is written
abbrev pub written : List (List ℕ) → ℕ → ℕ → ℕ → List (List ℕ)
written columns k w word = set columns k (set (get_or columns k []) w word)

pub row-written : (columns : List (List ℕ)) (k w word : ℕ) → w < length (get_or columns k []) → row_of (written columns k w word) w ≡ set (row_of columns w) k word
row-written columns k w word h =
    map-set (word_of w) columns k (set (get_or columns k []) w word) ∙ ap (λ n. set (row_of columns w) k n) (get_or-set_same (get_or columns k []) w word 0 h)

pub row-other : (columns : List (List ℕ)) (k w word other : ℕ) → k < length columns → other ≢ w → row_of (written columns k w word) other ≡ row_of columns other
row-other columns k w word other here apart =
    let read = get_or-map (word_of other) columns k [] 0 here in
    map-set (word_of other) columns k (set (get_or columns k []) w word) ∙ (ap (λ n. set (row_of columns other) k n) (get_or-set_other (get_or columns k []) w other word 0 apart ∙ sym read) ∙ set-get_or (row_of columns other) k 0)

-- the same with a lane of blocks
pub put_block-step : (columns values : List (List ℕ)) (block : List ℕ) (k w l : ℕ) → k < length columns → length columns < length values → word_of l block ≡ word_of (w + l) (get_or columns k []) → take (k + 1) (row_of values l) ≡ 0 ∷ take k (row_of columns (w + l)) → take (k + 1 + 1) (row_of (set values (k + 1) block) l) ≡ 0 ∷ take (k + 1) (row_of columns (w + l))
put_block-step columns values block k w l here room is so_far =
    ap (take (k + 1 + 1)) (map-set (word_of l) values (k + 1) block) ∙ put-step columns (row_of values l) k (w + l) (word_of l block) here (omega (arith, room, length-map values (word_of l))) is so_far

pub put_zero : (values : List (List ℕ)) (l : ℕ) → l < 8 → 0 < length values → take 1 (row_of (set values 0 (replicate 8 0)) l) ≡ 0 ∷ []
put_zero values l h room =
    ap (take 1) (map-set (word_of l) values 0 (replicate 8 0)) ∙ (take_more_set (row_of values l) 0 (word_of l (replicate 8 0)) (omega (arith, room, length-map values (word_of l))) ∙ ap (λ n. n ∷ []) (get_or-replicate 8 l 0 0 h))

-- lane l of a block that is loaded
pub word-loaded : (column : List ℕ) (w l : ℕ) → l < 8 → w + 8 ≤ length column → word_of l (chunk 0 8 (take (length column - w) (drop w column))) ≡ word_of (w + l) column
word-loaded column w l h room =
    let loaded = take (length column - w) (drop w column) in
    let e : 0 + l ≡ l = omega arith in
    get_or-chunk 0 8 loaded l 0 h ∙ (ap (λ n. get_or loaded n 0) e ∙ (get_or-take (length column - w) (drop w column) l 0 (omega (arith, h, room)) ∙ get_or-drop w column l 0))

-- a column that was lent and has a block written to it
pub block-refilled : (columns : List (List ℕ)) (k w : ℕ) (block lent changed : List ℕ) → k < length columns → lent ≡ get_or columns k lent → changed ≡ put_chunk w lent block → refill (length lent) lent changed ≡ put_chunk w (get_or columns k []) block
block-refilled columns k w block lent changed here is put =
    take_at changed (drop (length changed) lent) (length lent) (ap length put ∙ length-put_chunk w lent block) ∙ (put ∙ ap (λ column. put_chunk w column block) (is ∙ get_or_default columns k lent [] here))

-- eight words of a column are written
abbrev pub block_written : List (List ℕ) → ℕ → ℕ → List ℕ → List (List ℕ)
block_written columns k w block = set columns k (put_chunk w (get_or columns k []) block)

pub row-block_written : (columns : List (List ℕ)) (k w l : ℕ) (block : List ℕ) → l < length block → w + length block ≤ length (get_or columns k []) → row_of (block_written columns k w block) (w + l) ≡ set (row_of columns (w + l)) k (word_of l block)
row-block_written columns k w l block h room =
    map-set (word_of (w + l)) columns k (put_chunk w (get_or columns k []) block) ∙ ap (λ n. set (row_of columns (w + l)) k n) (get_or-put_chunk_at w (get_or columns k []) block l 0 h room)

pub row-before_block : (columns : List (List ℕ)) (k w other : ℕ) (block : List ℕ) → k < length columns → other < w → row_of (block_written columns k w block) other ≡ row_of columns other
row-before_block columns k w other block here before =
    let read = get_or-map (word_of other) columns k [] 0 here in
    map-set (word_of other) columns k (put_chunk w (get_or columns k []) block) ∙ (ap (λ n. set (row_of columns other) k n) (get_or-put_chunk_below w (get_or columns k []) block other 0 before ∙ sym read) ∙ set-get_or (row_of columns other) k 0)

-- the outputs' words so far, and one more
pub take-step : (row next values : List ℕ) (outputs : List Lit) (k word : ℕ) (d : Lit) → k < length outputs → length row ≡ length outputs → next ≡ set row k word → word ≡ literal_word values (get_or outputs k d) → take k row ≡ map (literal_word values) (take k outputs) → take (k + 1) next ≡ map (literal_word values) (take (k + 1) outputs)
take-step row next values outputs k word d here as_many is_set is so_far =
    ap (take (k + 1)) is_set ∙ (take_more_set row k word (omega (arith, here, as_many)) ∙ (ap (λ v. v ++ word ∷ []) so_far ∙ (ap (λ n. map (literal_word values) (take k outputs) ++ n ∷ []) is ∙ sym (map_more (literal_word values) outputs k d here))))

-- A lane of what blocks have is what the words of that lane have.
pub block-words : (l : ℕ) → l < 8 → KeepsOperations (blocks 8) words (word_of l)
block-words l h = record {
  absent = refl;
  signed = λ block negated. lane_of_signed 8 block negated l h;
  and = λ one other. lane_of_each 8 bit_and one other l h;
}

-- the vectors of some words more have their outputs
pub AreEvaluated-more : (net : Net) (inputs outputs next : Table) (word more : ℕ) → AreEvaluated net inputs word outputs → IsTable next → next.words ≡ outputs.words → length next.columns ≡ length outputs.columns → ((w : ℕ) → w < word → row_of next.columns w ≡ row_of outputs.columns w) → ((l v : ℕ) → l < more → v < 64 → vector_at next (word + l) v ≡ function_of net (vector_at inputs (word + l) v)) → AreEvaluated net inputs (word + more) next
AreEvaluated-more net inputs outputs next word more done table words columns others here = record {
  table = table;
  words = words ∙ done.words;
  columns = columns ∙ done.columns;
  vectors = λ w v h bits. elim (cases_lt w word) [
    | inl less ↦ ap (lane v) (others w less) ∙ done.vectors w v less bits
    | inr past ↦
        let e : word + (w - word) ≡ w = omega (arith, past) in
        subst (λ w. vector_at next w v ≡ function_of net (vector_at inputs w v)) e (here (w - word) v (omega (arith, h, past)) bits)
  ];
}
