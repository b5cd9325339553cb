-- Lane l of what is loaded is word l after the first one.
use Rattle.std.proofs.Common.{ℕ, ◌≡◌, ◌+◌, ◌<◌, ◌≤◌, [], List, get_or, length, ap, subst, sym, ◌∙◌, arith}
use Rattle.std.proofs.lemmas.List.{get_or_default}
use Rattle.word_sim.specs.Columns.{IsTable, Table, word_of}
use Rattle.word_sim.proofs.Rows.{word-loaded}
use Rattle.word_sim.proofs.words.Words.block.Goals as goal

pub returns-clause-words : goal.returns-clause-words
returns-clause-words c l h =
    let list : List ℕ = c.deref.result.now in
    let columns = c.self.inside.columns.items in
    let column = c.args.column in
    let here : column < length columns = subst (λ (t : Table). column < length t.columns) (sym c.self.view_is) c.requires.column in
    let is : list ≡ get_or c.args.self.now.columns column [] =
    c.deref.ensures.value ∙ (c.index.ensures ∙ (get_or_default columns column c.index.result.now [] here ∙ ap (λ (t : Table). get_or t.columns column []) c.self.view_is)) in
    let table : IsTable c.args.self.now = subst IsTable c.self.view_is c.self.invariant in
    let room : c.args.word + 8 ≤ length list = omega (arith, c.requires.word, ap length is, table column [] c.requires.column) in
    word-loaded list c.args.word l h room ∙ ap (word_of (c.args.word + l)) is
