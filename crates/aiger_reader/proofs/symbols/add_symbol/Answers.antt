-- A line that has a word names a port, and that is free or not.
use Rattle.std.proofs.Common.{◌≡◌, ℕ, List, [], subst}
use Rattle.std.proofs.lemmas.Result.{IfOk-weaker}
use Rattle.text_core.specs.Words.{words}
use Rattle.aiger_reader.specs.Symbols.{NamesPort, port_at}
use Rattle.aiger_reader.proofs.SlotLemmas.{line_takes}
use Rattle.aiger_reader.proofs.symbols.add_symbol.Goals as goal

pub returns-clause-added : goal.returns-clause-added
returns-clause-added c =
    let symbol = c.in-Some.symbol in
    let port = port_at symbol.kind symbol.position in
    let P : List ℕ → Type 0 = λ line. NamesPort line port symbol.name.now in
    let named = subst P c.bytes-text.ensures.value c.in-Some.ensures.named in
    let some : words c.args.line.bytes ≡ [] → ⊥ = λ e. let t = c.has_no_word.ensures.1 e in cc (t, c.if-has_no_word.false) in
    IfOk-weaker c.put_symbol.result _ _ (λ put takes before here. line_takes put c.args.line.bytes symbol.name.now port _ _ before some named (takes before here)) c.put_symbol.ensures.put
