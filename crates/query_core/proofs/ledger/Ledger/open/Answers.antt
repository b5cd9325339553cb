-- An entry that was opened has no learned lines.
use Rattle.std.proofs.Common.{◌≡◌, List, ◌++◌, ◌∷◌, [], sym, subst, ap, ◌∙◌}
use Rattle.query_core.specs.declared.ledger.Asked.{Asked}
use Rattle.query_core.specs.Ledgers.{IsLedger, Ledgered, charged_front, opened}
use Rattle.query_core.proofs.LedgerLemmas.{kept_opened}
use Rattle.query_core.proofs.ledger.Ledger.open.Goals as goal

pub invariant_of-self-2 : goal.invariant_of-self-2
invariant_of-self-2 c =
    let old = c.self.inside in
    let before : Ledgered = record { budget = old.budget; asked = old.asked.items; spent = old.spent } in
    let query = c.args.query.now in
    let lemmas = c.args.lemmas.now in
    let items : c.push_reserved.new.self.items ≡ opened query lemmas old.asked.items = c.push_reserved.ensures.items ∙ (ap (λ (xs : List Asked). xs ++ c.in_ok-entry.entry ∷ []) (c.drop_uncharged.ensures.entries ∙ ap charged_front c.reserve.ensures.items) ∙ ap (λ (e : Asked). charged_front old.asked.items ++ e ∷ []) c.in_ok-entry.ensures) in
    subst (λ (xs : List Asked). IsLedger (record { budget = old.budget; asked = xs; spent = old.spent }) old.learned old.arena.items) (sym items) (kept_opened before old.learned old.arena.items query lemmas c.self.invariant)
