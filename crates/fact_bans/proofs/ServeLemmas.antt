-- Calls of an oracle, one after the other (`oracle_core`), and bans that are kept beside them.
use Rattle.std.proofs.Common.{◌≡◌, List, [], map, take, get_or, ◌++◌, sym, ap, subst, ◌∙◌, append-nil}
use Rattle.std.proofs.lemmas.List.{map-append}
use Rattle.net_core.specs.Sides.{Graphs}
use Rattle.circuits.specs.declared.port.Pair.{Pair}
use Rattle.query_core.specs.Ledgers.{Ledgered}
use Rattle.account_core.specs.declared.fact.Fact.{Fact}
use Rattle.account_core.specs.declared.step.Ban.{Ban}
use Rattle.account_core.specs.Facts.{AreFacts}
use Rattle.account_core.specs.Given.{Decided, decided_by, given_of, pairs_of}
use Rattle.account_core.specs.Steps.{AreValidBans, IsValidBan}
use Rattle.account_core.proofs.Growing.{ban_stays_valid}
use Rattle.oracle_core.specs.Oracles.{Grows, Known}
pub use Rattle.oracle_core.proofs.ServeLemmas.{grows_same, served_one, served_same, served_then, serves_err, serves_last, serves_memory, serves_ok}
use Rattle.ban_book.specs.Vectors.{AreLastResorts}
use Rattle.ban_book.proofs.VectorLemmas.{last_resorts_later}
use Rattle.fact_bans.specs.Serving.{AreValid, HasServed, MayAsk}

-- after calls that were answered more may be asked
pub ask_later : (graphs : Graphs) (old new : Known) (a b : Ledgered) → MayAsk graphs old a → HasServed old new a b → MayAsk graphs new b
ask_later graphs old new a b may served = record {
  graphs_are = may.graphs_are ∙ sym served.grows.graphs;
  suits = served.suits;
}

-- facts that come after leave bans valid
pub valid_later : (old new : Known) (graphs : Graphs) (bans : List Ban) → Grows old new → AreValidBans graphs (map decided_by old.facts) bans → AreValidBans graphs (map decided_by new.facts) bans
valid_later old new graphs bans grows valid k d below =
    subst (λ (facts : List Decided). IsValidBan graphs (given_of facts (take k bans)) (get_or bans k d)) (sym split) (subst (λ (l : List (List Pair)). IsValidBan graphs (record { facts = map decided_by old.facts ++ map decided_by grows.added; bans = l }) (get_or bans k d)) (append-nil (pairs_of (take k bans))) (ban_stays_valid (given_of (map decided_by old.facts) (take k bans)) (map decided_by grows.added) [] graphs (get_or bans k d) (valid k d below)))
  where
    split : map decided_by new.facts ≡ map decided_by old.facts ++ map decided_by grows.added
    split = ap (map decided_by) grows.facts ∙ map-append decided_by old.facts grows.added

pub valid_grows : (old new : Known) (graphs : Graphs) (bans : List Ban) → Grows old new → AreValid graphs old bans → AreValid graphs new bans
valid_grows old new graphs bans grows valid = record {
  graphs_are = valid.graphs_are ∙ sym grows.graphs;
  each = valid_later old new graphs bans grows valid.each;
  last_resorts = subst (λ (facts : List Fact). AreLastResorts graphs (map decided_by facts) bans) (sym grows.facts) (last_resorts_later graphs old.facts grows.added bans lawful valid.last_resorts);
}
  where
    lawful : AreFacts graphs (old.facts ++ grows.added)
    lawful = subst (AreFacts graphs) grows.facts (subst (λ (g : Graphs). AreFacts g new.facts) (grows.graphs ∙ sym valid.graphs_are) grows.lawful)
