-- Lines that hold under the feeds of one query hold under those of another with the same ones.
use Rattle.std.proofs.Common.{◌≡◌, ℕ, ◌-◌, List, [], ◌∷◌, length, refl, sym, ◌∙◌, subst, arith}
use Rattle.std.proofs.lemmas.List.Elements.{All-push}
use Rattle.cnf_core.specs.declared.log.LogLine.{LogLine}
use Rattle.cnf_core.specs.Clauses.{Formula}
use Rattle.cnf_core.specs.Derivations.{AreDerived}
use Rattle.net_core.specs.Sides.{Graphs}
use Rattle.claim_core.specs.declared.query.Query.{Query}
use Rattle.claim_core.specs.Formulas.{formula_of, query_clauses}
use Rattle.shared_lemmas.specs.Parts.{GoesOn, HaveCommon}
use Rattle.shared_lemmas.specs.Shared.{AreShared, HaveSameFeeds, HoldUnder, IsUnder}
use Rattle.shared_lemmas.proofs.FormulaLemmas.{feeds_common}

-- a query has its own feeds
pub own_feeds : (query : Query) → HaveSameFeeds query query
own_feeds query = record { left_side = refl; left_feed = refl; right_side = refl; right_feed = refl }

-- what holds under the feeds of the last query holds under those of one with the same feeds
pub shared_under : (graphs : Graphs) (query : Query) (last_query : List Query) (lines : List LogLine) → AreShared graphs last_query lines → IsUnder query last_query → HoldUnder graphs query lines
shared_under graphs query last_query lines shared under other same =
    let own = subst (λ q. HoldUnder graphs q lines) under.is (shared 0 under.own under.some) in
    own other (record {
      left_side = same.left_side ∙ under.same.left_side;
      left_feed = same.left_feed ∙ under.same.left_feed;
      right_side = same.right_side ∙ under.same.right_side;
      right_feed = same.right_feed ∙ under.same.right_feed;
    })

-- lines that hold under the feeds of one query
pub of_one : (graphs : Graphs) (query : Query) (last_query : List Query) (lines : List LogLine) → last_query ≡ query ∷ [] → HoldUnder graphs query lines → AreShared graphs last_query lines
of_one graphs query last_query lines is hold =
    subst (λ qs. AreShared graphs qs lines) (sym is) (All-push (λ q. HoldUnder graphs q lines) [] query (λ k d within. absurd (omega (arith, within))) hold)

-- lines that don't rest on the outputs are added
pub kept_hold : (graphs : Graphs) (query : Query) (count : ℕ) (lines old new : List LogLine) → count ≡ length (query_clauses graphs query) → AreDerived (formula_of graphs query) lines → HoldUnder graphs query old → GoesOn (record { count = count; same = count - 2 }) lines old new → HoldUnder graphs query new
kept_hold graphs query count lines old new count_is derived hold goes_on other same =
    goes_on (formula_of graphs query) (formula_of graphs other) (feeds_common graphs query other count same count_is) derived (hold other same)

-- a formula has all its clauses in common with itself
pub own_common : (formula : Formula) (count : ℕ) → length formula.clauses ≡ count → HaveCommon (record { count = count; same = count }) formula formula
own_common formula count is = record {
  variables = refl;
  count = is;
  other_count = is;
  within = omega arith;
  same = λ id low. refl;
}

-- the same of equal circuits and queries
pub hold_of : (graphs g : Graphs) (query q : Query) (lines : List LogLine) → g ≡ graphs → q ≡ query → HoldUnder graphs query lines → HoldUnder g q lines
hold_of graphs g query q lines graphs_are query_is hold =
    subst (λ x. HoldUnder g x lines) (sym query_is) (subst (λ x. HoldUnder x query lines) (sym graphs_are) hold)
