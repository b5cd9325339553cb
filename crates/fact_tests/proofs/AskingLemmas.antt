-- What an answered query, and one refuted by its outputs, make of a ledger.
use Rattle.std.specs.Result.{IsErrAnd}
use Rattle.std.proofs.lemmas.List.{length-take}
use Rattle.std.proofs.Common.{◌≡◌, ℕ, zero, suc, ◌<◌, ◌≤◌, length, [], ◌∷◌, take, slice_index_or, List, Result, Ok, Err, inr, sym, subst, ap, ◌∙◌, arith, ◌+◌, ◌*◌}
use Rattle.circuits.specs.declared.netlist.Gate.{Gate}
use Rattle.circuits.specs.Netlists.{signals_of}
use Rattle.cnf_core.specs.declared.log.LogLine.{LogLine}
use Rattle.cnf_core.specs.declared.stop.Stop.{Stop}
use Rattle.cnf_core.specs.declared.stop.Stop.TheVariants.{Spent, Memory}
use Rattle.cnf_core.specs.Derivations.{IsRefutation}
use Rattle.net_core.specs.Sides.{Graphs}
use Rattle.net_core.specs.Cones.{output_signal}
use Rattle.net_core.specs.Graph.{IsGraph}
use Rattle.net_core.specs.Sides.{graph_of}
use Rattle.claim_core.specs.declared.claims.Claim.{Claim}
use Rattle.claim_core.specs.declared.query.Query.{Query}
use Rattle.claim_core.specs.Claims.{IsClaim}
use Rattle.claim_core.specs.ClaimQueries.{claim_query}
use Rattle.claim_core.specs.Formulas.{formula_of}
use Rattle.query_core.specs.declared.ledger.Asked.{Asked}
use Rattle.query_core.specs.Ledgers.{Ledgered, opened, with_line, IsRefused}
use Rattle.claim_core.specs.Queries.{IsQuery}
use Rattle.claim_core.proofs.ClaimQueryLemmas.{claim_query_fits}
use Rattle.oracle_core.specs.Work.{IsLearned, IsWorkOn}
use Rattle.ask_core.specs.declared.question.Answer.{Answer}
use Rattle.ask_core.specs.Answers.{Asks, IsAnswer, IsAskedIn, IsAskedWith}
use Rattle.ask_core.proofs.AskLemmas.{stopped_weaker}
use Rattle.ask_core.proofs.BoundLemmas.{asked_last}
use Rattle.shared_lemmas.specs.Shared.{IsAskedBy}
use Rattle.fact_tests.specs.Asking.{Decides, IsAsked, IsHalted, entry_with}
use Rattle.fact_tests.specs.Supports.{IsOutside, closing_line}
use Rattle.fact_tests.proofs.ConeLemmas.{empty_is_new, graph_is}
use Rattle.fact_tests.proofs.StructureLemmas.{outside_refuted}
use Rattle.fact_tests.proofs.WorkLemmas.{line_last}

pub asked_with_of : (graphs : Graphs) (query : Query) (lemmas : List LogLine) (before after : Ledgered) → IsQuery graphs query → IsAskedWith lemmas graphs query before after → IsAsked graphs query before after
asked_with_of graphs query lemmas before after fits is = record {
  lemmas = length lemmas;
  lines = is.lines;
  work = record {
    fits = fits;
    lemmas = within;
    derived = is.derived;
    learned = λ k d below following.
        let learned = is.learned k d following below in
        record {
          derived = learned.derived;
          beside_cones = learned.fresh;
          beside_lines = learned.unlike_earlier;
        };
  };
  budget = is.budget;
  asked = is.asked ∙ asked_last query lemmas is.lines before.asked;
}
  where
    within : length lemmas ≤ length is.lines
    within = omega (arith, ap length is.begin, length-take (length lemmas) is.lines)

pub asked_of : (graphs : Graphs) (query : Query) (before after : Ledgered) → IsQuery graphs query → IsAskedIn graphs query before after → IsAsked graphs query before after
asked_of graphs query before after fits is = asked_with_of graphs query is.lemmas before after fits is.with_them

pub asked_by_of : {Known : List Asked → Type 0} (graphs : Graphs) (query : Query) (before after : Ledgered) → IsQuery graphs query → IsAskedBy Known graphs query before after → IsAsked graphs query before after
asked_by_of {Known} graphs query before after fits is = asked_with_of graphs query is.lemmas before after fits is.with_them

-- a query that was asked is decided
pub decides_of : {Asked : Graphs → Query → Ledgered → Ledgered → Type 0} (graphs : Graphs) (query : Query) (before after : Ledgered) (r : Result Answer Stop) → (Asked graphs query before after → IsAsked graphs query before after) → Asks Asked graphs query before after r → Decides (IsAnswer graphs query) graphs query before after r
decides_of graphs query before after (Ok answer) weaker is = record {
  answer = is.answer;
  decided = inr (weaker is.asked);
  unspent = is.not_spent;
  stop = tt;
}
decides_of graphs query before after (Err stop) weaker is = record {
  answer = tt;
  decided = tt;
  unspent = tt;
  stop = stopped_weaker before after stop weaker is.stop;
}

-- a stop is passed on
pub decides_err : {X : Type 0} {IsRight : X → Type 0} (graphs : Graphs) (query : Query) (before after : Ledgered) (r : Result X Stop) (stop : Stop) → IsErrAnd r (λ e. e ≡ stop) → IsHalted graphs query before after stop → Decides {X = X} IsRight graphs query before after r
decides_err {X} graphs query before after (Ok answer) stop is halted = absurd is
decides_err {X} graphs query before after (Err other) stop is halted = record {
  answer = tt;
  decided = tt;
  unspent = tt;
  stop = subst (IsHalted graphs query before after) (sym is) halted;
}

-- the output of a claim is a signal
output_there : (graphs : Graphs) (claim : Claim) → IsGraph graphs.first → IsGraph graphs.second → IsClaim graphs claim → output_signal (graph_of graphs claim.side) claim.output < signals_of (graph_of graphs claim.side)
output_there graphs claim first second placed =
    (graph_is graphs claim.side first second).ordered.outputs claim.output (record { 0 = 0 }) placed.output

-- The log of a claim whose inputs the output doesn't reach, and its entry.
pub record IsClosed (graphs : Graphs) (claim : Claim) : Type 0 where
  pub refuted : IsRefutation (formula_of graphs (claim_query graphs claim)) (closing_line graphs claim ∷ [])
  pub work : IsWorkOn graphs (entry_with (claim_query graphs claim) 0 (closing_line graphs claim ∷ []))

pub outside_closed : (graphs : Graphs) (claim : Claim) → IsGraph graphs.first → IsGraph graphs.second → IsClaim graphs claim → IsOutside (graph_of graphs claim.side) claim.output claim.shape → IsClosed graphs claim
outside_closed graphs claim first second placed outside =
    let query = claim_query graphs claim in
    let line = closing_line graphs claim in
    let there = output_there graphs claim first second placed in
    let fits = claim_query_fits graphs claim placed in
    let refuted = outside_refuted graphs claim fits (omega (arith, there)) outside in
    record {
      refuted = refuted;
      work = record {
        fits = fits;
        lemmas = omega arith;
        derived = refuted.derived;
        learned = λ k d below following. at_line query line fits refuted k d below;
      };
    }
  where
    at_line : (query : Query) (line : LogLine) → IsQuery graphs query → IsRefutation (formula_of graphs query) (record line { clause = [] } ∷ []) → (k : ℕ) (d : LogLine) → k < 1 → IsLearned graphs query (take k (record line { clause = [] } ∷ [])) (slice_index_or (record line { clause = [] } ∷ []) k d)
    at_line query line fits refuted zero d below = record {
      derived = refuted.derived zero d below;
      beside_cones = empty_is_new graphs query first second fits;
      beside_lines = λ i e none. absurd (omega (arith, none));
    }
    at_line query line fits refuted (suc k) d below = absurd (omega (arith, below))

-- the line that is made of the number of a circuit's gates is that line
pub closing_is : (graphs : Graphs) (claim : Claim) (gates : List Gate) (line : LogLine) → line ≡ record { clause = []; hints = (1 + 6 * length gates) ∷ (1 + 6 * length gates + 1) ∷ [] } → gates ≡ (graph_of graphs claim.side).gates → line ≡ closing_line graphs claim
closing_is graphs claim gates line is same = is ∙ ap (λ (gs : List Gate). record { clause = []; hints = (1 + 6 * length gs) ∷ (1 + 6 * length gs + 1) ∷ [] }) same

pub closed_asked : (graphs : Graphs) (claim : Claim) (query : Query) (line : LogLine) (before mid after : Ledgered) → IsClosed graphs claim → query ≡ claim_query graphs claim → line ≡ closing_line graphs claim → mid ≡ record before { asked = opened query [] before.asked } → after.asked ≡ with_line line mid.asked → after.budget ≡ mid.budget → IsAsked graphs (claim_query graphs claim) before after
closed_asked graphs claim query line before mid after closed query_is line_is open_is asked_is budget_is = record {
  lemmas = 0;
  lines = closing_line graphs claim ∷ [];
  work = closed.work;
  budget = budget_is ∙ ap (λ (l : Ledgered). l.budget) open_is;
  asked = asked_is
      ∙ (ap (λ (l : Ledgered). with_line line l.asked) open_is
      ∙ (ap (λ q. with_line line (opened q [] before.asked)) query_is
      ∙ (ap (λ l. with_line l (opened (claim_query graphs claim) [] before.asked)) line_is
      ∙ line_last (claim_query graphs claim) (closing_line graphs claim) before.asked)));
}

pub closed_halted : (graphs : Graphs) (claim : Claim) (query : Query) (line : LogLine) (before mid after : Ledgered) (stop : Stop) → IsClosed graphs claim → query ≡ claim_query graphs claim → line ≡ closing_line graphs claim → mid ≡ record before { asked = opened query [] before.asked } → IsRefused mid line after stop → IsHalted graphs (claim_query graphs claim) before after stop
closed_halted graphs claim query line before mid after Memory closed query_is line_is open_is refused = tt
closed_halted graphs claim query line before mid after (Spent learned) closed query_is line_is open_is refused =
    let budget = ap (λ (l : Ledgered). l.budget) open_is in
    record {
      asked = closed_asked graphs claim query line before mid after closed query_is line_is open_is (ap (λ (l : Ledgered). l.asked) refused.refused) (ap (λ (l : Ledgered). l.budget) refused.refused);
      learned_is = refused.learned_is ∙ budget;
      used = refused.counted ∙ budget;
      made = refused.made ∙ ap (λ (n : ℕ). n + 1) budget;
      spent = ap (λ (l : Ledgered). l.spent) refused.refused;
    }
