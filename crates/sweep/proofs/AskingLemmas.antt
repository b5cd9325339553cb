-- What an answered query makes of a ledger.
-- (It stands in fact_tests too: both copies go down to ask_core with the definitions.)
use Rattle.std.specs.Result.{IsErrAnd}
use Rattle.std.proofs.Common.{◌≡◌, ◌≤◌, length, List, Result, Ok, Err, sym, subst, ap, ◌∙◌, arith}
use Rattle.std.proofs.lemmas.List.{length-take}
use Rattle.cnf_core.specs.declared.log.LogLine.{LogLine}
use Rattle.cnf_core.specs.declared.stop.Stop.{Stop}
use Rattle.net_core.specs.Sides.{Graphs}
use Rattle.claim_core.specs.declared.query.Query.{Query}
use Rattle.claim_core.specs.Queries.{IsQuery}
use Rattle.query_core.specs.Ledgers.{Ledgered}
use Rattle.ask_core.specs.Answers.{IsAskedIn, IsAskedWith}
use Rattle.ask_core.proofs.BoundLemmas.{asked_last}
use Rattle.sweep.specs.Asking.{Decides, IsAsked, IsHalted}

-- its entry is work
pub asked_with_of : (graphs : Graphs) (query : Query) (lemmas : List LogLine) (before after : Ledgered) → IsQuery graphs query → IsAskedWith lemmas graphs query before after → IsAsked graphs query before after
asked_with_of graphs query lemmas before after fits is = record {
  lemmas = length lemmas;
  lines = is.lines;
  work = record {
    fits = fits;
    lemmas = within;
    derived = is.derived;
    learned = λ k d below following.
        let learned = is.learned k d following below in
        record {
          derived = learned.derived;
          beside_cones = learned.fresh;
          beside_lines = learned.unlike_earlier;
        };
  };
  budget = is.budget;
  asked = is.asked ∙ asked_last query lemmas is.lines before.asked;
}
  where
    within : length lemmas ≤ length is.lines
    within = omega (arith, ap length is.begin, length-take (length lemmas) is.lines)

pub asked_of : (graphs : Graphs) (query : Query) (before after : Ledgered) → IsQuery graphs query → IsAskedIn graphs query before after → IsAsked graphs query before after
asked_of graphs query before after fits is = asked_with_of graphs query is.lemmas before after fits is.with_them

-- a stop is passed on
pub decides_err : {X : Type 0} {IsRight : X → Type 0} (graphs : Graphs) (query : Query) (before after : Ledgered) (r : Result X Stop) (stop : Stop) → IsErrAnd r (λ e. e ≡ stop) → IsHalted graphs query before after stop → Decides {X = X} IsRight graphs query before after r
decides_err {X} graphs query before after (Ok answer) stop is halted = absurd is
decides_err {X} graphs query before after (Err other) stop is halted = record {
  answer = tt;
  decided = tt;
  unspent = tt;
  stop = subst (IsHalted graphs query before after) (sym is) halted;
}
