-- What is known of a netlist, in a new ledger.
use Rattle.std.proofs.Common.{◌≡◌, ℕ, inr, false, List, [], All, Result, Ok, Err, IfOk, IfErr, refl, sym, ◌∙◌, ap, subst, arith, ◌+◌, ◌<◌}
use Rattle.circuits.specs.Netlists.{Net}
use Rattle.net_core.specs.Sides.{Graphs}
use Rattle.net_file.specs.declared.named.Named.{Named}
use Rattle.cnf_core.specs.declared.stop.Stop.{Stop}
use Rattle.cnf_core.specs.declared.stop.Stop.TheVariants as stop
use Rattle.query_core.specs.Ledgers.{Ledgered}
use Rattle.oracle_core.specs.Oracles.{IsSpentWork, Known, Suits}
use Rattle.oracle_core.specs.Work.{IsWorkOfClaimsAndMatches}
use Rattle.account_core.specs.Ports.{HaveAsMany}
use Rattle.oracle_core.specs.Enough.{enough}
use Rattle.claim_core.specs.Rows.{AreRows}
use Rattle.fact_tests.proofs.RowLemmas.{rows_of}
use Rattle.claim_core.specs.declared.info.OutputInfo.{OutputInfo}
use Rattle.port_report.specs.Infos.{IsInRange, info_text}
use Rattle.run_steps.specs.Info.{IsSpentOf}
use Rattle.run_steps.specs.Steps.{InformsOf, IsNew}
use Rattle.check_steps.specs.declared.outcome.Ending.{Ending}
use Rattle.check_steps.specs.declared.outcome.Outcome.{Outcome}
use Rattle.check_steps.specs.declared.outcome.Outcome.TheVariants.{Informed, Memory}

-- an empty ledger suits a book that knows nothing
pub suits_new : (graphs : Graphs) (budget : ℕ) → Suits (record { graphs = graphs; facts = []; answered = [] }) (record { budget = budget; asked = []; spent = false })
suits_new graphs budget = record {
  work = record {
    work = record {
      entries = λ k d h. absurd (omega (arith, h));
      once = λ i j d less h. absurd (omega (arith, h));
    };
    queries = λ k d h. absurd (omega (arith, h));
  };
  unspent = refl;
  answered = λ k d h. absurd (omega (arith, h));
}

pub suits_first : (graphs : Graphs) (known : Known) (ledger : Ledgered) (budget : ℕ) → known ≡ record { graphs = graphs; facts = []; answered = [] } → ledger ≡ record { budget = budget; asked = []; spent = false } → Suits known ledger
suits_first graphs known ledger budget is empty =
    subst (λ known. Suits known ledger) (sym is) (subst (Suits (record { graphs = graphs; facts = []; answered = [] })) (sym empty) (suits_new graphs budget))

-- a ledger that was made is new, and so of the budget that it was made with
pub is_new : (ledger : Ledgered) (budget : ℕ) → ledger ≡ record { budget = budget; asked = []; spent = false } → IsNew ledger
is_new ledger budget is = subst IsNew (sym is) refl

pub budget_of_new : (graphs : Graphs) (ledger after : Ledgered) (budget : ℕ) → ledger ≡ record { budget = budget; asked = []; spent = false } → IsSpentOf graphs ledger.budget after → IsSpentOf graphs budget after
budget_of_new graphs ledger after budget is spent = subst (λ budget. IsSpentOf graphs budget after) (ap (λ (ledger : Ledgered). ledger.budget) is) spent

-- running out of memory is no spent budget
pub memory_stops : {X : Type 0} (P : ℕ → Type 0) (result : Result X Stop) → result ≡ Err stop.Memory → (learned : ℕ) → result ≡ Err (stop.Spent learned) → P learned
memory_stops P result memory learned spent = absurd (cc (memory, spent))

-- what a spent budget says
pub spent_says : (P : Stop → Type 0) {given : Stop} (learned : ℕ) → P given → given ≡ stop.Spent learned → P (stop.Spent learned)
spent_says P learned holds is = subst P is holds

-- rows name inputs that are there
pub rows_in_range : (net : Net) (rows : List OutputInfo) → AreRows net rows → All (IsInRange net.inputs) rows
rows_in_range net rows are = λ k d h t e l. ((are.each k d h).support.within t e l).1

-- a budget that was spent on two graphs, of which nothing was known
pub spent_is : (two graphs : Graphs) (known : Known) (before after : Ledgered) (budget learned : ℕ) → HaveAsMany two.first two.second → graphs ≡ two → known ≡ record { graphs = graphs; facts = []; answered = [] } → before ≡ record { budget = budget; asked = []; spent = false } → IsSpentWork known before after learned → IsSpentOf two budget after
spent_is two graphs known before after budget learned ports same is empty spent =
    let first : before.budget ≡ budget = ap (λ (ledger : Ledgered). ledger.budget) empty in
    let are : known.graphs ≡ two = ap (λ (known : Known). known.graphs) is ∙ same in
    let below : before.budget < enough known.graphs = spent.below (subst (λ (graphs : Graphs). HaveAsMany graphs.first graphs.second) (sym are) ports) in
    record {
      budget_is = spent.keeps.budget ∙ first;
      learned = spent.used ∙ first;
      made = spent.made ∙ ap (λ (n : ℕ). n + 1) first;
      refused = spent.refused;
      work = subst (λ graphs. IsWorkOfClaimsAndMatches graphs after) are spent.work;
      below = subst (λ b. b < enough two) first (subst (λ graphs. before.budget < enough graphs) are below);
    }

-- rows of a graph, reported
pub informed_is : (named : Named) (budget : ℕ) (graph : Net) (rows : List OutputInfo) (result : Result Ending Outcome) → graph ≡ named.graph → AreRows graph rows → IfOk result (λ ending. ending.outcome ≡ Informed) → IfOk result (λ ending. ending.report.items ≡ info_text named rows) → IfErr result (λ outcome. outcome ≡ Memory) → InformsOf named budget result
informed_is named budget graph rows (Ok ending) same are outcome report memory = record {
  rows = (
    outcome,
    λ circuit computes numbered. record {
      numbered = numbered;
      rows = rows;
      right = rows_of named.graph circuit rows computes (subst (λ net. AreRows net rows) same are);
      same = report;
    },
  );
  stopped = tt;
}
informed_is named budget graph rows (Err outcome) same are outcome_is report memory = record {
  rows = tt;
  stopped = inr memory;
}
