-- From the representatives of a netlist's signals to the netlist reduced.
use Rattle.std.proofs.Common.{◌≡◌, ℕ, ◌<◌, ◌≤◌, Bool, false, List, [], length, Result, Ok, Err, OnOk, refl, sym, ap, subst, ◌∙◌, arith}
use Rattle.std.specs.Result.{IfErr}
use Rattle.std.proofs.lemmas.Bool.{false≢true}
use Rattle.circuits.specs.declared.netlist.Lit.{Lit}
use Rattle.circuits.specs.Netlists.{Net, IsOrdered, signals_of}
use Rattle.cnf_core.specs.declared.stop.Stop.{Stop}
use Rattle.cnf_core.specs.declared.stop.Stop.TheVariants.{Spent, Memory}
use Rattle.query_core.specs.Ledgers.{Ledgered}
use Rattle.port_moves.specs.Restored.{AreEqual}
use Rattle.sweep.specs.declared.reducing.Reduced.{Reduced}
use Rattle.sweep.specs.declared.sweeping.Sweep.{Sweep}
use Rattle.sweep.specs.Comparing.{HasCompared, IsSpentWork, IsStopped}
use Rattle.sweep.specs.Exposed.{IsExposed, exposed}
use Rattle.sweep.specs.Merging.{AreReplacements, AreRepresentatives, merged}
use Rattle.sweep.specs.Pruning.{IsPruned}
use Rattle.sweep.specs.Reducing.{AreRepresented, IsEnd, IsReducedTo}
use Rattle.sweep.specs.Sweeping.{IsSweeping}
use Rattle.sweep.specs.Swept.{IsLeft, IsReduced}
use Rattle.sweep.proofs.BoundLemmas.{spent_below}
use Rattle.sweep.proofs.PrunedLemmas.{reduced_equal, reduced_size}
use Rattle.sweep.proofs.SweepingLemmas.{represented}

-- a netlist each signal of which is an output is the same with each signal as an output
pub exposed_same : (net : Net) → IsExposed net → exposed net ≡ net
exposed_same net is = ap (λ (outputs : List Lit). record net { outputs = outputs }) (sym is)

pub is_exposed : (net other : Net) → other ≡ exposed net → IsExposed other
is_exposed net other is = subst IsExposed (sym is) refl

-- no signals were compared in a ledger of which nothing was asked
pub nothing_compared : (net : Net) (ledger : Ledgered) → ledger.asked ≡ [] → ledger.spent ≡ false → HasCompared net 0 0 ledger
nothing_compared net ledger none unspent = record {
  work = record {
    entries = λ k d below. absurd (empty k below);
    once = λ i j d less below. absurd (empty j below);
  };
  queries = λ k d below. absurd (empty k below);
  earlier = λ k d below. absurd (empty k below);
  unspent = unspent;
}
  where
    empty : (k : ℕ) → k < length ledger.asked → ⊥
    empty k below = omega (arith, below, ap length none)

-- a sweep that came to its end has the representatives; one that was stopped spent its budget
pub ended : (net : Net) (sweep : Sweep) (budget : ℕ) (ledger : Ledgered) (replacements : List Lit) (run : Result (Unit {0}) Stop) (whole : Bool) → IsExposed net → replacements ≡ sweep.replacements.items → AreReplacements net sweep.replacements.items → OnOk run (IsSweeping net sweep (signals_of net)) → IfErr run (IsStopped net budget ledger) → IsEnd run whole → AreRepresented net budget ledger replacements whole
ended net sweep budget ledger replacements (Ok done) whole exposed same are swept stopped end = record {
  replaced = subst (AreReplacements net) (sym same) are;
  represented = λ so. subst (AreRepresentatives net) (sym same) (represented net sweep.replacements.items swept.settled);
  spent = λ so. absurd (false≢true (sym so ∙ end));
}
ended net sweep budget ledger replacements (Err (Spent learned)) whole exposed same are swept stopped end = record {
  replaced = subst (AreReplacements net) (sym same) are;
  represented = λ so. absurd (false≢true (sym end ∙ so));
  spent = λ so. subst (λ n. IsSpentWork n budget ledger) (sym (exposed_same net exposed)) stopped;
}
ended net sweep budget ledger replacements (Err Memory) whole exposed same are swept stopped end = absurd end

-- the representatives of the netlist are those of the one each signal of which is an output
pub represented_in : (net other : Net) (budget : ℕ) (ledger : Ledgered) (replacements : List Lit) (whole : Bool) → other ≡ exposed net → AreRepresented other budget ledger replacements whole → AreRepresented net budget ledger replacements whole
represented_in net other budget ledger replacements whole is are =
    let here = subst (λ n. AreRepresented n budget ledger replacements whole) is are in
    record {
      replaced = record { count = here.replaced.count; each = λ s d below. let one = here.replaced.each s d below in record { within = one.within; computes = one.computes } };
      represented = λ so.
          let all = here.represented so in
          record {
            count = all.count;
            each = λ s d below.
                let one = all.each s d below in
                record { replaces = record { within = one.replaces.within; computes = one.replaces.computes }; first = one.first };
          };
      spent = here.spent;
    }

pub reduced_to : (net middle : Net) (budget : ℕ) (ledger : Ledgered) (replacements : List Lit) (reduced : Reduced) → AreRepresented net budget ledger replacements reduced.is_whole → middle ≡ merged replacements net → IsPruned middle reduced.graph → IsReducedTo net budget ledger reduced
reduced_to net middle budget ledger replacements reduced are is pruned =
    let here = subst (λ n. IsPruned n reduced.graph) is pruned in
    record {
      reduces = record { replacements = replacements; are = are.replaced; pruned = here };
      swept = λ whole. record { representatives = replacements; are = are.represented whole; pruned = here };
      spent = are.spent;
    }

pub equal_of : (net reduced : Net) → IsOrdered net → IsOrdered reduced → IsReduced net reduced → AreEqual net reduced
equal_of net reduced ordered now_ordered is = reduced_equal net reduced is.replacements is.are ordered now_ordered is.pruned

pub size_of : (net reduced : Net) → IsOrdered net → IsOrdered reduced → IsReduced net reduced → length reduced.gates ≤ length net.gates
size_of net reduced ordered now_ordered is = reduced_size net reduced is.replacements is.are ordered now_ordered is.pruned

pub left_of : (net : Net) (allowance : ℕ) (ledger : Ledgered) → IsSpentWork (exposed net) allowance ledger → IsLeft net allowance ledger
left_of net allowance ledger is = record {
  spent = is;
  below = spent_below (exposed net) allowance ledger is;
}
