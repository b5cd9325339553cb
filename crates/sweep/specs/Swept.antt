-- A netlist swept: of signals that compute the same, or the complement, the first stands for all (functional reduction:
-- Mishchenko, Chatterjee, Jiang and Brayton, FRAIGs, 2005).
use Rattle.std.specs.Prelude.{ℕ, ◌+◌, ◌*◌, ◌^◌, ◌<◌, List, length}
use Rattle.circuits.specs.declared.netlist.Lit.{Lit}
use Rattle.circuits.specs.Netlists.{Net, signals_of}
use Rattle.query_core.specs.Ledgers.{Ledgered}
use Rattle.sweep.specs.Comparing.{IsSpentWork}
use Rattle.sweep.specs.Exposed.{exposed}
use Rattle.sweep.specs.Merging.{AreReplacements, AreRepresentatives, merged}
use Rattle.sweep.specs.Pruning.{IsPruned}

-- Each signal is replaced by the first one that computes the same or the complement; then the gates are left out that no
-- output reaches, among them those that were replaced.
pub record IsSwept (net swept : Net) : Type 0 where
  pub representatives : List Lit
  pub are : AreRepresentatives net representatives
  pub pruned : IsPruned (merged representatives net) swept

-- The same where not all signals were compared: each is replaced by one that computes the same or the complement, or
-- by itself.
pub record IsReduced (net reduced : Net) : Type 0 where
  pub replacements : List Lit
  pub are : AreReplacements net replacements
  pub pruned : IsPruned (merged replacements net) reduced

-- As many learned lines are enough: for each two signals and their values a query, and for each query as many lines as
-- there are clauses over the variables of its formula, each of which stands plain, stands negated or doesn't stand.
abbrev pub lines_enough : Net → ℕ
lines_enough net = 4 * signals_of net ^ 2 * 3 ^ (net.inputs + 2 * length net.gates + 1)

-- The ledger of a sweep that wasn't ended: it was spent by comparing signals, and the allowance wasn't enough.
pub record IsLeft (net : Net) (allowance : ℕ) (ledger : Ledgered) : Type 0 where
  pub spent : IsSpentWork (exposed net) allowance ledger
  pub below : allowance < lines_enough net
