-- What replacing the signals of a netlist comes to.
use Rattle.std.specs.Prelude.{◌≡◌, ℕ, Bool, true, false, List, Result, Ok, Err}
use Rattle.circuits.specs.declared.netlist.Lit.{Lit}
use Rattle.circuits.specs.Netlists.{Net}
use Rattle.cnf_core.specs.declared.stop.Stop.{Stop}
use Rattle.cnf_core.specs.declared.stop.Stop.TheVariants.{Spent, Memory}
use Rattle.query_core.specs.Ledgers.{Ledgered}
use Rattle.sweep.specs.declared.reducing.Reduced.{Reduced}
use Rattle.sweep.specs.Comparing.{IsSpentWork}
use Rattle.sweep.specs.Exposed.{exposed}
use Rattle.sweep.specs.Merging.{AreReplacements, AreRepresentatives}
use Rattle.sweep.specs.Swept.{IsReduced, IsSwept}

-- The signals have replacements; where the budget wasn't spent these are the representatives.
pub record AreRepresented (net : Net) (budget : ℕ) (ledger : Ledgered) (replacements : List Lit) (whole : Bool) : Type 0 where
  pub replaced : AreReplacements net replacements
  pub represented : whole ≡ true → AreRepresentatives net replacements
  pub spent : whole ≡ false → IsSpentWork (exposed net) budget ledger

-- A graph was reduced; where the budget wasn't spent it is swept.
pub record IsReducedTo (net : Net) (budget : ℕ) (ledger : Ledgered) (reduced : Reduced) : Type 0 where
  pub reduces : IsReduced net reduced.graph
  pub swept : reduced.is_whole ≡ true → IsSwept net reduced.graph
  pub spent : reduced.is_whole ≡ false → IsSpentWork (exposed net) budget ledger

-- whether a run came to its end, or spent its budget
abbrev pub IsEnd : Result Unit Stop → Bool → Type 0
IsEnd (Ok done) ended = ended ≡ true
IsEnd (Err (Spent learned)) ended = ended ≡ false
IsEnd (Err Memory) ended = ⊥
