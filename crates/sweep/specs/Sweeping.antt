-- How far a sweep has come.
use Rattle.std.specs.Prelude.{◌≡◌, ℕ, ◌+◌, ◌<◌, ◌≤◌, Bool, true, false, List, Option, None, Some, Result, IfOk, IfErr, slice_index_or}
use Rattle.circuits.specs.declared.netlist.Lit.{Lit}
use Rattle.circuits.specs.Literals.{false_literal, signal_of}
use Rattle.circuits.specs.Netlists.{Net, signals_of}
use Rattle.cnf_core.specs.declared.stop.Stop.{Stop}
use Rattle.query_core.specs.Ledgers.{Ledgered}
use Rattle.sweep.specs.declared.comparing.SignalPair.{SignalPair}
use Rattle.sweep.specs.declared.sweeping.Sweep.{Sweep}
use Rattle.sweep.specs.Classes.{AreClasses, member_at}
use Rattle.sweep.specs.Comparing.{HasCompared, IsStopped, literal_of}
use Rattle.sweep.specs.Leaders.{AreChained, Leads, LeadsIn}
use Rattle.sweep.specs.Merging.{AreReplacements, IsRepresentative}
use Rattle.sweep.specs.Signals.{AreUnlike, Computes}

-- the replacement of signal s
abbrev pub replacement_at : List Lit → ℕ → Lit
replacement_at replacements s = slice_index_or replacements s false_literal

-- Each of the first n signals has its representative, which represents itself; each other one is replaced by itself.
pub record AreSettled (net : Net) (replacements : List Lit) (n : ℕ) : Type 0 where
  pub replaced : AreReplacements net replacements
  pub settled : (s : ℕ) → s < n → IsRepresentative net s (replacement_at replacements s)
  pub leading : (s : ℕ) → s < n → Leads replacements (signal_of (replacement_at replacements s))
  pub later : (s : ℕ) → n ≤ s → s < signals_of net → Leads replacements s

-- The classes are right, and the first n signals are settled.
pub record IsSweeping (net : Net) (sweep : Sweep) (n : ℕ) : Type 0 where
  pub classes : AreClasses net sweep.members.items
  pub settled : AreSettled net sweep.replacements.items n
  pub chained : AreChained sweep.members.items sweep.replacements.items n sweep.leaders.last.items sweep.leaders.before.items

-- Signal s is going to be compared with `next`, or with none any more: it is unlike each later signal of the class that
-- isn't replaced.
abbrev pub IsBetween : Net → Sweep → ℕ → Ledgered → Option ℕ → Type 0
IsBetween net sweep s ledger None =
    HasCompared net s 0 ledger
    × ((u : ℕ) → u < s → LeadsIn sweep.members.items sweep.replacements.items (member_at sweep.members.items s).class u → AreUnlike net s u)
IsBetween net sweep s ledger (Some p) =
    (p < s)
    × LeadsIn sweep.members.items sweep.replacements.items (member_at sweep.members.items s).class p
    × HasCompared net s (p + 1) ledger
    × ((u : ℕ) → p < u → u < s → LeadsIn sweep.members.items sweep.replacements.items (member_at sweep.members.items s).class u → AreUnlike net s u)

-- the second signal of a pair computes what it may, or it is unlike the first
abbrev pub IsVerdict : Net → SignalPair → Bool → Type 0
IsVerdict net pair true = Computes net pair.other (literal_of pair)
IsVerdict net pair false = AreUnlike net pair.other pair.one

-- What telling two signals apart comes to.
pub record Tells (net : Net) (pair : SignalPair) (before after : Ledgered) (result : Result Bool Stop) : Type 0 where
  pub answer : IfOk result (IsVerdict net pair)
  pub compared : IfOk result (λ _. HasCompared net pair.other pair.one after)
  pub budget : IfOk result (λ _. after.budget ≡ before.budget)
  pub stopped : IfErr result (IsStopped net before.budget after)

-- a literal of an earlier signal that isn't replaced, and that signal s computes; or that s is unlike each of these
abbrev pub IsEqualTo : Net → List Lit → ℕ → Option Lit → Type 0
IsEqualTo net replacements s None = (u : ℕ) → u < s → Leads replacements u → AreUnlike net s u
IsEqualTo net replacements s (Some literal) =
    (signal_of literal < s) × Leads replacements (signal_of literal) × Computes net s literal

-- What looking for a signal's representative comes to.
pub record Finds (net : Net) (replacements : List Lit) (s : ℕ) (before after : Ledgered) (result : Result (Option Lit) Stop) : Type 0 where
  pub answer : IfOk result (IsEqualTo net replacements s)
  pub compared : IfOk result (λ _. HasCompared net (s + 1) (s + 1) after)
  pub budget : IfOk result (λ _. after.budget ≡ before.budget)
  pub stopped : IfErr result (IsStopped net before.budget after)
