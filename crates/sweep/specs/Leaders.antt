-- Signals that stand for what they compute, chained by their classes.
use Rattle.std.specs.Prelude.{◌≡◌, ℕ, ◌<◌, List, length, Option, None, Some, slice_index_or}
use Rattle.circuits.specs.declared.netlist.Lit.{Lit}
use Rattle.circuits.specs.Literals.{false_literal, plain_literal}
use Rattle.sweep.specs.declared.classes.Member.{Member}
use Rattle.sweep.specs.Classes.{member_at}

-- a signal isn't replaced
abbrev pub Leads : List Lit → ℕ → Type 0
Leads replacements s = slice_index_or replacements s false_literal ≡ plain_literal s

-- nor is one of this class
abbrev pub LeadsIn : List Member → List Lit → ℕ → ℕ → Type 0
LeadsIn members replacements class s = ((member_at members s).class ≡ class) × Leads replacements s

-- the last of the numbers below n with a property, if one has it
abbrev pub IsLast : (ℕ → Type 0) → ℕ → Option ℕ → Type 0
IsLast P n None = (u : ℕ) → u < n → P u → ⊥
IsLast P n (Some p) = (p < n) × P p × ((u : ℕ) → p < u → u < n → P u → ⊥)

-- what stands at a place of a list of numbers that may be there
abbrev pub some_at : List (Option ℕ) → ℕ → Option ℕ
some_at xs k = slice_index_or xs k None

-- Of the first n signals: the last of each class that isn't replaced, and before each of them the one before it.
pub record AreChained (members : List Member) (replacements : List Lit) (n : ℕ) (last before : List (Option ℕ)) : Type 0 where
  pub last_count : length last ≡ length members
  pub before_count : length before ≡ length members
  pub last_of : (class : ℕ) → class < length members → IsLast (LeadsIn members replacements class) n (some_at last class)
  pub before_of : (s : ℕ) → s < n → Leads replacements s
      → IsLast (LeadsIn members replacements (member_at members s).class) s (some_at before s)
