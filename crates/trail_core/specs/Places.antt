-- The place of each variable's literal on a trail, and the value of each literal.
use Rattle.std.specs.Prelude.{◌≡◌, ◌≢◌, ℕ, ◌*◌, ◌<◌, ◌≤◌, Bool, true, false, List, length, Option, None, Some, Vec, slice_index_or, slice_set, vec_capacity}
use Rattle.std.specs.declared.alloc.Global.{Global}
use Rattle.cnf_core.specs.declared.literal.SatLit.{SatLit}
use Rattle.cnf_core.specs.Clauses.{opposite, variable_of}
use Rattle.trail_core.specs.declared.assigned.Assigned.{Assigned}
use Rattle.trail_core.specs.Trails.{IsTrail, IsPlace, entry_at, literals, value_in}

-- where a variable's literal stands on the trail, if it is assigned
abbrev pub place_at : List (Option ℕ) → ℕ → Option ℕ
place_at places variable = slice_index_or places variable None

-- the value of the literal of a number
abbrev pub value_at : List (Option Bool) → ℕ → Option Bool
value_at values c = slice_index_or values c None

-- The value of each literal of n variables, where these are true.
pub record AreValues (variables : ℕ) (entries : List Assigned) (values : List (Option Bool)) : Type 0 where
  pub size : length values ≡ 2 * variables
  pub each : (c : ℕ) → c < length values → value_at values c ≡ value_in (literals entries) (record { 0 = c })

-- a literal was made true
abbrev pub with_true : SatLit → List (Option Bool) → List (Option Bool)
with_true literal values = slice_set (slice_set values literal.0 (Some true)) (opposite literal).0 (Some false)

-- a literal has no value any more
abbrev pub without : SatLit → List (Option Bool) → List (Option Bool)
without literal values = slice_set (slice_set values literal.0 None) (opposite literal).0 None

-- What each trail keeps: the place and the value of each literal, and room for all literals.
pub record IsKept (entries : Vec Assigned Global) (places : List (Option ℕ)) (values : List (Option Bool))
    (level walked : ℕ) : Type 0 where
  pub trail : IsTrail (record { variables = length places; entries = entries.items; level = level; walked = walked })
  pub filled : (k : ℕ)
      → k < length entries.items
      → place_at places (variable_of (entry_at entries.items k).literal) ≡ Some k
  pub told : (v p : ℕ) → v < length places → place_at places v ≡ Some p → IsPlace entries.items v p
  pub room : length places ≤ vec_capacity entries
  pub valued : AreValues (length places) entries.items values

-- the places of the first n of these were taken away, and no others
pub record IsUnset (old now : List (Option ℕ)) (dropped : List Assigned) (count : ℕ) : Type 0 where
  pub same_length : length now ≡ length old
  pub none : (k : ℕ) → k < count → place_at now (variable_of (entry_at dropped k).literal) ≡ None
  pub others : (v : ℕ)
      → ((k : ℕ) → k < count → variable_of (entry_at dropped k).literal ≢ v)
      → place_at now v ≡ place_at old v

-- the values of the literals of the variables of the first n of these were taken away, and no others
pub record AreUnassigned (old now : List (Option Bool)) (dropped : List Assigned) (count : ℕ) : Type 0 where
  pub same_length : length now ≡ length old
  pub none : (c k : ℕ)
      → k < count
      → variable_of (entry_at dropped k).literal ≡ variable_of (record { 0 = c })
      → value_at now c ≡ None
  pub others : (c : ℕ)
      → ((k : ℕ) → k < count → variable_of (entry_at dropped k).literal ≢ variable_of (record { 0 = c }))
      → value_at now c ≡ value_at old c
