-- Literals that were made true, and the bits that they give their variables.
use Rattle.std.specs.Prelude.{◌≡◌, ℕ, ◌<◌, ◌≤◌, ◌==◌, Bool, false, List, length, Option, None, Some, Vec, count_by, is_some, slice_index_or, vec_capacity}
use Rattle.std.specs.Bool.{beq}
use Rattle.std.specs.List.{list_any}
use Rattle.std.specs.declared.alloc.Global.{Global}
use Rattle.cnf_core.specs.declared.literal.SatLit.{SatLit}
use Rattle.cnf_core.specs.Clauses.{variable_of, literal_of, AreKnown}
use Rattle.cnf_core.specs.Derivations.{is_true, is_false}

-- Literals that were made true, in order, over n variables.
pub record Made : Type 0 where
  pub variables : ℕ
  pub made : List SatLit

-- the bit that a variable has, if it has one yet
abbrev pub bit_at : List (Option Bool) → ℕ → Option Bool
bit_at bits variable = slice_index_or bits variable None

-- a variable has a bit, and it is this one
abbrev pub is_bit : Option Bool → Bool → Bool
is_bit None b = false
is_bit (Some value) b = beq value b

-- a literal is over this variable, plain or negated
abbrev pub is_of : ℕ → SatLit → Bool
is_of variable literal = variable_of literal == variable

-- a variable without a literal among these has no bit
pub record IsOfMade (bits : List (Option Bool)) (made : List SatLit) : Type 0 where
  pub known : AreKnown (length bits) made
  pub none : (v : ℕ) → v < length bits → list_any (is_of v) made ≡ false → bit_at bits v ≡ None

-- each variable has the bit that makes one of these literals true, if there is one; and there is room for all that can
-- be made
pub record IsMade (bits : List (Option Bool)) (made : Vec SatLit Global) : Type 0 where
  pub told : (v : ℕ) (b : Bool) → v < length bits → is_bit (bit_at bits v) b ≡ is_true made.items (literal_of v b)
  pub known : AreKnown (length bits) made.items
  pub count : count_by is_some bits ≡ length made.items
  pub room : length bits ≤ vec_capacity made

-- a literal can be made true: its variable is known and has no bit
pub record CanBeMade (values : Made) (literal : SatLit) : Type 0 where
  pub known : variable_of literal < values.variables
  pub not_true : is_true values.made literal ≡ false
  pub not_false : is_false values.made literal ≡ false
