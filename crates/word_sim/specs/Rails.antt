-- Three values as two bits, one where the value is 1 and one where it is 0 (dual-rail encoding, as in textbooks of
-- digital testing), on many vectors at once.
use Rattle.std.specs.Prelude.{ℕ, Bool, true, false, List, [], ◌&&◌, ◌||◌, map, if◌then◌else◌, bit_and, bit_or}
use Rattle.net_core.specs.Values.{Operations, each_lane}
use Rattle.word_sim.specs.declared.rails.Rails.{Rails}
use Rattle.word_sim.specs.declared.tri.Tri.{Tri}
use Rattle.word_sim.specs.declared.tri.Tri.TheVariants.{Zero, One, X}
use Rattle.word_sim.specs.Columns.{word_bit, word_of}

-- whether a value is 1, and whether it is 0
pub record Rail : Type 0 where
  pub one : Bool
  pub zero : Bool

-- the two bits of a value, of which X has neither
abbrev pub rail_of : Tri → Rail
rail_of Zero = record { one = false; zero = true }
rail_of One = record { one = true; zero = false }
rail_of X = record { one = false; zero = false }

-- a signal's two bits on the vector at bit v of word w
abbrev pub rail_at : ℕ → ℕ → Rails → Rail
rail_at w v rails = record { one = word_bit v (word_of w rails.ones); zero = word_bit v (word_of w rails.zeros) }

-- those of each signal
abbrev pub rails_at : ℕ → ℕ → List Rails → List Rail
rails_at w v signals = map (rail_at w v) signals

-- NOT exchanges the two; AND is 1 where both are, and 0 where one is
abbrev pub rail_not : Rail → Rail
rail_not rail = record { one = rail.zero; zero = rail.one }

-- an AND of two values is 1 where both are, and 0 where one is
abbrev pub rail_and : Rail → Rail → Rail
rail_and rail other = record { one = rail.one && other.one; zero = rail.zero || other.zero }

-- what a literal has of its signal's value: the same, or its complement
abbrev pub signed_rail : Rail → Bool → Rail
signed_rail rail negated = if negated then rail_not rail else rail

-- gates over values of two bits; a signal that isn't there is X
abbrev pub rail_values : Operations Rail
rail_values = record { absent = rail_of X; signed = signed_rail; and = rail_and }

-- the same of all vectors at once
abbrev pub signed_rails : Rails → Bool → Rails
signed_rails rails negated = if negated then record { ones = rails.zeros; zeros = rails.ones } else rails

-- gates over eight words of each bit, 512 vectors at once
abbrev pub rails : Operations Rails
rails = record {
  absent = record { ones = []; zeros = [] };
  signed = signed_rails;
  and = λ one other. record { ones = each_lane 8 bit_and one.ones other.ones; zeros = each_lane 8 bit_or one.zeros other.zeros };
}
