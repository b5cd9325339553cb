-- Two bits for each of three values: the gates of rails are those of the values.
use Rattle.std.proofs.Common.{ℕ, ◌<◌, ◌≡◌, Bool, true, false, ◌&&◌, cond, List, map, replicate, bit_and, bit_or, refl, sym, ap, ◌∙◌}
use Rattle.std.proofs.lemmas.Simd.{get_or-replicate}
use Rattle.circuits.specs.Literals.{differ}
use Rattle.circuits.specs.Netlists.{Net}
use Rattle.net_core.specs.Values.{KeepsOperations, each_lane, output_values}
use Rattle.net_core.proofs.ValueLemmas.{lane_of_each, outputs_kept}
use Rattle.word_sim.specs.declared.rails.Rails.{Rails}
use Rattle.word_sim.specs.declared.tri.Tri.{Tri}
use Rattle.word_sim.specs.declared.tri.Tri.TheVariants.{Zero, One, X}
use Rattle.word_sim.specs.Columns.{word_bit, word_of}
use Rattle.word_sim.specs.Rails.{Rail, rail_and, rail_at, rail_not, rail_of, rail_values, rails, rails_at, signed_rail, signed_rails}
use Rattle.word_sim.specs.ThreeValues.{tri_and, tri_not, tris, of_bit}
use Rattle.word_sim.proofs.Lanes.{and-bit, or-bit, zero-bit}

rail_of-not : (value : Tri) → rail_of (tri_not value) ≡ rail_not (rail_of value)
rail_of-not Zero = refl
rail_of-not One = refl
rail_of-not X = refl

rail_of-signed : (negated : Bool) (value : Tri) → rail_of (cond negated (tri_not value) value) ≡ signed_rail (rail_of value) negated
rail_of-signed true value = rail_of-not value
rail_of-signed false value = refl

rail_of-and : (one other : Tri) → rail_of (tri_and one other) ≡ rail_and (rail_of one) (rail_of other)
rail_of-and Zero Zero = refl
rail_of-and Zero One = refl
rail_of-and Zero X = refl
rail_of-and One Zero = refl
rail_of-and One One = refl
rail_of-and One X = refl
rail_of-and X Zero = refl
rail_of-and X One = refl
rail_of-and X X = refl

-- values as rails, and the rails of one vector: the operations are kept
tri-rails : KeepsOperations tris rail_values rail_of
tri-rails = record { absent = refl; signed = λ value negated. rail_of-signed negated value; and = rail_of-and }

-- a known bit's rails
abbrev pub make : Bool → Bool → Rail
make a b = record { one = a; zero = b }

pub known-rail : (b z : Bool) → z ≡ differ b true → make b z ≡ rail_of (of_bit b)
known-rail true z is = ap (make true) is
known-rail false z is = ap (make false) is

rail_at-signed : (w v : ℕ) (one : Rails) (negated : Bool) → rail_at w v (signed_rails one negated) ≡ signed_rail (rail_at w v one) negated
rail_at-signed w v one true = refl
rail_at-signed w v one false = refl

vector-rails : (w v : ℕ) → w < 8 → KeepsOperations rails rail_values (rail_at w v)
vector-rails w v h = record {
  absent = ap (λ b. make b b) (zero-bit v);
  signed = rail_at-signed w v;
  and = λ one other.
      let ones = ap (word_bit v) (lane_of_each 8 bit_and one.ones other.ones w h) ∙ and-bit v (word_of w one.ones) (word_of w other.ones) in
      let zeros = ap (word_bit v) (lane_of_each 8 bit_or one.zeros other.zeros w h) ∙ or-bit v (word_of w one.zeros) (word_of w other.zeros) in
      ap (λ b. make b (word_bit v (word_of w (each_lane 8 bit_or one.zeros other.zeros)))) ones
      ∙ ap (make (word_bit v (word_of w one.ones) && word_bit v (word_of w other.ones))) zeros;
}

pub no-bit : (w v : ℕ) → w < 8 → word_bit v (word_of w (replicate 8 0)) ≡ false
no-bit w v h = ap (word_bit v) (get_or-replicate 8 w 0 0 h) ∙ zero-bit v

-- Where the signals before the gates have the rails of values, so have the outputs.
pub rails-outputs : (w v : ℕ) (net : Net) (signals : List Rails) (values : List Tri) → w < 8 → rails_at w v signals ≡ map rail_of values → rails_at w v (output_values rails net signals) ≡ map rail_of (output_values tris net values)
rails-outputs w v net signals values h known =
    outputs_kept rails rail_values (rail_at w v) (vector-rails w v h) net signals
    ∙ (ap (output_values rail_values net) known ∙ sym (outputs_kept tris rail_values rail_of tri-rails net values))
