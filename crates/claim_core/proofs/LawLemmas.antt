-- The bits of the literals that stand for a circuit's signals, and of three clauses of a gate.
use Rattle.std.proofs.Common.{[], ◌≡◌, ℕ, suc, ◌+◌, ◌*◌, ◌/◌, ◌-◌, ◌%◌, ◌<◌, ◌&&◌, ◌||◌, not, cond, Bool, true, false, List, ◌∷◌, length, map, All, slice_index_or, refl, sym, ◌∙◌, ap, arith}
use Rattle.std.specs.Bool.{beq}
use Rattle.std.specs.List.{AllByRecursion}
use Rattle.std.proofs.Math.ListN.{get_or-map as get_or_map_default}
use Rattle.std.proofs.lemmas.List.{get_or-map, get_or_default}
use Rattle.std.proofs.lemmas.List.FromFn.{get_or-map-range_with_len}
use Rattle.std.proofs.lemmas.Bool.{false≢true}
use Rattle.circuits.specs.declared.netlist.Lit.{Lit}
use Rattle.circuits.specs.Literals.{bit, differ, signal_of, plain_literal, is_negated as inverts, literal_bit as signal_bit}
use Rattle.circuits.specs.Netlists.{IsOrdered}
use Rattle.circuits.proofs.Expansions.{literal_bit-plain, literal_bit-inverse}
use Rattle.cnf_core.specs.declared.literal.SatLit.{SatLit}
use Rattle.cnf_core.specs.Clauses.{is_met, literal_bit, literal_of, opposite}
use Rattle.cnf_core.proofs.DerivationLaws.{opposite_bit}
use Rattle.net_core.specs.Sides.{Graphs}
use Rattle.net_core.specs.declared.graphs.Side.{Side}
use Rattle.net_core.specs.declared.graphs.Side.TheVariants.{First, Second}
use Rattle.net_core.specs.Graph.{IsGraph}
use Rattle.net_core.specs.Sides.{graph_of}
use Rattle.claim_core.specs.declared.query.Feed.{Feed}
use Rattle.claim_core.specs.declared.query.Feed.TheVariants.{Fixed, Wire}
use Rattle.claim_core.specs.Queries.{feed_bit, vector_in, IsWired}
use Rattle.claim_core.specs.Formulas.{false_literal, feed_literal, signal_literals, stand_in, stands_for}
use Rattle.claim_core.proofs.FormulaLemmas.{stand_in_input}

-- the bit of a variable's literal
pub not_is : (b : Bool) → not b ≡ beq b false
not_is true = refl
not_is false = refl

pub is_itself : (b : Bool) → b ≡ beq b true
is_itself true = refl
is_itself false = refl

pub literal_of_bit : (a : List Bool) (v : ℕ) (b : Bool) → literal_bit a (literal_of v b) ≡ beq (bit a v) b
literal_of_bit a v true = literal_bit-plain a v ∙ is_itself (bit a v)
literal_of_bit a v false =
    let number : 2 * v + 1 ≡ 2 * (2 * v / 2) + (1 - 2 * v % 2) = omega arith in
    ap (λ n. signal_bit a (record { 0 = n })) number ∙ (literal_bit-inverse a (plain_literal v) ∙ (ap not (literal_bit-plain a v) ∙ not_is (bit a v)))

-- what an input gets
beq_true : (b : Bool) → beq true b ≡ b
beq_true true = refl
beq_true false = refl

beq_not : (y f : Bool) → beq y (not f) ≡ differ y f
beq_not true true = refl
beq_not true false = refl
beq_not false true = refl
beq_not false false = refl

pub fed_bit : (a : List Bool) (n : ℕ) (feed : Feed) → bit a 0 ≡ true → IsWired n feed → literal_bit a (feed_literal feed) ≡ feed_bit (vector_in n a) feed
fed_bit a n (Fixed b) first wired = literal_of_bit a 0 b ∙ (ap (λ t. beq t b) first ∙ beq_true b)
fed_bit a n (Wire place flip) first wired =
    let same = get_or-map-range_with_len (λ i. bit a (1 + i)) 0 n place place false wired (omega arith) in
    literal_of_bit a (1 + place) (not flip) ∙ (beq_not (bit a (1 + place)) flip ∙ ap (λ y. differ y flip) (sym same))

-- the bit of an input's literal is what the input gets
pub input_bit : (a : List Bool) (n : ℕ) (feed : List Feed) (variables : List ℕ) (i : ℕ) → bit a 0 ≡ true → All (IsWired n) feed → i < length feed → literal_bit a (stand_in (signal_literals feed variables) (suc i)) ≡ bit (map (feed_bit (vector_in n a)) feed) i
input_bit a n feed variables i first wired here =
    let none : Feed = Fixed false in
    let f = slice_index_or feed i none in
    ap (literal_bit a) (sym (stand_in_input feed variables i f here (get_or_default feed i none f here)))
    ∙ (fed_bit a n f first (wired i none here) ∙ sym (get_or-map (feed_bit (vector_in n a)) feed i none false here))

pub false_there : (a : List Bool) → bit a 0 ≡ true → literal_bit a false_literal ≡ false
false_there a first = literal_of_bit a 0 false ∙ ap (λ t. beq t false) first

-- the bits of the literals that stand in, as a valuation
pub signal_there : (a : List Bool) (literals : List SatLit) (s : ℕ) → bit a 0 ≡ true → bit (map (literal_bit a) literals) s ≡ literal_bit a (stand_in literals s)
signal_there a literals s first =
    ap (slice_index_or (map (literal_bit a) literals) s) (sym (false_there a first)) ∙ get_or_map_default (literal_bit a) literals s false_literal

pub by_sign : (s y : Bool) → differ y s ≡ cond s (not y) y
by_sign true true = refl
by_sign true false = refl
by_sign false true = refl
by_sign false false = refl

pub chosen : (a : List Bool) (literals : List SatLit) (l : Lit) (s : Bool) → cond s (not (literal_bit a (stand_in literals (signal_of l)))) (literal_bit a (stand_in literals (signal_of l))) ≡ literal_bit a (cond s (opposite (stand_in literals (signal_of l))) (stand_in literals (signal_of l)))
chosen a literals l true = sym (opposite_bit a (stand_in literals (signal_of l)))
chosen a literals l false = refl

pub literal_there : (a : List Bool) (literals : List SatLit) (l : Lit) → bit a 0 ≡ true → signal_bit (map (literal_bit a) literals) l ≡ literal_bit a (stands_for literals l)
literal_there a literals l first =
    ap (λ y. differ y (inverts l)) (signal_there a literals (signal_of l) first) ∙ (by_sign (inverts l) (literal_bit a (stand_in literals (signal_of l))) ∙ chosen a literals l (inverts l))

-- three clauses say that v is the AND of a and b
and_by : (v a b : Bool) → (not v || (a || false)) ≡ true → (not v || (b || false)) ≡ true → (v || (not a || (not b || false))) ≡ true → v ≡ (a && b)
and_by true true true x y z = refl
and_by true true false x y z = cc
and_by true false b x y z = cc
and_by false true true x y z = cc
and_by false true false x y z = refl
and_by false false b x y z = refl

abbrev pub AreMet : List Bool → List (List SatLit) → Type 0
AreMet a clauses = AllByRecursion (λ clause. is_met a clause ≡ true) clauses

pub gate_met : (a : List Bool) (v l m : SatLit) → is_met a (opposite v ∷ l ∷ []) ≡ true → is_met a (opposite v ∷ m ∷ []) ≡ true → is_met a (v ∷ opposite l ∷ opposite m ∷ []) ≡ true → literal_bit a v ≡ (literal_bit a l && literal_bit a m)
gate_met a v l m x y z =
    let p = literal_bit a v in
    let q = literal_bit a l in
    let r = literal_bit a m in
    and_by p q r (sym (ap (λ t. t || (q || false)) (opposite_bit a v)) ∙ x) (sym (ap (λ t. t || (r || false)) (opposite_bit a v)) ∙ y) (sym (ap (λ t. p || (t || (literal_bit a (opposite m) || false))) (opposite_bit a l) ∙ ap (λ t. p || (not q || (t || false))) (opposite_bit a m)) ∙ z)

-- the output has the value that its clause says
pub value_there : (b value : Bool) (l : SatLit) (a : List Bool) → literal_bit a l ≡ b → is_met a (cond value l (opposite l) ∷ []) ≡ true → b ≡ value
value_there true true l a same met = refl
value_there false false l a same met = refl
value_there false true l a same met = absurd (false≢true (sym (ap (λ t. t || false) same) ∙ met))
value_there true false l a same met = absurd (false≢true (sym (ap (λ t. t || false) (opposite_bit a l ∙ ap not same)) ∙ met))

pub ordered_side : (graphs : Graphs) (side : Side) → IsGraph graphs.first → IsGraph graphs.second → IsOrdered (graph_of graphs side)
ordered_side graphs First first second = first.ordered
ordered_side graphs Second first second = second.ordered
