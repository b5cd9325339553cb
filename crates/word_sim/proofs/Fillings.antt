-- Values and the vectors that fill them in: what holds of the inputs holds of the gates, one after the other.
use Rattle.std.proofs.Common.{ℕ, zero, suc, ◌+◌, ◌<◌, ◌≤◌, ◌≡◌, ◌⊎◌, Bool, true, false, cond, ◌&&◌, List, [], ◌∷◌, ◌++◌, length, get_or, map, All, refl, sym, ap, subst, ◌∙◌, inl, inr, arith}
use Rattle.std.proofs.Math.Bool.{and-false}
use Rattle.std.proofs.lemmas.Bool.{cases_lt}
use Rattle.std.proofs.lemmas.List.{length_push, get_or_append_left, get_or_push}
use Rattle.circuits.specs.declared.netlist.Lit.{Lit}
use Rattle.circuits.specs.declared.netlist.Gate.{Gate}
use Rattle.circuits.specs.Literals.{bit, differ, signal_of, is_negated, literal_bit}
use Rattle.circuits.specs.Netlists.{Net, IsOrdered, gate_bit, with_gates, function_of}
use Rattle.circuits.proofs.Expansions.{differ_false}
use Rattle.circuits.proofs.Valuations.{ReadsBelow, first_operand, second_operand, ReadsBelow-tail, ReadsBelow-start, length-with_gates}
use Rattle.word_sim.specs.declared.tri.Tri.{Tri}
use Rattle.word_sim.specs.declared.tri.Tri.TheVariants.{Zero, One, X}
use Rattle.word_sim.specs.ThreeValues.{FillsIn, IsBitOf, tri_not, tri_and, tri_literal, tri_gate, with_tri_gates, tri_outputs}

IsBitOf-not : (value : Tri) (b : Bool) → IsBitOf value b → IsBitOf (tri_not value) (differ b true)
IsBitOf-not Zero b is = subst (λ c. differ c true ≡ true) (sym is) refl
IsBitOf-not One b is = subst (λ c. differ c true ≡ false) (sym is) refl
IsBitOf-not X b is = tt

IsBitOf-and : (one other : Tri) (b c : Bool) → IsBitOf one b → IsBitOf other c → IsBitOf (tri_and one other) (b && c)
IsBitOf-and Zero Zero b c is also = ap (λ d. d && c) is
IsBitOf-and Zero One b c is also = ap (λ d. d && c) is
IsBitOf-and Zero X b c is also = ap (λ d. d && c) is
IsBitOf-and One Zero b c is also = ap (λ d. b && d) also ∙ and-false b
IsBitOf-and One One b c is also = ap (λ d. d && c) is ∙ also
IsBitOf-and One X b c is also = tt
IsBitOf-and X Zero b c is also = ap (λ d. b && d) also ∙ and-false b
IsBitOf-and X One b c is also = tt
IsBitOf-and X X b c is also = tt

signed : (negated : Bool) (value : Tri) (b : Bool) → IsBitOf value b → IsBitOf (cond negated (tri_not value) value) (differ b negated)
signed true value b is = IsBitOf-not value b is
signed false value b is = subst (IsBitOf value) (sym (differ_false b)) is

-- a literal's bit is one that its value stands for
pub IsBitOf-literal : (values : List Tri) (vector : List Bool) (literal : Lit) → FillsIn values vector → signal_of literal < length values → IsBitOf (tri_literal values literal) (literal_bit vector literal)
IsBitOf-literal values vector literal fills h =
    signed (is_negated literal) (get_or values (signal_of literal) X) (bit vector (signal_of literal)) (fills.bits (signal_of literal) h)

pub FillsIn-push : (values : List Tri) (vector : List Bool) (value : Tri) (b : Bool) → FillsIn values vector → IsBitOf value b → FillsIn (values ++ value ∷ []) (vector ++ b ∷ [])
FillsIn-push values vector value b fills is = record {
  places = omega (arith, length_push values value, length_push vector b, fills.places);
  bits = λ k l. at k l (cases_lt k (length values));
}
  where
    at : (k : ℕ) → k < length (values ++ value ∷ []) → (k < length values) ⊎ (length values ≤ k) → IsBitOf (get_or (values ++ value ∷ []) k X) (bit (vector ++ b ∷ []) k)
    at k l (inl less) =
        subst (λ t. IsBitOf t (bit (vector ++ b ∷ []) k)) (sym (get_or_append_left values (value ∷ []) X k less)) (subst (IsBitOf (get_or values k X)) (sym (get_or_append_left vector (b ∷ []) false k (omega (arith, fills.places)))) (fills.bits k less))
    at k l (inr past) =
        let e : length values ≡ k = omega (arith, length_push values value) in
        subst (λ t. IsBitOf t (bit (vector ++ b ∷ []) k)) (sym (get_or_push values value X k e)) (subst (IsBitOf value) (sym (get_or_push vector b false k (fills.places ∙ e))) is)

pub FillsIn-gates : (values : List Tri) (vector : List Bool) (gates : List Gate) → FillsIn values vector → ReadsBelow (length vector) first_operand gates → ReadsBelow (length vector) second_operand gates → FillsIn (with_tri_gates values gates) (with_gates vector gates)
FillsIn-gates values vector [] fills a b = fills
FillsIn-gates values vector (gate ∷ gates) fills a b =
    let first : 0 < length (gate ∷ gates) = omega arith in
    let one = IsBitOf-literal values vector gate.a fills (omega (arith, a 0 gate first, fills.places)) in
    let other = IsBitOf-literal values vector gate.b fills (omega (arith, b 0 gate first, fills.places)) in
    let is = IsBitOf-and (tri_literal values gate.a) (tri_literal values gate.b) (literal_bit vector gate.a) (literal_bit vector gate.b) one other in
    FillsIn-gates (values ++ tri_gate values gate ∷ []) (vector ++ gate_bit vector gate ∷ []) gates (FillsIn-push values vector (tri_gate values gate) (gate_bit vector gate) fills is) (ReadsBelow-tail vector (gate_bit vector gate) first_operand gate gates a) (ReadsBelow-tail vector (gate_bit vector gate) second_operand gate gates b)

pub FillsIn-cons : (values : List Tri) (vector : List Bool) (value : Tri) (b : Bool) → FillsIn values vector → IsBitOf value b → FillsIn (value ∷ values) (b ∷ vector)
FillsIn-cons values vector value b fills is = record {
  places = omega (arith, fills.places);
  bits = λ k l. at k l;
}
  where
    at : (k : ℕ) → k < length (value ∷ values) → IsBitOf (get_or (value ∷ values) k X) (bit (b ∷ vector) k)
    at zero l = is
    at (suc k) l = fills.bits k (omega arith)

FillsIn-literals : (values : List Tri) (vector : List Bool) (literals : List Lit) → FillsIn values vector → All (λ literal. signal_of literal < length values) literals → FillsIn (map (tri_literal values) literals) (map (literal_bit vector) literals)
FillsIn-literals values vector [] fills below = record { places = refl; bits = λ k l. absurd (omega arith) }
FillsIn-literals values vector (literal ∷ literals) fills below =
    let rest : All (λ l. signal_of l < length values) literals = λ k d h. below (suc k) d (omega arith) in
    FillsIn-cons (map (tri_literal values) literals) (map (literal_bit vector) literals) (tri_literal values literal) (literal_bit vector literal) (FillsIn-literals values vector literals fills rest) (IsBitOf-literal values vector literal fills (below 0 literal (omega arith)))

-- what holds of the inputs holds of the outputs
pub FillsIn-outputs : (net : Net) (values : List Tri) (vector : List Bool) → IsOrdered net → length values ≡ net.inputs → FillsIn values vector → FillsIn (tri_outputs net values) (function_of net vector)
FillsIn-outputs net values vector ordered len fills =
    let inputs : length vector ≡ net.inputs = fills.places ∙ len in
    let start = FillsIn-cons values vector Zero false fills refl in
    let whole = FillsIn-gates (Zero ∷ values) (false ∷ vector) net.gates start (ReadsBelow-start net.inputs vector first_operand net.gates inputs ordered.first_operands) (ReadsBelow-start net.inputs vector second_operand net.gates inputs ordered.second_operands) in
    let signals : length (with_tri_gates (Zero ∷ values) net.gates) ≡ 1 + net.inputs + length net.gates = omega (arith, whole.places, length-with_gates (false ∷ vector) net.gates, inputs) in
    let below : All (λ l. signal_of l < length (with_tri_gates (Zero ∷ values) net.gates)) net.outputs = λ k d h. omega (arith, signals, ordered.outputs k d h) in
    FillsIn-literals (with_tri_gates (Zero ∷ values) net.gates) (with_gates (false ∷ vector) net.gates) net.outputs whole below
