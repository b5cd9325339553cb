-- The covers of a printed BLIF file, those of the gates and those of the outputs, as one list.
use Rattle.std.proofs.Common.{◌≡◌, ℕ, ◌+◌, ◌^◌, ◌<◌, ◌≤◌, List, [], ◌∷◌, ◌++◌, length, map, codes, All, refl, ap, ◌∙◌, arith}
use Rattle.std.proofs.lemmas.List.Elements.{All-nil, All-cons, All-head, All-tail, All-append}
use Rattle.circuits.specs.declared.netlist.Lit.{Lit}
use Rattle.circuits.specs.declared.netlist.Gate.{Gate}
use Rattle.circuits.specs.declared.definition.Def.{Def}
use Rattle.circuits.specs.Literals.{signal_of}
use Rattle.circuits.specs.Netlists.{Net}
use Rattle.net_print.specs.BlifLines.{row_byte, signal_name, gate_name, output_name, gates_lines, outputs_lines, declarations, blif_words}
use Rattle.print_laws.specs.Printable.{IsWithinLimits}
use Rattle.print_laws.specs.PrintedCircuits.{gate_cover, output_cover}
use Rattle.print_laws.proofs.BlifNames.{name, names}

-- the cover of gate t, or of output k
pub data Printed : Type 0 where
  OfGate : ℕ → Gate → Printed
  OfOutput : ℕ → Lit → Printed

abbrev pub name_of : Printed → List ℕ
name_of (OfGate t gate) = gate_name t
name_of (OfOutput k output) = output_name k

abbrev pub def_of : ℕ → Printed → Def
def_of n (OfGate t gate) = gate_cover n gate
def_of n (OfOutput k output) = output_cover n output

-- its two lines
abbrev pub names_words : ℕ → Printed → List (List ℕ)
names_words n (OfGate t gate) = codes ".names" ∷ signal_name n (signal_of gate.a) ∷ signal_name n (signal_of gate.b) ∷ gate_name t ∷ []
names_words n (OfOutput k output) = codes ".names" ∷ signal_name n (signal_of output) ∷ output_name k ∷ []

abbrev pub row_words : Printed → List (List ℕ)
row_words (OfGate t gate) = (row_byte gate.a ∷ row_byte gate.b ∷ []) ∷ codes "1" ∷ []
row_words (OfOutput k output) = (row_byte output ∷ []) ∷ codes "1" ∷ []

-- the lines of covers, and the last line of the file
abbrev pub covers_lines : ℕ → List Printed → List (List (List ℕ))
covers_lines n [] = (codes ".end" ∷ []) ∷ []
covers_lines n (cover ∷ covers) = names_words n cover ∷ row_words cover ∷ covers_lines n covers

-- the covers of gates or of outputs from a number on
abbrev pub numbered : {X : Type 0} → (ℕ → X → Printed) → ℕ → List X → List Printed
numbered make k [] = []
numbered make k (x ∷ xs) = make k x ∷ numbered make (k + 1) xs

abbrev pub printed_covers : Net → List Printed
printed_covers net = numbered OfGate 0 net.gates ++ numbered OfOutput 0 net.outputs

pub map_numbered : {X Y : Type 0} (make : ℕ → X → Printed) (f : Printed → Y) (g : X → Y) (k : ℕ) (xs : List X) → ((i : ℕ) (x : X) → f (make i x) ≡ g x) → map f (numbered make k xs) ≡ map g xs
map_numbered make f g k [] same = refl
map_numbered make f g k (x ∷ xs) same =
    ap (λ y. y ∷ map f (numbered make (k + 1) xs)) (same k x) ∙ ap (λ ys. g x ∷ ys) (map_numbered make f g (k + 1) xs same)

pub names_numbered : {X : Type 0} (make : ℕ → X → Printed) (letter k : ℕ) (xs : List X) → ((i : ℕ) (x : X) → name_of (make i x) ≡ name letter i) → map name_of (numbered make k xs) ≡ names letter k (length xs)
names_numbered make letter k [] same = refl
names_numbered make letter k (x ∷ xs) same =
    ap (λ w. w ∷ map name_of (numbered make (k + 1) xs)) (same k x) ∙ ap (λ ws. name letter k ∷ ws) (names_numbered make letter (k + 1) xs same)

pub length-numbered : {X : Type 0} (make : ℕ → X → Printed) (k : ℕ) (xs : List X) → length (numbered make k xs) ≡ length xs
length-numbered make k [] = refl
length-numbered make k (x ∷ xs) = omega (arith, length-numbered make (k + 1) xs)

-- what holds of each one with a number below a bound holds of all
all_numbered : {X : Type 0} (make : ℕ → X → Printed) (P : Printed → Type 0) (Q : X → Type 0) (bound k : ℕ) (xs : List X) → k + length xs ≤ bound → All Q xs → ((i : ℕ) (x : X) → i < bound → Q x → P (make i x)) → All P (numbered make k xs)
all_numbered make P Q bound k [] few all each = All-nil P
all_numbered make P Q bound k (x ∷ xs) few all each =
    All-cons P (make k x) (numbered make (k + 1) xs) (each k x (omega (arith, few)) (All-head Q x xs all))
    (all_numbered make P Q bound (k + 1) xs (omega (arith, few)) (All-tail Q x xs all) each)

-- its number has 32 bits, and it reads signals below a bound
abbrev pub ReadsBelow : ℕ → Printed → Type 0
ReadsBelow bound (OfGate t gate) = (t < 2 ^ 32) × (signal_of gate.a < bound) × (signal_of gate.b < bound)
ReadsBelow bound (OfOutput k output) = (k < 2 ^ 32) × (signal_of output < bound)

pub covers_read : (net : Net) → IsWithinLimits net → All (ReadsBelow (1 + net.inputs + length net.gates)) (printed_covers net)
covers_read net within =
    let bound = 1 + net.inputs + length net.gates in
    let P : Printed → Type 0 = ReadsBelow bound in
    let Both : Gate → Type 0 = λ gate. (signal_of gate.a < bound) × (signal_of gate.b < bound) in
    let One : Lit → Type 0 = λ output. signal_of output < bound in
    let gates = all_numbered OfGate P Both (2 ^ 32) 0 net.gates (omega (arith, within.gates)) (λ t d h. (omega (arith, within.ordered.first_operands t d h, h), omega (arith, within.ordered.second_operands t d h, h))) (λ t gate few reads. (few, reads.0, reads.1)) in
    let outputs = all_numbered OfOutput P One (2 ^ 32) 0 net.outputs (omega (arith, within.outputs)) within.ordered.outputs (λ k output few reads. (few, reads)) in
    All-append P (numbered OfGate 0 net.gates) (numbered OfOutput 0 net.outputs) gates outputs

-- the file's lines are the declarations and those of the covers
outputs_are : (n k : ℕ) (outputs : List Lit) → outputs_lines n k outputs ++ (codes ".end" ∷ []) ∷ [] ≡ covers_lines n (numbered OfOutput k outputs)
outputs_are n k [] = refl
outputs_are n k (output ∷ outputs) =
    let cover = OfOutput k output in ap (λ lines. names_words n cover ∷ row_words cover ∷ lines) (outputs_are n (k + 1) outputs)

gates_are : (n t : ℕ) (gates : List Gate) (rest : List (List (List ℕ))) (more : List Printed) → rest ≡ covers_lines n more → gates_lines n t gates ++ rest ≡ covers_lines n (numbered OfGate t gates ++ more)
gates_are n t [] rest more is = is
gates_are n t (gate ∷ gates) rest more is =
    let cover = OfGate t gate in ap (λ lines. names_words n cover ∷ row_words cover ∷ lines) (gates_are n (t + 1) gates rest more is)

pub words_are : (net : Net) → blif_words net ≡ declarations net ++ covers_lines net.inputs (printed_covers net)
words_are net =
    let n = net.inputs in
    ap (λ lines. declarations net ++ lines)
    (gates_are n 0 net.gates (outputs_lines n 0 net.outputs ++ (codes ".end" ∷ []) ∷ []) (numbered OfOutput 0 net.outputs) (outputs_are n 0 net.outputs))
