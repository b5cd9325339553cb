-- A netlist as the lines of a BLIF file (Berkeley Logic Interchange Format, 1992), each as its words: the constant is
-- the cover `z` without rows, and each gate and each output is a cover of one row.
use Rattle.std.specs.Prelude.{ℕ, ◌+◌, ◌-◌, ◌==◌, List, [], ◌∷◌, ◌++◌, length, map, codes, nat_lt, if◌then◌else◌}
use Rattle.std.specs.List.{join_with_byte, range_with_len, flat_map}
use Rattle.std.specs.Fmt.{decimal}
use Rattle.text_core.specs.Lines.{text_of_lines}
use Rattle.circuits.specs.declared.netlist.Lit.{Lit}
use Rattle.circuits.specs.declared.netlist.Gate.{Gate}
use Rattle.circuits.specs.Literals.{signal_of, is_negated}
use Rattle.circuits.specs.Netlists.{Net}

-- the name of an input: `i0`
abbrev pub input_name : ℕ → List ℕ
input_name input = 105 ∷ decimal input

-- the name of a gate: `g0`
abbrev pub gate_name : ℕ → List ℕ
gate_name gate = 103 ∷ decimal gate

-- the name of an output: `o0`
abbrev pub output_name : ℕ → List ℕ
output_name output = 111 ∷ decimal output

-- the name of a signal of a netlist with n inputs
abbrev pub signal_name : ℕ → ℕ → List ℕ
signal_name inputs signal =
    if signal == 0 then codes "z"
    else if nat_lt inputs signal then gate_name (signal - 1 - inputs)
    else input_name (signal - 1)

-- what a row requires of a literal's signal: `0` where the literal is negated, else `1`
abbrev pub row_byte : Lit → ℕ
row_byte literal = if is_negated literal then 48 else 49

-- the cover of a gate
abbrev pub gate_lines : ℕ → ℕ → Gate → List (List (List ℕ))
gate_lines inputs t gate =
    (codes ".names" ∷ signal_name inputs (signal_of gate.a) ∷ signal_name inputs (signal_of gate.b) ∷ gate_name t ∷ [])
    ∷ ((row_byte gate.a ∷ row_byte gate.b ∷ []) ∷ codes "1" ∷ [])
    ∷ []

-- the cover of an output
abbrev pub output_lines : ℕ → ℕ → Lit → List (List (List ℕ))
output_lines inputs k output =
    (codes ".names" ∷ signal_name inputs (signal_of output) ∷ output_name k ∷ [])
    ∷ ((row_byte output ∷ []) ∷ codes "1" ∷ [])
    ∷ []

-- the covers of gates or of outputs whose numbers begin at k
abbrev pub covers_from : {T : Type 0} → (ℕ → ℕ → T → List (List (List ℕ))) → ℕ → ℕ → List T → List (List (List ℕ))
covers_from {T} lines inputs k [] = []
covers_from {T} lines inputs k (first ∷ rest) = lines inputs k first ++ covers_from lines inputs (k + 1) rest

-- the covers of all gates
abbrev pub gates_lines : ℕ → ℕ → List Gate → List (List (List ℕ))
gates_lines = covers_from gate_lines

-- the covers of all outputs
abbrev pub outputs_lines : ℕ → ℕ → List Lit → List (List (List ℕ))
outputs_lines = covers_from output_lines

-- the line that declares ports: the directive, then their names
abbrev pub ports_line : List ℕ → ℕ → ℕ → List (List ℕ)
ports_line directive letter count = directive ∷ map (λ port. letter ∷ decimal port) (range_with_len 0 count)

-- the lines before the covers of the gates
abbrev pub declarations : Net → List (List (List ℕ))
declarations net =
    (codes ".model" ∷ codes "npnp" ∷ [])
    ∷ ports_line (codes ".inputs") 105 net.inputs
    ∷ ports_line (codes ".outputs") 111 (length net.outputs)
    ∷ (codes ".names" ∷ codes "z" ∷ [])
    ∷ []

-- all lines
abbrev pub blif_words : Net → List (List (List ℕ))
blif_words net =
    declarations net
    ++ (gates_lines net.inputs 0 net.gates ++ (outputs_lines net.inputs 0 net.outputs ++ (codes ".end" ∷ []) ∷ []))

-- lines of words, one blank between each two
abbrev pub words_text : List (List (List ℕ)) → List ℕ
words_text lines = text_of_lines (map (join_with_byte 32) lines)

-- the file
abbrev pub blif_text : Net → List ℕ
blif_text net = words_text (blif_words net)

-- names, each with a blank before it
abbrev pub names_text : ℕ → List ℕ → List ℕ
names_text letter ports = flat_map (λ port. 32 ∷ letter ∷ decimal port) ports

-- the beginning of a gate's cover
abbrev pub operands_text : ℕ → Gate → List ℕ
operands_text inputs gate =
    codes ".names " ++ (signal_name inputs (signal_of gate.a) ++ 32 ∷ (signal_name inputs (signal_of gate.b) ++ 32 ∷ []))
