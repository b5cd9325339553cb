-- The netlist of the lines, by the signals of the variables.
use Rattle.std.proofs.Common.{◌≡◌, ℕ, ◌+◌, ◌*◌, ◌/◌, ◌%◌, ◌==◌, ◌<◌, ◌^◌, Bool, true, false, List, [], ◌∷◌, ◌++◌, length, length-append, map, inl, inr, take, drop, get_or, All, Contains, if◌then◌else◌, refl, sym, ap, ap₂, subst, ◌∙◌, arith, append_assoc}
use Rattle.std.specs.List.{position_or_len}
use Rattle.std.proofs.lemmas.Bool.{ne_eqb, eqb-false, cases_lt}
use Rattle.std.proofs.lemmas.Bool.Decides.{nat_tests}
use Rattle.std.proofs.lemmas.List.{length-map, get_or_default}
use Rattle.std.proofs.lemmas.List.Sums.{position_or_len_is}
use Rattle.std.proofs.lemmas.List.Elements.{All-head, All-tail}
use Rattle.std.proofs.lemmas.Simd.{map-map}
use Rattle.std.proofs.Math.Seq.{drop-append_seam, take-append_seam}
use Rattle.circuits.specs.declared.netlist.Lit.{Lit}
use Rattle.circuits.specs.declared.definition.Def.{Def}
use Rattle.circuits.specs.declared.definition.Def.TheVariants.{And}
use Rattle.circuits.proofs.Expansions.{map-agree}
use Rattle.aiger_reader.specs.declared.body.Literals.{Literals}
use Rattle.aiger_reader.specs.Headers.{AigerHeader}
use Rattle.aiger_reader.specs.Bodies.{roles_of, defined, first_of, IsKnown, IsKnownRow, literal_of, text_circuit}
use Rattle.aiger_reader.specs.Reading.{row_of, rows_of, input_lines_of, IsNumbering}
use Rattle.aiger_reader.specs.Numbered.{IsSound, lit_in, def_in, circuit_from}
use Rattle.aiger_reader.proofs.GoodLemmas.{defined_few}
use Rattle.aiger_reader.proofs.RoleLemmas.{length-rows_of, length-roles_of, roles_few}
use Rattle.aiger_reader.proofs.NumberingLemmas.{output_reads, gate_reads}

pub same_test : (n : ℕ) → (n == n) ≡ true
same_test n = grind (arith, nat_tests)

-- the place of a variable that is there
place_is : (greatest : ℕ) (variables signals : List ℕ) (v : ℕ) → IsNumbering greatest variables signals → Contains variables v → get_or signals v 0 ≡ 1 + position_or_len (λ w. w == v) variables
place_is greatest variables signals v numbering there =
    let i = there.0 in
    let here : get_or variables i 0 ≡ v = get_or_default variables i 0 v there.1 ∙ there.2 in
    let place : get_or signals v 0 ≡ i + 1 = ap (λ w. get_or signals w 0) (sym here) ∙ numbering.places i there.1 in
    let first = position_or_len_is (λ w. w == v) variables i 0 (omega (arith, there.1)) (λ k before. ne_eqb (get_or variables k 0) v (λ same. omega (arith, place, numbering.places k (omega (arith, there.1)), ap (λ w. get_or signals w 0) same))) (λ below. ap (λ w. w == v) here ∙ same_test v) in
    omega (arith, place, first)

by_test : (t : Bool) (a b : ℕ) → (t ≡ false → a ≡ b) → (if t then 0 else a) ≡ (if t then 0 else b)
by_test true a b same = refl
by_test false a b same = same refl

-- a known literal has the same number by the signals
literal_is : (greatest : ℕ) (variables signals : List ℕ) (literal : ℕ) → IsNumbering greatest variables signals → IsKnown variables literal → lit_in signals literal ≡ literal_of variables literal
literal_is greatest variables signals literal numbering is =
    let numbered : ℕ → Lit = λ n. record { 0 = 2 * n + literal % 2 } in
    ap numbered (by_test (literal / 2 == 0) (get_or signals (literal / 2) 0) (1 + position_or_len (λ w. w == literal / 2) variables) (λ e. place_is greatest variables signals (literal / 2) numbering (is (eqb-false (literal / 2) 0 e))))

-- the signals are small
pub places_small : (h : AigerHeader) (literals : Literals) (signals : List ℕ) → IsSound h literals signals → h.inputs + h.outputs + h.gates < 2 ^ 31 → All (λ place. place < 2 ^ 31) signals
places_small h literals signals sound few v d below =
    let rows = rows_of literals in
    let announced : length rows ≡ length (roles_of h) = omega (arith, length-rows_of literals, length-roles_of h, sound.counts.inputs_read, sound.counts.outputs_read, sound.counts.gates_read) in
    let few_places = defined_few (roles_of h) rows in
    let zeroth = get_or_default signals v d 0 below in
    elim (cases_lt 0 (get_or signals v 0)) [
      | inl some ↦
          let there = sound.numbered.others v some in
          let here = get_or_default (defined (roles_of h) rows) there.0 0 v there.1 ∙ there.2 in
          omega (arith, zeroth, sound.numbered.places there.0 there.1, ap (λ w. get_or signals w 0) here, there.1, few_places, announced, roles_few h, few)
      | inr none ↦ omega (arith, zeroth)
    ]

-- the rows of the outputs, and those of the gates
after_inputs : (h : AigerHeader) (literals : Literals) → length literals.inputs.items ≡ h.inputs → drop h.inputs (rows_of literals) ≡ map (λ literal. literal ∷ []) literals.outputs.items ++ map row_of literals.gates.items
after_inputs h literals count =
    let single : ℕ → List ℕ = λ literal. literal ∷ [] in
    let inputs = map single literals.inputs.items in
    let rest = map single literals.outputs.items ++ map row_of literals.gates.items in
    let e : h.inputs ≡ length inputs = omega (arith, length-map literals.inputs.items single) in
    ap (λ n. drop n (rows_of literals)) e ∙ (ap (drop (length inputs)) (append_assoc inputs (map single literals.outputs.items) (map row_of literals.gates.items)) ∙ drop-append_seam inputs rest)

after_outputs : (h : AigerHeader) (literals : Literals) → length literals.inputs.items ≡ h.inputs → length literals.outputs.items ≡ h.outputs → drop (h.inputs + h.outputs) (rows_of literals) ≡ map row_of literals.gates.items
after_outputs h literals inputs_read outputs_read =
    let single : ℕ → List ℕ = λ literal. literal ∷ [] in
    let front = map single literals.inputs.items ++ map single literals.outputs.items in
    let e : h.inputs + h.outputs ≡ length front = omega (arith, length-append (map single literals.inputs.items) (map single literals.outputs.items), length-map literals.inputs.items single, length-map literals.outputs.items single) in
    ap (λ n. drop n (rows_of literals)) e ∙ drop-append_seam front (map row_of literals.gates.items)

-- each output and each operand is known
pub outputs_are_known : (h : AigerHeader) (literals : Literals) (signals : List ℕ) → IsSound h literals signals → ((k : ℕ) → k < length (rows_of literals) → IsKnownRow h (rows_of literals) k) → All (IsKnown (defined (roles_of h) (rows_of literals))) literals.outputs.items
outputs_are_known h literals signals sound rows k d below =
    let variables = defined (roles_of h) (rows_of literals) in
    let row = rows (input_lines_of h + k) (omega (arith, length-rows_of literals, sound.counts.inputs_read)) in
    let all = subst (All (IsKnown variables)) (output_reads h literals signals k sound below) row in
    subst (IsKnown variables) (get_or_default literals.outputs.items k 0 d below) (All-head (IsKnown variables) (get_or literals.outputs.items k 0) [] all)

pub gates_are_known : (h : AigerHeader) (literals : Literals) (signals : List ℕ) → IsSound h literals signals → ((k : ℕ) → k < length (rows_of literals) → IsKnownRow h (rows_of literals) k) → All (λ line. IsKnown (defined (roles_of h) (rows_of literals)) line.a × IsKnown (defined (roles_of h) (rows_of literals)) line.b) literals.gates.items
gates_are_known h literals signals sound rows k d below =
    let variables = defined (roles_of h) (rows_of literals) in
    let line = get_or literals.gates.items k d in
    let row = rows (input_lines_of h + h.outputs + k) (omega (arith, length-rows_of literals, sound.counts.inputs_read, sound.counts.outputs_read)) in
    let all = subst (All (IsKnown variables)) (gate_reads h literals signals k d sound below) row in
    (All-head (IsKnown variables) line.a (line.b ∷ []) all, All-head (IsKnown variables) line.b [] (All-tail (IsKnown variables) line.a (line.b ∷ []) all))

pub circuit_is : (h : AigerHeader) (literals : Literals) (signals : List ℕ) → h.binary ≡ false → IsSound h literals signals → ((k : ℕ) → k < length (rows_of literals) → IsKnownRow h (rows_of literals) k) → circuit_from h.inputs (map (def_in signals) literals.gates.items) (map (lit_in signals) literals.outputs.items) ≡ text_circuit h (rows_of literals)
circuit_is h literals signals text sound rows =
    let single : ℕ → List ℕ = λ literal. literal ∷ [] in
    let variables = defined (roles_of h) (rows_of literals) in
    let count : length literals.inputs.items ≡ h.inputs = sound.counts.inputs_read ∙ ap (λ t. if t then 0 else h.inputs) text in
    let out_row : List ℕ → Lit = λ row. literal_of variables (first_of row) in
    let and_row : List ℕ → Def = λ row. And (literal_of variables (get_or row 1 0)) (literal_of variables (get_or row 2 0)) in
    let out_same : All (λ x. lit_in signals x ≡ literal_of variables x) literals.outputs.items = λ k d below. literal_is h.variables variables signals (get_or literals.outputs.items k d) sound.numbered (outputs_are_known h literals signals sound rows k d below) in
    let and_same : All (λ line. def_in signals line ≡ and_row (row_of line)) literals.gates.items = λ k d below. let known = gates_are_known h literals signals sound rows k d below in ap₂ And (literal_is h.variables variables signals (get_or literals.gates.items k d).a sound.numbered known.0) (literal_is h.variables variables signals (get_or literals.gates.items k d).b sound.numbered known.1) in
    let out_count : h.outputs ≡ length (map single literals.outputs.items) = omega (arith, sound.counts.outputs_read, length-map literals.outputs.items single) in
    let taken : take h.outputs (drop h.inputs (rows_of literals)) ≡ map single literals.outputs.items = ap (take h.outputs) (after_inputs h literals count) ∙ (ap (λ n. take n (map single literals.outputs.items ++ map row_of literals.gates.items)) out_count ∙ take-append_seam (map single literals.outputs.items) (map row_of literals.gates.items)) in
    let outputs : map (lit_in signals) literals.outputs.items ≡ map out_row (take h.outputs (drop h.inputs (rows_of literals))) = map-agree (lit_in signals) (literal_of variables) literals.outputs.items out_same ∙ (sym (map-map out_row single literals.outputs.items) ∙ ap (map out_row) (sym taken)) in
    let defs : map (def_in signals) literals.gates.items ≡ map and_row (drop (h.inputs + h.outputs) (rows_of literals)) = map-agree (def_in signals) (λ line. and_row (row_of line)) literals.gates.items and_same ∙ (sym (map-map and_row row_of literals.gates.items) ∙ ap (map and_row) (sym (after_outputs h literals count sound.counts.outputs_read))) in
    ap₂ (circuit_from h.inputs) defs outputs
