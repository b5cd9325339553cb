-- Which line comes next, and the rows of the lines that are read.
use Rattle.std.proofs.Common.{◌≡◌, ℕ, ◌+◌, ◌-◌, ◌<◌, ◌≤◌, Bool, true, false, cond, List, [], ◌∷◌, ◌++◌, length, length-append, map, get_or, replicate, if◌then◌else◌, refl, sym, ap, ap₂, ◌∙◌, arith, append-nil, append_assoc}
use Rattle.std.proofs.lemmas.List.{length-map, map-append, length-replicate, get_or-replicate, get_or_append_left}
use Rattle.std.proofs.Math.Seq.{get_or-append_right}
use Rattle.aiger_reader.specs.declared.body.AndLine.{AndLine}
use Rattle.aiger_reader.specs.declared.body.Literals.{Literals}
use Rattle.aiger_reader.specs.Headers.{AigerHeader}
use Rattle.aiger_reader.specs.Bodies.{Role, Input, Output, Gate, roles_of, role_at, width_of, defines}
use Rattle.aiger_reader.specs.Reading.{row_of, rows_of, input_lines_of, gate_lines_of, IsNextLine, HasCounts}

-- n inputs, then outputs, then gates
abbrev roles : ℕ → ℕ → ℕ → List Role
roles i o g = replicate i Input ++ replicate o Output ++ replicate g Gate

roles_by : (binary : Bool) (i o g : ℕ) → (if binary then [] else replicate i Input) ++ replicate o Output ++ (if binary then [] else replicate g Gate) ≡ roles (if binary then 0 else i) o (if binary then 0 else g)
roles_by true i o g = refl
roles_by false i o g = refl

length-roles : (i o g : ℕ) → length (roles i o g) ≡ i + o + g
length-roles i o g =
    omega (arith, length-append (replicate i Input ++ replicate o Output) (replicate g Gate), length-append (replicate i Input) (replicate o Output), length-replicate i Input, length-replicate o Output, length-replicate g Gate)

-- the lines that a header announces
pub length-roles_of : (h : AigerHeader) → length (roles_of h) ≡ input_lines_of h + h.outputs + gate_lines_of h
length-roles_of h =
    ap length (roles_by h.binary h.inputs h.outputs h.gates) ∙ length-roles (input_lines_of h) h.outputs (gate_lines_of h)

pub roles_few : (h : AigerHeader) → length (roles_of h) ≤ h.inputs + h.outputs + h.gates
roles_few h =
    let few : (binary : Bool) (n : ℕ) → (if binary then 0 else n) ≤ n = λ binary n. elim binary as (λ t. cond t 0 n ≤ n) [ true ↦ omega arith | false ↦ omega arith ] in
    omega (arith, length-roles_of h, few h.binary h.inputs, few h.binary h.gates)

pub input_role : (i o g k : ℕ) → k < i → get_or (roles i o g) k Output ≡ Input
input_role i o g k below =
    get_or_append_left (replicate i Input ++ replicate o Output) (replicate g Gate) Output k (omega (arith, length-append (replicate i Input) (replicate o Output), length-replicate i Input))
    ∙ (get_or_append_left (replicate i Input) (replicate o Output) Output k (omega (arith, length-replicate i Input)) ∙ get_or-replicate i k Input Output below)

pub output_role : (i o g k : ℕ) → i ≤ k → k < i + o → get_or (roles i o g) k Output ≡ Output
output_role i o g k from below =
    let inputs = length-replicate i Input in
    get_or_append_left (replicate i Input ++ replicate o Output) (replicate g Gate) Output k (omega (arith, length-append (replicate i Input) (replicate o Output), inputs, length-replicate o Output))
    ∙ (get_or-append_right (replicate i Input) (replicate o Output) k Output (omega (arith, inputs)) ∙ get_or-replicate o (k - length (replicate i Input)) Output Output (omega (arith, inputs)))

pub gate_role : (i o g k : ℕ) → i + o ≤ k → k < i + o + g → get_or (roles i o g) k Output ≡ Gate
gate_role i o g k from below =
    let front = replicate i Input ++ replicate o Output in
    let count : length front ≡ i + o = omega (arith, length-append (replicate i Input) (replicate o Output), length-replicate i Input, length-replicate o Output) in
    get_or-append_right front (replicate g Gate) k Output (omega arith) ∙ get_or-replicate g (k - length front) Gate Output (omega arith)

pub length-rows_of : (literals : Literals) → length (rows_of literals) ≡ length literals.inputs.items + length literals.outputs.items + length literals.gates.items
length-rows_of literals =
    let one : ℕ → List ℕ = λ literal. literal ∷ [] in
    let inputs = literals.inputs.items in
    let outputs = literals.outputs.items in
    let gates = literals.gates.items in
    omega (arith, length-append (map one inputs ++ map one outputs) (map row_of gates), length-append (map one inputs) (map one outputs), length-map inputs one, length-map outputs one, length-map gates row_of)

next_line_as : (h : AigerHeader) (rows : List (List ℕ)) (role : Role) → length rows < length (roles_of h) → role_at h (length rows) ≡ role → IsNextLine h rows (width_of role) (defines role)
next_line_as h rows role announced is =
    record { announced = announced; wide = ap width_of is; role = ap defines is }

pub role_is : (h : AigerHeader) (k : ℕ) → role_at h k ≡ get_or (roles (input_lines_of h) h.outputs (gate_lines_of h)) k Output
role_is h k = ap (λ rs. get_or rs k Output) (roles_by h.binary h.inputs h.outputs h.gates)

pub next_output : (h : AigerHeader) (literals : Literals) (n : ℕ) → HasCounts literals (input_lines_of h) n 0 → n < h.outputs → IsNextLine h (rows_of literals) 1 false
next_output h literals n counts below =
    let count : length (rows_of literals) ≡ input_lines_of h + n = omega (arith, length-rows_of literals, counts.inputs_read, counts.outputs_read, counts.gates_read) in
    next_line_as h (rows_of literals) Output (omega (arith, count, length-roles_of h, below)) (role_is h (length (rows_of literals)) ∙ output_role (input_lines_of h) h.outputs (gate_lines_of h) (length (rows_of literals)) (omega (arith, count)) (omega (arith, count, below)))

abbrev rows_from : List ℕ → List ℕ → List AndLine → List (List ℕ)
rows_from inputs outputs gates =
    map (λ literal. literal ∷ []) inputs ++ map (λ literal. literal ∷ []) outputs ++ map row_of gates

more_input : (inputs outputs : List ℕ) (gates : List AndLine) (literal : ℕ) → length outputs ≡ 0 → length gates ≡ 0 → rows_from (inputs ++ literal ∷ []) outputs gates ≡ rows_from inputs outputs gates ++ (literal ∷ []) ∷ []
more_input inputs (o ∷ os) gates literal none nor = absurd (omega arith)
more_input inputs [] (g ∷ gs) literal none nor = absurd (omega arith)
more_input inputs [] [] literal none nor =
    let one : ℕ → List ℕ = λ n. n ∷ [] in
    simp append-nil (map-append one inputs (literal ∷ []))

more_output : (inputs outputs : List ℕ) (gates : List AndLine) (literal : ℕ) → length gates ≡ 0 → rows_from inputs (outputs ++ literal ∷ []) gates ≡ rows_from inputs outputs gates ++ (literal ∷ []) ∷ []
more_output inputs outputs (g ∷ gs) literal none = absurd (omega arith)
more_output inputs outputs [] literal none =
    let one : ℕ → List ℕ = λ n. n ∷ [] in
    simp append-nil (ap (λ rows. map one inputs ++ rows) (map-append one outputs (literal ∷ [])) ∙ sym (append_assoc (map one inputs) (map one outputs) (one literal ∷ [])))

more_gate : (inputs outputs : List ℕ) (gates : List AndLine) (gate : AndLine) → rows_from inputs outputs (gates ++ gate ∷ []) ≡ rows_from inputs outputs gates ++ row_of gate ∷ []
more_gate inputs outputs gates gate =
    let one : ℕ → List ℕ = λ n. n ∷ [] in
    let front = map one inputs ++ map one outputs in
    ap (λ rows. front ++ rows) (map-append row_of gates (gate ∷ [])) ∙ sym (append_assoc front (map row_of gates) (row_of gate ∷ []))

one_of : (row : List ℕ) → length row ≡ 1 → get_or row 0 0 ∷ [] ≡ row
one_of (a ∷ []) h = refl
one_of row h = absurd (omega arith)

three_of : (row : List ℕ) → length row ≡ 3 → get_or row 0 0 ∷ get_or row 1 0 ∷ get_or row 2 0 ∷ [] ≡ row
three_of (a ∷ b ∷ c ∷ []) h = refl
three_of row h = absurd (omega arith)

-- one line more
pub rows_input : (old new : Literals) (row : List ℕ) → length row ≡ 1 → new.inputs.items ≡ old.inputs.items ++ get_or row 0 0 ∷ [] → new.outputs.items ≡ old.outputs.items → new.gates.items ≡ old.gates.items → length old.outputs.items ≡ 0 → length old.gates.items ≡ 0 → rows_of new ≡ rows_of old ++ row ∷ []
rows_input old new row wide inputs outputs gates none nor =
    let e = one_of row wide in
    let whole : rows_of new ≡ rows_from (old.inputs.items ++ get_or row 0 0 ∷ []) old.outputs.items old.gates.items = ap (λ xs. rows_from xs new.outputs.items new.gates.items) inputs ∙ ap₂ (rows_from (old.inputs.items ++ get_or row 0 0 ∷ [])) outputs gates in
    whole ∙ (more_input old.inputs.items old.outputs.items old.gates.items (get_or row 0 0) none nor ∙ ap (λ r. rows_of old ++ r ∷ []) e)

pub rows_output : (old new : Literals) (row : List ℕ) → length row ≡ 1 → new.inputs.items ≡ old.inputs.items → new.outputs.items ≡ old.outputs.items ++ get_or row 0 0 ∷ [] → new.gates.items ≡ old.gates.items → length old.gates.items ≡ 0 → rows_of new ≡ rows_of old ++ row ∷ []
rows_output old new row wide inputs outputs gates none =
    let e = one_of row wide in
    let whole : rows_of new ≡ rows_from old.inputs.items (old.outputs.items ++ get_or row 0 0 ∷ []) old.gates.items = ap (λ xs. rows_from xs new.outputs.items new.gates.items) inputs ∙ ap₂ (rows_from old.inputs.items) outputs gates in
    whole ∙ (more_output old.inputs.items old.outputs.items old.gates.items (get_or row 0 0) none ∙ ap (λ r. rows_of old ++ r ∷ []) e)

pub rows_gate : (old new : Literals) (row : List ℕ) → length row ≡ 3 → new.inputs.items ≡ old.inputs.items → new.outputs.items ≡ old.outputs.items → new.gates.items ≡ old.gates.items ++ (record { lhs = get_or row 0 0; a = get_or row 1 0; b = get_or row 2 0 }) ∷ [] → rows_of new ≡ rows_of old ++ row ∷ []
rows_gate old new row wide inputs outputs gates =
    let gate : AndLine = record { lhs = get_or row 0 0; a = get_or row 1 0; b = get_or row 2 0 } in
    let e = three_of row wide in
    let whole : rows_of new ≡ rows_from old.inputs.items old.outputs.items (old.gates.items ++ gate ∷ []) = ap (λ xs. rows_from xs new.outputs.items new.gates.items) inputs ∙ ap₂ (rows_from old.inputs.items) outputs gates in
    whole ∙ (more_gate old.inputs.items old.outputs.items old.gates.items gate ∙ ap (λ r. rows_of old ++ r ∷ []) e)
