-- What the lines read, by the signals of the variables.
use Rattle.std.proofs.Common.{◌≡◌, ◌≢◌, ℕ, ◌+◌, ◌-◌, ◌*◌, ◌/◌, ◌<◌, ◌≤◌, true, false, List, [], ◌∷◌, ◌++◌, length, length-append, map, get_or, All, inl, inr, sym, ap, subst, ◌∙◌, arith}
use Rattle.std.specs.List.{prefix_len}
use Rattle.std.proofs.lemmas.Bool.{cases_lt, cases_Bool}
use Rattle.std.proofs.Math.Bool.{and-eq-true_iff}
use Rattle.std.proofs.lemmas.Bool.Decides.{nat_tests}
use Rattle.std.proofs.lemmas.List.{length-map, get_or-map, get_or-append-add, get_or_append_left}
use Rattle.std.proofs.lemmas.List.Sums.{prefix_len_passes, prefix_len_stops}
use Rattle.std.proofs.lemmas.List.Elements.{All-nil, All-cons, All-head, All-tail}
use Rattle.aiger_reader.specs.declared.body.AndLine.{AndLine}
use Rattle.aiger_reader.specs.declared.body.Literals.{Literals}
use Rattle.aiger_reader.specs.Headers.{AigerHeader}
use Rattle.aiger_reader.specs.Bodies.{Gate, roles_of, role_at, defined, reads, IsKnown, IsKnownRow}
use Rattle.aiger_reader.specs.Reading.{row_of, rows_of, input_lines_of, gate_lines_of, IsNumbering}
use Rattle.aiger_reader.specs.Numbered.{AreWithin, IsSound, has_place, have_places}
use Rattle.aiger_reader.proofs.SignalLemmas.{known}
use Rattle.aiger_reader.proofs.RoleLemmas.{length-rows_of, input_role, output_role, gate_role, role_is}

-- the row of an output, and of a gate
pub output_at : (literals : Literals) (k d : ℕ) → k < length literals.outputs.items → get_or (rows_of literals) (length literals.inputs.items + k) [] ≡ get_or literals.outputs.items k d ∷ []
output_at literals k d below =
    let single : ℕ → List ℕ = λ literal. literal ∷ [] in
    let inputs = map single literals.inputs.items in
    let outputs = map single literals.outputs.items in
    let count : length inputs ≡ length literals.inputs.items = length-map literals.inputs.items single in
    let within : length literals.inputs.items + k < length (inputs ++ outputs) = omega (arith, count, length-append inputs outputs, length-map literals.outputs.items single) in
    get_or_append_left (inputs ++ outputs) (map row_of literals.gates.items) [] (length literals.inputs.items + k) within
    ∙ (ap (λ n. get_or (inputs ++ outputs) (n + k) []) (sym count) ∙ (get_or-append-add inputs outputs k [] ∙ get_or-map single literals.outputs.items k d [] below))

pub gate_at : (literals : Literals) (k : ℕ) (d : AndLine) → k < length literals.gates.items → get_or (rows_of literals) (length literals.inputs.items + length literals.outputs.items + k) [] ≡ row_of (get_or literals.gates.items k d)
gate_at literals k d below =
    let single : ℕ → List ℕ = λ literal. literal ∷ [] in
    let inputs = map single literals.inputs.items in
    let outputs = map single literals.outputs.items in
    let count : length (inputs ++ outputs) ≡ length literals.inputs.items + length literals.outputs.items = omega (arith, length-append inputs outputs, length-map literals.inputs.items single, length-map literals.outputs.items single) in
    ap (λ n. get_or (rows_of literals) (n + k) []) (sym count) ∙ (get_or-append-add (inputs ++ outputs) (map row_of literals.gates.items) k [] ∙ get_or-map row_of literals.gates.items k d [] below)

-- what a line reads
abbrev pub reads_at : AigerHeader → Literals → ℕ → List ℕ
reads_at h literals k = reads (role_at h k) (get_or (rows_of literals) k [])

input_reads : (h : AigerHeader) (literals : Literals) (k : ℕ) → k < input_lines_of h → reads_at h literals k ≡ []
input_reads h literals k below =
    ap (λ role. reads role (get_or (rows_of literals) k [])) (role_is h k ∙ input_role (input_lines_of h) h.outputs (gate_lines_of h) k below)

pub output_reads : (h : AigerHeader) (literals : Literals) (signals : List ℕ) (k : ℕ) → IsSound h literals signals → k < length literals.outputs.items → reads_at h literals (input_lines_of h + k) ≡ get_or literals.outputs.items k 0 ∷ []
output_reads h literals signals k sound below =
    let place = input_lines_of h + k in
    let role = role_is h place ∙ output_role (input_lines_of h) h.outputs (gate_lines_of h) place (omega arith) (omega (arith, sound.counts.outputs_read)) in
    ap (λ r. reads r (get_or (rows_of literals) place [])) role ∙ (ap (λ n. get_or (rows_of literals) (n + k) []) (sym sound.counts.inputs_read) ∙ output_at literals k 0 below)

pub gate_reads : (h : AigerHeader) (literals : Literals) (signals : List ℕ) (k : ℕ) (d : AndLine) → IsSound h literals signals → k < length literals.gates.items → reads_at h literals (input_lines_of h + h.outputs + k) ≡ (get_or literals.gates.items k d).a ∷ (get_or literals.gates.items k d).b ∷ []
gate_reads h literals signals k d sound below =
    let place = input_lines_of h + h.outputs + k in
    let role = role_is h place ∙ gate_role (input_lines_of h) h.outputs (gate_lines_of h) place (omega arith) (omega (arith, sound.counts.gates_read)) in
    let at : place ≡ length literals.inputs.items + length literals.outputs.items + k = omega (arith, sound.counts.inputs_read, sound.counts.outputs_read) in
    ap (λ r. reads r (get_or (rows_of literals) place [])) role ∙ ap (λ row. reads Gate row) (ap (λ n. get_or (rows_of literals) n []) at ∙ gate_at literals k d below)

-- a literal with a place is known, and one without is not
place_tells : (greatest : ℕ) (variables signals : List ℕ) (literal : ℕ) → IsNumbering greatest variables signals → has_place signals literal ≡ true → IsKnown variables literal
place_tells greatest variables signals literal numbering has = λ some.
    let placed : 0 < get_or signals (literal / 2) 0 = grind (arith, nat_tests) in
    numbering.others (literal / 2) placed

no_place_tells : (greatest : ℕ) (variables signals : List ℕ) (literal : ℕ) → IsNumbering greatest variables signals → has_place signals literal ≡ false → IsKnown variables literal → ⊥
no_place_tells greatest variables signals literal numbering has is =
    let some : literal / 2 ≢ 0 = grind (arith, nat_tests) in
    let free : get_or signals (literal / 2) 0 ≡ 0 = grind (arith, nat_tests) in
    known greatest variables signals (literal / 2) numbering free (is some)

-- the lines of the inputs, and of the first outputs, read what is there
pub outputs_known : (h : AigerHeader) (literals : Literals) (signals : List ℕ) (n : ℕ) → IsSound h literals signals → n ≡ prefix_len (has_place signals) literals.outputs.items → n ≤ length literals.outputs.items → (k : ℕ) → k < input_lines_of h + n → IsKnownRow h (rows_of literals) k
outputs_known h literals signals n sound is within k below =
    let variables = defined (roles_of h) (rows_of literals) in
    elim (cases_lt k (input_lines_of h)) [
      | inl before ↦ subst (All (IsKnown variables)) (sym (input_reads h literals k before)) (All-nil (IsKnown variables))
      | inr after ↦
          let place = k - input_lines_of h in
          let e : input_lines_of h + place ≡ k = omega arith in
          let has = prefix_len_passes (has_place signals) literals.outputs.items place 0 (omega arith) in
          let is_known = place_tells h.variables variables signals (get_or literals.outputs.items place 0) sound.numbered has in
          let all = All-cons (IsKnown variables) (get_or literals.outputs.items place 0) [] is_known (All-nil (IsKnown variables)) in
          subst (IsKnownRow h (rows_of literals)) e (subst (All (IsKnown variables)) (sym (output_reads h literals signals place sound (omega arith))) all)
    ]

pub output_unknown : (h : AigerHeader) (literals : Literals) (signals : List ℕ) (n : ℕ) → IsSound h literals signals → n ≡ prefix_len (has_place signals) literals.outputs.items → n < length literals.outputs.items → IsKnownRow h (rows_of literals) (input_lines_of h + n) → ⊥
output_unknown h literals signals n sound is below row =
    let variables = defined (roles_of h) (rows_of literals) in
    let has : has_place signals (get_or literals.outputs.items n 0) ≡ false = subst (λ m. has_place signals (get_or literals.outputs.items m 0) ≡ false) (sym is) (prefix_len_stops (has_place signals) literals.outputs.items 0 (omega arith)) in
    let all = subst (All (IsKnown variables)) (output_reads h literals signals n sound below) row in
    no_place_tells h.variables variables signals (get_or literals.outputs.items n 0) sound.numbered has (All-head (IsKnown variables) (get_or literals.outputs.items n 0) [] all)

-- and the lines of the first gates
pub gates_known : (h : AigerHeader) (literals : Literals) (signals : List ℕ) (n m : ℕ) → IsSound h literals signals → n ≡ prefix_len (has_place signals) literals.outputs.items → n ≡ length literals.outputs.items → m ≡ prefix_len (have_places signals) literals.gates.items → m ≤ length literals.gates.items → (k : ℕ) → k < input_lines_of h + n + m → IsKnownRow h (rows_of literals) k
gates_known h literals signals n m sound is all_outputs gates_is within k below =
    let variables = defined (roles_of h) (rows_of literals) in
    let d : AndLine = record { lhs = 0; a = 0; b = 0 } in
    elim (cases_lt k (input_lines_of h + n)) [
      | inl before ↦ outputs_known h literals signals n sound is (omega arith) k before
      | inr after ↦
          let place = k - (input_lines_of h + n) in
          let e : input_lines_of h + h.outputs + place ≡ k = omega (arith, sound.counts.outputs_read) in
          let line = get_or literals.gates.items place d in
          let both = (and-eq-true_iff (has_place signals line.a) (has_place signals line.b)).0 (prefix_len_passes (have_places signals) literals.gates.items place d (omega arith)) in
          let all = All-cons (IsKnown variables) line.a (line.b ∷ []) (place_tells h.variables variables signals line.a sound.numbered both.0) (All-cons (IsKnown variables) line.b [] (place_tells h.variables variables signals line.b sound.numbered both.1) (All-nil (IsKnown variables))) in
          subst (IsKnownRow h (rows_of literals)) e (subst (All (IsKnown variables)) (sym (gate_reads h literals signals place d sound (omega arith))) all)
    ]

known_tells : (greatest : ℕ) (variables signals : List ℕ) (literal : ℕ) → IsNumbering greatest variables signals → IsKnown variables literal → has_place signals literal ≡ true
known_tells greatest variables signals literal numbering is =
    elim (cases_Bool (has_place signals literal)) [ inl has ↦ has | inr free ↦ absurd (no_place_tells greatest variables signals literal numbering free is) ]

pub gate_unknown : (h : AigerHeader) (literals : Literals) (signals : List ℕ) (n m : ℕ) → IsSound h literals signals → n ≡ length literals.outputs.items → m ≡ prefix_len (have_places signals) literals.gates.items → input_lines_of h + n + m < length (rows_of literals) → IsKnownRow h (rows_of literals) (input_lines_of h + n + m) → ⊥
gate_unknown h literals signals n m sound all_outputs gates_is below row =
    let variables = defined (roles_of h) (rows_of literals) in
    let d : AndLine = record { lhs = 0; a = 0; b = 0 } in
    let few : m < length literals.gates.items = omega (arith, length-rows_of literals, sound.counts.inputs_read) in
    let line = get_or literals.gates.items m d in
    let has : have_places signals line ≡ false = subst (λ i. have_places signals (get_or literals.gates.items i d) ≡ false) (sym gates_is) (prefix_len_stops (have_places signals) literals.gates.items d (omega arith)) in
    let e : input_lines_of h + n + m ≡ input_lines_of h + h.outputs + m = omega (arith, sound.counts.outputs_read) in
    let all = subst (All (IsKnown variables)) (gate_reads h literals signals m d sound few) (subst (IsKnownRow h (rows_of literals)) e row) in
    let a = known_tells h.variables variables signals line.a sound.numbered (All-head (IsKnown variables) line.a (line.b ∷ []) all) in
    let b = known_tells h.variables variables signals line.b sound.numbered (All-head (IsKnown variables) line.b [] (All-tail (IsKnown variables) line.a (line.b ∷ []) all)) in
    let clash : true ≡ false = sym ((and-eq-true_iff (has_place signals line.a) (has_place signals line.b)).1 (a, b)) ∙ has in
    cc clash

-- the literals are of variables that have a signal or none
pub outputs_small : (h : AigerHeader) (literals : Literals) (signals : List ℕ) (k d : ℕ) → IsSound h literals signals → k < length literals.outputs.items → get_or literals.outputs.items k d ≤ 2 * h.variables + 1
outputs_small h literals signals k d sound below =
    let place = length literals.inputs.items + k in
    let small = subst (All (λ literal. literal ≤ 2 * h.variables + 1)) (output_at literals k d below) (sound.in_range place (omega (arith, length-rows_of literals))) in
    All-head (λ literal. literal ≤ 2 * h.variables + 1) (get_or literals.outputs.items k d) [] small

pub outputs_within : (h : AigerHeader) (literals : Literals) (signals : List ℕ) → IsSound h literals signals → All (λ literal. literal / 2 < length signals) literals.outputs.items
outputs_within h literals signals sound k d below =
    let here = outputs_small h literals signals k d sound below in
    omega (arith, here, sound.numbered.entries)

pub gates_within : (h : AigerHeader) (literals : Literals) (signals : List ℕ) → IsSound h literals signals → All (AreWithin signals) literals.gates.items
gates_within h literals signals sound k d below =
    let place = length literals.inputs.items + length literals.outputs.items + k in
    let line = get_or literals.gates.items k d in
    let fits : ℕ → Type 0 = λ literal. literal ≤ 2 * h.variables + 1 in
    let small = subst (All fits) (gate_at literals k d below) (sound.in_range place (omega (arith, length-rows_of literals))) in
    let two = All-tail fits line.lhs (line.a ∷ line.b ∷ []) small in
    let a : line.a ≤ 2 * h.variables + 1 = All-head fits line.a (line.b ∷ []) two in
    let b : line.b ≤ 2 * h.variables + 1 = All-head fits line.b [] (All-tail fits line.a (line.b ∷ []) two) in
    (omega (arith, a, sound.numbered.entries), omega (arith, b, sound.numbered.entries))
