-- The netlist of the ASCII form is closed: each literal that its lines read is of a signal.
use Rattle.std.proofs.Common.{◌≡◌, ℕ, ◌+◌, ◌*◌, ◌/◌, ◌%◌, ◌==◌, ◌<◌, ◌≤◌, Bool, true, false, List, [], ◌∷◌, ◌++◌, length, length-drop, length-take, take, drop, replicate, get_or, All, Contains, inl, inr, if◌then◌else◌, refl, sym, ap, subst, ◌∙◌, arith}
use Rattle.std.specs.List.{position_or_len, sum_by}
use Rattle.std.proofs.lemmas.Bool.{cases_lt, eqb-false}
use Rattle.std.proofs.lemmas.Grind.{get_or_after_one}
use Rattle.std.proofs.lemmas.List.{length-map, length-replicate, get_or_default, get_or_past, get_or-drop, get_or-take}
use Rattle.std.proofs.lemmas.List.Elements.{All-nil, All-cons, All-map, All-replicate}
use Rattle.std.proofs.lemmas.List.Sums.{fails_before_first, sum_by-append, sum_by-cons, sum_by-le}
use Rattle.circuits.specs.Literals.{signal_of}
use Rattle.circuits.specs.Circuits.{HasWideRows, IsClosed, named_by, signals_in}
use Rattle.aiger_reader.specs.Headers.{AigerHeader}
use Rattle.aiger_reader.specs.Bodies.{Role, Input, Output, Gate, roles_of, role_at, defines, defined, first_of, reads, IsKnown, IsKnownRow, literal_of, and_on, text_circuit}
use Rattle.aiger_reader.specs.Reading.{input_lines_of, gate_lines_of}
use Rattle.aiger_reader.proofs.CircuitLemmas.{same_test}
use Rattle.aiger_reader.proofs.RoleLemmas.{length-roles_of, role_is, output_role, gate_role}

-- how many variables a line defines
abbrev count_of : Role → ℕ
count_of role = if defines role then 1 else 0

few_same : (role : Role) (most n : ℕ) → count_of role ≤ most → sum_by count_of (replicate n role) ≤ n * most
few_same role most n few =
    subst (λ k. sum_by count_of (replicate n role) ≤ k * most) (length-replicate n role) (sum_by-le count_of most (replicate n role) (All-replicate (λ r. count_of r ≤ most) n role few))

counts_by : (binary : Bool) (i o g : ℕ) → sum_by count_of ((if binary then [] else replicate i Input) ++ replicate o Output ++ (if binary then [] else replicate g Gate)) ≤ i + g
counts_by true i o g =
    omega (arith, sum_by-append count_of (replicate o Output) [], few_same Output 0 o (omega arith))
counts_by false i o g =
    omega (arith, sum_by-append count_of (replicate i Input ++ replicate o Output) (replicate g Gate), sum_by-append count_of (replicate i Input) (replicate o Output), few_same Input 1 i (omega arith), few_same Output 0 o (omega arith), few_same Gate 1 g (omega arith))

length-one : (t : Bool) (v : ℕ) (vs : List ℕ) (n : ℕ) → length vs ≤ n → length ((if t then v ∷ [] else []) ++ vs) ≤ (if t then 1 else 0) + n
length-one true v vs n fewer = omega arith
length-one false v vs n fewer = omega arith

defined_counts : (roles : List Role) (rows : List (List ℕ)) → length (defined roles rows) ≤ sum_by count_of roles
defined_counts [] rows = omega arith
defined_counts (role ∷ roles) [] = omega arith
defined_counts (role ∷ roles) (row ∷ rows) =
    omega (arith, sum_by-cons count_of role roles, length-one (defines role) (first_of row / 2) (defined roles rows) (sum_by count_of roles) (defined_counts roles rows))

-- no more variables are defined than there are inputs and gates
pub defined_within : (h : AigerHeader) (rows : List (List ℕ)) → length (defined (roles_of h) rows) ≤ h.inputs + h.gates
defined_within h rows =
    omega (arith, defined_counts (roles_of h) rows, counts_by h.binary h.inputs h.outputs h.gates)

pub signal_below : (t : Bool) (place r n : ℕ) → r < 2 → (t ≡ false → place ≤ n) → (2 * (if t then 0 else place) + r) / 2 < 1 + n
signal_below true place r n small within = omega arith
signal_below false place r n small within =
    let few : place ≤ n = within refl in
    omega arith

-- where a variable is defined, its place is among those of the defined ones
place_there : (variables : List ℕ) (v : ℕ) → Contains variables v → position_or_len (λ w. w == v) variables < length variables
place_there variables v there =
    let first : ℕ = position_or_len (λ w. w == v) variables in
    elim (cases_lt there.0 first) [
      | inl before ↦
          let fails = fails_before_first (λ w. w == v) variables there.0 v before in
          absurd (cc (fails, ap (λ w. w == v) there.2, same_test v))
      | inr after ↦ omega (arith, there.1)
    ]

-- a known literal is of a signal that is there
known_there : (variables : List ℕ) (n literal : ℕ) → length variables ≤ n → IsKnown variables literal → signal_of (literal_of variables literal) < 1 + n
known_there variables n literal few is =
    signal_below (literal / 2 == 0) (1 + position_or_len (λ w. w == literal / 2) variables) (literal % 2) n (omega arith) (λ e. let there = place_there variables (literal / 2) (is (eqb-false (literal / 2) 0 e)) in omega (arith, there, few))

-- what stands on a known row is known, and so is 0 past its end
known_at : (variables row : List ℕ) (k : ℕ) → All (IsKnown variables) row → IsKnown variables (get_or row k 0)
known_at variables row k all =
    elim (cases_lt k (length row)) [
      | inl there ↦ all k 0 there
      | inr past ↦ λ some. absurd (some (ap (λ n. n / 2) (get_or_past row k 0 past)))
    ]

-- the ASCII form has a line for each input, output and gate
pub text_lines : (h : AigerHeader) (rows : List (List ℕ)) → h.binary ≡ false → length rows ≡ length (roles_of h) → length rows ≡ h.inputs + h.outputs + h.gates
text_lines h rows text whole =
    omega (arith, whole, length-roles_of h, ap (λ t. if t then 0 else h.inputs) text, ap (λ t. if t then 0 else h.gates) text)

-- all that a line reads is known
abbrev AreKnown : AigerHeader → List (List ℕ) → Type 0
AreKnown h rows = (k : ℕ) → k < length rows → IsKnownRow h rows k

read_as : (h : AigerHeader) (rows : List (List ℕ)) (k : ℕ) (role : Role) → role_at h k ≡ role → k < length rows → AreKnown h rows → All (IsKnown (defined (roles_of h) rows)) (reads role (get_or rows k []))
read_as h rows k role is below known =
    subst (λ r. All (IsKnown (defined (roles_of h) rows)) (reads r (get_or rows k []))) is (known k below)

output_known : (h : AigerHeader) (rows : List (List ℕ)) (k : ℕ) (d : List ℕ) → h.binary ≡ false → length rows ≡ h.inputs + h.outputs + h.gates → AreKnown h rows → k < h.outputs → IsKnown (defined (roles_of h) rows) (first_of (get_or (take h.outputs (drop h.inputs rows)) k d))
output_known h rows k d text count known few =
    let line = h.inputs + k in
    let i : input_lines_of h ≡ h.inputs = ap (λ t. if t then 0 else h.inputs) text in
    let row : get_or (take h.outputs (drop h.inputs rows)) k d ≡ get_or rows line [] = get_or-take h.outputs (drop h.inputs rows) k d few ∙ (get_or-drop h.inputs rows k d ∙ get_or_default rows line d [] (omega (arith, count))) in
    let role : role_at h line ≡ Output = role_is h line ∙ output_role (input_lines_of h) h.outputs (gate_lines_of h) line (omega (arith, i)) (omega (arith, i)) in
    let variables = defined (roles_of h) rows in
    subst (λ r. IsKnown variables (first_of r)) (sym row) (known_at variables (get_or rows line []) 0 (read_as h rows line Output role (omega (arith, count)) known))

-- operand 0 or 1 of a gate
operand_known : (h : AigerHeader) (rows : List (List ℕ)) (k p : ℕ) (d : List ℕ) → h.binary ≡ false → length rows ≡ h.inputs + h.outputs + h.gates → AreKnown h rows → k < h.gates → IsKnown (defined (roles_of h) rows) (get_or (get_or (drop (h.inputs + h.outputs) rows) k d) (1 + p) 0)
operand_known h rows k p d text count known few =
    let line = h.inputs + h.outputs + k in
    let i : input_lines_of h ≡ h.inputs = ap (λ t. if t then 0 else h.inputs) text in
    let g : gate_lines_of h ≡ h.gates = ap (λ t. if t then 0 else h.gates) text in
    let row : get_or (drop (h.inputs + h.outputs) rows) k d ≡ get_or rows line [] = get_or-drop (h.inputs + h.outputs) rows k d ∙ get_or_default rows line d [] (omega (arith, count)) in
    let role : role_at h line ≡ Gate = role_is h line ∙ gate_role (input_lines_of h) h.outputs (gate_lines_of h) line (omega (arith, i)) (omega (arith, i, g)) in
    let variables = defined (roles_of h) rows in
    let at : IsKnown variables (get_or (drop 1 (get_or rows line [])) p 0) = known_at variables (drop 1 (get_or rows line [])) p (read_as h rows line Gate role (omega (arith, count)) known) in
    subst (IsKnown variables) (sym (ap (λ r. get_or r (1 + p) 0) row ∙ sym (get_or_after_one (get_or rows line []) p 0))) at

-- both operands of a definition are there
both_there : (below : ℕ → Type 0) (variables row : List ℕ) → below (signal_of (literal_of variables (get_or row 1 0))) → below (signal_of (literal_of variables (get_or row 2 0))) → All below (named_by (and_on variables row))
both_there below variables row a b =
    let other = signal_of (literal_of variables (get_or row 2 0)) in
    All-cons below (signal_of (literal_of variables (get_or row 1 0))) (other ∷ []) a (All-cons below other [] b (All-nil below))

-- the lines' netlist is closed where they read what is defined
pub text_closed : (h : AigerHeader) (rows : List (List ℕ)) → h.binary ≡ false → length rows ≡ length (roles_of h) → AreKnown h rows → IsClosed (text_circuit h rows)
text_closed h rows text whole known =
    let variables = defined (roles_of h) rows in
    let count = text_lines h rows text whole in
    let lines = drop (h.inputs + h.outputs) rows in
    let outs = take h.outputs (drop h.inputs rows) in
    let gates : length lines ≡ h.gates = omega (arith, length-drop (h.inputs + h.outputs) rows, count) in
    let below : ℕ → Type 0 = λ s. s < signals_in (text_circuit h rows) in
    let there : (literal : ℕ) → IsKnown variables literal → below (signal_of (literal_of variables literal)) = λ literal is. omega (arith, known_there variables (h.inputs + h.gates) literal (defined_within h rows) is, length-map lines (and_on variables), gates) in
    record {
      defs = All-map (λ def. All below (named_by def)) (and_on variables) lines (λ k d here. both_there below variables (get_or lines k d) (there _ (operand_known h rows k 0 d text count known (omega (arith, gates)))) (there _ (operand_known h rows k 1 d text count known (omega (arith, gates)))));
      rows = All-map HasWideRows (and_on variables) lines (λ k d here. tt);
      outputs = All-map (λ output. below (signal_of output)) (λ row. literal_of variables (first_of row)) outs (λ k d here. there _ (output_known h rows k d text count known (omega (arith, length-take h.outputs (drop h.inputs rows)))));
    }
