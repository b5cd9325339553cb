-- That what is made so far, continued by what is left, is the whole, and that it only grows.
use Rattle.std.proofs.Common.{ℕ, suc, ◌+◌, ◌^◌, ◌<◌, ◌≤◌, ◌≡◌, Bool, true, false, List, [], ◌∷◌, ◌++◌, Option, None, Some, length, get_or, map, drop, refl, sym, ap, ap₂, subst, ◌∙◌, arith}
use Rattle.std.proofs.Math.Seq.{drop-cons}
use Rattle.std.proofs.lemmas.List.{get_or_default, get_or-map, length-map, length-set, length_push}
use Rattle.std.proofs.lemmas.List.FromFn.{length-map-range_with_len, map-range_with_len_more}
use Rattle.std.specs.List.{range_with_len}
use Rattle.circuits.specs.declared.netlist.Lit.{Lit}
use Rattle.circuits.specs.declared.netlist.Gate.{Gate}
use Rattle.circuits.specs.declared.definition.Trit.{Trit}
use Rattle.circuits.specs.declared.definition.Trit.TheVariants.{Zero}
use Rattle.circuits.specs.declared.definition.Def.{Def}
use Rattle.circuits.specs.declared.definition.Def.TheVariants.{And, Cover}
use Rattle.circuits.specs.Literals.{plain_literal}
use Rattle.circuits.specs.Netlists.{Net}
use Rattle.circuits.specs.Circuits.{Circuit, signals_in, signal_at, def_at}
use Rattle.circuits.specs.Expansion.{Made, Making, made, gate_of, row_literals, row_made, or_with, or_each, cover_made, stand_in, stands_for, def_made, with_def, with_defs, no_gates, gates_in}
use Rattle.circuits.specs.Levels.{IsAcyclic, IsLevelOrder, IsOrderOf}
use Rattle.circuits.proofs.GateCounts.{length-and_each, length-and_all, length-or_with, gates_in_order}
use Rattle.circuits.proofs.LevelOrders.{IsOrderOf-ordered, IsOrderOf-inputs, IsOrderOf-outputs}
use Rattle.net_core.specs.Graph.{IsGraph}
use Rattle.net_core.specs.PlainNets.{IsPlainNet}
use Rattle.net_core.specs.Rows.{row_continued}
use Rattle.net_core.specs.Limits.{most_gates}

-- what a row makes
pub row_continued-longer : (first : ℕ) (gates : List Gate) (value : Option Lit) (rest : List Lit) → length gates ≤ length (row_continued first gates value rest).gates
row_continued-longer first gates None rest = omega (arith, length-and_all first gates rest)
row_continued-longer first gates (Some value) rest = omega (arith, length-and_each first (made gates value) rest)

pub row_room : (first base : ℕ) (gates : List Gate) (value : Option Lit) (rest : List Lit) (whole : Made) → row_continued first gates value rest ≡ whole → base + length whole.gates < 2 ^ 31 → base + length gates < 2 ^ 31
row_room first base gates value rest whole is room =
    omega (arith, row_continued-longer first gates value rest, ap (λ (m : Made). length m.gates) is)

-- the next position of a row
pub row_literals-drop : (names : List Lit) (row : List Trit) (k : ℕ) (name : Lit) (trit : Trit) → k < length row → length row ≡ length names → name ≡ get_or names k name → trit ≡ get_or row k trit → row_literals (name ∷ drop (k + 1) names) (trit ∷ drop (k + 1) row) ≡ row_literals (drop k names) (drop k row)
row_literals-drop names row k name trit h wide name_is trit_is =
    let next : suc k ≡ k + 1 = omega arith in
    let names_at = drop-cons names k name (omega arith) in
    let row_at = drop-cons row k trit h in
    sym (ap₂ row_literals (names_at ∙ ap₂ (λ x n. x ∷ drop n names) (sym name_is) next) (row_at ∙ ap₂ (λ x n. x ∷ drop n row) (sym trit_is) next))

pub row_step : (first own : ℕ) (literals : List Lit) (names : List ℕ) (row : List Trit) (k : ℕ) (before after : List Gate) (value next : Option Lit) (whole : Made) → k < length row → length row ≡ length names → own ≡ first → ((ns : List Lit) (r : List Trit) → row_continued own after next (row_literals ns r) ≡ row_continued own before value (row_literals (stand_in literals (get_or names k 0) ∷ ns) (get_or row k Zero ∷ r))) → row_continued first before value (row_literals (drop k (map (stand_in literals) names)) (drop k row)) ≡ whole → row_continued first after next (row_literals (drop (k + 1) (map (stand_in literals) names)) (drop (k + 1) row)) ≡ whole
row_step first own literals names row k before after value next whole h wide same step is =
    let stood = map (stand_in literals) names in
    let name = stand_in literals (get_or names k 0) in
    let trit = get_or row k Zero in
    let name_is = sym (get_or-map (stand_in literals) names k 0 name (omega arith)) in
    let trit_is = get_or_default row k Zero trit h in
    let back = row_literals-drop stood row k name trit h (omega (arith, length-map names (stand_in literals))) name_is trit_is in
    let one = step (drop (k + 1) stood) (drop (k + 1) row) in
    subst (λ n. row_continued n after next (row_literals (drop (k + 1) stood) (drop (k + 1) row)) ≡ row_continued n before value (row_literals (name ∷ drop (k + 1) stood) (trit ∷ drop (k + 1) row))) same one ∙ (ap (row_continued first before value) back ∙ is)

-- what the rows of a cover make
pub length-row_made-le : (first : ℕ) (names : List Lit) (gates : List Gate) (row : List Trit) → length gates ≤ length (row_made first names gates row).gates
length-row_made-le first names gates row = omega (arith, length-and_all first gates (row_literals names row))

pub or_each-longer : (first : ℕ) (names : List Lit) (s : Made) (rows : List (List Trit)) → length s.gates ≤ length (or_each first names s rows).gates
or_each-longer first names s [] = omega arith
or_each-longer first names s (row ∷ rows) =
    let r = row_made first names s.gates row in
    omega (arith, or_each-longer first names (or_with first s.value r) rows, length-or_with first s.value r, length-row_made-le first names s.gates row)

pub cover_made-first : (first : ℕ) (names : List Lit) (gates : List Gate) (rows : List (List Trit)) (row : List Trit) → 0 < length rows → row ≡ get_or rows 0 row → cover_made first names gates rows true ≡ or_each first names (row_made first names gates row) (drop 1 rows)
cover_made-first first names gates [] row some is = absurd (omega arith)
cover_made-first first names gates (r ∷ rows) row some is =
    ap (λ x. or_each first names (row_made first names gates x) rows) (sym is)

pub first_row_room : (first : ℕ) (names : List Lit) (gates : List Gate) (rows : List (List Trit)) (row : List Trit) → 0 < length rows → row ≡ get_or rows 0 row → first + length (cover_made first names gates rows true).gates < 2 ^ 31 → first + length (row_made first names gates row).gates < 2 ^ 31
first_row_room first names gates rows row some is room =
    omega (arith, or_each-longer first names (row_made first names gates row) (drop 1 rows), ap (λ (m : Made). length m.gates) (cover_made-first first names gates rows row some is))

-- the next row
pub or_each-drop : (first : ℕ) (names : List Lit) (s : Made) (rows : List (List Trit)) (k : ℕ) (row : List Trit) → k < length rows → row ≡ get_or rows k row → or_each first names (or_with first s.value (row_made first names s.gates row)) (drop (k + 1) rows) ≡ or_each first names s (drop k rows)
or_each-drop first names s rows k row h is =
    let next : suc k ≡ k + 1 = omega arith in
    sym (ap (or_each first names s) (drop-cons rows k row h ∙ ap₂ (λ x n. x ∷ drop n rows) (sym is) next))

pub or_row_room : (first base : ℕ) (names : List Lit) (s : Made) (rows : List (List Trit)) (k : ℕ) (row : List Trit) (whole : Made) → k < length rows → row ≡ get_or rows k row → or_each first names s (drop k rows) ≡ whole → base + length whole.gates < 2 ^ 31 → base + length (or_with first s.value (row_made first names s.gates row)).gates < 2 ^ 31
or_row_room first base names s rows k row whole h is same room =
    omega (arith, or_each-longer first names (or_with first s.value (row_made first names s.gates row)) (drop (k + 1) rows), ap (λ (m : Made). length m.gates) (or_each-drop first names s rows k row h is ∙ same))

-- an off-set cover with rows is the inverse of the on-set cover
pub cover_made-longer : (first : ℕ) (names : List Lit) (gates : List Gate) (rows : List (List Trit)) (on : Bool) → length gates ≤ length (cover_made first names gates rows on).gates
cover_made-longer first names gates [] on = omega arith
cover_made-longer first names gates (row ∷ rows) true =
    omega (arith, or_each-longer first names (row_made first names gates row) rows, length-row_made-le first names gates row)
cover_made-longer first names gates (row ∷ rows) false =
    omega (arith, or_each-longer first names (row_made first names gates row) rows, length-row_made-le first names gates row)

pub def_made-longer : (first : ℕ) (literals : List Lit) (gates : List Gate) (def : Def) → length gates ≤ length (def_made first literals gates def).gates
def_made-longer first literals gates (And a b) =
    omega (arith, length_push gates (gate_of (stands_for literals a) (stands_for literals b)))
def_made-longer first literals gates (Cover names rows on) =
    cover_made-longer first (map (stand_in literals) names) gates rows on

-- what all definitions make
pub with_defs-longer : (circuit : Circuit) (so_far : Making) (order : List ℕ) → length so_far.gates ≤ length (with_defs circuit so_far order).gates
with_defs-longer circuit so_far [] = omega arith
with_defs-longer circuit so_far (d ∷ order) =
    omega (arith, with_defs-longer circuit (with_def circuit so_far d) order, def_made-longer (1 + circuit.inputs) so_far.literals so_far.gates (def_at circuit d))

pub with_defs-entries : (circuit : Circuit) (so_far : Making) (order : List ℕ) → length (with_defs circuit so_far order).literals ≡ length so_far.literals
with_defs-entries circuit so_far [] = refl
with_defs-entries circuit so_far (d ∷ order) =
    with_defs-entries circuit (with_def circuit so_far d) order ∙ length-set so_far.literals (signal_at circuit d) (def_made (1 + circuit.inputs) so_far.literals so_far.gates (def_at circuit d)).value

pub with_defs-drop : (circuit : Circuit) (so_far : Making) (order : List ℕ) (k d : ℕ) → k < length order → d ≡ get_or order k d → with_defs circuit (with_def circuit so_far d) (drop (k + 1) order) ≡ with_defs circuit so_far (drop k order)
with_defs-drop circuit so_far order k d h is =
    let next : suc k ≡ k + 1 = omega arith in
    sym (ap (with_defs circuit so_far) (drop-cons order k d h ∙ ap₂ (λ x n. x ∷ drop n order) (sym is) next))

pub take_room : (circuit : Circuit) (base : ℕ) (so_far whole : Making) (order : List ℕ) (k d : ℕ) → k < length order → d ≡ get_or order k d → with_defs circuit so_far (drop k order) ≡ whole → base + length whole.gates < 2 ^ 31 → base + length (with_def circuit so_far d).gates < 2 ^ 31
take_room circuit base so_far whole order k d h is same room =
    omega (arith, with_defs-longer circuit (with_def circuit so_far d) (drop (k + 1) order), ap (λ (m : Making). length m.gates) (with_defs-drop circuit so_far order k d h is ∙ same))

-- at first each signal stands for itself
pub own_literals-more : (literals : List Lit) (n : ℕ) (l : Lit) → literals ≡ map plain_literal (range_with_len 0 n) → l ≡ plain_literal n → literals ++ l ∷ [] ≡ map plain_literal (range_with_len 0 (n + 1))
own_literals-more literals n l is same =
    ap₂ (λ xs x. xs ++ x ∷ []) is same ∙ sym (map-range_with_len_more plain_literal 0 n n (omega arith))

pub own-entries : (literals : List Lit) (signals : ℕ) → literals ≡ map plain_literal (range_with_len 0 signals) → length literals ≡ signals
own-entries literals signals own = ap length own ∙ length-map-range_with_len plain_literal 0 signals

pub making-start : (circuit : Circuit) (literals : List Lit) (gates : List Gate) (order : List ℕ) (signals : ℕ) → gates ≡ [] → literals ≡ map plain_literal (range_with_len 0 signals) → signals ≡ signals_in circuit → with_defs circuit (record { gates = gates; literals = literals }) order ≡ with_defs circuit (no_gates circuit) order
making-start circuit literals gates order signals none own same =
    let start : List Gate → List Lit → Making = λ g l. record { gates = g; literals = l } in
    ap (λ m. with_defs circuit m order) (ap₂ start none (own ∙ ap (λ n. map plain_literal (range_with_len 0 n)) same))

pub making-entries : (circuit : Circuit) (order : List ℕ) → length (with_defs circuit (no_gates circuit) order).literals ≡ signals_in circuit
making-entries circuit order =
    with_defs-entries circuit (no_gates circuit) order ∙ length-map-range_with_len plain_literal 0 (signals_in circuit)

abbrev pub making_of : List Gate → List Lit → Making
making_of gates literals = record { gates = gates; literals = literals }

abbrev pub net_of : ℕ → List Gate → List Lit → Net
net_of inputs gates outputs = record { inputs = inputs; gates = gates; outputs = outputs }

-- the parts make the ordered netlist
pub IsOrderOf-parts : (circuit : Circuit) (order : List ℕ) (inputs : ℕ) (gates : List Gate) (literals outputs : List Lit) → IsLevelOrder circuit order → inputs ≡ circuit.inputs → making_of gates literals ≡ with_defs circuit (no_gates circuit) order → outputs ≡ map (stands_for literals) circuit.outputs → IsOrderOf circuit (net_of inputs gates outputs)
IsOrderOf-parts circuit order inputs gates literals outputs is same all outs = record {
  order = order;
  is_order = is;
  is = ap (λ n. net_of n gates outputs) same ∙ (ap (net_of circuit.inputs gates) outs ∙ ap (λ (m : Making). net_of circuit.inputs m.gates (map (stands_for m.literals) circuit.outputs)) all);
}

pub IsGraph-in_order : (circuit : Circuit) (net : Net) → IsPlainNet circuit → IsAcyclic circuit → gates_in circuit ≤ most_gates → IsOrderOf circuit net → IsGraph net
IsGraph-in_order circuit net plain acyclic few is = record {
  ordered = IsOrderOf-ordered circuit net acyclic plain.closed is;
  signals = omega (arith, plain.signals, few, gates_in_order circuit net plain.closed is, IsOrderOf-inputs circuit net is);
  outputs = omega (arith, plain.outputs, IsOrderOf-outputs circuit net is);
}
