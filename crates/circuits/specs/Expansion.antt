-- How definitions are expanded to AND gates, row by row and without simplification.
use Rattle.std.specs.Prelude.{ℕ, ◌+◌, ◌-◌, Bool, true, false, List, [], ◌∷◌, ◌++◌, length, map, slice_index_or, slice_set, count_by}
use Rattle.std.specs.List.{range_with_len, sum_by}
use Rattle.circuits.specs.declared.netlist.Lit.{Lit}
use Rattle.circuits.specs.declared.netlist.Gate.{Gate}
use Rattle.circuits.specs.declared.definition.Trit.{Trit}
use Rattle.circuits.specs.declared.definition.Trit.TheVariants.{Zero, One, Dash}
use Rattle.circuits.specs.declared.definition.Def.{Def}
use Rattle.circuits.specs.declared.definition.Def.TheVariants.{And, Cover}
use Rattle.circuits.specs.Literals.{signal_of, plain_literal, inverse, signed_as, false_literal, true_literal}
use Rattle.circuits.specs.Netlists.{Net}
use Rattle.circuits.specs.Circuits.{Circuit, signals_in, signal_at, def_at}

-- the gates so far, and the literal that is made by them
pub record Made : Type 0 where
  pub gates : List Gate
  pub value : Lit

-- gates, and the literal that they make
abbrev pub made : List Gate → Lit → Made
made gates value = record { gates = gates; value = value }

-- the AND of two literals
abbrev pub gate_of : Lit → Lit → Gate
gate_of a b = record { a = a; b = b }

-- one gate more: p = AND(p, l). Gate 0 has the signal `first`.
abbrev pub and_with : ℕ → Made → Lit → Made
and_with first p l = made (p.gates ++ gate_of p.value l ∷ []) (plain_literal (first + length p.gates))

-- p = AND(p, l) for each literal l, left to right
abbrev pub and_each : ℕ → Made → List Lit → Made
and_each first p [] = p
and_each first p (l ∷ ls) = and_each first (and_with first p l) ls

-- p = l1, then p = AND(p, l2) and so on; true where there is no literal
abbrev pub and_all : ℕ → List Gate → List Lit → Made
and_all first gates [] = made gates true_literal
and_all first gates (l ∷ ls) = and_each first (made gates l) ls

-- the literals of a row, left to right, where the names are stood for by literals
abbrev pub row_literals : List Lit → List Trit → List Lit
row_literals [] row = []
row_literals (name ∷ names) [] = []
row_literals (name ∷ names) (Zero ∷ row) = inverse name ∷ row_literals names row
row_literals (name ∷ names) (One ∷ row) = name ∷ row_literals names row
row_literals (name ∷ names) (Dash ∷ row) = row_literals names row

-- the AND of a row's literals
abbrev pub row_made : ℕ → List Lit → List Gate → List Trit → Made
row_made first names gates row = and_all first gates (row_literals names row)

-- the complement of what was made, for which no gate is needed
abbrev pub inverted : Made → Made
inverted s = made s.gates (inverse s.value)

-- s = NOT AND(NOT s, NOT r), where r has been made after s
abbrev pub or_with : ℕ → Lit → Made → Made
or_with first s r = inverted (and_with first (made r.gates (inverse s)) (inverse r.value))

-- s is joined with each row: the row's gates, then the gate that joins it
abbrev pub or_each : ℕ → List Lit → Made → List (List Trit) → Made
or_each first names s [] = s
or_each first names s (row ∷ rows) = or_each first names (or_with first s.value (row_made first names s.gates row)) rows

-- s = r1, then s = NOT AND(NOT s, NOT r2) and so on; s for the on-set, NOT s for the off-set, and false without rows
abbrev pub cover_made : ℕ → List Lit → List Gate → List (List Trit) → Bool → Made
cover_made first names gates [] on = made gates false_literal
cover_made first names gates (row ∷ rows) true = or_each first names (row_made first names gates row) rows
cover_made first names gates (row ∷ rows) false = inverted (or_each first names (row_made first names gates row) rows)

-- the literal that stands for a signal
abbrev pub stand_in : List Lit → ℕ → Lit
stand_in literals s = slice_index_or literals s false_literal

-- the literal that stands for a literal
abbrev pub stands_for : List Lit → Lit → Lit
stands_for literals literal = signed_as literal (stand_in literals (signal_of literal))

-- an AND gives one gate, a cover its rows' gates
abbrev pub def_made : ℕ → List Lit → List Gate → Def → Made
def_made first literals gates (And a b) = and_with first (made gates (stands_for literals a)) (stands_for literals b)
def_made first literals gates (Cover names rows on) = cover_made first (map (stand_in literals) names) gates rows on

-- An ordered netlist that is being made: its gates so far, and the literal that stands for each signal.
pub record Making : Type 0 where
  pub gates : List Gate
  pub literals : List Lit

-- a definition is expanded, and is stood for by what is made
abbrev pub with_def : Circuit → Making → ℕ → Making
with_def circuit so_far d =
    let next = def_made (1 + circuit.inputs) so_far.literals so_far.gates (def_at circuit d) in
    record { gates = next.gates; literals = slice_set so_far.literals (signal_at circuit d) next.value }

-- definitions are expanded one after the other, in the order in which they are listed
abbrev pub with_defs : Circuit → Making → List ℕ → Making
with_defs circuit so_far [] = so_far
with_defs circuit so_far (d ∷ order) = with_defs circuit (with_def circuit so_far d) order

-- at first there is no gate, and each signal stands for itself
abbrev pub no_gates : Circuit → Making
no_gates circuit = record { gates = []; literals = map plain_literal (range_with_len 0 (signals_in circuit)) }

-- the ordered netlist that definitions make when they are taken in an order
abbrev pub expanded : Circuit → List ℕ → Net
expanded circuit order =
    let all = with_defs circuit (no_gates circuit) order in
    record { inputs = circuit.inputs; gates = all.gates; outputs = map (stands_for all.literals) circuit.outputs }

-- whether a position of a row gives a literal
abbrev pub gives_literal : Trit → Bool
gives_literal Zero = true
gives_literal One = true
gives_literal Dash = false

-- how many gates a row has: its literals less 1, at least 0
abbrev pub row_gates : List Trit → ℕ
row_gates row = count_by gives_literal row - 1

-- how many gates a definition has: of a cover those of its rows, and its rows less 1, at least 0
abbrev pub def_gates : Def → ℕ
def_gates (And a b) = 1
def_gates (Cover names rows on) = sum_by row_gates rows + (length rows - 1)

-- how many gates the ordered netlist has
abbrev pub gates_in : Circuit → ℕ
gates_in circuit = sum_by def_gates circuit.defs
