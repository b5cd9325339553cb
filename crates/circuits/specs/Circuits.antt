-- Netlists whose definitions stand in any order (ANDs: the AIGER format; covers: the Berkeley Logic Interchange
-- Format).
use Rattle.std.specs.Prelude.{ℕ, ◌+◌, ◌<◌, ◌≡◌, ◌&&◌, Bool, true, false, not, List, [], ◌∷◌, length, map, All, slice_index_or}
use Rattle.std.specs.List.{list_any}
use Rattle.circuits.specs.declared.netlist.Lit.{Lit}
use Rattle.circuits.specs.declared.definition.Trit.{Trit}
use Rattle.circuits.specs.declared.definition.Trit.TheVariants.{Zero, One, Dash}
use Rattle.circuits.specs.declared.definition.Def.{Def}
use Rattle.circuits.specs.declared.definition.Def.TheVariants.{And, Cover}
use Rattle.circuits.specs.Literals.{EachAt, bit, signal_of, literal_bit}

-- Signal 0 is false, input i is signal i + 1, definition d is signal inputs + 1 + d.
pub record Circuit : Type 0 where
  pub inputs : ℕ
  pub defs : List Def
  pub outputs : List Lit

-- how many signals there are
abbrev pub signals_in : Circuit → ℕ
signals_in circuit = 1 + circuit.inputs + length circuit.defs

-- the signal of a definition
abbrev pub signal_at : Circuit → ℕ → ℕ
signal_at circuit d = 1 + circuit.inputs + d

-- definition d; where there is none, a cover that names nothing
abbrev pub def_at : Circuit → ℕ → Def
def_at circuit d = slice_index_or circuit.defs d (Cover [] [] true)

-- the signals that a definition names; a cover names all its operands, used or not
abbrev pub named_by : Def → List ℕ
named_by (And a b) = signal_of a ∷ signal_of b ∷ []
named_by (Cover names rows on) = names

-- the signals that definition d names
abbrev pub names_of : Circuit → ℕ → List ℕ
names_of circuit d = named_by (def_at circuit d)

-- whether a position of a row fits a bit
abbrev pub trit_fits : Bool → Trit → Bool
trit_fits b Zero = not b
trit_fits b One = b
trit_fits b Dash = true

-- A row fits values of its names where every position that is no dash has the named value.
abbrev pub row_fits : List Bool → List Trit → Bool
row_fits [] row = true
row_fits (b ∷ values) [] = true
row_fits (b ∷ values) (trit ∷ row) = trit_fits b trit && row_fits values row

-- An on-set cover is 1 exactly where some row fits, an off-set cover with rows is 0 exactly where some row fits, and a
-- cover without rows is 0.
abbrev pub cover_bit : List Bool → List (List Trit) → Bool → Bool
cover_bit values [] on = false
cover_bit values (row ∷ rows) true = list_any (row_fits values) (row ∷ rows)
cover_bit values (row ∷ rows) false = not (list_any (row_fits values) (row ∷ rows))

-- a definition's bit where each signal has the bit that v gives it
abbrev pub def_bit : List Bool → Def → Bool
def_bit v (And a b) = literal_bit v a && literal_bit v b
def_bit v (Cover names rows on) = cover_bit (map (bit v) names) rows on

-- each row of a cover is as wide as its names
abbrev pub HasWideRows : Def → Type 0
HasWideRows (And a b) = Unit {0}
HasWideRows (Cover names rows on) = All (λ row. length row ≡ length names) rows

-- each signal that is named is there, and each row is as wide as its names
pub record IsClosed (circuit : Circuit) : Type 0 where
  pub defs : All (λ def. All (λ s. s < signals_in circuit) (named_by def)) circuit.defs
  pub rows : All HasWideRows circuit.defs
  pub outputs : All (λ output. signal_of output < signals_in circuit) circuit.outputs

-- A valuation fits the netlist and the vector x where all of these hold at once.
pub record FitsCircuit (circuit : Circuit) (x v : List Bool) : Type 0 where
  pub signals : length v ≡ signals_in circuit
  pub constant : bit v 0 ≡ false
  pub inputs : (i : ℕ) → i < circuit.inputs → bit v (1 + i) ≡ bit x i
  pub defs : EachAt (λ d def. bit v (signal_at circuit d) ≡ def_bit v def) circuit.defs

-- the bits of the outputs under a valuation
abbrev pub circuit_outputs : Circuit → List Bool → List Bool
circuit_outputs circuit v = map (literal_bit v) circuit.outputs
