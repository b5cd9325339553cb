-- What the signals of a netlist compute: functions of the inputs, which are equal where they are on each vector
-- ("functional reduction": Mishchenko, Chatterjee, Jiang and Brayton, FRAIGs, 2005).
use Rattle.std.specs.Prelude.{◌≡◌, ℕ, Bool, List, length}
use Rattle.circuits.specs.declared.netlist.Lit.{Lit}
use Rattle.circuits.specs.Literals.{bit, literal_bit, signal_of}
use Rattle.circuits.specs.Netlists.{Net, valuation_of}

-- a signal computes what a literal does: they have the same bit on each vector
abbrev pub Computes : Net → ℕ → Lit → Type 0
Computes net s literal =
    (x : List Bool) → length x ≡ net.inputs → bit (valuation_of net x) s ≡ literal_bit (valuation_of net x) literal

-- a signal computes neither what another one does nor its complement
abbrev pub AreUnlike : Net → ℕ → ℕ → Type 0
AreUnlike net s t = (literal : Lit) → signal_of literal ≡ t → Computes net s literal → ⊥
