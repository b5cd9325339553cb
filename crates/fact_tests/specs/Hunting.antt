-- What is seen of a group of a circuit's outputs.
use Rattle.std.specs.Prelude.{◌≡◌, ℕ, Option, None, Some}
use Rattle.circuits.specs.Netlists.{Net}
use Rattle.sim_signature.specs.Signatures.{Covers, Signed}

-- signatures of a circuit, of an output and others
abbrev pub IsGroup : Net → ℕ → Signed → Type 0
IsGroup net output group = (group.net ≡ net) × Covers group output

-- signatures are of this circuit
abbrev pub IsOf : Net → Signed → Type 0
IsOf net signed = signed.net ≡ net

-- the group that was simulated last, if there was one, is of this circuit
abbrev pub IsLastGroup : Net → Option Signed → Type 0
IsLastGroup net None = Unit {0}
IsLastGroup net (Some group) = IsOf net group
