-- The first places have inputs.
use Rattle.std.proofs.Common.{◌≡◌, ◌+◌, ◌*◌, ◌%◌, ◌<◌, ℕ, length, get_or}
use Rattle.circuits.specs.declared.netlist.Lit.{Lit}
use Rattle.circuits.specs.Literals.{plain_literal}
use Rattle.gen_pair.proofs.windows.fill.Given as goal

abbrev pub invariant-loop-t : goal.invariant-loop-t
invariant-loop-t l =
    (length l.window ≡ length l.initial.window)
    × ((t : ℕ) (d : Lit) → t < l.t → get_or l.window t d ≡ plain_literal ((2 * l.k + t) % 64 + 1))
