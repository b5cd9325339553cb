-- Clauses, and which of them have two literals.
use Rattle.std.specs.Prelude.{◌==◌, Bool, List, length}
use Rattle.cnf_core.specs.declared.literal.SatLit.{SatLit}

-- whether a clause has two literals
abbrev pub is_binary : List SatLit → Bool
is_binary clause = length clause == 2
