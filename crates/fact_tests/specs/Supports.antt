-- When an output reaches none of a claim's inputs, and the log of such a claim.
use Rattle.std.specs.Prelude.{◌≡◌, ℕ, ◌+◌, ◌*◌, false, [], ◌∷◌, length}
use Rattle.circuits.specs.Netlists.{Net}
use Rattle.cnf_core.specs.declared.log.LogLine.{LogLine}
use Rattle.net_core.specs.Sides.{Graphs, graph_of}
use Rattle.sim_signature.specs.Supports.{output_reaches}
use Rattle.claim_core.specs.declared.claims.Claim.{Claim}
use Rattle.claim_core.specs.declared.claims.Shape.{Shape}
use Rattle.claim_core.specs.declared.claims.Shape.TheVariants.{Up, Down, Swap}

-- output k reaches none of a shape's inputs
abbrev pub IsOutside : Net → ℕ → Shape → Type 0
IsOutside net k (Up i) = output_reaches net k i ≡ false
IsOutside net k (Down i) = output_reaches net k i ≡ false
IsOutside net k (Swap i j a b) = (output_reaches net k i ≡ false) × (output_reaches net k j ≡ false)

-- the empty line that follows from the clauses of the two outputs, of which either is the other's opposite
abbrev pub closing_line : Graphs → Claim → LogLine
closing_line graphs claim =
    let unit = 1 + 6 * length (graph_of graphs claim.side).gates in
    record { clause = []; hints = unit ∷ (unit + 1) ∷ [] }
