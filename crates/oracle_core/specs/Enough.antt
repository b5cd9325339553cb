-- How many learned lines are enough for all that can be asked of two circuits (this project's; clauses are counted by
-- what each variable does in them).
use Rattle.std.specs.Prelude.{ℕ, ◌+◌, ◌*◌, ◌^◌, ◌==◌, ◌&&◌, Bool, length, if◌then◌else◌}
use Rattle.net_core.specs.Sides.{Graphs}

-- how many claims there are of two circuits of n inputs and m outputs: for each output of either two of each input, and
-- four of each two inputs
abbrev pub claims_of : ℕ → ℕ → ℕ
claims_of n m = 4 * m * n ^ 2

-- how many queries of matchings at most: one has an output of each circuit, with a value, and says of each input where
-- it goes, and whether inverted
abbrev pub matches_of : ℕ → ℕ → ℕ
matches_of n m = 4 * m ^ 2 * (2 * n) ^ n

-- How many different lines are there at most, of all these queries, where the circuits have g gates in all: the clauses
-- of one query have up to n + 2 g + 1 variables, each of which stands plain, stands negated or doesn't stand in a line.
abbrev pub lines_enough : ℕ → ℕ → ℕ → ℕ
lines_enough n m g = 3 ^ (n + 2 * g + 1) * (claims_of n m + matches_of n m)

-- whether two circuits have as many inputs, and as many outputs
abbrev pub have_as_many : Graphs → Bool
have_as_many graphs =
    (graphs.first.inputs == graphs.second.inputs) && (length graphs.first.outputs == length graphs.second.outputs)

-- a budget of so many lines is never spent on two circuits; where they haven't as many ports nothing is asked of them
abbrev pub enough : Graphs → ℕ
enough graphs =
    if have_as_many graphs then
    lines_enough graphs.first.inputs (length graphs.first.outputs) (length graphs.first.gates + length graphs.second.gates)
    else 0
