-- Lines of a log as bytes: each list of numbers as its length and the deltas from one number to the next, in LEB128
-- (DWARF 5, section 7.6; the first group of a delta has its sign in place of a seventh bit).
use Rattle.std.specs.Prelude.{◌≡◌, ℕ, ◌+◌, ◌-◌, ◌/◌, ◌%◌, ◌^◌, ◌<◌, Bool, true, false, List, [], ◌∷◌, ◌++◌, length, map, All, nat_le}
use Rattle.std.specs.Prelude.{if◌then◌else◌}
use Rattle.std.specs.List.{flat_map}
use Rattle.text_core.specs.Groups.{groups}
use Rattle.cnf_core.specs.declared.literal.SatLit.{SatLit}
use Rattle.cnf_core.specs.declared.log.LogLine.{LogLine}

-- a number of 64 bits has ten groups at most
abbrev pub number_bytes : ℕ → List ℕ
number_bytes n = groups 9 n

-- a bit where something is so
abbrev pub mark_if : Bool → ℕ → ℕ
mark_if is_so bit = if is_so then bit else 0

-- the low six bits of a delta's magnitude stand in its first group, with its sign and a mark where others follow
abbrev pub low_of : ℕ → ℕ
low_of magnitude = if nat_le 64 magnitude then magnitude % 64 else magnitude

-- the first group of a delta: its sign, its low bits, and whether more groups follow
abbrev pub signed_first : Bool → ℕ → ℕ
signed_first negative magnitude = mark_if (nat_le 64 magnitude) 128 + mark_if negative 64 + low_of magnitude

-- the groups for what a delta has beyond its low six bits
abbrev pub signed_rest : ℕ → List ℕ
signed_rest magnitude = if nat_le 64 magnitude then number_bytes (magnitude / 64) else []

-- a delta, by its sign and its magnitude
abbrev pub signed_bytes : Bool → ℕ → List ℕ
signed_bytes negative magnitude = signed_first negative magnitude ∷ signed_rest magnitude

-- the delta from one number to another
abbrev pub delta_bytes : ℕ → ℕ → List ℕ
delta_bytes from to = if nat_le from to then signed_bytes false (to - from) else signed_bytes true (from - to)

-- the deltas from a number to the first of a list, from that one to the second, and so on
abbrev pub deltas_bytes : ℕ → List ℕ → List ℕ
deltas_bytes from [] = []
deltas_bytes from (to ∷ numbers) = delta_bytes from to ++ deltas_bytes to numbers

-- a list of numbers: its length, and the deltas
abbrev pub numbers_bytes : List ℕ → List ℕ
numbers_bytes numbers = number_bytes (length numbers) ++ deltas_bytes 0 numbers

-- the numbers of literals
abbrev pub literal_numbers : List SatLit → List ℕ
literal_numbers clause = map (λ literal. literal.0) clause

-- a clause, as the list of its literals' numbers
abbrev pub clause_bytes : List SatLit → List ℕ
clause_bytes clause = numbers_bytes (literal_numbers clause)

-- a line: its literals, and then its hints
abbrev pub line_bytes : LogLine → List ℕ
line_bytes line = clause_bytes line.clause ++ numbers_bytes line.hints

-- lines of a log, one after the other
abbrev pub lines_bytes : List LogLine → List ℕ
lines_bytes lines = flat_map line_bytes lines

-- a number has 64 bits
abbrev pub IsWord : ℕ → Type 0
IsWord n = n < 2 ^ 64

-- Numbers of 64 bits, and fewer than 2^64 of them.
pub record AreWords (numbers : List ℕ) : Type 0 where
  pub few : length numbers < 2 ^ 64
  pub each : All IsWord numbers

-- A line as a program has it: its literals' numbers and its hints are of 64 bits.
pub record IsOfWords (line : LogLine) : Type 0 where
  pub clause : AreWords (literal_numbers line.clause)
  pub hints : AreWords line.hints

-- What is read from the front of bytes is what was written there, whatever stands after it.
abbrev pub ReadsBack : {X : Type 0} → (X → Type 0) → (X → List ℕ) → List ℕ → List ℕ → X → Type 0
ReadsBack {X} P bytes_of before after read =
    (written : X) (rest : List ℕ) → P written → before ≡ bytes_of written ++ rest → (read ≡ written) × (after ≡ rest)
