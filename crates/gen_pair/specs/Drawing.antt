-- What is drawn from a generator of 32-bit words, each time with the generator that is left.
use Rattle.std.specs.Prelude.{ℕ, ◌%◌, ◌==◌, Bool}
use Rattle.rand_pcg.specs.Lcg.{Lcg, started, increment_of}
use Rattle.rand_pcg.specs.Pcg.{multiplier_64, pcg32}

-- the generator of a number: its stream is always the same
unfoldable pub generator_of : ℕ → Lcg
generator_of number = started 64 multiplier_64 number (increment_of 64 54)

-- the next word, modulo a bound
unfoldable pub drawn : ℕ → Lcg → ℕ × Lcg
drawn bound random = ((pcg32 random).0 % bound, (pcg32 random).1)

-- a bit
abbrev pub drawn_bit : Lcg → Bool × Lcg
drawn_bit random = ((drawn 2 random).0 == 1, (drawn 2 random).1)
