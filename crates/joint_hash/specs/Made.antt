-- The numbers of literals that were made true.
use Rattle.std.specs.Prelude.{◌≡◌, ℕ, List, nat_eq}
use Rattle.std.specs.List.{list_any}
use Rattle.cnf_core.specs.declared.literal.SatLit.{SatLit}
use Rattle.cnf_core.specs.Derivations.{is_true}
use Rattle.joint_hash.specs.declared.made.Numbers.{Numbers}
use Rattle.joint_hash.specs.declared.made.Numbers.TheVariants.{Few, Many}

-- a literal is one of these where its number is one of these numbers
abbrev pub AreNumbersOf : List SatLit → List ℕ → Type 0
AreNumbersOf literals numbers = (l : SatLit) → list_any (nat_eq l.0) numbers ≡ is_true literals l

-- so it is where there are numbers
abbrev pub AreTold : List SatLit → Numbers → Type 0
AreTold literals Few = Unit {0}
AreTold literals (Many numbers) = AreNumbersOf literals numbers.keys
