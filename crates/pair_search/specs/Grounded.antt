-- Deletions that decided claims show (functional properties of ports that a match keeps: Katebi and Markov, DATE 2010).
use Rattle.std.specs.Prelude.{◌≡◌, ◌⊎◌, ℕ, ⊤, List, [], ◌∷◌, ◌++◌, All}
use Rattle.circuits.specs.declared.port.Pair.{Pair}
use Rattle.circuits.specs.declared.port.PortKind.{PortKind}
use Rattle.circuits.specs.declared.port.PortKind.TheVariants.{Input, Output}
use Rattle.net_core.specs.Sides.{Graphs}
use Rattle.account_core.specs.declared.step.Ban.{Ban}
use Rattle.account_core.specs.declared.step.Step.TheVariants as step
use Rattle.account_core.specs.Given.{Decided, given_of}
use Rattle.account_core.specs.Steps.{AreValidBans, IsValidBan}
use Rattle.ban_book.specs.Vectors.{AddsNoVector}
use Rattle.pair_domains.specs.declared.entry.Entry.{Entry}
use Rattle.pair_domains.specs.declared.entry.Fate.{Fate}
use Rattle.pair_domains.specs.declared.entry.Fate.TheVariants.{Assigned, Deleted}
use Rattle.pair_domains.specs.declared.entry.Reason.TheVariants as reason

-- a pair of this kind and one of the other kind, the input's first
abbrev pub in_order : PortKind → Pair → Pair → List Pair
in_order Input pair with = pair ∷ with ∷ []
in_order Output pair with = with ∷ pair ∷ []

-- the ban of two pairs of which facts show that no match has both
abbrev pub mismatch_ban : Pair → Pair → ℕ → ℕ → Ban
mismatch_ban pair with fails holds = record { pairs = in_order pair.kind pair with; step = step.Mismatch fails holds }

-- a pair that is deleted by a mismatch has a ban that is valid in view of these facts, whatever bans there are
abbrev pub IsGrounded : Graphs → List Decided → Pair → Fate → Type 0
IsGrounded graphs facts pair (Assigned cause) = ⊤
IsGrounded graphs facts pair (Deleted (reason.Clash with)) = ⊤
IsGrounded graphs facts pair (Deleted (reason.Ban number)) = ⊤
IsGrounded graphs facts pair (Deleted (reason.Mismatch with fails holds)) =
    (bans : List Ban) → IsValidBan graphs (given_of facts bans) (mismatch_ban pair with fails holds)

-- The deletions by mismatches are shown by these facts.
pub record AreGrounded (graphs : Graphs) (facts : List Decided) (entries : List Entry) : Type 0 where
  pub each : All (λ entry. IsGrounded graphs facts entry.pair entry.fate) entries

-- Whatever facts show the deletions by mismatches before, they show those after too.
pub record StayGrounded (before after : List Entry) : Type 0 where
  pub stay : (graphs : Graphs) (facts : List Decided) → AreGrounded graphs facts before → AreGrounded graphs facts after

-- Bans came after those that were kept, and no vector shows them. Where those before were valid all are, in view of any
-- facts that show the deletions by mismatches.
pub record LearnsMore (graphs : Graphs) (entries : List Entry) (before after : List Ban) : Type 0 where
  pub added : List Ban
  pub more : after ≡ before ++ added
  pub no_vector : AddsNoVector added
  pub valid : (facts : List Decided)
      → AreGrounded graphs facts entries
      → AreValidBans graphs facts before
      → AreValidBans graphs facts after

-- no ban came, or this one
abbrev pub MayAdd : List Ban → Ban → List Ban → Type 0
MayAdd before ban after = (after ≡ before) ⊎ (after ≡ before ++ ban ∷ [])
