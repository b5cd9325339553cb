-- A circuit on 512 vectors, changed.
use Rattle.std.specs.Prelude.{◌≡◌, ℕ, ◌<◌, Bool, List, length}
use Rattle.circuits.specs.Netlists.{Net, signals_of}
use Rattle.sim_signature.specs.declared.change.Change.{Change}
use Rattle.sim_signature.specs.Changes.{changed}
use Rattle.sim_signature.specs.Blocks.{AreSimulated, IsValuation, block_after, block_bit, pattern}

-- A circuit, 512 vectors, a block of eight words for each input, and a change of them.
pub record Simulated : Type 0 where
  pub net : Net
  pub blocks : List (List ℕ)
  pub change : Change

-- Each signal has its block on the vectors, and after the change, with a mark where it is another one.
pub record IsSimulation (s : Simulated) (before after : List (List ℕ)) (marks : List Bool) : Type 0 where
  pub inputs : length s.blocks ≡ s.net.inputs
  pub before_room : length before ≡ signals_of s.net
  pub after_room : length after ≡ signals_of s.net
  pub marks_room : length marks ≡ signals_of s.net
  pub simulated : AreSimulated s.net s.blocks before
  pub changed : (w v : ℕ) → w < 8 → v < 64
      → IsValuation s.net (changed s.change (pattern s.blocks w v)) (λ k. block_bit w v (block_after before after marks k))
