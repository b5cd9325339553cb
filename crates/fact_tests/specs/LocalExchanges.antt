-- What an exchange of two inputs changes near them: the signals that may differ where the two inputs have a pair of
-- bits and where they have the opposite one, as words over all ways of a few other signals (truth tables over a cut, as
-- in textbooks of logic synthesis).
use Rattle.std.specs.Prelude.{◌≡◌, ◌≢◌, ◌⊎◌, ℕ, ◌+◌, ◌*◌, ◌/◌, ◌%◌, ◌^◌, ◌==◌, ◌<◌, ◌≤◌, Bool, true, false, not, List, [], ◌∷◌, ◌++◌, length, All, Any, Option}
use Rattle.std.specs.Prelude.{None, Some, slice_index_or}
use Rattle.circuits.specs.declared.netlist.Lit.{Lit}
use Rattle.circuits.specs.declared.netlist.Gate.{Gate}
use Rattle.circuits.specs.Literals.{EachAt, bit, signal_of, literal_bit}
use Rattle.circuits.specs.Netlists.{Net, gate_bit, signals_of, valuation_of}
use Rattle.claim_core.specs.Claims.{with_input}
use Rattle.net_core.specs.Values.{signed_word}
use Rattle.word_sim.specs.Columns.{word_bit}
use Rattle.fact_tests.specs.declared.readers.GateSpan.{GateSpan}
use Rattle.fact_tests.specs.declared.local_exchange.SideWords.{SideWords}
use Rattle.fact_tests.specs.declared.local_exchange.Changed.{Changed}
use Rattle.fact_tests.specs.declared.local_exchange.Near.{Near}
use Rattle.fact_tests.specs.declared.local_exchange.Went.{Went}
use Rattle.fact_tests.specs.declared.local_exchange.Went.TheVariants.{Same, Differs, TooFar}

-- all gates below `count` that read a signal stand from `start` on and before `end`
abbrev pub IsCovered : List Gate → ℕ → ℕ → ℕ → ℕ → Type 0
IsCovered gates count start end signal =
    (place : ℕ) (d : Gate) → place < count
    → (signal_of (slice_index_or gates place d).a ≡ signal) ⊎ (signal_of (slice_index_or gates place d).b ≡ signal)
    → (start ≤ place) × (place < end)

-- The span of a signal has all gates below `count` that read it.
pub record IsSpan (gates : List Gate) (count signal : ℕ) (span : GateSpan) : Type 0 where
  pub end : span.end ≤ count
  pub covers : IsCovered gates count span.start span.end signal

-- A span for each signal.
pub record AreSpans (net : Net) (count : ℕ) (spans : List GateSpan) : Type 0 where
  pub signals : length spans ≡ signals_of net
  pub each : EachAt (IsSpan net.gates count) spans

-- Spans are as before, but that of a signal has a place too.
pub record Widens (place signal : ℕ) (old new : List GateSpan) : Type 0 where
  pub spans : length new ≡ length old
  pub others : (k : ℕ) (d : GateSpan) → k ≢ signal → slice_index_or new k d ≡ slice_index_or old k d
  pub before : (d : GateSpan) → (slice_index_or new signal d).start ≤ (slice_index_or old signal d).start
  pub start : (d : GateSpan) → (slice_index_or new signal d).start ≤ place
  pub end : (d : GateSpan) → (slice_index_or new signal d).end ≡ place + 1

-- a way of the leaves: lane m has their bits
abbrev pub IsLane : List Bool → List ℕ → ℕ → Type 0
IsLane v leaves m = (m < 64) × ((k : ℕ) → k < length leaves → (m / 2 ^ k % 2 == 1) ≡ bit v (slice_index_or leaves k 0))

-- a bit under one valuation and under the other, by the leaves' bits
abbrev pub HasSides : List Bool → List Bool → List ℕ → Bool → Bool → SideWords → Type 0
HasSides v w leaves one other sides = (m : ℕ) → IsLane v leaves m → (one ≡ word_bit m sides.one) × (other ≡ word_bit m sides.other)

-- what is listed of a signal is its bit under one valuation, and under the other
abbrev pub IsChanged : List Bool → List Bool → List ℕ → Changed → Type 0
IsChanged v w leaves entry = HasSides v w leaves (bit v entry.signal) (bit w entry.signal) entry.sides

-- no entry is of the signal
abbrev pub IsUnchanged : List Changed → ℕ → Type 0
IsUnchanged changed signal = All (λ entry. entry.signal ≢ signal) changed

-- Of the signals below `end` those that aren't listed have the same bit under both valuations, and of those that are it
-- is known.
pub record Tracks (v w : List Bool) (end : ℕ) (near : Near) : Type 0 where
  pub few : length near.leaves ≤ 6
  pub leaves : All (λ leaf. bit v leaf ≡ bit w leaf) near.leaves
  pub changed : All (IsChanged v w near.leaves) near.changed
  pub others : (signal : ℕ) → signal < end → IsUnchanged near.changed signal → bit v signal ≡ bit w signal

-- A gate stands for a signal under a valuation, and reads signals below it.
pub record IsGateOf (v : List Bool) (signal : ℕ) (gate : Gate) : Type 0 where
  pub bit_is : bit v signal ≡ gate_bit v gate
  pub first : signal_of gate.a < signal
  pub second : signal_of gate.b < signal

-- one gate more is gone over, whatever the valuations are
abbrev pub GoesOver : Gate → ℕ → Near → Near → Type 0
GoesOver gate signal old new = (v w : List Bool) → IsGateOf v signal gate → IsGateOf w signal gate → Tracks v w signal old → Tracks v w (signal + 1) new

-- one signal more is listed
abbrev pub HasMore : ℕ → List Changed → List Changed → Type 0
HasMore signal old new = (sides : SideWords) × (new ≡ old ++ record { signal = signal; sides = sides } ∷ [])

-- what going over a gate comes to
abbrev pub IsWent : Gate → ℕ → Near → Near → Went → Type 0
IsWent gate signal old new Same = GoesOver gate signal old new × (new.changed ≡ old.changed)
IsWent gate signal old new Differs = GoesOver gate signal old new × HasMore signal old.changed new.changed
IsWent gate signal old new TooFar = Unit {0}

-- what is listed of a signal: None where nothing is
abbrev pub IsListed : List Changed → ℕ → Option SideWords → Type 0
IsListed changed signal None = IsUnchanged changed signal
IsListed changed signal (Some sides) = Any (λ entry. (entry.signal ≡ signal) × (entry.sides ≡ sides)) changed

-- A literal's bits are found, whatever the valuations are: the leaves are as many or more, and what was known is known
-- still.
pub record Tells (literal : Lit) (old new : Near) (sides : SideWords) : Type 0 where
  pub same : new.changed ≡ old.changed
  pub more : (v : List Bool) (m : ℕ) → IsLane v new.leaves m → IsLane v old.leaves m
  pub tracks : (v w : List Bool) (end : ℕ) → signal_of literal < end → Tracks v w end old → Tracks v w end new
  pub has : (v w : List Bool) (end : ℕ) → signal_of literal < end → Tracks v w end old
      → HasSides v w new.leaves (literal_bit v literal) (literal_bit w literal) sides

-- A leaf's number, in a list that has it now.
pub record IsLeaf (old new : List ℕ) (signal number : ℕ) : Type 0 where
  pub below : number < 6
  pub there : number < length new
  pub is : slice_index_or new number 0 ≡ signal
  pub grows : (new ≡ old) ⊎ ((length old < 6) × (new ≡ old ++ signal ∷ []))

-- what listing a signal comes to
abbrev pub IsListing : ℕ → SideWords → Near → Near → Went → Type 0
IsListing signal sides old new Same = (sides.one ≡ sides.other) × (new.leaves ≡ old.leaves) × (new.changed ≡ old.changed)
IsListing signal sides old new Differs = (new.leaves ≡ old.leaves) × (new.changed ≡ old.changed ++ record { signal = signal; sides = sides } ∷ [])
IsListing signal sides old new TooFar = Unit {0}

-- a signal has these two bits, whatever the leaves have
abbrev pub sides_of_bits : Bool → Bool → SideWords
sides_of_bits one other = record { one = signed_word 0 one; other = signed_word 0 other }

-- the two inputs of an exchange, as they are listed at first
abbrev pub first_listed : ℕ → ℕ → Bool → List Changed
first_listed i j inverted =
    record { signal = i + 1; sides = sides_of_bits false true } ∷ record { signal = j + 1; sides = sides_of_bits (not inverted) inverted } ∷ []

-- the valuation of a vector in which two inputs have these bits
abbrev pub side : Net → ℕ → ℕ → Bool → Bool → List Bool → List Bool
side net i j a b x = valuation_of net (with_input j b (with_input i a x))

-- What is known of the gates from `start` on and before `place`, where all that read what is listed stand before `end`.
pub record Spreads (net : Net) (i j : ℕ) (inverted : Bool) (start place end : ℕ) (near : Near) : Type 0 where
  pub within : end ≤ length net.gates
  pub tracks : (x : List Bool) → length x ≡ net.inputs
      → Tracks (side net i j false (not inverted) x) (side net i j true inverted x) (1 + net.inputs + place) near
  pub covered : All (λ entry. IsCovered net.gates (length net.gates) start end entry.signal) near.changed

-- All gates were gone over.
abbrev pub IsWhole : Net → ℕ → ℕ → Bool → Near → Type 0
IsWhole net i j inverted near =
    (x : List Bool) → length x ≡ net.inputs
    → Tracks (side net i j false (not inverted) x) (side net i j true inverted x) (signals_of net) near
