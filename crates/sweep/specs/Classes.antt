-- Signals in classes: those of different ones don't compute the same, nor the complement (simulation signatures of FRAIGs).
use Rattle.std.specs.Prelude.{◌≡◌, ◌≢◌, ◌⊎◌, ◌==◌, ◌&&◌, ℕ, ◌<◌, ◌≤◌, ◌^◌, Bool, false, List, [], length, replicate, Option, Some, slice_index_or, if◌then◌else◌}
use Rattle.std.specs.Map.{lookup}
use Rattle.circuits.specs.Literals.{bit}
use Rattle.circuits.specs.Netlists.{Net, signals_of, valuation_of}
use Rattle.net_core.specs.Values.{signed_word}
use Rattle.word_sim.specs.Columns.{Table, word_of}
use Rattle.sweep.specs.declared.classes.Member.{Member}
use Rattle.sweep.specs.Signals.{AreUnlike}

-- what is known of signal s
abbrev pub member_at : List Member → ℕ → Member
member_at members s = slice_index_or members s (record { flip = false; class = 0 })

-- the signals' bits where all inputs are false
abbrev pub bits_at_zero : Net → List Bool
bits_at_zero net = valuation_of net (replicate net.inputs false)

-- Each signal has its bit where all inputs are false, and a class. Those of different classes are unlike.
pub record AreClasses (net : Net) (members : List Member) : Type 0 where
  pub count : length members ≡ signals_of net
  pub flips : (s : ℕ) → s < signals_of net → (member_at members s).flip ≡ bit (bits_at_zero net) s
  pub few : (s : ℕ) → s < signals_of net → (member_at members s).class < signals_of net
  pub unlike : (s t : ℕ) → s < signals_of net → t < signals_of net
      → (member_at members s).class ≢ (member_at members t).class
      → AreUnlike net s t

-- the number under a key: a class, and a word that is seen
abbrev pub same_key : ℕ × ℕ → ℕ × ℕ → Bool
same_key one other = (one.0 == other.0) && (one.1 == other.1)

abbrev pub number_of : List ((ℕ × ℕ) × ℕ) → ℕ × ℕ → Option ℕ
number_of entries key = lookup (same_key key) entries

-- a number is kept under a key, beside the others
abbrev pub HasAlso : List ((ℕ × ℕ) × ℕ) → List ((ℕ × ℕ) × ℕ) → ℕ × ℕ → ℕ → Type 0
HasAlso old new key number = (other : ℕ × ℕ)
    → number_of new other ≡ (if same_key key other then Some number else number_of old other)

-- The number under a key: it was there, or it is a signal's. Others stay.
pub record IsNumbered (old new : List ((ℕ × ℕ) × ℕ)) (key : ℕ × ℕ) (signal number : ℕ) : Type 0 where
  pub has : number_of new key ≡ Some number
  pub keeps : (other : ℕ × ℕ) (k : ℕ) → number_of old other ≡ Some k → number_of new other ≡ Some k
  pub only : (other : ℕ × ℕ) (k : ℕ) → number_of new other ≡ Some k → (k ≡ signal) ⊎ (number_of old other ≡ Some k)

-- what is seen of a signal in word w, complemented where its bit is true where all inputs are false
abbrev pub seen : Table → ℕ → List Member → ℕ → ℕ
seen values w members s = signed_word (word_of w (slice_index_or values.columns s [])) (member_at members s).flip

-- its class, and what is seen of it
abbrev pub key_of : Table → ℕ → List Member → ℕ → ℕ × ℕ
key_of values w members s = ((member_at members s).class, seen values w members s)

-- The first n signals have new classes: those of one class of which the same is seen stay together.
pub record AreSplit (n : ℕ) (values : Table) (w : ℕ) (old new : List Member) (entries : List ((ℕ × ℕ) × ℕ)) : Type 0 where
  pub count : length new ≡ length old
  pub flips : (s : ℕ) → s < length old → (member_at new s).flip ≡ (member_at old s).flip
  pub others : (s : ℕ) → n ≤ s → s < length old → (member_at new s).class ≡ (member_at old s).class
  pub small : (s : ℕ) → s < n → seen values w old s < 2 ^ 64
  pub has : (s : ℕ) → s < n → number_of entries (key_of values w old s) ≡ Some (member_at new s).class
  pub few : (key : ℕ × ℕ) (k : ℕ) → number_of entries key ≡ Some k → k < n

-- all signals have
pub record IsSplitBy (values : Table) (w : ℕ) (old new : List Member) : Type 0 where
  pub entries : List ((ℕ × ℕ) × ℕ)
  pub split : AreSplit (length old) values w old new entries

-- a signal that has this bit where all inputs are false, in the first class
abbrev pub first_member : Bool → Member
first_member flip = record { flip = flip; class = 0 }
