-- What is asked of a match: whether an output and its partner can differ.
use Rattle.std.specs.Prelude.{◌≡◌, ℕ, ◌+◌, ◌<◌, ◌==◌, Bool, false, not, List, [], ◌∷◌, length, map, All, slice_index_or, if◌then◌else◌}
use Rattle.std.specs.List.{range_with_len}
use Rattle.circuits.specs.Literals.{differ}
use Rattle.circuits.specs.Bijections.{place_of, sign_of}
use Rattle.net_core.specs.declared.matching.Matching.{Matching}
use Rattle.net_core.specs.declared.graphs.Side.TheVariants.{First, Second}
use Rattle.claim_core.specs.declared.query.Feed.{Feed}
use Rattle.claim_core.specs.declared.query.Feed.TheVariants.{Fixed, Wire}
use Rattle.claim_core.specs.declared.query.Query.{Query}
use Rattle.claim_core.specs.Queries.{IsWired}
pub use Rattle.claim_core.specs.Feeds.{straight}

-- what a place gets by the entries from number i on: the bit of the input that goes there, inverted where the entry
-- says so
abbrev pub wire_to : ℕ → List (ℕ × Bool) → ℕ → Feed
wire_to i [] place = Fixed false
wire_to i (entry ∷ entries) place = if entry.0 == place then Wire i entry.1 else wire_to (i + 1) entries place

-- each place gets the bit of the input that goes to it
abbrev pub moved_feed : List (ℕ × Bool) → List Feed
moved_feed entries = map (wire_to 0 entries) (range_with_len 0 (length entries))

-- Whether output k of the first circuit, of n inputs, can have this value while its partner hasn't the value that
-- belongs to it.
abbrev pub match_query : ℕ → Matching → ℕ → Bool → Query
match_query n matching k value = record {
  left = record { side = First; output = k; feed = straight n };
  left_value = value;
  right = record { side = Second; output = place_of matching.outputs k; feed = moved_feed matching.inputs };
  right_value = differ (not value) (sign_of matching.outputs k);
}

-- a query is one of a matching
abbrev pub IsOfMatching : ℕ → Matching → Query → Type 0
IsOfMatching n matching query = (k : ℕ) × (value : Bool) × (query ≡ match_query n matching k value)

-- the place that each input goes to gets the input's bit, inverted where the sign says so
pub record IsMovedFeed (entries : List (ℕ × Bool)) (feed : List Feed) : Type 0 where
  pub inputs : length feed ≡ length entries
  pub wires : (i : ℕ) (d : Feed) → i < length entries
      → slice_index_or feed (place_of entries i) d ≡ Wire i (sign_of entries i)
  pub wired : All (IsWired (length entries)) feed
