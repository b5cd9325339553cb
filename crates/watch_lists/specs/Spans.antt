-- Lists of watches that stand side by side in one vector.
use Rattle.std.specs.Prelude.{◌≢◌, ℕ, ◌+◌, ◌<◌, ◌≤◌, List, length, take, drop, slice_index_or, ◌⊎◌}
use Rattle.watch_lists.specs.declared.list_store.Span.{Span}
use Rattle.watch_lists.specs.Lists.{Listed}

-- a list of no places at all
abbrev pub no_span : Span
no_span = record { start = 0; len = 0; room = 0; places = 0 }

-- where the list of the literal of a number stands
abbrev pub span_at : List Span → ℕ → Span
span_at spans c = slice_index_or spans c no_span

-- the list that stands in a span
abbrev pub listed_in : List ℕ → Span → Listed
listed_in watches span = record { watches = take span.len (drop span.start watches); room = span.room }

-- each span is within the vector, has places for what it has and has room for, and stands apart from the others
pub record AreLaid (watches : List ℕ) (spans : List Span) : Type 0 where
  pub within : (c : ℕ) → c < length spans → (span_at spans c).start + (span_at spans c).places ≤ length watches
  pub room : (c : ℕ) → c < length spans → (span_at spans c).len + (span_at spans c).room ≤ (span_at spans c).places
  pub apart : (c d : ℕ)
      → c < length spans
      → d < length spans
      → c ≢ d
      → ((span_at spans c).start + (span_at spans c).places ≤ (span_at spans d).start)
      ⊎ ((span_at spans d).start + (span_at spans d).places ≤ (span_at spans c).start)
