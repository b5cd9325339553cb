-- The records of an account that its conclusion rests on (backward marking, as in the trimming of proofs: Wetzler, Heule and
-- Hunt, DRAT-trim, SAT 2014).
use Rattle.std.specs.Prelude.{◌≡◌, ◌<◌, Bool, true, List, length, All}
use Rattle.circuits.specs.Literals.{EachAt, bit}
use Rattle.refusal_core.specs.Names.{AreAmong, AreMarked}
use Rattle.account_trim.specs.declared.links.Links.{Links}

-- each names only what stands before it
abbrev pub NameBack : List Links → Type 0
NameBack links = EachAt (λ k link. All (λ place. place < k) link.names) links

-- Marks among which are all roots, and with each record all that it names.
pub record IsClosed (links : List Links) (marks : List Bool) : Type 0 where
  pub roots : EachAt (λ k link. link.is_root ≡ true → bit marks k ≡ true) links
  pub named : EachAt (λ k link. bit marks k ≡ true → AreMarked marks link.names) links

-- The marks of what is reached: the least ones among which are all roots, with all that is named.
pub record IsReached (links : List Links) (marks : List Bool) : Type 0 where
  pub as_many : length marks ≡ length links
  pub closed : IsClosed links marks
  pub least : (others : List Bool) → IsClosed links others → AreAmong marks others
