-- What refining does to a trail and to bans.
use Rattle.std.specs.Prelude.{◌≡◌, ◌≤◌, List, ◌++◌, map}
use Rattle.net_core.specs.Sides.{Graphs}
use Rattle.account_core.specs.declared.step.Ban.{Ban}
use Rattle.account_core.specs.Given.{Decided, decided_by}
use Rattle.account_core.specs.Steps.{AreValidBans}
use Rattle.ban_book.specs.Vectors.{AddsNoVector}
use Rattle.pair_domains.specs.declared.entry.Entry.{Entry}
use Rattle.pair_domains.specs.Trails.{Domained, assigned_in}
use Rattle.pair_search.specs.Grounded.{AreGrounded}
use Rattle.pair_search.specs.Justified.{IsTrail}
use Rattle.oracle_core.specs.Oracles.{Known}
use Rattle.pair_search.specs.Progress.{left}

-- A trail, and facts that show its deletions by mismatches.
pub record IsShownTrail (graphs : Graphs) (known : Known) (bans : List Ban) (domains : Domained) : Type 0 where
  pub trail : IsTrail graphs bans domains
  pub shown : AreGrounded graphs (map decided_by known.facts) domains.entries

-- Entries came at the end, none of which assigns a pair, and no more is left than before.
pub record OnlyDeletes (before after : Domained) : Type 0 where
  pub inputs : after.inputs ≡ before.inputs
  pub outputs : after.outputs ≡ before.outputs
  pub added : List Entry
  pub more : after.entries ≡ before.entries ++ added
  pub assigned : assigned_in after.entries ≡ assigned_in before.entries
  pub less : left after ≤ left before

-- Bans came after those that were kept, none by a vector. Where those before were valid in view of these facts, all
-- are.
pub record AddsShown (graphs : Graphs) (facts : List Decided) (before after : List Ban) : Type 0 where
  pub added : List Ban
  pub more : after ≡ before ++ added
  pub no_vector : AddsNoVector added
  pub valid : AreValidBans graphs facts before → AreValidBans graphs facts after

-- Pairs are deleted, each by what follows, and bans are made that facts and other bans show.
pub record Refines (graphs : Graphs) (facts : List Decided) (bans more : List Ban) (before after : Domained) : Type 0 where
  pub adds : AddsShown graphs facts bans more
  pub deletes : OnlyDeletes before after
  pub trail : IsTrail graphs bans before → IsTrail graphs more after
  pub shown : AreGrounded graphs facts before.entries → AreGrounded graphs facts after.entries
