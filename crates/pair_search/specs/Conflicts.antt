-- Conflicts: why the search can't go on.
use Rattle.std.specs.Prelude.{List, All, Option, Result, IfOk, IfSome, OnOk}
use Rattle.account_core.specs.declared.step.Ban.{Ban}
use Rattle.ban_book.specs.Covering.{Covers}
use Rattle.ban_book.specs.declared.block.Block.{Block}
use Rattle.ban_book.specs.Ways.{ways_in, IsBlock}
use Rattle.pair_domains.specs.Trails.{Domained, IsDeleted, assigned_in, ports_of}
use Rattle.account_core.specs.declared.ports.Port.{Port}
use Rattle.pair_search.specs.Named.{EachWay, IsPortOf}
use Rattle.pair_search.specs.Progress.{Propagates}
use Rattle.pair_search.specs.declared.conflict.Conflict.{Conflict}
use Rattle.pair_search.specs.declared.conflict.Conflict.TheVariants as conflict

-- All ways of a port are deleted.
pub record HasNoWay (domains : Domained) (port : Port) : Type 0 where
  pub there : IsPortOf domains port
  pub each : EachWay port (ports_of domains.inputs domains.outputs port.kind) (IsDeleted domains.entries)

-- All ways of a block are deleted.
pub record HasNoWays (domains : Domained) (block : Block) : Type 0 where
  pub is_block : IsBlock (ports_of domains.inputs domains.outputs block.kind) block
  pub each : All (IsDeleted domains.entries) (ways_in block)

-- all pairs of a ban are assigned, or all ways of a port or of a block are deleted
abbrev pub IsConflict : List Ban → Domained → Conflict → Type 0
IsConflict bans domains (conflict.Ban number) = Covers bans (assigned_in domains.entries) number
IsConflict bans domains (conflict.Port port) = HasNoWay domains port
IsConflict bans domains (conflict.Block block) = HasNoWays domains block

-- What propagating does: pairs were assigned and deleted as it follows, and what is answered is a conflict.
pub record Follows {E : Type 0} (bans : List Ban) (before after : Domained) (result : Result (Option Conflict) E) : Type 0 where
  pub propagates : OnOk result (Propagates bans before after)
  pub conflict : IfOk result (λ found. IfSome found (IsConflict bans after))
