use Rattle.std.proofs.Common.{[], List}
use Rattle.account_core.specs.Given.{Decided}
use Rattle.pair_search.specs.Grounded.{AreGrounded}
use Rattle.pair_search.specs.Justified.{IsTrail}
use Rattle.search_tests.proofs.refinings.assign_all.Given as goal

abbrev pub invariant-loop-pair : goal.invariant-loop-pair
invariant-loop-pair l = IsTrail l.graphs [] l.domains × ((facts : List Decided) → AreGrounded l.graphs facts l.domains.entries)
