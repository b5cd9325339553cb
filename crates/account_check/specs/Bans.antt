-- What is wrong with a ban (this project's format).
use Rattle.std.specs.Prelude.{All, Option}
use Rattle.net_core.specs.Sides.{Graphs}
use Rattle.account_core.specs.declared.step.Ban.{Ban}
use Rattle.account_core.specs.Ports.{AreOrdered, IsKnown}
use Rattle.account_core.specs.Given.{Given}
use Rattle.account_core.specs.Steps.{AreNamesKnown, HasShown, KeepsRule}
use Rattle.account_check.specs.declared.reject.Reject.{Reject}
use Rattle.account_check.specs.declared.reject.Reject.TheVariants as reject
use Rattle.account_check.specs.Drops.{AreNamesKept, Dropped}
use Rattle.account_check.specs.Tests.{Passed, Unless}

-- the tests of a ban's step
abbrev pub StepTests : Graphs → Given → Dropped → Ban → Option Reject → Type 0
StepTests graphs given dropped ban fault =
    Unless (AreNamesKnown graphs given ban.step × AreNamesKept dropped ban.step) reject.UnknownId
    (Unless (KeepsRule graphs given ban.pairs ban.step) reject.Rule
    (Unless (HasShown graphs ban.pairs ban.step) reject.VectorFails Passed)) fault

-- the tests of a ban: first of its pairs, and then of its step
abbrev pub BanTests : Graphs → Given → Dropped → Ban → Option Reject → Type 0
BanTests graphs given dropped ban fault =
    Unless (All (IsKnown graphs) ban.pairs) reject.UnknownId
    (Unless (AreOrdered ban.pairs) reject.Rule (StepTests graphs given dropped ban)) fault
