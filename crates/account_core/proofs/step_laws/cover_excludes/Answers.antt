-- Some port of `from` goes to some port of `to`, by a way that is impossible or excluded.
use Rattle.account_core.proofs.CoverLemmas.{cover_contradicts}
use Rattle.account_core.proofs.step_laws.cover_excludes.Goals as goal

pub returns : goal.returns
returns c = cover_contradicts
