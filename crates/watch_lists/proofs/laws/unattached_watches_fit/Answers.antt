-- Watches without attached clauses fit.
use Rattle.watch_lists.proofs.KeepLemmas.{fits_unattached}
use Rattle.watch_lists.proofs.laws.unattached_watches_fit.Goals as goal

pub returns : goal.returns
returns c = fits_unattached
