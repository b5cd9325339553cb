-- Nothing before the last literal changes.
use Rattle.watch_lists.proofs.KeepLemmas.{fits_assigned, fits_back, fits_decided}
use Rattle.watch_lists.proofs.laws.fit_is_kept.Goals as goal

pub returns : goal.returns
returns c = record { decide = fits_decided; assign = fits_assigned; back_to = fits_back }
