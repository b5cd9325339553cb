-- Lists that grow at their end.
pub use Rattle.circuits.proofs.Lists.{flat_push}
pub use Rattle.ban_book.proofs.ListLemmas.{flat_taken, zip_map}
pub use Rattle.ban_book.proofs.Marked.{below_more, below_push}
