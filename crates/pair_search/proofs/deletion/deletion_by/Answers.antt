use Rattle.std.proofs.Common.{subst}
use Rattle.std.specs.Prelude.{Contains}
use Rattle.pair_domains.specs.declared.entry.Reason.{Reason}
use Rattle.pair_search.specs.Named.{AreNamed, deleted}
use Rattle.pair_search.proofs.GroundedLemmas.{covers_two, learns_mismatch}
use Rattle.pair_search.proofs.deletion.deletion_by.Goals as goal

pub returns-in_err-number-in-Mismatch-clause-more : goal.returns-in_err-number-in-Mismatch-clause-more
returns-in_err-number-in-Mismatch-clause-more c = λ graphs entries there.
    let it = c.in-Mismatch in
    learns_mismatch graphs entries c.args.book.now c.keep_mismatch.new.book c.args.pair it.with it.fails it.holds (subst (λ (why : Reason). Contains entries (deleted c.args.pair why)) it.is there) c.keep_mismatch.ensures.adds

pub returns-in_ok-number-in-Mismatch-clause-more : goal.returns-in_ok-number-in-Mismatch-clause-more
returns-in_ok-number-in-Mismatch-clause-more c = λ graphs entries there.
    let it = c.in-Mismatch in
    learns_mismatch graphs entries c.args.book.now c.keep_mismatch.new.book c.args.pair it.with it.fails it.holds (subst (λ (why : Reason). Contains entries (deleted c.args.pair why)) it.is there) c.keep_mismatch.ensures.adds

pub returns-in_ok-number-in-Mismatch-clause-excluded : goal.returns-in_ok-number-in-Mismatch-clause-excluded
returns-in_ok-number-in-Mismatch-clause-excluded c = λ pairs named.
    let it = c.in-Mismatch in
    covers_two c.keep_mismatch.new.book c.args.pair it.with pairs c.in_ok-number-in-Mismatch.number (subst (AreNamed c.args.book.now pairs c.args.pair) it.is named) c.in_ok-number-in-Mismatch.ensures.covers
