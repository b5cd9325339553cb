-- The sort by the records is stable.
use Rattle.std.proofs.Common.{rules}
use Rattle.std.proofs.lemmas.List.Sorted.{IsNonDecreasingBy-from_sort_by_key, answers_always}
use Rattle.account_convert.specs.declared.dues.Due.{Due}
use Rattle.account_convert.proofs.DueLemmas.{sorted_dues}
use Rattle.account_convert.proofs.dues.dues_in.Goals as goal

pub returns : goal.returns
returns c =
    sorted_dues c.args.table.now c.in_ok-dues.dues.items c.sort_by_key.new.self.items c.in_ok-dues.ensures
    (IsNonDecreasingBy-from_sort_by_key (λ (due : Due). due.record_number) _ c.in_ok-sort_by_key.ensures.sorted (λ a r q k. search rules))
    (c.sort_by_key.ensures.stable (λ (due : Due). due.record_number) (answers_always _ _ _ (λ f a r q k. search rules)))
