-- The words are four, the first is `check`, and the others aren't empty.
use Rattle.std.proofs.Common.{ap, sym, ◌∙◌, map}
use Rattle.std.specs.Prelude.{string_bytes, codes}
use Rattle.std.proofs.lemmas.Slice.Eq.{bytes_eq-Decides}
use Rattle.check_steps.proofs.WordLemmas.{four, not_empty}
use Rattle.check_steps.proofs.words.check_asked.Goals as goal

pub returns-else-is_empty-3-clause-asked : goal.returns-else-is_empty-3-clause-asked
returns-else-is_empty-3-clause-asked c = record {
  form = let e = four c.args.words.now _ _ _ _ c.in-len4.len_at_least c.in-len4.len_below c.command-item.is c.first-item.is c.second-item.is c.account-item.is in
      let named = (bytes_eq-Decides c.as_str.result.now (codes "check")).0 (sym c.eq.ensures ∙ c.if-eq.true) in
      ap (map string_bytes) e ∙ cc (named, c.as_str.ensures.value, c.as_str-first.ensures.value, c.as_str-second.ensures.value, c.as_str-account.ensures.value);
  first_named = not_empty _ _ c.is_empty.ensures c.if-is_empty.false;
  second_named = not_empty _ _ c.is_empty-else-is_empty.ensures c.if-is_empty-2.false;
  account_named = not_empty _ _ c.is_empty-else-is_empty-2.ensures c.if-is_empty-3.false;
}
