-- The words are two, the first is `trial`, and the second writes a number.
use Rattle.std.proofs.Common.{ap, sym, ◌∙◌, map}
use Rattle.std.specs.Prelude.{string_bytes, codes}
use Rattle.std.proofs.lemmas.Slice.Eq.{bytes_eq-Decides}
use Rattle.check_steps.proofs.WordLemmas.{two}
use Rattle.check_steps.proofs.words.trial_asked.Goals as goal

pub returns-in_ok-number_of-in-len2-clause-asked : goal.returns-in_ok-number_of-in-len2-clause-asked
returns-in_ok-number_of-in-len2-clause-asked c =
    let e = two c.args.words.now _ _ c.in-len2.len_at_least c.in-len2.len_below c.command-item.is c.number-item.is in
    let named = (bytes_eq-Decides c.as_str.result.now (codes "trial")).0 (sym c.eq.ensures ∙ c.if-eq.true) in
    record {
      word = c.as_str-in-len2.result.now;
      form = ap (map string_bytes) e ∙ cc (named, c.as_str.ensures.value, c.as_str-in-len2.ensures.value);
      number_is = c.in_ok-number_of-in-len2.ensures.some;
    }
