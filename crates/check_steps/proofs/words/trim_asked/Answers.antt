-- The words are five, the first is `trim`, and the others are four names.
use Rattle.std.proofs.Common.{◌≡◌, ◌∷◌, [], ap, sym, ◌∙◌, map}
use Rattle.std.specs.Prelude.{string_bytes, codes}
use Rattle.std.proofs.lemmas.Slice.Eq.{bytes_eq-Decides}
use Rattle.check_steps.proofs.WordLemmas.{asks_trim, five}
use Rattle.check_steps.proofs.words.trim_asked.Goals as goal

pub returns-in-len5-clause-asked : goal.returns-in-len5-clause-asked
returns-in-len5-clause-asked c =
    let e = five c.args.words.now _ _ _ _ _ c.in-len5.len_at_least c.in-len5.len_below c.command-item.is c.first-item.is c.second-item.is c.account-item.is c.trimmed-item.is in
    let named = (bytes_eq-Decides c.as_str.result.now (codes "trim")).0 (sym c.eq.ensures ∙ c.if-eq.true) in
    let form : map string_bytes c.args.words.now ≡ codes "trim" ∷ c.as_str-in-len5.result.now ∷ c.as_str-in-len5-2.result.now ∷ c.as_str-in-len5-3.result.now ∷ c.as_str-in-len5-4.result.now ∷ [] = ap (map string_bytes) e ∙ cc (named, c.as_str.ensures.value, c.as_str-in-len5.ensures.value, c.as_str-in-len5-2.ensures.value, c.as_str-in-len5-3.ensures.value, c.as_str-in-len5-4.ensures.value) in
    asks_trim _ _ _ _ _ c.trim_of.result form c.trim_of.ensures.some c.trim_of.ensures.apart
