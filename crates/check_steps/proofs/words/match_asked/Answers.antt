-- The words are four or more, the first is `match`.
use Rattle.std.proofs.Common.{◌≡◌, ◌∷◌, ap, sym, ◌∙◌, map, length}
use Rattle.std.specs.List.{between}
use Rattle.std.specs.Prelude.{string_bytes, codes}
use Rattle.std.proofs.lemmas.Slice.Eq.{bytes_eq-Decides}
use Rattle.check_steps.proofs.WordLemmas.{asks_match, four_after}
use Rattle.check_steps.proofs.words.match_asked.Goals as goal

pub returns-in-len4-up-clause-asked : goal.returns-in-len4-up-clause-asked
returns-in-len4-up-clause-asked c =
    let words = c.args.words.now in
    let e = four_after words _ _ _ _ c.in-len4-up.len_at_least c.command-item.is c.first-item.is c.second-item.is c.account-item.is in
    let named = (bytes_eq-Decides c.as_str.result.now (codes "match")).0 (sym c.eq.ensures ∙ c.if-eq.true) in
    let form : map string_bytes words ≡ codes "match" ∷ c.as_str-in-len4-up.result.now ∷ c.as_str-in-len4-up-2.result.now ∷ c.as_str-in-len4-up-3.result.now ∷ map string_bytes (between 4 (length words) words) = ap (map string_bytes) e ∙ cc (named, c.as_str.ensures.value, c.as_str-in-len4-up.ensures.value, c.as_str-in-len4-up-2.ensures.value, c.as_str-in-len4-up-3.ensures.value) in
    asks_match _ _ _ _ _ c.match_of.result form c.match_of.ensures.names c.match_of.ensures.apart c.match_of.ensures.numbers
