-- The words are three, the first is `flatten`, and the others are two names.
use Rattle.std.proofs.Common.{◌≡◌, ◌∷◌, [], ap, sym, ◌∙◌, map}
use Rattle.std.specs.Prelude.{string_bytes, codes}
use Rattle.std.proofs.lemmas.Slice.Eq.{bytes_eq-Decides}
use Rattle.check_steps.proofs.WordLemmas.{asks_flatten, three}
use Rattle.check_steps.proofs.words.flatten_asked.Goals as goal

pub returns-in-len3-clause-asked : goal.returns-in-len3-clause-asked
returns-in-len3-clause-asked c =
    let e = three c.args.words.now _ _ _ c.in-len3.len_at_least c.in-len3.len_below c.command-item.is c.file-item.is c.flat-item.is in
    let named = (bytes_eq-Decides c.as_str.result.now (codes "flatten")).0 (sym c.eq.ensures ∙ c.if-eq.true) in
    let form : map string_bytes c.args.words.now ≡ codes "flatten" ∷ c.as_str-in-len3.result.now ∷ c.as_str-in-len3-2.result.now ∷ [] = ap (map string_bytes) e ∙ cc (named, c.as_str.ensures.value, c.as_str-in-len3.ensures.value, c.as_str-in-len3-2.ensures.value) in
    asks_flatten _ _ _ c.flatten_of.result form c.flatten_of.ensures.some c.flatten_of.ensures.apart
