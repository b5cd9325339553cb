-- The words are two or three, the first is `info`, and the second isn't empty.
use Rattle.std.proofs.Common.{◌≡◌, ◌∷◌, [], inl, inr, ap, refl, sym, ◌∙◌, map}
use Rattle.std.specs.Prelude.{string_bytes, codes}
use Rattle.std.proofs.lemmas.Slice.Eq.{bytes_eq-Decides}
use Rattle.check_steps.specs.Words.{default_budget}
use Rattle.check_steps.proofs.WordLemmas.{asks_if, two, three}
use Rattle.check_steps.proofs.words.info_asked.Goals as goal

pub returns-in-len2-clause-asked : goal.returns-in-len2-clause-asked
returns-in-len2-clause-asked c =
    let e = two c.args.words.now _ _ c.in-len2.len_at_least c.in-len2.len_below c.command-item.is c.file-item.is in
    let named = (bytes_eq-Decides c.as_str.result.now (codes "info")).0 (sym c.eq.ensures ∙ c.if-eq.true) in
    let form : map string_bytes c.args.words.now ≡ codes "info" ∷ c.as_str-in-len2.result.now ∷ [] = ap (map string_bytes) e ∙ cc (named, c.as_str.ensures.value, c.as_str-in-len2.ensures.value) in
    asks_if _ c.as_str-in-len2.result.now default_budget c.info_of.result (inl (form, refl)) c.info_of.ensures.some

pub returns-in_ok-number_of-in-len3-clause-asked : goal.returns-in_ok-number_of-in-len3-clause-asked
returns-in_ok-number_of-in-len3-clause-asked c =
    let e = three c.args.words.now _ _ _ c.in-len3.len_at_least c.in-len3.len_below c.command-item-then-words-lt4.is c.file-item-then-words-lt4.is c.budget-item.is in
    let named = (bytes_eq-Decides c.as_str-then-words-lt4.result.now (codes "info")).0 (sym c.eq-then-words-lt4.ensures ∙ c.if-eq-2.true) in
    let form : map string_bytes c.args.words.now ≡ codes "info" ∷ c.as_str-in-len3.result.now ∷ c.as_str-in-len3-2.result.now ∷ [] = ap (map string_bytes) e ∙ cc (named, c.as_str-then-words-lt4.ensures.value, c.as_str-in-len3.ensures.value, c.as_str-in-len3-2.ensures.value) in
    asks_if _ c.as_str-in-len3.result.now c.in_ok-number_of-in-len3.field-0 c.info_of-in-len3.result (inr (c.as_str-in-len3-2.result.now, form, c.in_ok-number_of-in-len3.ensures.some)) c.info_of-in-len3.ensures.some
