-- The words are four, the first is `make`, the second writes a number, and the others are two names.
use Rattle.std.proofs.Common.{◌≡◌, ◌∷◌, [], ap, get_or, sym, ◌∙◌, map}
use Rattle.std.specs.Prelude.{string_bytes, codes}
use Rattle.std.proofs.lemmas.Slice.Eq.{bytes_eq-Decides}
use Rattle.check_steps.proofs.WordLemmas.{four, asks_make, none_says, not_make}
use Rattle.check_steps.proofs.words.make_asked.Goals as goal

pub returns-in_ok-number_of-in-len4-clause-asked : goal.returns-in_ok-number_of-in-len4-clause-asked
returns-in_ok-number_of-in-len4-clause-asked c =
    let e = four c.args.words.now _ _ _ _ c.in-len4.len_at_least c.in-len4.len_below c.command-item.is c.number-item.is c.first-item.is c.second-item.is in
    let named = (bytes_eq-Decides c.as_str.result.now (codes "make")).0 (sym c.eq.ensures ∙ c.if-eq.true) in
    let form : map string_bytes c.args.words.now ≡ codes "make" ∷ c.as_str-in-len4.result.now ∷ c.as_str-in-len4-2.result.now ∷ c.as_str-in-len4-3.result.now ∷ [] = ap (map string_bytes) e ∙ cc (named, c.as_str.ensures.value, c.as_str-in-len4.ensures.value, c.as_str-in-len4-2.ensures.value, c.as_str-in-len4-3.ensures.value) in
    asks_make _ c.as_str-in-len4.result.now c.as_str-in-len4-2.result.now c.as_str-in-len4-3.result.now c.in_ok-number_of-in-len4.field-0 c.make_of.result form c.in_ok-number_of-in-len4.ensures.some c.make_of.ensures.some c.make_of.ensures.apart

pub returns-in_err-number_of-in-len4-clause-not_asked : goal.returns-in_err-number_of-in-len4-clause-not_asked
returns-in_err-number_of-in-len4-clause-not_asked c =
    let e = four c.args.words.now _ _ _ _ c.in-len4.len_at_least c.in-len4.len_below c.command-item.is c.number-item.is c.first-item.is c.second-item.is in
    none_says _ c.from_residual.result (not_make _ c.as_str-in-len4.result.now (ap (λ words. get_or (map string_bytes words) 1 []) e ∙ sym c.as_str-in-len4.ensures.value) c.in_err-number_of-in-len4.ensures.none)
