-- The words are three or four, the first is `sweep`, and the two after it are names.
use Rattle.std.proofs.Common.{◌≡◌, ◌∷◌, [], length, inl, inr, ap, get_or, refl, sym, ◌∙◌, map}
use Rattle.std.specs.Prelude.{string_bytes, codes}
use Rattle.std.proofs.lemmas.Slice.Eq.{bytes_eq-Decides}
use Rattle.check_steps.specs.Words.{default_allowance}
use Rattle.check_steps.proofs.WordLemmas.{asks_sweep, four, none_says, not_sweep, three}
use Rattle.check_steps.proofs.words.sweep_asked.Goals as goal

pub returns-in-len3-clause-asked : goal.returns-in-len3-clause-asked
returns-in-len3-clause-asked c =
    let e = three c.args.words.now _ _ _ c.in-len3.len_at_least c.in-len3.len_below c.command-item.is c.file-item.is c.swept-item.is in
    let named = (bytes_eq-Decides c.as_str.result.now (codes "sweep")).0 (sym c.eq.ensures ∙ c.if-eq.true) in
    let form : map string_bytes c.args.words.now ≡ codes "sweep" ∷ c.as_str-in-len3.result.now ∷ c.as_str-in-len3-2.result.now ∷ [] = ap (map string_bytes) e ∙ cc (named, c.as_str.ensures.value, c.as_str-in-len3.ensures.value, c.as_str-in-len3-2.ensures.value) in
    asks_sweep _ c.as_str-in-len3.result.now c.as_str-in-len3-2.result.now default_allowance c.sweep_of.result (inl (form, refl)) c.sweep_of.ensures.some c.sweep_of.ensures.apart

pub returns-in_ok-number_of-in-len4-clause-asked : goal.returns-in_ok-number_of-in-len4-clause-asked
returns-in_ok-number_of-in-len4-clause-asked c =
    let e = four c.args.words.now _ _ _ _ c.in-len4.len_at_least c.in-len4.len_below c.command-item-then-words-lt5.is c.file-item-then-words-lt5.is c.swept-item-then-words-lt5.is c.allowance-item.is in
    let named = (bytes_eq-Decides c.as_str-then-words-lt5.result.now (codes "sweep")).0 (sym c.eq-then-words-lt5.ensures ∙ c.if-eq-2.true) in
    let form : map string_bytes c.args.words.now ≡ codes "sweep" ∷ c.as_str-in-len4.result.now ∷ c.as_str-in-len4-2.result.now ∷ c.as_str-in-len4-3.result.now ∷ [] = ap (map string_bytes) e ∙ cc (named, c.as_str-then-words-lt5.ensures.value, c.as_str-in-len4.ensures.value, c.as_str-in-len4-2.ensures.value, c.as_str-in-len4-3.ensures.value) in
    asks_sweep _ c.as_str-in-len4.result.now c.as_str-in-len4-2.result.now c.in_ok-number_of-in-len4.field-0 c.sweep_of-in-len4.result (inr (c.as_str-in-len4-3.result.now, form, c.in_ok-number_of-in-len4.ensures.some)) c.sweep_of-in-len4.ensures.some c.sweep_of-in-len4.ensures.apart

pub returns-in_err-number_of-in-len4-clause-not_asked : goal.returns-in_err-number_of-in-len4-clause-not_asked
returns-in_err-number_of-in-len4-clause-not_asked c =
    let e = four c.args.words.now _ _ _ _ c.in-len4.len_at_least c.in-len4.len_below c.command-item-then-words-lt5.is c.file-item-then-words-lt5.is c.swept-item-then-words-lt5.is c.allowance-item.is in
    none_says _ c.from_residual.result (not_sweep _ c.as_str-in-len4-3.result.now (ap (λ words. length (map string_bytes words)) e) (ap (λ words. get_or (map string_bytes words) 3 []) e ∙ sym c.as_str-in-len4-3.ensures.value) c.in_err-number_of-in-len4.ensures.none)
