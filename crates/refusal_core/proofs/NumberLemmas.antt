-- Steps by lists of new numbers.
use Rattle.std.proofs.Common.{◌≡◌, ℕ, ◌+◌, ◌<◌, Bool, List, [], ◌∷◌, ◌++◌, length, map, All, Option, None, Some, refl, sym, ap, ◌∙◌, arith}
use Rattle.std.specs.Prelude.{option_to_list}
use Rattle.std.specs.List.{flat_map, range_with_len}
use Rattle.std.specs.Option.{option_map}
use Rattle.std.proofs.lemmas.List.FromFn.{get_or-map-range_with_len, map-range_with_len_more}
use Rattle.std.proofs.lemmas.List.Elements.{All-head, All-tail}
use Rattle.account_core.specs.declared.step.Ban.{Ban}
use Rattle.account_core.specs.declared.step.Step.{Step}
use Rattle.account_core.specs.declared.step.Step.TheVariants.{Vector, Mismatch, Tally, Cover}
use Rattle.refusal_core.specs.Names.{bans_named, facts_named}
use Rattle.refusal_core.specs.Numbered.{at, numbered, numbered_ban}
use Rattle.refusal_core.specs.Trims.{new_numbers, number_of, renumbered, renumbered_ban}
use Rattle.circuits.proofs.Lists.{All-front, All-back}

-- one number more
pub new_more : (marks : List Bool) (i : ℕ) (numbers more : List ℕ) (next : ℕ) → next ≡ number_of marks i → numbers ≡ map (number_of marks) (range_with_len 0 i) → more ≡ numbers ++ next ∷ [] → more ≡ map (number_of marks) (range_with_len 0 (i + 1))
new_more marks i numbers more next told before is =
    is
    ∙ (ap (λ l. l ++ next ∷ []) before
    ∙ (ap (λ n. map (number_of marks) (range_with_len 0 i) ++ n ∷ []) told
    ∙ sym (map-range_with_len_more (number_of marks) 0 i i (omega arith))))

at_new : (marks : List Bool) (k : ℕ) → k < length marks → at (new_numbers marks) k ≡ number_of marks k
at_new marks k below = get_or-map-range_with_len (number_of marks) 0 (length marks) k k 0 below (omega arith)

map_at_new : (marks : List Bool) (places : List ℕ) → All (λ k. k < length marks) places → map (at (new_numbers marks)) places ≡ map (number_of marks) places
map_at_new marks [] each = refl
map_at_new marks (k ∷ places) each =
    ap (λ n. n ∷ map (at (new_numbers marks)) places) (at_new marks k (All-head (λ k. k < length marks) k places each))
    ∙ ap (λ ns. number_of marks k ∷ ns) (map_at_new marks places (All-tail (λ k. k < length marks) k places each))

referred_new : (marks : List Bool) (reference : Option ℕ) → All (λ k. k < length marks) (option_to_list reference) → option_map (at (new_numbers marks)) reference ≡ option_map (number_of marks) reference
referred_new marks None each = refl
referred_new marks (Some k) each = ap Some (at_new marks k (All-head (λ k. k < length marks) k [] each))

map_referred_new : (marks : List Bool) (references : List (Option ℕ)) → All (λ k. k < length marks) (flat_map option_to_list references) → map (option_map (at (new_numbers marks))) references ≡ map (option_map (number_of marks)) references
map_referred_new marks [] each = refl
map_referred_new marks (r ∷ references) each =
    ap (λ n. n ∷ map (option_map (at (new_numbers marks))) references) (referred_new marks r (All-front (λ k. k < length marks) (option_to_list r) (flat_map option_to_list references) each))
    ∙ ap (λ ns. option_map (number_of marks) r ∷ ns) (map_referred_new marks references (All-back (λ k. k < length marks) (option_to_list r) (flat_map option_to_list references) each))

numbered_new : (facts bans : List Bool) (step : Step) → All (λ k. k < length facts) (facts_named step) → All (λ k. k < length bans) (bans_named step) → numbered (new_numbers facts) (new_numbers bans) step ≡ renumbered facts bans step
numbered_new facts bans (Vector output values) there known = refl
numbered_new facts bans (Mismatch fails holds) there known =
    let first = at_new facts fails (All-head (λ k. k < length facts) fails (holds ∷ []) there) in
    let second = at_new facts holds (All-head (λ k. k < length facts) holds [] (All-tail (λ k. k < length facts) fails (holds ∷ []) there)) in
    ap (λ n. Mismatch n (at (new_numbers facts) holds)) first ∙ ap (λ n. Mismatch (number_of facts fails) n) second
numbered_new facts bans (Tally kind have lack) there known =
    ap (λ ns. Tally kind ns (map (at (new_numbers facts)) lack)) (map_at_new facts have (All-front (λ k. k < length facts) have lack there))
    ∙ ap (λ ns. Tally kind (map (number_of facts) have) ns) (map_at_new facts lack (All-back (λ k. k < length facts) have lack there))
numbered_new facts bans (Cover kind from to refs) there known = ap (λ rs. Cover kind from to rs) (map_referred_new bans refs known)

-- bans whose steps name what there is
pub map_numbered_new : (facts bans : List Bool) (list : List Ban) → All (λ (ban : Ban). All (λ k. k < length facts) (facts_named ban.step)) list → All (λ (ban : Ban). All (λ k. k < length bans) (bans_named ban.step)) list
    → map (numbered_ban (new_numbers facts) (new_numbers bans)) list ≡ map (renumbered_ban facts bans) list
map_numbered_new facts bans [] there known = refl
map_numbered_new facts bans (ban ∷ list) there known =
    let one = numbered_new facts bans ban.step (All-head (λ (b : Ban). All (λ k. k < length facts) (facts_named b.step)) ban list there) (All-head (λ (b : Ban). All (λ k. k < length bans) (bans_named b.step)) ban list known) in
    ap (λ (s : Step). record { pairs = ban.pairs; step = s } ∷ map (numbered_ban (new_numbers facts) (new_numbers bans)) list) one
    ∙ ap (λ (bs : List Ban). renumbered_ban facts bans ban ∷ bs) (map_numbered_new facts bans list (All-tail (λ (b : Ban). All (λ k. k < length facts) (facts_named b.step)) ban list there) (All-tail (λ (b : Ban). All (λ k. k < length bans) (bans_named b.step)) ban list known))
