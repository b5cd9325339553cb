use Rattle.std.proofs.Common.{◌≡◌, ◌+◌, ◌<◌, ◌≤◌, ℕ, List, [], Bor, length, get_or, ap, subst, ◌∙◌}
use Rattle.std.specs.Prelude.{option_map, position}
use Rattle.std.specs.Str.{bytes_eq}
use Rattle.std.proofs.lemmas.List.{get_or_default, take_all}
use Rattle.hier_blif.specs.Scopes.{with_number}
use Rattle.hier_blif.proofs.LookUpLemmas.{numbered_next}
use Rattle.hier_blif.proofs.flattening.input_numbers.Goals as goal

abbrev no_key : Bor (List ℕ)
no_key = record { ref_ptr = (0, 0); now = [] }

abbrev key_bytes : Bor (List ℕ) → List ℕ
key_bytes key = key.now

pub loop-place-preserved : goal.loop-place-preserved
loop-place-preserved c name =
    let keys = c.args.names.now.keys in
    let k = c.loop-place.place in
    let same = c.as_slice-name-items.ensures.keys in
    let below : k < length keys = subst (λ ks. k < length ks) same c.loop-place-test.true in
    let key = get_or keys k no_key in
    let puts = subst (λ ks. c.put.new.self ≡ with_number c.loop-place.numbers (get_or ks k no_key).now (1 + k)) same c.in_ok-put.ensures.ok in
    numbered_next key_bytes (λ n. 1 + n) keys k key c.loop-place.numbers c.put.new.self below (get_or_default keys k no_key key below) c.loop-place.invariant puts name

pub returns : goal.returns
returns c name =
    let keys = c.args.names.now.keys in
    let k = c.loop-place.place in
    let past : length keys ≤ k = subst (λ ks. length ks ≤ k) c.as_slice-name-items.ensures.keys c.loop-place-test.false in
    c.loop-place.invariant name
    ∙ ap (λ ks. option_map (λ n. 1 + n) (position (λ (key : Bor (List ℕ)). bytes_eq name key.now) ks)) (take_all k keys past)
