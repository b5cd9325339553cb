use Rattle.std.proofs.Common.{◌<◌, ◌≤◌, ℕ, List, [], Bor, length, get_or, subst}
use Rattle.std.proofs.lemmas.List.{get_or_default}
use Rattle.blif_reader.specs.Numbers.{names_of, IsAdded}
use Rattle.hier_blif.proofs.KeyLemmas.{keys_more, all_keys}
use Rattle.hier_blif.proofs.names.copy_of.Goals as goal

abbrev no_key : Bor (List ℕ)
no_key = record { ref_ptr = (0, 0); now = [] }

abbrev key_bytes : Bor (List ℕ) → List ℕ
key_bytes key = key.now

pub loop-name-preserved : goal.loop-name-preserved
loop-name-preserved c =
    let keys = c.args.names.now.keys in
    let k = c.loop-name.name-index in
    let same = c.as_slice-name-items.ensures.keys in
    let below : k < length keys = subst (λ ks. k < length ks) same c.loop-name-test.true in
    let key = get_or keys k no_key in
    let adds = subst (λ ks. IsAdded (get_or ks k no_key).now c.in_ok-_added._added (names_of c.loop-name.copy) (names_of c.add_name.new.names)) same c.in_ok-_added.ensures in
    keys_more key_bytes keys k key c.in_ok-_added._added _ _ below (get_or_default keys k no_key key below) c.loop-name.invariant adds

pub returns : goal.returns
returns c =
    let keys = c.args.names.now.keys in
    let k = c.loop-name.name-index in
    let past : length keys ≤ k = subst (λ ks. length ks ≤ k) c.as_slice-name-items.ensures.keys c.loop-name-test.false in
    all_keys key_bytes keys k _ past c.loop-name.invariant
