use Rattle.std.proofs.Common.{◌≡◌, ℕ, List, Bor, rules, tests, sym, ◌∙◌}
use Rattle.std.specs.List.{list_all, list_any}
use Rattle.std.specs.Str.{bytes_eq}
use Rattle.std.proofs.lemmas.Iterator.{YieldsList-from_slice}
use Rattle.std.proofs.lemmas.Iterator.Search.{all_from_yields_List}
use Rattle.std.proofs.lemmas.List.Folds.{list_all-map}
use Rattle.blif_reader.specs.Numbers.{names_of}
use Rattle.hier_blif.proofs.names.has_all.Goals as goal

pub returns : goal.returns
returns c =
    let keys = c.args.required.now.keys in
    let names = names_of c.args.names.now in
    let told : c.all.result ≡ list_all (λ key. list_any (bytes_eq key.now) names) keys = all_from_yields_List (λ key. list_any (bytes_eq key.now) names) _ _ _ c.all.ensures.ran (YieldsList-from_slice keys cc) (λ x b q k. search (rules, tests)) in
    told ∙ sym (list_all-map (λ name. list_any (bytes_eq name) names) (λ (key : Bor (List ℕ)). key.now) keys)
