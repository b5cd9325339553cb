use Rattle.std.proofs.Common.{◌≡◌, ◌≢◌, ◌<◌, ◌∷◌, All, List, length, get_or, sym, subst}
use Rattle.std.specs.Prelude.{Contains}
use Rattle.std.proofs.lemmas.List.Elements.{All-contains_itself}
use Rattle.circuits.specs.declared.port.Pair.{Pair}
use Rattle.pair_search.proofs.WithoutLemmas.{all_or, rest_among, rest_or, rest_others}
use Rattle.pair_search.proofs.resolution.without.Goals as goal

pub returns-in-Some-clause-fewer : goal.returns-in-Some-clause-fewer
returns-in-Some-clause-fewer c =
    subst (All (Contains c.args.pairs.items)) (sym c.remove.ensures.items) (rest_among c.args.pairs.items c.in-Some.place)

pub returns-in-Some-clause-gone : goal.returns-in-Some-clause-gone
returns-in-Some-clause-gone c =
    let pairs = c.args.pairs.items in
    let place = c.in-Some.place in
    let within = subst (λ (l : List Pair). place < length l) c.deref.ensures.value c.in-Some.ensures.found in
    let is = subst (λ (l : List Pair). get_or l place c.args.pair ≡ c.args.pair) c.deref.ensures.value c.in-Some.ensures.is in
    subst (All (λ (other : Pair). other ≢ c.args.pair)) (sym c.remove.ensures.items) (rest_others pairs place c.args.pair within is c.requires)

pub returns-in-Some-clause-others : goal.returns-in-Some-clause-others
returns-in-Some-clause-others c =
    let pairs = c.args.pairs.items in
    let place = c.in-Some.place in
    let within = subst (λ (l : List Pair). place < length l) c.deref.ensures.value c.in-Some.ensures.found in
    let is = subst (λ (l : List Pair). get_or l place c.args.pair ≡ c.args.pair) c.deref.ensures.value c.in-Some.ensures.is in
    subst (λ (l : List Pair). All (Contains (c.args.pair ∷ l)) pairs) (sym c.remove.ensures.items) (rest_or pairs place c.args.pair within is)

pub returns-in_default-clause-fewer : goal.returns-in_default-clause-fewer
returns-in_default-clause-fewer c = All-contains_itself c.args.pairs.items

pub returns-in_default-clause-others : goal.returns-in_default-clause-others
returns-in_default-clause-others c = all_or c.args.pair c.args.pairs.items
