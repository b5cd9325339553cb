-- What is kept with one deleted pair more.
use Rattle.std.proofs.Common.{◌≡◌, ℕ, ◌+◌, ◌<◌, ◌^◌, List, [], ◌∷◌, ◌++◌, length, Option, Some, slice_index_or, slice_set, refl, sym, ap, subst, ◌∙◌, arith}
use Rattle.net_core.specs.declared.graphs.Side.TheVariants.{First, Second}
use Rattle.pair_domains.specs.declared.entry.Entry.{Entry}
use Rattle.pair_domains.specs.declared.entry.Fate.TheVariants.{Deleted}
use Rattle.pair_domains.specs.Kept.{IsKept}
use Rattle.pair_domains.specs.Numbers.{at_ports, pair_number, port_number}
use Rattle.pair_domains.specs.Trails.{Domained, IsOpen, IsPairOf}
use Rattle.pair_domains.proofs.KeptLemmas.{few_gone, kept_deleted}
use Rattle.pair_domains.proofs.TableLemmas.{changed_size}
use Rattle.pair_domains.proofs.domains.Domains.delete.Goals as goal
use Rattle.circuits.proofs.Lists.{given_back}

pub count_at_ports-requires-clause-first : goal.count_at_ports-requires-clause-first
count_at_ports-requires-clause-first c =
    let old = c.self.inside in
    let p = c.args.pair in
    let known = subst (λ (t : Domained). IsPairOf t.inputs t.outputs p) (sym c.self.view_is) c.requires.known in
    let few : length old.entries.items < 2 ^ 63 = omega (arith, old.entries.ok.0, old.entries.ok.1, old.entries.small) in
    let counts = few_gone old.inputs old.outputs old.entries.items old.gone.items First p.kind p.from c.self.invariant.gone_are few known.from in
    subst (λ (gs : List ℕ). slice_index_or gs (port_number old.inputs old.outputs First p.kind p.from) 0 < 2 ^ 63) (sym c.deref_mut.ensures.value) counts

pub count_at_ports-requires-clause-second : goal.count_at_ports-requires-clause-second
count_at_ports-requires-clause-second c =
    let old = c.self.inside in
    let p = c.args.pair in
    let known = subst (λ (t : Domained). IsPairOf t.inputs t.outputs p) (sym c.self.view_is) c.requires.known in
    let few : length old.entries.items < 2 ^ 63 = omega (arith, old.entries.ok.0, old.entries.ok.1, old.entries.small) in
    let counts = few_gone old.inputs old.outputs old.entries.items old.gone.items Second p.kind p.to c.self.invariant.gone_are few known.to in
    subst (λ (gs : List ℕ). slice_index_or gs (port_number old.inputs old.outputs Second p.kind p.to) 0 < 2 ^ 63) (sym c.deref_mut.ensures.value) counts

pub invariant_of-self-2 : goal.invariant_of-self-2
invariant_of-self-2 c =
    let old = c.self.inside in
    let n = old.inputs in
    let m = old.outputs in
    let e : Entry = record { pair = c.args.pair; fate = Deleted c.args.reason } in
    let known = subst (λ (t : Domained). IsPairOf t.inputs t.outputs e.pair) (sym c.self.view_is) c.requires.known in
    let free = subst (λ (t : Domained). IsOpen t.entries e.pair) (sym c.self.view_is) c.requires.open in
    let place = c.len-place.result in
    let counts = c.count_at_ports.new.gone in
    let more : ℕ → ℕ = λ count. count + 1 in
    let written : counts ≡ at_ports 0 more n m e.pair old.gone.items = c.count_at_ports.ensures ∙ ap (at_ports 0 more n m e.pair) c.deref_mut.ensures.value in
    let size = ap length c.count_at_ports.ensures ∙ changed_size 0 more n m e.pair c.deref_mut.result.now in
    let back = given_back old.gone.len old.gone.items c.deref_mut.result.now counts c.deref_mut.ensures.value size (omega (arith, old.gone.ok.0)) in
    let last : place ≡ length old.entries.items = omega (arith, c.len-place.ensures, c.reserve.new.self.ok.0, ap length c.in_ok-reserve.ensures.items) in
    let kept = kept_deleted n m old.entries.items e old.pairs.items old.places old.pairs_at.items old.gone.items place c.self.invariant refl known free last in
    let put = c.in_ok-put.ensures.put ∙ ap (λ k. slice_set old.places k (Some place)) c.pair_number-number.ensures.value in
    let entries = c.push_reserved.ensures.items ∙ ap (λ (es : List Entry). es ++ e ∷ []) c.in_ok-reserve.ensures.items in
    subst (λ (gs : List ℕ). IsKept n m c.push_reserved.new.self.items old.pairs.items c.put.new.self old.pairs_at.items gs) (sym (back ∙ written))
    (subst (λ (ps : List (Option ℕ)). IsKept n m c.push_reserved.new.self.items old.pairs.items ps old.pairs_at.items (at_ports 0 more n m e.pair old.gone.items)) (sym put)
    (subst (λ (es : List Entry). IsKept n m es old.pairs.items (slice_set old.places (pair_number n m e.pair) (Some place)) old.pairs_at.items (at_ports 0 more n m e.pair old.gone.items)) (sym entries) kept))
