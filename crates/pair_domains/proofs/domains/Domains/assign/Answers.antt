-- What is kept with one assigned pair more.
use Rattle.std.proofs.Common.{◌≡◌, ℕ, List, [], ◌∷◌, ◌++◌, length, Option, Some, slice_set, refl, sym, ap, subst, ◌∙◌, arith}
use Rattle.net_core.specs.declared.graphs.Side.TheVariants.{First, Second}
use Rattle.circuits.specs.declared.port.Pair.{Pair}
use Rattle.pair_domains.specs.declared.entry.Entry.{Entry}
use Rattle.pair_domains.specs.declared.entry.Fate.TheVariants.{Assigned}
use Rattle.pair_domains.specs.Kept.{IsKept}
use Rattle.pair_domains.specs.Numbers.{pair_number, put_at_ports}
use Rattle.pair_domains.specs.Trails.{Domained, IsFreePort, IsOpen, IsPairOf}
use Rattle.pair_domains.proofs.KeptLemmas.{kept_assigned}
use Rattle.pair_domains.proofs.TableLemmas.{changed_size}
use Rattle.pair_domains.proofs.domains.Domains.assign.Goals as goal
use Rattle.circuits.proofs.Lists.{given_back}

pub invariant_of-self-2 : goal.invariant_of-self-2
invariant_of-self-2 c =
    let old = c.self.inside in
    let n = old.inputs in
    let m = old.outputs in
    let e : Entry = record { pair = c.args.pair; fate = Assigned c.args.cause } in
    let known = subst (λ (t : Domained). IsPairOf t.inputs t.outputs e.pair) (sym c.self.view_is) c.requires.known in
    let free = subst (λ (t : Domained). IsOpen t.entries e.pair) (sym c.self.view_is) c.requires.open in
    let from = subst (λ (t : Domained). IsFreePort t.entries First e.pair.kind e.pair.from) (sym c.self.view_is) c.requires.from in
    let to = subst (λ (t : Domained). IsFreePort t.entries Second e.pair.kind e.pair.to) (sym c.self.view_is) c.requires.to in
    let place = c.len-place.result in
    let pairs = c.put_at_ports.new.assigned in
    let written : pairs ≡ put_at_ports (Some e.pair) n m e.pair old.pairs_at.items = c.put_at_ports.ensures ∙ ap (put_at_ports (Some e.pair) n m e.pair) c.deref_mut.ensures.value in
    let size = ap length c.put_at_ports.ensures ∙ changed_size (Some e.pair) (λ old. (Some e.pair)) n m e.pair c.deref_mut.result.now in
    let back = given_back old.pairs_at.len old.pairs_at.items c.deref_mut.result.now pairs c.deref_mut.ensures.value size (omega (arith, old.pairs_at.ok.0)) in
    let last : place ≡ length old.entries.items = omega (arith, c.len-place.ensures, c.reserve.new.self.ok.0, ap length c.in_ok-reserve.ensures.items) in
    let entries = c.push_reserved.ensures.items ∙ ap (λ (es : List Entry). es ++ e ∷ []) c.in_ok-reserve.ensures.items in
    let chosen = c.push_reserved-2.ensures.items ∙ ap (λ (ws : List Pair). ws ++ e.pair ∷ []) c.in_ok-reserve-2.ensures.items in
    let kept = kept_assigned n m old.entries.items e old.pairs.items old.places old.pairs_at.items old.gone.items place c.self.invariant refl known free from to last in
    let put = c.in_ok-put.ensures.put ∙ ap (λ k. slice_set old.places k (Some place)) c.pair_number-number.ensures.value in
    subst (λ (hs : List (Option Pair)). IsKept n m c.push_reserved.new.self.items c.push_reserved-2.new.self.items c.put.new.self hs old.gone.items) (sym (back ∙ written))
    (subst (λ (ps : List (Option ℕ)). IsKept n m c.push_reserved.new.self.items c.push_reserved-2.new.self.items ps (put_at_ports (Some e.pair) n m e.pair old.pairs_at.items) old.gone.items) (sym put)
    (subst (λ (ws : List Pair). IsKept n m c.push_reserved.new.self.items ws (slice_set old.places (pair_number n m e.pair) (Some place)) (put_at_ports (Some e.pair) n m e.pair old.pairs_at.items) old.gone.items) (sym chosen)
    (subst (λ (es : List Entry). IsKept n m es (old.pairs.items ++ e.pair ∷ []) (slice_set old.places (pair_number n m e.pair) (Some place)) (put_at_ports (Some e.pair) n m e.pair old.pairs_at.items) old.gone.items) (sym entries) kept)))
