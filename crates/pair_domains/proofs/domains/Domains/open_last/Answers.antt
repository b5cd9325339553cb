-- What is kept without the last entry.
use Rattle.std.proofs.Common.{◌≡◌, ℕ, ◌-◌, List, length, Option, None, take, slice_set, sym, ap, subst, ◌∙◌, arith}
use Rattle.circuits.specs.declared.port.Pair.{Pair}
use Rattle.pair_domains.specs.declared.entry.Entry.{Entry}
use Rattle.pair_domains.specs.Kept.{IsKept}
use Rattle.pair_domains.specs.Numbers.{at_ports, put_at_ports}
use Rattle.pair_domains.specs.Trails.{AreEntries, is_assigned}
use Rattle.pair_domains.proofs.KeptLemmas.{kept_undeleted, kept_unassigned, last_known}
use Rattle.pair_domains.proofs.TableLemmas.{changed_size}
use Rattle.pair_domains.proofs.domains.Domains.open_last.Goals as goal
use Rattle.circuits.proofs.Lists.{given_back}

pub invariant_of-self : goal.invariant_of-self
invariant_of-self c =
    let old = c.self.inside in
    let n = old.inputs in
    let m = old.outputs in
    let es = c.pop.new.self.items in
    let e = c.in-Some.entry in
    let was = subst (λ (l : List Entry). IsKept n m l old.pairs.items old.places old.pairs_at.items old.gone.items) c.in-Some.ensures.items c.self.invariant in
    let nothing : Option Pair = None in
    let pairs = c.put_at_ports.new.assigned in
    let written : pairs ≡ put_at_ports nothing n m e.pair old.pairs_at.items = c.put_at_ports.ensures ∙ ap (put_at_ports nothing n m e.pair) c.deref_mut.ensures.value in
    let size = ap length c.put_at_ports.ensures ∙ changed_size nothing (λ old. nothing) n m e.pair c.deref_mut.result.now in
    let back = given_back old.pairs_at.len old.pairs_at.items c.deref_mut.result.now pairs c.deref_mut.ensures.value size (omega (arith, old.pairs_at.ok.0)) in
    let rest = c.pop-in-Assigned.ensures.rest ∙ ap (λ k. take (k - 1) old.pairs.items) (let e' : old.pairs.len ≡ length old.pairs.items = omega (arith, old.pairs.ok.0) in e') in
    let kept = kept_unassigned n m es e old.pairs.items c.pop-in-Assigned.new.self.items old.places old.pairs_at.items old.gone.items was (ap is_assigned c.in-Assigned.is) rest in
    let cleared = c.clear.ensures ∙ ap (λ k. slice_set old.places k None) c.pair_number-number.ensures.value in
    subst (λ (hs : List (Option Pair)). IsKept n m es c.pop-in-Assigned.new.self.items c.clear.new.self hs old.gone.items) (sym (back ∙ written))
    (subst (λ (ps : List (Option ℕ)). IsKept n m es c.pop-in-Assigned.new.self.items ps (put_at_ports nothing n m e.pair old.pairs_at.items) old.gone.items) (sym cleared) kept)

pub uncount_at_ports-requires-clause-known : goal.uncount_at_ports-requires-clause-known
uncount_at_ports-requires-clause-known c =
    let old = c.self.inside in
    let was = subst (λ (l : List Entry). AreEntries old.inputs old.outputs l) c.in-Some.ensures.items c.self.invariant.entries_are in
    last_known old.inputs old.outputs c.pop.new.self.items c.in-Some.entry was

pub invariant_of-self-in-Deleted : goal.invariant_of-self-in-Deleted
invariant_of-self-in-Deleted c =
    let old = c.self.inside in
    let n = old.inputs in
    let m = old.outputs in
    let es = c.pop.new.self.items in
    let e = c.in-Some.entry in
    let was = subst (λ (l : List Entry). IsKept n m l old.pairs.items old.places old.pairs_at.items old.gone.items) c.in-Some.ensures.items c.self.invariant in
    let less : ℕ → ℕ = λ count. count - 1 in
    let lent = c.deref_mut-in-Deleted.result.now in
    let counts = c.uncount_at_ports.new.gone in
    let written : counts ≡ at_ports 0 less n m e.pair old.gone.items = c.uncount_at_ports.ensures ∙ ap (at_ports 0 less n m e.pair) c.deref_mut-in-Deleted.ensures.value in
    let size = ap length c.uncount_at_ports.ensures ∙ changed_size 0 less n m e.pair lent in
    let back = given_back old.gone.len old.gone.items lent counts c.deref_mut-in-Deleted.ensures.value size (omega (arith, old.gone.ok.0)) in
    let kept = kept_undeleted n m es e old.pairs.items old.places old.pairs_at.items old.gone.items was (ap is_assigned c.in-Deleted.is) in
    let cleared = c.clear.ensures ∙ ap (λ k. slice_set old.places k None) c.pair_number-number.ensures.value in
    subst (λ (gs : List ℕ). IsKept n m es old.pairs.items c.clear.new.self old.pairs_at.items gs) (sym (back ∙ written))
    (subst (λ (ps : List (Option ℕ)). IsKept n m es old.pairs.items ps old.pairs_at.items (at_ports 0 less n m e.pair old.gone.items)) (sym cleared) kept)
