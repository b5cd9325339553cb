-- At first all signals are of one class.
use Rattle.std.proofs.Common.{◌≡◌, ◌∙◌, ◌∷◌, false, length, map, replicate, ap, arith}
use Rattle.std.proofs.lemmas.Result.{IfOk-weaker}
use Rattle.std.proofs.lemmas.List.{length-replicate}
use Rattle.circuits.proofs.Lists.{given_back}
use Rattle.circuits.proofs.Valuations.{length-with_gates}
use Rattle.circuits.specs.Netlists.{signals_of, valuation_of}
use Rattle.sweep.specs.Classes.{AreClasses, bits_at_zero, first_member}
use Rattle.sweep.proofs.ClassLemmas.{first_classes}
use Rattle.sweep.proofs.classes.one_class.Goals as goal

pub returns : goal.returns
returns c =
    let net = c.args.exposed.now in
    let zeros : c.deref.result.now ≡ replicate net.inputs false =
    c.deref.ensures.value ∙ c.in_ok-zeros.ensures.items_if_clones_equal (λ y same. same) ∙ ap (λ n. replicate n false) c.inputs.ensures.value in
    let old = c.in_ok-values.values in
    let now = c.eval_into.new.values in
    let bits : now ≡ bits_at_zero net = c.eval_into.ensures ∙ ap (valuation_of net) zeros in
    let count : length (bits_at_zero net) ≡ signals_of net = omega (arith, length-with_gates (false ∷ replicate net.inputs false) net.gates, length-replicate net.inputs false) in
    let lent : length old.items ≡ signals_of net = omega (arith, c.in_ok-values.ensures.len, old.ok.0, c.signals.ensures.value) in
    let back : c.deref-2.result.now ≡ now =
    c.deref-2.ensures.value ∙ given_back old.len old.items c.deref_mut.result.now now c.deref_mut.ensures.value (omega (arith, ap length bits, count, lent, ap length c.deref_mut.ensures.value)) (omega (arith, old.ok.0)) in
    IfOk-weaker c.members_of.result (λ members. members.items ≡ map first_member c.deref-2.result.now) (λ members. AreClasses net members.items)
    (λ members is. first_classes net members.items c.deref-2.result.now (back ∙ bits) (ap length (back ∙ bits) ∙ count) is)
    c.members_of.ensures
