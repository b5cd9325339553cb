use Rattle.std.proofs.Common.{sym, subst}
use Rattle.refute_check.specs.Values.{IsOfMade}
use Rattle.refute_check.proofs.ValueLemmas.{of_made}
use Rattle.refute_check.proofs.values.Values.clear.Goals as goal

pub unset-requires : goal.unset-requires
unset-requires c =
    let old = c.self.inside in
    subst (λ bits. IsOfMade bits c.deref.result.now) (sym c.deref_mut.ensures.value) (subst (IsOfMade old.bits.items) (sym c.deref.ensures.value) (of_made old.bits.items old.made c.self.invariant))
