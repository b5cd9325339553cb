-- The literal's variable has no bit yet, so that there is room.
use Rattle.std.proofs.Common.{not, Some, slice_set, sym, subst, arith}
use Rattle.cnf_core.specs.Clauses.{variable_of}
use Rattle.refute_check.specs.Values.{Made, CanBeMade, IsMade}
use Rattle.refute_check.proofs.ValueLemmas.{no_bit, count_less, made_more}
use Rattle.refute_check.proofs.values.Values.make.Goals as goal

pub push_reserved-requires : goal.push_reserved-requires
push_reserved-requires c =
    let old = c.self.inside in
    let can = subst (λ (m : Made). CanBeMade m c.args.literal) (sym c.self.view_is) c.requires in
    let none = no_bit old.bits.items old.made.items c.args.literal c.self.invariant.told can.known can.not_true can.not_false in
    omega (arith, count_less old.bits.items (variable_of c.args.literal) can.known none, c.self.invariant.count, c.self.invariant.room, old.made.ok.0)

pub invariant_of-self : goal.invariant_of-self
invariant_of-self c =
    let old = c.self.inside in
    let can = subst (λ (m : Made). CanBeMade m c.args.literal) (sym c.self.view_is) c.requires in
    let made = made_more old.bits.items old.made c.push_reserved.new.self c.args.literal c.self.invariant can.known can.not_true can.not_false c.push_reserved.ensures.items c.push_reserved.ensures.capacity in
    subst (λ v. IsMade (slice_set old.bits.items v (Some (not c.is_negated.result))) c.push_reserved.new.self) (sym c.variable.ensures) (subst (λ n. IsMade (slice_set old.bits.items (variable_of c.args.literal) (Some (not n))) c.push_reserved.new.self) (sym c.is_negated.ensures) made)
