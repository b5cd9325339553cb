-- What signals compute: literals of literals, and what is unlike.
use Rattle.std.proofs.Common.{◌≡◌, ℕ, Bool, true, false, refl, sym, ap, subst, ◌∙◌}
use Rattle.circuits.specs.declared.netlist.Lit.{Lit}
use Rattle.circuits.specs.Literals.{bit, differ, is_negated, plain_literal, signal_of, signed_as}
use Rattle.circuits.specs.Netlists.{Net, valuation_of}
use Rattle.circuits.proofs.Expansions.{literal_bit-plain, literal_bit-signed, signal_of-signed}
use Rattle.sweep.specs.Signals.{AreUnlike, Computes}

-- twice the same sign is none
pub differ_twice : (b s : Bool) → differ (differ b s) s ≡ b
differ_twice true true = refl
differ_twice true false = refl
differ_twice false true = refl
differ_twice false false = refl

-- a signal computes its own literal
pub computes_itself : (net : Net) (s : ℕ) → Computes net s (plain_literal s)
computes_itself net s x long = sym (literal_bit-plain (valuation_of net x) s)

-- what a literal's signal computes, the signal computes with the literal's sign
pub computes_through : (net : Net) (s : ℕ) (literal other : Lit) → Computes net s literal → Computes net (signal_of literal) other → Computes net s (signed_as literal other)
computes_through net s literal other of_s of_signal x long =
    let v = valuation_of net x in
    of_s x long
    ∙ ap (λ b. differ b (is_negated literal)) (of_signal x long)
    ∙ sym (literal_bit-signed v literal other)

-- the other way round: the literal's signal computes what the signal does, with the literal's sign
pub computes_back : (net : Net) (s : ℕ) (literal other : Lit) → Computes net s literal → Computes net s other → Computes net (signal_of literal) (signed_as literal other)
computes_back net s literal other of_s also x long =
    let v = valuation_of net x in
    sym (differ_twice (bit v (signal_of literal)) (is_negated literal))
    ∙ ap (λ b. differ b (is_negated literal)) (sym (of_s x long) ∙ also x long)
    ∙ sym (literal_bit-signed v literal other)

-- what is unlike the representative of a signal is unlike the signal
pub unlike_through : (net : Net) (s t : ℕ) (literal : Lit) → Computes net t literal → AreUnlike net s (signal_of literal) → AreUnlike net s t
unlike_through net s t literal of_t unlike other at of_s =
    let by : Computes net (signal_of other) literal = subst (λ u. Computes net u literal) (sym at) of_t in
    unlike (signed_as other literal) (signal_of-signed other literal) (computes_through net s other literal of_s by)

-- what is unlike the first of two signals that compute the same is unlike the second
pub unlike_back : (net : Net) (s t : ℕ) (literal : Lit) → Computes net s literal → AreUnlike net (signal_of literal) t → AreUnlike net s t
unlike_back net s t literal of_s unlike other at also =
    unlike (signed_as literal other) (signal_of-signed literal other ∙ at) (computes_back net s literal other of_s also)
