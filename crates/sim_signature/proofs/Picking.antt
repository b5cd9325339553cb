-- Bits as many answers at once.
use Rattle.std.proofs.Common.{◌≡◌, ◌↔◌, Bool, true, false, ◌&&◌, not, refl, sym, ap, ◌∙◌}
use Rattle.std.proofs.lemmas.Bool.{false≢true}
use Rattle.circuits.specs.Literals.{differ}

pub picks : (a b value : Bool) → (differ a false && differ b (not value) ≡ true) ↔ ((a ≡ true) × (b ≡ value))
picks true true true = (λ h. (refl, refl), λ h. refl)
picks true true false = (λ h. absurd (false≢true h), λ h. absurd (false≢true (sym h.1)))
picks true false true = (λ h. absurd (false≢true h), λ h. absurd (false≢true h.1))
picks true false false = (λ h. (refl, refl), λ h. refl)
picks false b value = (λ h. absurd (false≢true h), λ h. absurd (false≢true h.0))

differ-twice : (a b : Bool) → differ (differ a b) b ≡ a
differ-twice true true = refl
differ-twice true false = refl
differ-twice false true = refl
differ-twice false false = refl

-- a bit that was inverted has a value where it had the value inverted
pub value-after : (b value inverse : Bool) → b ≡ differ value inverse → differ b inverse ≡ value
value-after b value inverse is = ap (λ c. differ c inverse) is ∙ differ-twice value inverse

pub value-before : (b value inverse : Bool) → differ b inverse ≡ value → b ≡ differ value inverse
value-before b value inverse is = sym (differ-twice b inverse) ∙ ap (λ c. differ c inverse) is
