-- No two pairs have one number, and no two ports.
use Rattle.std.proofs.Common.{◌≡◌, ℕ, ◌+◌, ◌*◌, ◌<◌, Bool, true, false, refl, sym, ap, ◌∙◌, arith}
use Rattle.std.proofs.lemmas.Nat.{mul-add-lt, same_from_place}
use Rattle.circuits.specs.declared.port.Pair.{Pair}
use Rattle.circuits.specs.declared.port.PortKind.{PortKind}
use Rattle.circuits.specs.declared.port.PortKind.TheVariants.{Input, Output}
use Rattle.net_core.specs.declared.graphs.Side.{Side}
use Rattle.net_core.specs.declared.graphs.Side.TheVariants.{First, Second}
use Rattle.pair_domains.specs.Numbers.{number_in, number_from, pair_number, pairs_of_ports, port_number, sign_number}
use Rattle.pair_domains.specs.Trails.{IsPairOf, ports_of}
use Rattle.account_core.specs.Covers.{way}

pub same_pair : (p q : Pair) → p.kind ≡ q.kind → p.from ≡ q.from → p.to ≡ q.to → p.flip ≡ q.flip → p ≡ q
same_pair p q kind from to flip =
    ap (λ k. way k p.from p.to p.flip) kind
    ∙ (ap (λ f. way q.kind f p.to p.flip) from
    ∙ (ap (λ t. way q.kind q.from t p.flip) to ∙ ap (λ b. way q.kind q.from q.to b) flip))

sign_below : (b : Bool) → sign_number b < 2
sign_below false = omega arith
sign_below true = omega arith

same_sign : (a b : Bool) (m n : ℕ) → 2 * m + sign_number a ≡ 2 * n + sign_number b → (m ≡ n) × (a ≡ b)
same_sign false false m n e = (omega (arith, e), refl)
same_sign false true m n e = absurd (omega (arith, e))
same_sign true false m n e = absurd (omega (arith, e))
same_sign true true m n e = (omega (arith, e), refl)

pub number_in_below : (n : ℕ) (p : Pair) → p.from < n → p.to < n → number_in n p < 2 * (n * n)
number_in_below n p from to = omega (arith, mul-add-lt p.from n p.to n from to, sign_below p.flip)

number_in_same : (n : ℕ) (p q : Pair) → p.to < n → q.to < n → number_in n p ≡ number_in n q → (p.from ≡ q.from) × (p.to ≡ q.to) × (p.flip ≡ q.flip)
number_in_same n p q pto qto e =
    let signs = same_sign p.flip q.flip (p.from * n + p.to) (q.from * n + q.to) e in
    let place = same_from_place p.from p.to q.from q.to n pto qto signs.0 in
    (place.0, place.1, signs.1)

by_kinds : (n m : ℕ) (k l : PortKind) (p q : Pair) → p.kind ≡ k → q.kind ≡ l → p.from < ports_of n m k → p.to < ports_of n m k → q.from < ports_of n m l → q.to < ports_of n m l → number_from n m k p ≡ number_from n m l q → p ≡ q
by_kinds n m Input Input p q pk qk pf pt qf qt e = let s = number_in_same n p q pt qt e in same_pair p q (pk ∙ sym qk) s.0 s.1 s.2
by_kinds n m Input Output p q pk qk pf pt qf qt e = absurd (omega (arith, number_in_below n p pf pt, e))
by_kinds n m Output Input p q pk qk pf pt qf qt e = absurd (omega (arith, number_in_below n q qf qt, e))
by_kinds n m Output Output p q pk qk pf pt qf qt e = let s = number_in_same m p q pt qt (omega (arith, e)) in same_pair p q (pk ∙ sym qk) s.0 s.1 s.2

pub pair_number_same : (n m : ℕ) (p q : Pair) → IsPairOf n m p → IsPairOf n m q → pair_number n m p ≡ pair_number n m q → p ≡ q
pair_number_same n m p q pin qin e = by_kinds n m p.kind q.kind p q refl refl pin.from pin.to qin.from qin.to e

number_from_below : (n m : ℕ) (k : PortKind) (p : Pair) → p.from < ports_of n m k → p.to < ports_of n m k → number_from n m k p < pairs_of_ports n m
number_from_below n m Input p from to = omega (arith, number_in_below n p from to)
number_from_below n m Output p from to = omega (arith, number_in_below m p from to)

pub pair_number_below : (n m : ℕ) (p : Pair) → IsPairOf n m p → pair_number n m p < pairs_of_ports n m
pair_number_below n m p known = number_from_below n m p.kind p known.from known.to

pub port_number_below : (n m : ℕ) (s : Side) (k : PortKind) (a : ℕ) → a < ports_of n m k → port_number n m s k a < 2 * n + 2 * m
port_number_below n m First Input a below = omega (arith, below)
port_number_below n m Second Input a below = omega (arith, below)
port_number_below n m First Output a below = omega (arith, below)
port_number_below n m Second Output a below = omega (arith, below)

pub same_port : (n m : ℕ) (s t : Side) (k l : PortKind) (a b : ℕ) → a < ports_of n m k → b < ports_of n m l → port_number n m s k a ≡ port_number n m t l b → (s ≡ t) × (k ≡ l) × (a ≡ b)
same_port n m First First Input Input a b ain bin e = (refl, refl, omega (arith, e))
same_port n m First First Output Output a b ain bin e = (refl, refl, omega (arith, e))
same_port n m Second Second Input Input a b ain bin e = (refl, refl, omega (arith, e))
same_port n m Second Second Output Output a b ain bin e = (refl, refl, omega (arith, e))
same_port n m First First Input Output a b ain bin e = absurd (omega (arith, e, ain, bin))
same_port n m First First Output Input a b ain bin e = absurd (omega (arith, e, ain, bin))
same_port n m Second Second Input Output a b ain bin e = absurd (omega (arith, e, ain, bin))
same_port n m Second Second Output Input a b ain bin e = absurd (omega (arith, e, ain, bin))
same_port n m First Second Input Input a b ain bin e = absurd (omega (arith, e, ain, bin))
same_port n m First Second Input Output a b ain bin e = absurd (omega (arith, e, ain, bin))
same_port n m First Second Output Input a b ain bin e = absurd (omega (arith, e, ain, bin))
same_port n m First Second Output Output a b ain bin e = absurd (omega (arith, e, ain, bin))
same_port n m Second First Input Input a b ain bin e = absurd (omega (arith, e, ain, bin))
same_port n m Second First Input Output a b ain bin e = absurd (omega (arith, e, ain, bin))
same_port n m Second First Output Input a b ain bin e = absurd (omega (arith, e, ain, bin))
same_port n m Second First Output Output a b ain bin e = absurd (omega (arith, e, ain, bin))
