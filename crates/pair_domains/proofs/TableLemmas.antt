-- What tables of ports have after a change at both ports of a pair.
use Rattle.std.proofs.Common.{◌≡◌, ◌≢◌, ℕ, ◌+◌, ◌*◌, ◌<◌, true, false, List, length, get_or, sym, ap, ◌∙◌, arith}
use Rattle.std.proofs.lemmas.Bool.{false≢true}
use Rattle.std.proofs.lemmas.List.{get_or-set_other, get_or-set_same, length-set}
use Rattle.circuits.specs.declared.port.Pair.{Pair}
use Rattle.circuits.specs.declared.port.PortKind.{PortKind}
use Rattle.net_core.specs.declared.graphs.Side.{Side}
use Rattle.net_core.specs.declared.graphs.Side.TheVariants.{First, Second}
use Rattle.account_core.specs.Tallies.{port_on}
use Rattle.pair_domains.specs.Numbers.{at_ports, port_number, with_at}
use Rattle.pair_domains.specs.Trails.{IsPairOf, is_at, ports_of}
use Rattle.pair_domains.proofs.NumberLemmas.{port_number_below, same_port}
use Rattle.pair_domains.proofs.EntryLemmas.{at_of, of_at}

-- the number of a pair's port of a circuit
abbrev pub own : ℕ → ℕ → Pair → Side → ℕ
own n m p side = port_number n m side p.kind (port_on side p)

pub in_range : (n m : ℕ) (p : Pair) → IsPairOf n m p → (side : Side) → port_on side p < ports_of n m p.kind
in_range n m p known First = known.from
in_range n m p known Second = known.to

sides_differ : First ≡ Second → ⊥
sides_differ e = cc

own_apart : (n m : ℕ) (p : Pair) → IsPairOf n m p → own n m p First ≢ own n m p Second
own_apart n m p known e = sides_differ (same_port n m First Second p.kind p.kind p.from p.to known.from known.to e).0

own_at : (n m : ℕ) (p : Pair) (side : Side) (kind : PortKind) (port : ℕ) → is_at side kind port p ≡ true → port_number n m side kind port ≡ own n m p side
own_at n m p side kind port on =
    let parts = of_at side kind port p on in
    ap (λ k. port_number n m side k port) (sym parts.0) ∙ ap (port_number n m side p.kind) (sym parts.1)

not_own : (n m : ℕ) (p : Pair) → IsPairOf n m p → (side : Side) (kind : PortKind) (port : ℕ) → port < ports_of n m kind → is_at side kind port p ≡ false → (t : Side) → port_number n m side kind port ≢ own n m p t
not_own n m p known side kind port below off t e =
    let s = same_port n m side t kind p.kind port (port_on t p) below (in_range n m p known t) e in
    false≢true (sym off ∙ at_of side kind port p (sym s.1) (ap (λ u. port_on u p) s.0 ∙ sym s.2))

-- what is changed at both ports
changed_own : {X : Type 0} (d : X) (f : X → X) (n m : ℕ) (p : Pair) (t : List X) → IsPairOf n m p → length t ≡ 2 * n + 2 * m → (side : Side) → get_or (at_ports d f n m p t) (own n m p side) d ≡ f (get_or t (own n m p side) d)
changed_own d f n m p t known size First =
    let a = own n m p First in
    let b = own n m p Second in
    get_or-set_other (with_at d f a t) b a (f (get_or (with_at d f a t) b d)) d (own_apart n m p known)
    ∙ get_or-set_same t a (f (get_or t a d)) d (omega (arith, size, port_number_below n m First p.kind p.from known.from))
changed_own d f n m p t known size Second =
    let a = own n m p First in
    let b = own n m p Second in
    get_or-set_same (with_at d f a t) b (f (get_or (with_at d f a t) b d)) d (omega (arith, size, length-set t a (f (get_or t a d)), port_number_below n m Second p.kind p.to known.to))
    ∙ ap f (get_or-set_other t a b (f (get_or t a d)) d (λ e. own_apart n m p known (sym e)))

pub changed_at : {X : Type 0} (d : X) (f : X → X) (n m : ℕ) (p : Pair) (t : List X) (side : Side) (kind : PortKind) (port : ℕ) → IsPairOf n m p → length t ≡ 2 * n + 2 * m → is_at side kind port p ≡ true → get_or (at_ports d f n m p t) (port_number n m side kind port) d ≡ f (get_or t (port_number n m side kind port) d)
changed_at d f n m p t side kind port known size on =
    let at = own_at n m p side kind port on in
    ap (λ k. get_or (at_ports d f n m p t) k d) at ∙ (changed_own d f n m p t known size side ∙ ap (λ k. f (get_or t k d)) (sym at))

pub changed_other : {X : Type 0} (d : X) (f : X → X) (n m : ℕ) (p : Pair) (t : List X) (side : Side) (kind : PortKind) (port : ℕ) → IsPairOf n m p → port < ports_of n m kind → is_at side kind port p ≡ false → get_or (at_ports d f n m p t) (port_number n m side kind port) d ≡ get_or t (port_number n m side kind port) d
changed_other d f n m p t side kind port known below off =
    let a = own n m p First in
    let b = own n m p Second in
    let k = port_number n m side kind port in
    get_or-set_other (with_at d f a t) b k (f (get_or (with_at d f a t) b d)) d (not_own n m p known side kind port below off Second)
    ∙ get_or-set_other t a k (f (get_or t a d)) d (not_own n m p known side kind port below off First)

pub changed_size : {X : Type 0} (d : X) (f : X → X) (n m : ℕ) (p : Pair) (t : List X) → length (at_ports d f n m p t) ≡ length t
changed_size d f n m p t =
    let a = own n m p First in
    let b = own n m p Second in
    length-set (with_at d f a t) b (f (get_or (with_at d f a t) b d)) ∙ length-set t a (f (get_or t a d))
