-- That a cover excludes its ban's pairs.
use Rattle.std.proofs.Common.{◌≡◌, ℕ, ◌<◌, Bool, true, false, List, [], ◌∷◌, length, slice_index_or, All, Option, None, Some, refl, subst, arith}
use Rattle.std.specs.Prelude.{Contains}
use Rattle.std.specs.List.{flat_map}
use Rattle.std.proofs.lemmas.List.Elements.{All-contains, All-cons}
use Rattle.circuits.specs.declared.port.Pair.{Pair}
use Rattle.circuits.specs.declared.port.PortKind.{PortKind}
use Rattle.circuits.specs.Bijections.{place_of, sign_of}
use Rattle.circuits.specs.Matches.{IsMatchOfFunctions}
use Rattle.net_core.specs.Sides.{Graphs}
use Rattle.claim_core.specs.Images.{HasPair, Extends, entries_of}
use Rattle.account_core.specs.Ports.{ports_in}
use Rattle.account_core.specs.Given.{Given, ban_at}
use Rattle.account_core.specs.Exclusions.{Excludes}
use Rattle.account_core.specs.Covers.{way, ways, IsReference, AreCoverNames, IsCover}
use Rattle.account_core.proofs.Listed.{zipped, given_by}
use Rattle.account_core.proofs.Matched.{of_kind, as_many, one_to_one, place_below, no_clash}
use Rattle.account_core.proofs.Pigeonhole.{pigeonhole}

-- the two ways to pair two ports
abbrev pub two : PortKind → ℕ → ℕ → List Pair
two kind f t = way kind f t false ∷ way kind f t true ∷ []

in_two : (kind : PortKind) (f t : ℕ) (flip : Bool) → Contains (two kind f t) (way kind f t flip)
in_two kind f t false = (0, omega arith, refl)
in_two kind f t true = (1, omega arith, refl)

-- each way to pair two ports is listed
pub way_listed : (kind : PortKind) (from to : List ℕ) (f t : ℕ) (flip : Bool) → Contains from f → Contains to t → Contains (ways kind from to) (way kind f t flip)
way_listed kind from to f t flip held_from held_to =
    given_by (λ f. flat_map (two kind f) to) from f (way kind f t flip) held_from (given_by (two kind f) to t (way kind f t flip) held_to (in_two kind f t flip))

-- what stands for a way that a match takes
refuted : (graphs : Graphs) (given : Given) (pairs : List Pair) (taken : Pair) (ref : Option ℕ) (p q : List (ℕ × Bool)) → All (Excludes graphs) given.bans → ((ban : ℕ) → ref ≡ Some ban → ban < length given.bans) → IsMatchOfFunctions graphs.first graphs.second p q → Extends pairs p q → HasPair p q taken → IsReference given pairs taken ref → ⊥
refuted graphs given pairs taken None p q excluded there match extends has stands =
    let held = All-contains (HasPair p q) pairs stands.1 extends (stands.0, stands.2, stands.3) in
    no_clash graphs.first graphs.second p q stands.1 taken match held has stands.4
refuted graphs given pairs taken (Some ban) p q excluded there match extends has stands =
    let both : All (HasPair p q) (taken ∷ pairs) = All-cons (HasPair p q) taken pairs has extends in
    excluded ban [] (there ban refl) p q match (λ k d below. All-contains (HasPair p q) (taken ∷ pairs) (slice_index_or (ban_at given ban) k d) both (stands.1 k d below))

-- some port of `from` goes to some port of `to`, and no way to pair them is left
pub cover_contradicts : (graphs : Graphs) (given : Given) (pairs : List Pair) (kind : PortKind) (from to : List ℕ) (refs : List (Option ℕ)) → All (Excludes graphs) given.bans → AreCoverNames graphs given kind from to refs → IsCover graphs given pairs kind from to refs → Excludes graphs pairs
cover_contradicts graphs given pairs kind from to refs excluded names cover p q match extends =
    let n = ports_in graphs.first kind in
    let entries = entries_of kind p q in
    let bijection = of_kind graphs.first graphs.second p q kind match in
    let met = pigeonhole n (place_of entries) from to (one_to_one n entries bijection) (place_below n entries bijection) cover.from_ascends cover.to_ascends names.first_ports (λ k d below. omega (arith, names.second_ports k d below, as_many graphs.first graphs.second p q kind match)) cover.too_many in
    let x = met.0 in
    let taken = way kind x (place_of entries x) (sign_of entries x) in
    let below : x < n = All-contains (λ port. port < n) from x names.first_ports met.1 in
    let has : HasPair p q taken = record { there = omega (arith, below, bijection.entries); goes = refl } in
    let stands = zipped (IsReference given pairs) (ways kind from to) refs taken cover.referred (way_listed kind from to x (place_of entries x) (sign_of entries x) met.1 met.2) in
    refuted graphs given pairs taken stands.0 p q excluded (λ ban is. names.given_bans ban (subst (Contains refs) {x = stands.0} is stands.1)) match extends has stands.2
