-- That a tally excludes its ban's pairs.
use Rattle.std.proofs.Common.{◌≡◌, ◌⊎◌, ◌↔◌, ℕ, ◌+◌, ◌<◌, Bool, true, false, List, [], ◌∷◌, length, get_or, All, AllPairs, refl, sym, ap, subst, ◌∙◌, inl, inr, arith}
use Rattle.std.specs.Prelude.{Contains}
use Rattle.std.proofs.lemmas.List.{length-map, get_or-map}
use Rattle.std.proofs.lemmas.List.Elements.{All-contains, Contains-get_or}
use Rattle.circuits.specs.declared.port.Pair.{Pair}
use Rattle.circuits.specs.declared.port.PortKind.TheVariants.{Output}
use Rattle.circuits.specs.Netlists.{Net}
use Rattle.circuits.specs.Bijections.{place_of}
use Rattle.circuits.specs.Matches.{IsMatchOfFunctions}
use Rattle.net_core.specs.Sides.{Graphs}
use Rattle.net_core.specs.declared.graphs.Side.{Side}
use Rattle.net_core.specs.declared.graphs.Side.TheVariants.{First, Second}
use Rattle.net_core.specs.Sides.{graph_of}
use Rattle.claim_core.specs.declared.claims.Claim.{Claim}
use Rattle.claim_core.specs.declared.claims.Shape.{Shape}
use Rattle.claim_core.specs.declared.claims.Shape.TheVariants.{Up, Down}
use Rattle.claim_core.specs.Claims.{IsPlaced, ShapeHolds, ShapeFails}
use Rattle.claim_core.specs.Images.{HasPair}
use Rattle.claim_core.proofs.ClaimLaws.{no_break}
use Rattle.account_core.specs.declared.step.Tallied.{Tallied}
use Rattle.account_core.specs.declared.step.Tallied.TheVariants.{Support, Binate}
use Rattle.account_core.specs.Given.{Decided, Given, decided, no_fact, fact_at, IsFactGiven, IsTrueFact}
use Rattle.account_core.specs.Tallies.{shapes_of, SayOf, AreOfEach, AreBothOfEach, HaveShapes, LackShapes, IsTally, port_on, other_side}
use Rattle.account_core.specs.Exclusions.{Excludes}
use Rattle.account_core.proofs.Listed.{zipped, given_by}
use Rattle.account_core.proofs.Matched.{one_to_one, place_below, pair_goes}
use Rattle.account_core.proofs.Pigeonhole.{pigeonhole}

-- what is said of a shape: it holds, or it fails
abbrev pub ShapeSays : Net → ℕ → Shape → Bool → Type 0
ShapeSays net k shape true = ShapeHolds net k shape
ShapeSays net k shape false = ShapeFails net k shape

-- a shape is placed, and what is said of it is so
abbrev pub IsShownShape : Net → ℕ → Bool → Shape → Type 0
IsShownShape net k holds shape = IsPlaced net.inputs shape × ShapeSays net k shape holds

abbrev pub claim_of : Side → ℕ → Shape → Claim
claim_of side output shape = record { side = side; output = output; shape = shape }

-- a true fact of a claim shows the claim's shape
fact_shows : (graphs : Graphs) (side : Side) (output : ℕ) (shape : Shape) (holds : Bool) → IsTrueFact graphs (decided (claim_of side output shape) holds) → IsShownShape (graph_of graphs side) output holds shape
fact_shows graphs side output shape true is = (is.placed.placed, is.says)
fact_shows graphs side output shape false is = (is.placed.placed, is.says)

-- a fact by its parts
fact_is : (fact : Decided) (side : Side) (output : ℕ) (holds : Bool) → fact.holds ≡ holds → fact.claim.side ≡ side → fact.claim.output ≡ output → fact ≡ decided (claim_of side output fact.claim.shape) holds
fact_is fact side output holds said of_side of_output =
    ap (λ s. decided (claim_of s fact.claim.output fact.claim.shape) fact.holds) of_side
    ∙ (ap (λ o. decided (claim_of side o fact.claim.shape) fact.holds) of_output ∙ ap (λ b. decided (claim_of side output fact.claim.shape) b) said)

-- a shape of facts is shown of
shape_shown : (graphs : Graphs) (given : Given) (numbers : List ℕ) (holds : Bool) (side : Side) (output : ℕ) (shape : Shape) → All (IsTrueFact graphs) given.facts → All (IsFactGiven given) numbers → SayOf given numbers holds side output → Contains (shapes_of given numbers) shape → IsShownShape (graph_of graphs side) output holds shape
shape_shown graphs given numbers holds side output shape facts known say held =
    let shape_at : ℕ → Shape = λ k. (fact_at given k).claim.shape in
    let within : held.0 < length numbers = omega (arith, held.1, length-map numbers shape_at) in
    let number = get_or numbers held.0 0 in
    let fact = fact_at given number in
    let right : IsTrueFact graphs fact = facts number no_fact (known held.0 0 within) in
    let is = fact_is fact side output holds (say.says held.0 0 within) (say.of_side held.0 0 within) (say.of_output held.0 0 within) in
    let same : fact.claim.shape ≡ shape = sym (get_or-map shape_at numbers held.0 0 shape within) ∙ held.2 in
    subst (IsShownShape (graph_of graphs side) output holds) same (fact_shows graphs side output fact.claim.shape holds (subst (IsTrueFact graphs) is right))

each_listed : (inputs : List ℕ) (shapes : List Shape) (x : ℕ) → AreOfEach inputs shapes → Contains inputs x → Contains shapes (Up x) ⊎ Contains shapes (Down x)
each_listed inputs shapes x each held =
    let found = zipped (λ i shape. (shape ≡ Up i) ⊎ (shape ≡ Down i)) inputs shapes x each held in
    elim found.2 [
      | inl is ↦ inl (subst (Contains shapes) is found.1)
      | inr is ↦ inr (subst (Contains shapes) is found.1)
    ]

-- both shapes of an input
abbrev pub both : ℕ → List Shape
both i = Up i ∷ Down i ∷ []

both_listed : (inputs : List ℕ) (shapes : List Shape) (x : ℕ) → AreBothOfEach inputs shapes → Contains inputs x → Contains shapes (Up x) × Contains shapes (Down x)
both_listed inputs shapes x are held = (
  subst (λ s. Contains s (Up x)) (sym are) (given_by both inputs x (Up x) held (0, omega arith, refl)),
  subst (λ s. Contains s (Down x)) (sym are) (given_by both inputs x (Down x) held (1, omega arith, refl)),
)

-- an input that an output has, and one that it lacks
abbrev pub Has : Tallied → Net → ℕ → ℕ → Type 0
Has Support net k i = ShapeFails net k (Up i) ⊎ ShapeFails net k (Down i)
Has Binate net k i = ShapeFails net k (Up i) × ShapeFails net k (Down i)

abbrev pub Lacks : Tallied → Net → ℕ → ℕ → Type 0
Lacks Support net k i = ShapeHolds net k (Up i) × ShapeHolds net k (Down i)
Lacks Binate net k i = ShapeHolds net k (Up i) ⊎ ShapeHolds net k (Down i)

-- what is shown of each input's shape, and of both its shapes
each_shown : (net : Net) (k : ℕ) (holds : Bool) (inputs : List ℕ) (shapes : List Shape) (x : ℕ) → AreOfEach inputs shapes → ((shape : Shape) → Contains shapes shape → IsShownShape net k holds shape) → Contains inputs x → (x < net.inputs) × (ShapeSays net k (Up x) holds ⊎ ShapeSays net k (Down x) holds)
each_shown net k holds inputs shapes x are shown held =
    elim (each_listed inputs shapes x are held) [
      | inl up ↦ ((shown (Up x) up).0, inl (shown (Up x) up).1)
      | inr down ↦ ((shown (Down x) down).0, inr (shown (Down x) down).1)
    ]

both_shown : (net : Net) (k : ℕ) (holds : Bool) (inputs : List ℕ) (shapes : List Shape) (x : ℕ) → AreBothOfEach inputs shapes → ((shape : Shape) → Contains shapes shape → IsShownShape net k holds shape) → Contains inputs x → (x < net.inputs) × (ShapeSays net k (Up x) holds × ShapeSays net k (Down x) holds)
both_shown net k holds inputs shapes x are shown held =
    let listed = both_listed inputs shapes x are held in
    ((shown (Up x) listed.0).0, ((shown (Up x) listed.0).1, (shown (Down x) listed.1).1))

has : (kind : Tallied) (net : Net) (k : ℕ) (inputs : List ℕ) (shapes : List Shape) (x : ℕ) → HaveShapes kind inputs shapes → ((shape : Shape) → Contains shapes shape → IsShownShape net k false shape) → Contains inputs x → (x < net.inputs) × Has kind net k x
has Support net k inputs shapes x are shown held = each_shown net k false inputs shapes x are shown held
has Binate net k inputs shapes x are shown held = both_shown net k false inputs shapes x are shown held

lacks : (kind : Tallied) (net : Net) (k : ℕ) (inputs : List ℕ) (shapes : List Shape) (x : ℕ) → LackShapes kind inputs shapes → ((shape : Shape) → Contains shapes shape → IsShownShape net k true shape) → Contains inputs x → (x < net.inputs) × Lacks kind net k x
lacks Support net k inputs shapes x are shown held = both_shown net k true inputs shapes x are shown held
lacks Binate net k inputs shapes x are shown held = each_shown net k true inputs shapes x are shown held

-- The claims of an output's input are those of another output's input, in this order or the other one.
abbrev pub Correspond : Net → ℕ → ℕ → Net → ℕ → ℕ → Type 0
Correspond net k i other l j =
    ((ShapeHolds net k (Up i) ↔ ShapeHolds other l (Up j)) × (ShapeHolds net k (Down i) ↔ ShapeHolds other l (Down j)))
    ⊎ ((ShapeHolds net k (Up i) ↔ ShapeHolds other l (Down j)) × (ShapeHolds net k (Down i) ↔ ShapeHolds other l (Up j)))

turned : (net : Net) (k i : ℕ) (other : Net) (l j : ℕ) → Correspond net k i other l j → Correspond other l j net k i
turned net k i other l j (inl same) = inl ((same.0.1, same.0.0), (same.1.1, same.1.0))
turned net k i other l j (inr crossed) = inr ((crossed.1.1, crossed.1.0), (crossed.0.1, crossed.0.0))

-- what the one has the other doesn't lack
not_apart : (kind : Tallied) (net : Net) (k i : ℕ) (other : Net) (l j : ℕ) → Correspond net k i other l j → Has kind net k i → Lacks kind other l j → ⊥
not_apart Support net k i other l j (inl same) (inl fails) lacks = no_break net k (Up i) (same.0.1 lacks.0) fails
not_apart Support net k i other l j (inl same) (inr fails) lacks = no_break net k (Down i) (same.1.1 lacks.1) fails
not_apart Support net k i other l j (inr same) (inl fails) lacks = no_break net k (Up i) (same.0.1 lacks.1) fails
not_apart Support net k i other l j (inr same) (inr fails) lacks = no_break net k (Down i) (same.1.1 lacks.0) fails
not_apart Binate net k i other l j (inl same) has (inl holds) = no_break net k (Up i) (same.0.1 holds) has.0
not_apart Binate net k i other l j (inl same) has (inr holds) = no_break net k (Down i) (same.1.1 holds) has.1
not_apart Binate net k i other l j (inr same) has (inl holds) = no_break net k (Down i) (same.1.1 holds) has.1
not_apart Binate net k i other l j (inr same) has (inr holds) = no_break net k (Up i) (same.0.1 holds) has.0

-- under a match the claims of an output's input are those of where both go
abbrev pub CorrespondsAt : Graphs → List (ℕ × Bool) → List (ℕ × Bool) → Type 0
CorrespondsAt graphs p q = (k i : ℕ) → k < length graphs.first.outputs → i < graphs.first.inputs
    → Correspond graphs.first k i graphs.second (place_of q k) (place_of p i)

all_below : (n : ℕ) (xs : List ℕ) → ((x : ℕ) → Contains xs x → x < n) → All (λ x. x < n) xs
all_below n xs each k d below = each (get_or xs k d) (Contains-get_or xs k d below)

-- A tally of an output of the first circuit: an input that it has goes to one that its partner lacks.
of_first : (graphs : Graphs) (kind : Tallied) (k : ℕ) (having lacking : List ℕ) (p q : List (ℕ × Bool)) → IsMatchOfFunctions graphs.first graphs.second p q → CorrespondsAt graphs p q → k < length graphs.first.outputs → AllPairs (λ one other. one < other) having → AllPairs (λ one other. one < other) lacking → graphs.first.inputs < length having + length lacking → ((x : ℕ) → Contains having x → (x < graphs.first.inputs) × Has kind graphs.first k x) → ((x : ℕ) → Contains lacking x → (x < graphs.second.inputs) × Lacks kind graphs.second (place_of q k) x) → ⊥
of_first graphs kind k having lacking p q match corresponds there rise_having rise_lacking many has lacks =
    let n = graphs.first.inputs in
    let met = pigeonhole n (place_of p) having lacking (one_to_one n p match.inputs) (place_below n p match.inputs) rise_having rise_lacking (all_below n having (λ x held. (has x held).0)) (all_below n lacking (λ x held. subst (λ m. x < m) match.same_inputs (lacks x held).0)) many in
    let one = has met.0 met.1 in
    not_apart kind graphs.first k met.0 graphs.second (place_of q k) (place_of p met.0) (corresponds k met.0 there one.0) one.1 (lacks (place_of p met.0) met.2).1

-- A tally of an output of the second circuit: an input that its partner lacks goes to one that it has.
of_second : (graphs : Graphs) (kind : Tallied) (k : ℕ) (having lacking : List ℕ) (p q : List (ℕ × Bool)) → IsMatchOfFunctions graphs.first graphs.second p q → CorrespondsAt graphs p q → k < length graphs.first.outputs → AllPairs (λ one other. one < other) having → AllPairs (λ one other. one < other) lacking → graphs.first.inputs < length having + length lacking → ((x : ℕ) → Contains having x → (x < graphs.second.inputs) × Has kind graphs.second (place_of q k) x) → ((x : ℕ) → Contains lacking x → (x < graphs.first.inputs) × Lacks kind graphs.first k x) → ⊥
of_second graphs kind k having lacking p q match corresponds there rise_having rise_lacking many has lacks =
    let n = graphs.first.inputs in
    let met = pigeonhole n (place_of p) lacking having (one_to_one n p match.inputs) (place_below n p match.inputs) rise_lacking rise_having (all_below n lacking (λ x held. (lacks x held).0)) (all_below n having (λ x held. subst (λ m. x < m) match.same_inputs (has x held).0)) (omega (arith, many)) in
    let one = lacks met.0 met.1 in
    let back = turned graphs.first k met.0 graphs.second (place_of q k) (place_of p met.0) (corresponds k met.0 there one.0) in
    not_apart kind graphs.second (place_of q k) (place_of p met.0) graphs.first k met.0 back (has (place_of p met.0) met.2).1 one.1

-- either way
by_side : (graphs : Graphs) (kind : Tallied) (side : Side) (pair : Pair) (having lacking : List ℕ) (p q : List (ℕ × Bool)) → IsMatchOfFunctions graphs.first graphs.second p q → CorrespondsAt graphs p q → pair.from < length graphs.first.outputs → place_of q pair.from ≡ pair.to → AllPairs (λ one other. one < other) having → AllPairs (λ one other. one < other) lacking → graphs.first.inputs < length having + length lacking → ((x : ℕ) → Contains having x → (x < (graph_of graphs side).inputs) × Has kind (graph_of graphs side) (port_on side pair) x) → ((x : ℕ) → Contains lacking x → (x < (graph_of graphs (other_side side)).inputs) × Lacks kind (graph_of graphs (other_side side)) (port_on (other_side side) pair) x) → ⊥
by_side graphs kind First pair having lacking p q match corresponds there goes rise_having rise_lacking many has lacks =
    of_first graphs kind pair.from having lacking p q match corresponds there rise_having rise_lacking many has (subst (λ l. (x : ℕ) → Contains lacking x → (x < graphs.second.inputs) × Lacks kind graphs.second l x) (sym goes) lacks)
by_side graphs kind Second pair having lacking p q match corresponds there goes rise_having rise_lacking many has lacks =
    of_second graphs kind pair.from having lacking p q match corresponds there rise_having rise_lacking many (subst (λ l. (x : ℕ) → Contains having x → (x < graphs.second.inputs) × Has kind graphs.second l x) (sym goes) has) lacks

-- the output that has more inputs than its partner may have
pub tally_contradicts : (graphs : Graphs) (given : Given) (pairs : List Pair) (kind : Tallied) (have lack : List ℕ) → ((p q : List (ℕ × Bool)) → IsMatchOfFunctions graphs.first graphs.second p q → CorrespondsAt graphs p q) → All (IsTrueFact graphs) given.facts → All (IsFactGiven given) have → All (IsFactGiven given) lack → IsTally graphs given pairs kind have lack → Excludes graphs pairs
tally_contradicts graphs given pairs kind have lack correspond facts known_have known_lack tally p q match extends =
    let pair = tally.pair in
    let side = tally.side in
    let other = other_side side in
    let taken = pair_goes p q pair Output (All-contains (HasPair p q) pairs pair extends tally.paired) tally.of_outputs in
    by_side graphs kind side pair tally.having tally.lacking p q match (correspond p q match) (omega (arith, taken.0, match.outputs.entries)) taken.1 tally.having_ascends tally.lacking_ascends tally.too_many
    (λ x held. has kind (graph_of graphs side) (port_on side pair) tally.having (shapes_of given have) x tally.have_shapes (λ shape listed. shape_shown graphs given have false side (port_on side pair) shape facts known_have tally.fail listed) held)
    (λ x held. lacks kind (graph_of graphs other) (port_on other pair) tally.lacking (shapes_of given lack) x tally.lack_shapes (λ shape listed. shape_shown graphs given lack true other (port_on other pair) shape facts known_lack tally.hold listed) held)
