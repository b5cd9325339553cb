-- Pairs of inputs, and one of an output after them.
use Rattle.std.proofs.Common.{◌≡◌, ◌≢◌, ℕ, ◌+◌, ◌<◌, List, [], ◌∷◌, ◌++◌, length, take, get_or, All, refl, sym, subst, ◌∙◌, arith}
use Rattle.std.specs.Prelude.{Contains}
use Rattle.std.proofs.lemmas.List.Elements.{All-append, All-cons, All-contains, All-contains_itself, All-nil, All-push, Contains-append_left, Contains-append_right, Contains-get_or, Contains-push}
use Rattle.std.proofs.lemmas.List.Quantifiers.{all_pairs_push}
use Rattle.std.proofs.lemmas.List.{take_more}
use Rattle.circuits.specs.declared.port.Pair.{Pair}
use Rattle.circuits.specs.declared.port.PortKind.TheVariants.{Input, Output}
use Rattle.net_core.specs.Sides.{Graphs}
use Rattle.account_core.specs.Ports.{AreOrdered, IsKnown, StandInOrder}
use Rattle.ban_book.specs.Rows.{HasOneOutput}
use Rattle.ban_book.proofs.MismatchLemmas.{input_before}
use Rattle.account_core.specs.Assigned.{AddsAssigned, AreAssignable, IsPart}
use Rattle.class_refine.specs.Rows.{AreInputs, AreInputsOf}
use Rattle.circuits.proofs.Lists.{contains_cons}

pub kinds_differ : Input ≢ Output
kinds_differ e = cc

pub ordered_with : (graphs : Graphs) (inputs : List Pair) (output : Pair) → AreInputs graphs inputs → output.kind ≡ Output → AreOrdered (inputs ++ output ∷ [])
ordered_with graphs inputs output are kind =
    all_pairs_push StandInOrder inputs output are.ordered (λ k d below. input_before (get_or inputs k d) output (are.inputs k d below) kind)

pub known_with : (graphs : Graphs) (inputs : List Pair) (output : Pair) → AreInputs graphs inputs → IsKnown graphs output → All (IsKnown graphs) (inputs ++ output ∷ [])
known_with graphs inputs output are known = All-push (IsKnown graphs) inputs output are.known known

pub one_with : (graphs : Graphs) (inputs : List Pair) (output : Pair) → AreInputs graphs inputs → output.kind ≡ Output → HasOneOutput (inputs ++ output ∷ []) output
one_with graphs inputs output are kind = record {
  has = Contains-push inputs output;
  of_output = kind;
  only = All-push (λ (other : Pair). other.kind ≡ Output → other ≡ output) inputs output (λ k d below e. absurd (kinds_differ (sym (are.inputs k d below) ∙ e))) (λ e. refl);
}

-- the assigned pairs of inputs are known
pub inputs_known : (graphs : Graphs) (assigned inputs : List Pair) → AreAssignable graphs assigned → AreInputsOf assigned inputs → AreInputs graphs inputs
inputs_known graphs assigned inputs are of = record {
  known = λ k d below. All-contains (IsKnown graphs) assigned (get_or inputs k d) are.known (of.part.among k d below);
  ordered = of.part.ordered;
  inputs = of.inputs;
}

-- a pair of an input by itself
pub one_input : (graphs : Graphs) (way : Pair) → IsKnown graphs way → way.kind ≡ Input → AreInputs graphs (way ∷ [])
one_input graphs way known kind = record {
  known = All-cons (IsKnown graphs) way [] known (All-nil (IsKnown graphs));
  ordered = λ i j d less below. absurd (omega (arith, less, below));
  inputs = All-cons (λ (p : Pair). p.kind ≡ Input) way [] kind (All-nil (λ (p : Pair). p.kind ≡ Input));
}

-- The assigned pairs of inputs so far.
pub record IsTaking (assigned inputs : List Pair) (index : ℕ) : Type 0 where
  pub part : IsPart assigned inputs
  pub inputs_are : All (λ pair. pair.kind ≡ Input) inputs
  pub all : All (λ pair. pair.kind ≡ Input → Contains inputs pair) (take index assigned)

pub taking_none : (assigned inputs : List Pair) → inputs ≡ [] → IsTaking assigned inputs 0
taking_none assigned inputs none = subst (λ (l : List Pair). IsTaking assigned l 0) (sym none) (record {
  part = record { among = All-nil (Contains assigned); ordered = λ i j d less below. absurd (omega (arith, below)) };
  inputs_are = All-nil (λ (p : Pair). p.kind ≡ Input);
  all = All-nil (λ (p : Pair). p.kind ≡ Input → Contains [] p);
})

pub taking_more : (assigned before after : List Pair) (index : ℕ) (d : Pair) → index < length assigned → IsTaking assigned before index → AddsAssigned assigned before after → All (λ pair. pair.kind ≡ Input) after → ((get_or assigned index d).kind ≡ Input → Contains after (get_or assigned index d)) → IsTaking assigned after (index + 1)
taking_more assigned before after index d below is adds inputs here = record {
  part = adds.part;
  inputs_are = inputs;
  all = subst (All P) (sym (take_more assigned index d below)) (All-push P (take index assigned) (get_or assigned index d) (λ k e within kind. All-contains (Contains after) before (get_or (take index assigned) k e) adds.stays (is.all k e within kind)) here);
}
  where
    P : Pair → Type 0
    P p = p.kind ≡ Input → Contains after p

-- pairs of inputs and one of the assigned pairs are among both
pub with_among : (inputs assigned : List Pair) (pair : Pair) → Contains assigned pair → All (Contains (inputs ++ assigned)) (inputs ++ pair ∷ [])
with_among inputs assigned pair there =
    All-push (Contains (inputs ++ assigned)) inputs pair (λ k d below. Contains-append_left inputs assigned (get_or inputs k d) (Contains-get_or inputs k d below)) (Contains-append_right inputs assigned pair there)

-- the assigned pairs of inputs are assigned pairs
pub both_among : (assigned inputs : List Pair) → AreInputsOf assigned inputs → All (Contains assigned) (inputs ++ assigned)
both_among assigned inputs of = All-append (Contains assigned) inputs assigned of.part.among (All-contains_itself assigned)

-- and with a way after them they are among it and the assigned pairs
pub way_among : (assigned inputs : List Pair) (way : Pair) → AreInputsOf assigned inputs → All (Contains (way ∷ assigned)) (inputs ++ way ∷ [])
way_among assigned inputs way of =
    All-push (Contains (way ∷ assigned)) inputs way (λ k d below. contains_cons assigned way (get_or inputs k d) (of.part.among k d below)) (0, omega arith, refl)
