-- A vector on which an assigned output's partner is wrong.
use Rattle.std.proofs.Common.{◌≡◌, Bool, List, [], ◌∷◌, ◌++◌, length, map, get_or, All, refl, sym, subst, ◌∙◌, arith}
use Rattle.std.specs.Prelude.{Contains}
use Rattle.std.proofs.lemmas.List.{length-map}
use Rattle.std.proofs.lemmas.List.Elements.{All-contains_itself, All-nil, All-push, Contains-push}
use Rattle.std.proofs.lemmas.List.Quantifiers.{all_pairs_push}
use Rattle.circuits.specs.declared.port.Pair.{Pair}
use Rattle.circuits.specs.declared.port.PortKind.TheVariants.{Input, Output}
use Rattle.net_core.specs.Sides.{Graphs}
use Rattle.net_core.specs.Graph.{IsGraph}
use Rattle.account_core.specs.Ports.{AreOrdered, IsKnown, StandInOrder}
use Rattle.word_sim.specs.declared.tri.Tri.{Tri}
use Rattle.account_core.specs.Assigned.{AreAssignable, IsPart}
use Rattle.ban_book.specs.Rows.{HasOneOutput}
use Rattle.vector_bans.specs.Differences.{AreAssignedInputs, IsShown, IsWrong}
use Rattle.vector_bans.proofs.DefiniteLemmas.{of_bit_definite, of_output}
use Rattle.ban_book.proofs.KeepLemmas.{part_known}
use Rattle.vector_bans.proofs.ResortLemmas.{first_there}
use Rattle.vector_bans.proofs.ShownLemmas.{input_output}
use Rattle.word_sim.specs.ThreeValues.{of_bit}

-- pairs of inputs, and one of an output that a vector shows to be wrong
pub shown_known : (graphs : Graphs) (pairs : List Pair) (pair : Pair) (x : List Bool) (values : List Tri) → IsGraph graphs.first → All (IsKnown graphs) pairs → AreOrdered pairs → HasOneOutput pairs pair → length x ≡ graphs.first.inputs → values ≡ map of_bit x → IsWrong graphs pairs pair values → IsShown graphs pairs pair values pairs
shown_known graphs pairs pair x values first known ordered output size values_are wrong =
    subst (λ v. IsShown graphs pairs pair v pairs) (sym values_are) (record {
      among = All-contains_itself pairs;
      ordered = ordered;
      known = known;
      output = output;
      places = length-map x of_bit ∙ size;
      definite = λ e. of_bit_definite _ (sym (of_output graphs.first x pair.from first.ordered size (first_there graphs pairs pair known output)) ∙ e);
      wrong = subst (IsWrong graphs pairs pair) values_are wrong;
    })

-- and where they are assigned ones
pub shown_assigned : (graphs : Graphs) (assigned pairs : List Pair) (pair : Pair) (x : List Bool) (values : List Tri) → AreAssignable graphs assigned → IsGraph graphs.first → IsPart assigned pairs → Contains assigned pair → HasOneOutput pairs pair → length x ≡ graphs.first.inputs → values ≡ map of_bit x → IsWrong graphs pairs pair values → IsShown graphs pairs pair values pairs
shown_assigned graphs assigned pairs pair x values are first part there output size values_are wrong =
    shown_known graphs pairs pair x values first (part_known graphs assigned pairs are part) part.ordered output size values_are wrong

-- none yet
pub inputs_none : (assigned : List Pair) → AreAssignedInputs assigned []
inputs_none assigned = record { part = record { among = All-nil (Contains assigned); ordered = λ i j d less below. absurd (omega (arith, below)) }; inputs = All-nil (λ (pair : Pair). pair.kind ≡ Input) }

-- and the pair of an output after them
module _ (assigned pairs : List Pair) (pair : Pair) (are : AreAssignedInputs assigned pairs) (there : Contains assigned pair) (kind : pair.kind ≡ Output) where
  not_input : (other : Pair) → other.kind ≡ Input → other.kind ≡ pair.kind → ⊥
  not_input other input same = input_output (sym input ∙ (same ∙ kind))

  pub output_part : IsPart assigned (pairs ++ pair ∷ [])
  output_part = record {
    among = All-push (Contains assigned) pairs pair are.part.among there;
    ordered = all_pairs_push StandInOrder pairs pair are.part.ordered (λ k d below. record {
      inputs_first = λ e. kind;
      ascending = λ same. absurd (not_input (get_or pairs k d) (are.inputs k d below) same);
      apart = λ same. absurd (not_input (get_or pairs k d) (are.inputs k d below) same);
    });
  }

  pub output_one : HasOneOutput (pairs ++ pair ∷ []) pair
  output_one = record {
    has = Contains-push pairs pair;
    of_output = kind;
    only = All-push (λ (other : Pair). other.kind ≡ Output → other ≡ pair) pairs pair (λ k d below e. absurd (input_output (sym (are.inputs k d below) ∙ e))) (λ e. refl);
  }
