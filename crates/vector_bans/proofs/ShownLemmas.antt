-- Pairs on which values show a difference.
use Rattle.std.proofs.Common.{◌≡◌, ◌≢◌, ℕ, suc, ◌+◌, ◌-◌, ◌<◌, ◌≤◌, List, length, take, drop, get_or, All, sym, ap, subst, ◌∙◌, inl, inr, arith}
use Rattle.std.specs.Prelude.{Contains, remove}
use Rattle.std.proofs.lemmas.Bool.{cases_order}
use Rattle.std.proofs.lemmas.List.Edits.{length-remove, get_or-remove_below, get_or-remove_above}
use Rattle.std.proofs.lemmas.List.Elements.{All-append, All-contains_itself, All-drop, All-take}
use Rattle.std.proofs.lemmas.List.Quantifiers.{all_pairs_remove}
use Rattle.circuits.specs.declared.port.Pair.{Pair}
use Rattle.circuits.specs.declared.port.PortKind.TheVariants.{Input, Output}
use Rattle.net_core.specs.Sides.{Graphs}
use Rattle.word_sim.specs.declared.tri.Tri.{Tri}
use Rattle.account_core.specs.Ports.{IsKnown, AreOrdered, StandInOrder}
use Rattle.ban_book.proofs.BlockListLemmas.{among_more}
use Rattle.vector_bans.specs.Differences.{IsLeftOut, IsShown}

all_but : (P : Pair → Type 0) (pairs : List Pair) (place : ℕ) → All P pairs → All P (remove pairs place)
all_but P pairs place all = All-append P (take place pairs) (drop (suc place) pairs) (All-take P place pairs all) (All-drop P (suc place) pairs all)

-- an element at another place stays
stays : (pairs : List Pair) (place : ℕ) (pair : Pair) → place < length pairs → (assigned : Contains pairs pair) → assigned.0 ≢ place → Contains (remove pairs place) pair
stays pairs place pair within assigned apart =
    elim (cases_order assigned.0 place) [
      | inl same ↦ absurd (apart same)
      | inr (inl less) ↦ (assigned.0, omega (arith, less, within, size), get_or-remove_below pairs place pair assigned.0 less within ∙ assigned.2)
      | inr (inr more) ↦ later (assigned.0 - 1) (omega (arith, more)) (omega (arith, more))
    ]
  where
    size : length (remove pairs place) + 1 ≡ length pairs
    size = omega (arith, length-remove pairs place within, within)

    later : (k : ℕ) → assigned.0 ≡ k + 1 → place ≤ k → Contains (remove pairs place) pair
    later k is past = (k, omega (arith, assigned.1, is, size), get_or-remove_above pairs place pair k past within ∙ (ap (λ n. get_or pairs n pair) (sym is) ∙ assigned.2))

pub input_output : Input ≢ Output
input_output e = cc

pub shown_less : (graphs : Graphs) (whole : List Pair) (pair : Pair) (values : List Tri) (pairs : List Pair) (place : ℕ) (fewer : List Pair) → place < length pairs → IsShown graphs whole pair values pairs → IsLeftOut graphs pair values pairs place fewer → IsShown graphs whole pair values fewer
shown_less graphs whole pair values pairs place fewer within shown out = record {
  among = subst (All (Contains whole)) (sym out.fewer_is) (all_but (Contains whole) pairs place shown.among);
  ordered = subst AreOrdered (sym out.fewer_is) (all_pairs_remove StandInOrder pairs place within shown.ordered);
  known = subst (All (IsKnown graphs)) (sym out.fewer_is) (all_but (IsKnown graphs) pairs place shown.known);
  output = record {
    has = subst (λ l. Contains l pair) (sym out.fewer_is) (stays pairs place pair within shown.output.has (λ same. input_output (sym (out.input pair) ∙ (ap (λ n. (get_or pairs n pair).kind) (sym same) ∙ (ap (λ (p : Pair). p.kind) shown.output.has.2 ∙ shown.output.of_output)))));
    of_output = shown.output.of_output;
    only = subst (All (λ (other : Pair). other.kind ≡ Output → other ≡ pair)) (sym out.fewer_is) (all_but (λ (other : Pair). other.kind ≡ Output → other ≡ pair) pairs place shown.output.only);
  };
  places = shown.places;
  definite = shown.definite;
  wrong = out.wrong;
}

-- pairs show the same among any others that have them
shown_in : (graphs : Graphs) (some others : List Pair) (pair : Pair) (values : List Tri) (pairs : List Pair) → All (Contains others) pairs → IsShown graphs some pair values pairs → IsShown graphs others pair values pairs
shown_in graphs some others pair values pairs among shown = record {
  among = among;
  ordered = shown.ordered;
  known = shown.known;
  output = shown.output;
  places = shown.places;
  definite = shown.definite;
  wrong = shown.wrong;
}

-- and of themselves
pub shown_itself : (graphs : Graphs) (whole : List Pair) (pair : Pair) (values : List Tri) (pairs : List Pair) → IsShown graphs whole pair values pairs → IsShown graphs pairs pair values pairs
shown_itself graphs whole pair values pairs shown = shown_in graphs whole pairs pair values pairs (All-contains_itself pairs) shown

-- what is made of them shows the same
pub shown_made : (graphs : Graphs) (whole pairs made : List Pair) (pair : Pair) (values taken : List Tri) → made ≡ pairs → values ≡ taken → IsShown graphs whole pair values pairs → IsShown graphs made pair taken made
shown_made graphs whole pairs made pair values taken made_is values_is shown =
    subst (λ (v : List Tri). IsShown graphs made pair v made) values_is (subst (λ (l : List Pair). IsShown graphs l pair values l) (sym made_is) (shown_itself graphs whole pair values pairs shown))

pub shown_made_among : (graphs : Graphs) (assigned whole pairs made : List Pair) (pair : Pair) (values taken : List Tri) → made ≡ pairs → values ≡ taken → All (Contains assigned) whole → IsShown graphs whole pair values pairs → IsShown graphs assigned pair taken made
shown_made_among graphs assigned whole pairs made pair values taken made_is values_is among shown =
    subst (λ (v : List Tri). IsShown graphs assigned pair v made) values_is (subst (IsShown graphs assigned pair values) (sym made_is) (shown_in graphs whole assigned pair values pairs (among_more pairs whole assigned shown.among among) shown))
