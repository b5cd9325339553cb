-- Rows of outputs, and the facts that they have.
use Rattle.std.proofs.Common.{◌≡◌, ℕ, ◌<◌, Bool, true, false, List, [], ◌∷◌, ◌++◌, length, get_or, sym, ap, ◌∙◌, inl, inr, arith}
use Rattle.std.proofs.lemmas.Bool.{cases_order}
use Rattle.std.proofs.lemmas.List.{get_or_default}
use Rattle.circuits.specs.declared.port.Pair.{Pair}
use Rattle.net_core.specs.Sides.{Graphs, graph_of}
use Rattle.net_core.specs.declared.graphs.Side.{Side}
use Rattle.net_core.specs.declared.graphs.Side.TheVariants.{First, Second}
use Rattle.claim_core.specs.declared.claims.Claim.{Claim}
use Rattle.claim_core.specs.declared.claims.Shape.{Shape}
use Rattle.claim_core.specs.declared.claims.Shape.TheVariants.{Up, Down, Swap}
use Rattle.claim_core.specs.Claims.{IsPlaced}
use Rattle.claim_core.specs.Images.{one_input}
use Rattle.account_core.specs.Given.{Decided, decided, fact_at, given_of, no_fact}
use Rattle.account_core.specs.Tallies.{port_on}
use Rattle.ban_book.specs.Vectors.{AreDecided, AreEndsDecided, AreInputsDecided, HasOneInput, IsDecided}
use Rattle.circuits.proofs.EachLemmas.{each_push}
use Rattle.ban_book.specs.declared.input_claims.InputClaims.{InputClaims}
use Rattle.ban_book.specs.DecidedClaims.{IsDecidedAs}
use Rattle.ban_book.specs.Rows.{no_claims, row_on, decided_at, AreRows, IsRow, AreClaimsOf}
use Rattle.ban_book.proofs.ListedLemmas.{decided_stays}

pub row_none : (facts : List Decided) (side : Side) (output : ℕ) → IsRow facts side output []
row_none facts side output = record { each = λ k d below. absurd (omega (arith, below)) }

pub row_push : (facts : List Decided) (side : Side) (output : ℕ) (row : List InputClaims) (claims : InputClaims) → IsRow facts side output row → AreClaimsOf facts side output (length row) claims → IsRow facts side output (row ++ claims ∷ [])
row_push facts side output row claims is next = record { each = each_push (AreClaimsOf facts side output) row claims is.each next }

pub input_stays : (facts added : List Decided) (side : Side) (output input : ℕ) (claims : InputClaims) → AreClaimsOf facts side output input claims → AreClaimsOf (facts ++ added) side output input claims
input_stays facts added side output input claims is = record {
  up = decided_stays facts added (record { side = side; output = output; shape = Up input }) claims.up.holds claims.up.number is.up;
  down = decided_stays facts added (record { side = side; output = output; shape = Down input }) claims.down.holds claims.down.number is.down;
}

pub row_stays : (facts added : List Decided) (side : Side) (output : ℕ) (row : List InputClaims) → IsRow facts side output row → IsRow (facts ++ added) side output row
row_stays facts added side output row is = record {
  each = λ k d below. input_stays facts added side output k (get_or row k d) (is.each k d below);
}

-- what a fact says was decided
claims_decided : (facts : List Decided) (claim : Claim) (holds : Bool) (number : ℕ) → IsDecidedAs facts claim holds number → IsDecided facts claim
claims_decided facts claim holds number is =
    (holds, (number, is.within, get_or_default facts number (decided claim holds) no_fact is.within ∙ is.says))

pub inputs_decided : (facts : List Decided) (inputs : ℕ) (side : Side) (output : ℕ) (row : List InputClaims) → length row ≡ inputs → IsRow facts side output row → AreInputsDecided facts inputs side output
inputs_decided facts inputs side output row whole is = record { each = each }
  where
    each : (shape : Shape) → HasOneInput shape → IsPlaced inputs shape → IsDecided facts (record { side = side; output = output; shape = shape })
    each (Up i) one below = claims_decided facts _ _ _ (is.each i no_claims (omega (arith, below, whole))).up
    each (Down i) one below = claims_decided facts _ _ _ (is.each i no_claims (omega (arith, below, whole))).down
    each (Swap i j a b) one placed = absurd one

pub ends_decided : (graphs : Graphs) (facts : List Decided) (pair : Pair) (one other : List InputClaims) → length one ≡ graphs.first.inputs → length other ≡ graphs.second.inputs → AreRows facts pair one other → AreEndsDecided graphs facts pair
ends_decided graphs facts pair one other first second are = record { each = each }
  where
    each : (side : Side) → AreInputsDecided facts (graph_of graphs side).inputs side (port_on side pair)
    each First = inputs_decided facts graphs.first.inputs First pair.from one first are.first
    each Second = inputs_decided facts graphs.second.inputs Second pair.to other second are.second

-- the row of a side
pub row_of_side : (facts : List Decided) (pair : Pair) (side : Side) (one other : List InputClaims) → AreRows facts pair one other → IsRow facts side (port_on side pair) (row_on side one other)
row_of_side facts pair First one other are = are.first
row_of_side facts pair Second one other are = are.second

pub length_of_side : (side : Side) (one other : List InputClaims) (n : ℕ) → length one ≡ n → length other ≡ n → length (row_on side one other) ≡ n
length_of_side First one other n first second = first
length_of_side Second one other n first second = second

-- what a row says of an input with a value
pub row_tells : (facts : List Decided) (side : Side) (output : ℕ) (row : List InputClaims) (input : ℕ) (value : Bool) → IsRow facts side output row → input < length row → IsDecidedAs facts (record { side = side; output = output; shape = one_input input value }) (decided_at row input value).holds (decided_at row input value).number
row_tells facts side output row input false is below = (is.each input no_claims below).up
row_tells facts side output row input true is below = (is.each input no_claims below).down

-- no two facts are of one claim, so another fact of it says the same
pub same_said : (graphs : Graphs) (facts : List Decided) (claim : Claim) (holds : Bool) (number k : ℕ) → AreDecided graphs facts → IsDecidedAs facts claim holds number → k < length facts → (fact_at (given_of facts []) k).claim ≡ claim → (fact_at (given_of facts []) k).holds ≡ holds
same_said graphs facts claim holds number k are said below same =
    let claims : (get_or facts k no_fact).claim ≡ (get_or facts number no_fact).claim = same ∙ sym (ap (λ (fact : Decided). fact.claim) said.says) in
    elim (cases_order k number) [
      | inl e ↦ ap (λ n. (get_or facts n no_fact).holds) e ∙ ap (λ (fact : Decided). fact.holds) said.says
      | inr (inl less) ↦ absurd (are.distinct k number no_fact less said.within claims)
      | inr (inr more) ↦ absurd (are.distinct number k no_fact more below (sym claims))
    ]
