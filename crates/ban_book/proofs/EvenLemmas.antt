-- Where two outputs depend on as many inputs, and are binate in as many, no tally of theirs is valid.
use Rattle.std.proofs.Common.{◌≡◌, ◌⊎◌, ℕ, ◌+◌, ◌<◌, ◌≤◌, ◌||◌, ◌&&◌, Bool, true, false, List, [], ◌∷◌, length, get_or, All, count_by, refl, sym, ap, ap₂, subst, ◌∙◌, inl, inr, arith}
use Rattle.std.specs.Prelude.{Contains}
use Rattle.std.specs.Bool.{beq}
use Rattle.std.proofs.lemmas.List.{get_or-map, length-map}
use Rattle.std.proofs.lemmas.List.Elements.{All-contains, Contains-get_or}
use Rattle.circuits.specs.declared.port.Pair.{Pair}
use Rattle.circuits.specs.declared.port.PortKind.TheVariants.{Output}
use Rattle.net_core.specs.Sides.{Graphs, graph_of}
use Rattle.net_core.specs.declared.graphs.Side.{Side}
use Rattle.net_core.specs.declared.graphs.Side.TheVariants.{First, Second}
use Rattle.claim_core.specs.declared.claims.Shape.{Shape}
use Rattle.claim_core.specs.declared.claims.Shape.TheVariants.{Up, Down}
use Rattle.claim_core.specs.Claims.{IsClaim, IsPlaced}
use Rattle.claim_core.specs.Images.{one_input}
use Rattle.account_core.specs.declared.step.Step.TheVariants as step
use Rattle.account_core.specs.declared.step.Tallied.{Tallied}
use Rattle.account_core.specs.declared.step.Tallied.TheVariants.{Support, Binate}
use Rattle.account_core.specs.Given.{Decided, fact_at, given_of, no_fact, IsFactGiven}
use Rattle.account_core.specs.Tallies.{other_side, port_on, shapes_of, AreBothOfEach, AreOfEach, Ascend, HaveShapes, LackShapes, SayOf}
use Rattle.account_core.proofs.Listed.{given_by, zipped}
use Rattle.ban_book.specs.Vectors.{AreDecided, IsShownBy}
use Rattle.ban_book.specs.declared.input_claims.InputClaims.{InputClaims}
use Rattle.ban_book.specs.Rows.{no_claims, row_on, says_both, says_one, decided_at, AreEven, AreRows, HasOneOutput, IsRow}
use Rattle.ban_book.proofs.PlaceLemmas.{ascending_count}
use Rattle.ban_book.proofs.RowLemmas.{length_of_side, row_of_side, row_tells, same_said}
use Rattle.ban_book.proofs.UnevenLemmas.{both_or_one}
use Rattle.claim_core.proofs.EqualLemmas.{bool_decides}

-- a claim's inputs are its circuit's
placed_at : (n input : ℕ) (value : Bool) → IsPlaced n (one_input input value) → input < n
placed_at n input false placed = placed
placed_at n input true placed = placed

-- Facts that say of claims of one output that they hold, or that they fail.
module _ (graphs : Graphs) (facts : List Decided) (side : Side) (output : ℕ) (row : List InputClaims) (are : AreDecided graphs facts) (is : IsRow facts side output row) (whole : length row ≡ (graph_of graphs side).inputs) (numbers : List ℕ) (holds : Bool) (known : All (IsFactGiven (given_of facts [])) numbers) (say : SayOf (given_of facts []) numbers holds side output) where
  claim_at : (k d : ℕ) (shape : Shape) → k < length numbers → (fact_at (given_of facts []) (get_or numbers k d)).claim.shape ≡ shape → (fact_at (given_of facts []) (get_or numbers k d)).claim ≡ record { side = side; output = output; shape = shape }
  claim_at k d shape below same =
      let claim = (fact_at (given_of facts []) (get_or numbers k d)).claim in
      ap (λ (s : Side). record { side = s; output = claim.output; shape = claim.shape }) (say.of_side k d below)
      ∙ (ap (λ (o : ℕ). record { side = side; output = o; shape = claim.shape }) (say.of_output k d below)
      ∙ ap (λ (s : Shape). record { side = side; output = output; shape = s }) same)

  -- a fact of an input with a value is in the row
  decided_so : (input : ℕ) (value : Bool) → Contains (shapes_of (given_of facts []) numbers) (one_input input value) → (input < length row) × ((decided_at row input value).holds ≡ holds)
  decided_so input value held =
      let shape_of : ℕ → Shape = λ n. (fact_at (given_of facts []) n).claim.shape in
      let within : held.0 < length numbers = omega (arith, held.1, length-map numbers shape_of) in
      let number = get_or numbers held.0 0 in
      let claim_is = claim_at held.0 0 (one_input input value) within (sym (get_or-map shape_of numbers held.0 0 (one_input input value) within) ∙ held.2) in
      let placed = subst (IsClaim graphs) claim_is (are.placed number no_fact (known held.0 0 within)) in
      let below : input < length row = omega (arith, whole, placed_at (graph_of graphs side).inputs input value placed.placed) in
      (below, sym (same_said graphs facts _ (decided_at row input value).holds (decided_at row input value).number number are (row_tells facts side output row input value is below) (known held.0 0 within) claim_is) ∙ say.says held.0 0 within)

  one_so : (inputs : List ℕ) (input : ℕ) → AreOfEach inputs (shapes_of (given_of facts []) numbers) → Contains inputs input → (input < length row) × (says_one holds (get_or row input no_claims) ≡ true)
  one_so inputs input each held =
      let found = zipped (λ i shape. (shape ≡ Up i) ⊎ (shape ≡ Down i)) inputs (shapes_of (given_of facts []) numbers) input each held in
      let claims = get_or row input no_claims in
      elim found.2 [
        | inl same ↦
            let so = decided_so input false (subst (Contains (shapes_of (given_of facts []) numbers)) same found.1) in
            (so.0, ap (λ b. b || beq claims.down.holds holds) ((bool_decides claims.up.holds holds).1 so.1))
        | inr same ↦
            let so = decided_so input true (subst (Contains (shapes_of (given_of facts []) numbers)) same found.1) in
            (so.0, ap (λ b. beq claims.up.holds holds || b) ((bool_decides claims.down.holds holds).1 so.1) ∙ or_true (beq claims.up.holds holds))
      ]
    where
      or_true : (b : Bool) → (b || true) ≡ true
      or_true true = refl
      or_true false = refl

  both_so : (inputs : List ℕ) (input : ℕ) → AreBothOfEach inputs (shapes_of (given_of facts []) numbers) → Contains inputs input → (input < length row) × (says_both holds (get_or row input no_claims) ≡ true)
  both_so inputs input are_both held =
      let both : ℕ → List Shape = λ i. Up i ∷ Down i ∷ [] in
      let claims = get_or row input no_claims in
      let up = decided_so input false (subst (λ s. Contains s (Up input)) (sym are_both) (given_by both inputs input (Up input) held (0, omega arith, refl))) in
      let down = decided_so input true (subst (λ s. Contains s (Down input)) (sym are_both) (given_by both inputs input (Down input) held (1, omega arith, refl))) in
      (up.0, ap₂ (λ a b. a && b) ((bool_decides claims.up.holds holds).1 up.1) ((bool_decides claims.down.holds holds).1 down.1))

  -- there are no more such inputs than in the row
  ones_most : (inputs : List ℕ) → Ascend inputs → AreOfEach inputs (shapes_of (given_of facts []) numbers) → length inputs ≤ count_by (says_one holds) row
  ones_most inputs ascend each =
      ascending_count (says_one holds) row no_claims inputs ascend (λ k d below. (one_so inputs (get_or inputs k d) each (Contains-get_or inputs k d below)).0) (λ k d below. (one_so inputs (get_or inputs k d) each (Contains-get_or inputs k d below)).1)

  boths_most : (inputs : List ℕ) → Ascend inputs → AreBothOfEach inputs (shapes_of (given_of facts []) numbers) → length inputs ≤ count_by (says_both holds) row
  boths_most inputs ascend are_both =
      ascending_count (says_both holds) row no_claims inputs ascend (λ k d below. (both_so inputs (get_or inputs k d) are_both (Contains-get_or inputs k d below)).0) (λ k d below. (both_so inputs (get_or inputs k d) are_both (Contains-get_or inputs k d below)).1)

-- how many inputs there are of either side of which a claim says so
even_on : (side : Side) (one other : List InputClaims) (holds : Bool) → count_by (says_one holds) one ≡ count_by (says_one holds) other → count_by (says_one holds) (row_on side one other) ≡ count_by (says_one holds) (row_on (other_side side) one other)
even_on First one other holds same = same
even_on Second one other holds same = sym same

whole_on : (graphs : Graphs) (side : Side) (one other : List InputClaims) → length one ≡ graphs.first.inputs → length other ≡ graphs.second.inputs → length (row_on side one other) ≡ (graph_of graphs side).inputs
whole_on graphs First one other first second = first
whole_on graphs Second one other first second = second

module _ (graphs : Graphs) (facts : List Decided) (pair : Pair) (one other : List InputClaims) (are : AreDecided graphs facts) (rows : AreRows facts pair one other) (first : length one ≡ graphs.first.inputs) (second : length other ≡ graphs.second.inputs) (as_many : graphs.first.inputs ≡ graphs.second.inputs) (even : AreEven one other) where
  most_on : (side : Side) (numbers : List ℕ) (holds : Bool) → All (IsFactGiven (given_of facts [])) numbers → SayOf (given_of facts []) numbers holds side (port_on side pair) → (inputs : List ℕ) → Ascend inputs → (AreOfEach inputs (shapes_of (given_of facts []) numbers) → length inputs ≤ count_by (says_one holds) (row_on side one other)) × (AreBothOfEach inputs (shapes_of (given_of facts []) numbers) → length inputs ≤ count_by (says_both holds) (row_on side one other))
  most_on side numbers holds known say inputs rise =
      let row = row_on side one other in
      let is = row_of_side facts pair side one other rows in
      let whole = whole_on graphs side one other first second in
      (ones_most graphs facts side (port_on side pair) row are is whole numbers holds known say inputs rise, boths_most graphs facts side (port_on side pair) row are is whole numbers holds known say inputs rise)

  bounds : (side : Side) (kind : Tallied) (have lack having lacking : List ℕ) → All (IsFactGiven (given_of facts [])) have → All (IsFactGiven (given_of facts [])) lack → SayOf (given_of facts []) have false side (port_on side pair) → SayOf (given_of facts []) lack true (other_side side) (port_on (other_side side) pair) → HaveShapes kind having (shapes_of (given_of facts []) have) → LackShapes kind lacking (shapes_of (given_of facts []) lack) → Ascend having → Ascend lacking → length having + length lacking ≤ graphs.first.inputs
  bounds side Support have lack having lacking known known_other fail hold have_shapes lack_shapes rise rise_other =
      omega (arith, (most_on side have false known fail having rise).0 have_shapes, (most_on (other_side side) lack true known_other hold lacking rise_other).1 lack_shapes, even_on side one other false even.failing, both_or_one false (row_on (other_side side) one other), length_of_side (other_side side) one other graphs.first.inputs first (second ∙ sym as_many))
  bounds side Binate have lack having lacking known known_other fail hold have_shapes lack_shapes rise rise_other =
      omega (arith, (most_on side have false known fail having rise).1 have_shapes, (most_on (other_side side) lack true known_other hold lacking rise_other).0 lack_shapes, even_on side one other true even.holding, both_or_one true (row_on side one other), length_of_side side one other graphs.first.inputs first (second ∙ sym as_many))

  pub even_no_tally : (pairs : List Pair) (kind : Tallied) (have lack : List ℕ) → HasOneOutput pairs pair → IsShownBy graphs facts pairs (step.Tally kind have lack) → ⊥
  even_no_tally pairs kind have lack has shown =
      let is = shown.rule in
      let same : is.pair ≡ pair = All-contains (λ (p : Pair). p.kind ≡ Output → p ≡ pair) pairs is.pair has.only is.paired is.of_outputs in
      let fail = subst (λ (p : Pair). SayOf (given_of facts []) have false is.side (port_on is.side p)) same is.fail in
      let hold = subst (λ (p : Pair). SayOf (given_of facts []) lack true (other_side is.side) (port_on (other_side is.side) p)) same is.hold in
      omega (arith, is.too_many, bounds is.side kind have lack is.having is.lacking shown.names.0 shown.names.1 fail hold is.have_shapes is.lack_shapes is.having_ascends is.lacking_ascends)
