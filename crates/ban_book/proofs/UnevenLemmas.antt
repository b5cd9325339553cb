-- A tally's ban by rows: what it lists, how long that is, and that it is valid.
use Rattle.std.proofs.Common.{◌≡◌, ℕ, zero, suc, ◌+◌, ◌*◌, ◌<◌, ◌≤◌, ◌||◌, ◌&&◌, Bool, true, false, not, cond, List, [], ◌∷◌, ◌++◌, length, take, filter, get_or, count_by, append-nil, append_assoc, refl, sym, ap, subst, ◌∙◌, inl, inr, arith}
use Rattle.std.specs.Bool.{beq}
use Rattle.std.specs.List.{flat_map}
use Rattle.std.proofs.lemmas.Bool.{and_parts, cases_Bool, cond-false, cond-true}
use Rattle.std.proofs.lemmas.List.{take_all, take_more}
use Rattle.std.proofs.lemmas.List.Elements.{All-cons, All-contains, All-nil}
use Rattle.std.proofs.lemmas.List.Filters.{length-filter_both}
use Rattle.std.proofs.lemmas.List.Sums.{count_by-le-length, length-filter}
use Rattle.std.specs.Prelude.{All, Contains}
use Rattle.circuits.specs.declared.port.Pair.{Pair}
use Rattle.circuits.specs.declared.port.PortKind.TheVariants.{Output}
use Rattle.net_core.specs.Sides.{Graphs}
use Rattle.net_core.specs.declared.graphs.Side.{Side}
use Rattle.claim_core.specs.declared.claims.Claim.{Claim}
use Rattle.claim_core.specs.declared.claims.Shape.{Shape}
use Rattle.account_core.specs.declared.step.Ban.{Ban}
use Rattle.account_core.specs.Given.{Decided, given_of}
use Rattle.account_core.specs.Ports.{IsKnown}
use Rattle.account_core.specs.Steps.{IsValidBan}
use Rattle.account_core.specs.Tallies.{other_side, port_on, AreBothOfEach, AreOfEach}
use Rattle.ban_book.specs.Vectors.{IsVector}
use Rattle.ban_book.specs.declared.input_claims.InputClaims.{InputClaims}
use Rattle.ban_book.specs.DecidedClaims.{AddsFact, IsDecidedAs}
use Rattle.ban_book.specs.Listed.{tally_of, tally_step, AreLists, ListsBoth, ListsOf, ListsOne}
use Rattle.ban_book.specs.Rows.{both_of, lists_by, no_claims, one_of, row_on, says_both, says_one, AreRows, HasOneOutput, IsRow, IsTallyBan, AreClaimsOf}
use Rattle.ban_book.specs.Shown.{IsShownBan}
use Rattle.ban_book.proofs.RowListLemmas.{flat_push}
use Rattle.ban_book.proofs.ListedLemmas.{lists_both, lists_none, lists_one, lists_skip}
use Rattle.ban_book.proofs.RowLemmas.{length_of_side, row_of_side}
use Rattle.ban_book.proofs.TallyLemmas.{tally_valid}
use Rattle.claim_core.proofs.EqualLemmas.{bool_decides}

adds : (facts : List Decided) (claim : Claim) (says holds : Bool) (number : ℕ) (before after : List ℕ) → IsDecidedAs facts claim says number → beq says holds ≡ true → after ≡ before ++ number ∷ [] → AddsFact facts claim holds before after
adds facts claim says holds number before after is same more = record {
  number = number;
  decided = subst (λ h. IsDecidedAs facts claim h number) ((bool_decides says holds).0 same) is;
  more = more;
}

-- one input more
module _ (facts : List Decided) (side : Side) (output input : ℕ) (holds : Bool) (claims : InputClaims) (before : List ℕ) (is : AreClaimsOf facts side output input claims) where
  one_more : ListsOne facts holds side output input before → ListsOne facts holds side output (input + 1) (before ++ one_of holds claims)
  one_more lists =
      elim (cases_Bool (beq claims.up.holds holds)) [
        | inl e ↦
            subst (λ l. ListsOne facts holds side output (input + 1) (before ++ l)) (sym (cond-true _ _ _ e)) (lists_one facts holds side output input false before (before ++ claims.up.number ∷ []) lists (adds facts _ claims.up.holds holds claims.up.number before _ is.up e refl))
        | inr e ↦
            elim (cases_Bool (beq claims.down.holds holds)) [
              | inl f ↦
                  subst (λ l. ListsOne facts holds side output (input + 1) (before ++ l)) (sym (cond-false _ _ _ e ∙ cond-true _ _ _ f)) (lists_one facts holds side output input true before (before ++ claims.down.number ∷ []) lists (adds facts _ claims.down.holds holds claims.down.number before _ is.down f refl))
              | inr f ↦
                  subst (λ l. ListsOne facts holds side output (input + 1) (before ++ l)) (sym (cond-false _ _ _ e ∙ cond-false _ _ _ f)) (subst (ListsOne facts holds side output (input + 1)) (sym (append-nil before)) (lists_skip AreOfEach facts holds side output input before lists))
            ]
      ]

  both_more : ListsBoth facts holds side output input before → ListsBoth facts holds side output (input + 1) (before ++ both_of holds claims)
  both_more lists =
      elim (cases_Bool (says_both holds claims)) [
        | inl e ↦
            let parts = and_parts (beq claims.up.holds holds) (beq claims.down.holds holds) e in
            subst (λ l. ListsBoth facts holds side output (input + 1) (before ++ l)) (sym (cond-true _ _ _ e)) (lists_both facts holds side output input before (before ++ claims.up.number ∷ []) (before ++ claims.up.number ∷ claims.down.number ∷ []) lists (adds facts _ claims.up.holds holds claims.up.number before _ is.up parts.0 refl) (adds facts _ claims.down.holds holds claims.down.number _ _ is.down parts.1 (sym (append_assoc before (claims.up.number ∷ []) (claims.down.number ∷ [])))))
        | inr e ↦
            subst (λ l. ListsBoth facts holds side output (input + 1) (before ++ l)) (sym (cond-false _ _ _ e)) (subst (ListsBoth facts holds side output (input + 1)) (sym (append-nil before)) (lists_skip AreBothOfEach facts holds side output input before lists))
      ]

-- what each input of a row gives is listed
listed : (shaped : List ℕ → List Shape → Type 0) (facts : List Decided) (holds : Bool) (side : Side) (output : ℕ) (numbers_of : InputClaims → List ℕ) (row : List InputClaims) → shaped [] [] → ((input : ℕ) (claims : InputClaims) (before : List ℕ) → AreClaimsOf facts side output input claims → ListsOf shaped facts holds side output input before → ListsOf shaped facts holds side output (input + 1) (before ++ numbers_of claims)) → IsRow facts side output row → (k : ℕ) → k ≤ length row → ListsOf shaped facts holds side output k (flat_map numbers_of (take k row))
listed shaped facts holds side output numbers_of row start more is zero below =
    lists_none shaped facts holds side output [] refl start
listed shaped facts holds side output numbers_of row start more is (suc k) below =
    let within : k < length row = omega (arith, below) in
    let claims = get_or row k no_claims in
    let before = listed shaped facts holds side output numbers_of row start more is k (omega (arith, below)) in
    let numbers : flat_map numbers_of (take (k + 1) row) ≡ flat_map numbers_of (take k row) ++ numbers_of claims = ap (flat_map numbers_of) (take_more row k no_claims within) ∙ flat_push numbers_of (take k row) claims in
    let next : k + 1 ≡ suc k = omega arith in
    subst (λ n. ListsOf shaped facts holds side output n (flat_map numbers_of (take n row))) next (subst (ListsOf shaped facts holds side output (k + 1)) (sym numbers) (more k claims (flat_map numbers_of (take k row)) (is.each k no_claims within) before))

ones_listed : (facts : List Decided) (holds : Bool) (side : Side) (output : ℕ) (row : List InputClaims) → IsRow facts side output row → ListsOne facts holds side output (length row) (flat_map (one_of holds) row)
ones_listed facts holds side output row is =
    subst (λ l. ListsOne facts holds side output (length row) (flat_map (one_of holds) l)) (take_all (length row) row (omega arith)) (listed AreOfEach facts holds side output (one_of holds) row tt (λ input claims before. one_more facts side output input holds claims before) is (length row) (omega arith))

boths_listed : (facts : List Decided) (holds : Bool) (side : Side) (output : ℕ) (row : List InputClaims) → IsRow facts side output row → ListsBoth facts holds side output (length row) (flat_map (both_of holds) row)
boths_listed facts holds side output row is =
    subst (λ l. ListsBoth facts holds side output (length row) (flat_map (both_of holds) l)) (take_all (length row) row (omega arith)) (listed AreBothOfEach facts holds side output (both_of holds) row refl (λ input claims before. both_more facts side output input holds claims before) is (length row) (omega arith))

-- as many facts as inputs of which a claim says so
one_length : (holds : Bool) (claims : InputClaims) (rest : List ℕ) (row : List InputClaims) → length rest ≡ length (filter (says_one holds) row) → length (one_of holds claims ++ rest) ≡ length (filter (says_one holds) (claims ∷ row))
one_length holds claims rest row same =
    elim (cases_Bool (beq claims.up.holds holds)) [
      | inl e ↦
          let passes : says_one holds claims ≡ true = ap (λ b. b || beq claims.down.holds holds) e in
          omega (arith, same, ap (λ (l : List ℕ). length (l ++ rest)) (cond-true (beq claims.up.holds holds) (claims.up.number ∷ []) (cond (beq claims.down.holds holds) (claims.down.number ∷ []) []) e), ap length (cond-true (says_one holds claims) (claims ∷ filter (says_one holds) row) (filter (says_one holds) row) passes))
      | inr e ↦
          elim (cases_Bool (beq claims.down.holds holds)) [
            | inl f ↦
                let passes : says_one holds claims ≡ true = ap (λ b. b || beq claims.down.holds holds) e ∙ f in
                omega (arith, same, ap (λ (l : List ℕ). length (l ++ rest)) (cond-false (beq claims.up.holds holds) (claims.up.number ∷ []) (cond (beq claims.down.holds holds) (claims.down.number ∷ []) []) e ∙ cond-true (beq claims.down.holds holds) (claims.down.number ∷ []) [] f), ap length (cond-true (says_one holds claims) (claims ∷ filter (says_one holds) row) (filter (says_one holds) row) passes))
            | inr f ↦
                let fails : says_one holds claims ≡ false = ap (λ b. b || beq claims.down.holds holds) e ∙ f in
                omega (arith, same, ap (λ (l : List ℕ). length (l ++ rest)) (cond-false (beq claims.up.holds holds) (claims.up.number ∷ []) (cond (beq claims.down.holds holds) (claims.down.number ∷ []) []) e ∙ cond-false (beq claims.down.holds holds) (claims.down.number ∷ []) [] f), ap length (cond-false (says_one holds claims) (claims ∷ filter (says_one holds) row) (filter (says_one holds) row) fails))
          ]
    ]

ones_filtered : (holds : Bool) (row : List InputClaims) → length (flat_map (one_of holds) row) ≡ length (filter (says_one holds) row)
ones_filtered holds [] = refl
ones_filtered holds (claims ∷ row) = one_length holds claims (flat_map (one_of holds) row) row (ones_filtered holds row)

ones_length : (holds : Bool) (row : List InputClaims) → length (flat_map (one_of holds) row) ≡ count_by (says_one holds) row
ones_length holds row = ones_filtered holds row ∙ length-filter (says_one holds) row

-- twice as many as inputs of which both do
both_length : (holds : Bool) (claims : InputClaims) (rest : List ℕ) (row : List InputClaims) → length rest ≡ 2 * length (filter (says_both holds) row) → length (both_of holds claims ++ rest) ≡ 2 * length (filter (says_both holds) (claims ∷ row))
both_length holds claims rest row same =
    elim (cases_Bool (says_both holds claims)) [
      | inl e ↦
          omega (arith, same, ap (λ (l : List ℕ). length (l ++ rest)) (cond-true (says_both holds claims) (claims.up.number ∷ claims.down.number ∷ []) [] e), ap length (cond-true (says_both holds claims) (claims ∷ filter (says_both holds) row) (filter (says_both holds) row) e))
      | inr e ↦
          omega (arith, same, ap (λ (l : List ℕ). length (l ++ rest)) (cond-false (says_both holds claims) (claims.up.number ∷ claims.down.number ∷ []) [] e), ap length (cond-false (says_both holds claims) (claims ∷ filter (says_both holds) row) (filter (says_both holds) row) e))
    ]

boths_filtered : (holds : Bool) (row : List InputClaims) → length (flat_map (both_of holds) row) ≡ 2 * length (filter (says_both holds) row)
boths_filtered holds [] = refl
boths_filtered holds (claims ∷ row) = both_length holds claims (flat_map (both_of holds) row) row (boths_filtered holds row)

boths_length : (holds : Bool) (row : List InputClaims) → length (flat_map (both_of holds) row) ≡ 2 * count_by (says_both holds) row
boths_length holds row = boths_filtered holds row ∙ ap (λ n. 2 * n) (length-filter (says_both holds) row)

-- of both claims of an input one says so, or both say the opposite
opposite : (holds a b : Bool) → (beq a (not holds) && beq b (not holds)) ≡ not (beq a holds || beq b holds)
opposite true true true = refl
opposite true true false = refl
opposite true false true = refl
opposite true false false = refl
opposite false true true = refl
opposite false true false = refl
opposite false false true = refl
opposite false false false = refl

pub both_or_one : (holds : Bool) (row : List InputClaims) → count_by (says_one holds) row + count_by (says_both (not holds)) row ≡ length row
both_or_one holds row =
    omega (arith, length-filter_both (says_one holds) (says_both (not holds)) (λ claims. opposite holds claims.up.holds claims.down.holds) row, length-filter (says_one holds) row, length-filter (says_both (not holds)) row)

-- A tally's ban is valid in view of facts that the rows have.
module _ (graphs : Graphs) (facts : List Decided) (pair : Pair) (one other : List InputClaims) (are : AreRows facts pair one other) where
  lists_are : (side : Side) (holds : Bool) → AreLists facts pair side holds (lists_by holds (row_on side one other) (row_on (other_side side) one other))
  lists_are side holds = record {
    bound = length (row_on side one other);
    bound_both = length (row_on (other_side side) one other);
    one = ones_listed facts holds side (port_on side pair) (row_on side one other) (row_of_side facts pair side one other are);
    both = boths_listed facts (not holds) (other_side side) (port_on (other_side side) pair) (row_on (other_side side) one other) (row_of_side facts pair (other_side side) one other are);
  }

  uneven_valid : (bans : List Ban) (side : Side) (holds : Bool) → pair.kind ≡ Output → IsKnown graphs pair → length one ≡ graphs.first.inputs → length other ≡ graphs.first.inputs → count_by (says_one holds) (row_on (other_side side) one other) < count_by (says_one holds) (row_on side one other) → IsValidBan graphs (given_of facts bans) (tally_of pair holds (lists_by holds (row_on side one other) (row_on (other_side side) one other)))
  uneven_valid bans side holds kind known first second more =
      let these = row_on side one other in
      let those = row_on (other_side side) one other in
      let lists = lists_by holds these those in
      let ones : length lists.one ≡ count_by (says_one holds) these = ones_length holds these in
      let boths : length lists.both ≡ 2 * count_by (says_both (not holds)) those = boths_length (not holds) those in
      let whole = length_of_side side one other graphs.first.inputs first second in
      let whole_other = length_of_side (other_side side) one other graphs.first.inputs first second in
      let most = count_by-le-length (says_one holds) these in
      let split = both_or_one holds those in
      tally_valid graphs facts bans pair side holds lists kind known (lists_are side holds) (omega (arith, ones, more)) (omega (arith, boths, split, most, more, whole, whole_other)) (omega (arith, ones, boths, split, more, whole, whole_other))

no_vector : (holds : Bool) (one both : List ℕ) → IsVector (tally_step holds one both) → ⊥
no_vector true one both is = is
no_vector false one both is = is

pub uneven_shown : (graphs : Graphs) (facts : List Decided) (pairs : List Pair) (pair : Pair) (one other : List InputClaims) (ban : Ban) → All (IsKnown graphs) pairs → HasOneOutput pairs pair → length one ≡ graphs.first.inputs → length other ≡ graphs.first.inputs → IsTallyBan pair one other ban → AreRows facts pair one other → IsShownBan graphs facts pairs ban
uneven_shown graphs facts pairs pair one other ban known has first second is are =
    subst (IsShownBan graphs facts pairs) (sym is.ban_is) (record {
      valid = λ bans. uneven_valid graphs facts pair one other are bans is.side is.holds has.of_output (All-contains (IsKnown graphs) pairs pair known has.has) first second is.more;
      within = record { among = All-cons (Contains pairs) pair [] has.has (All-nil (Contains pairs)) };
      no_vector = no_vector is.holds _ _;
    })
