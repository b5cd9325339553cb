-- Pairs are in order where each stands before the next, and no two of a kind go to one port.
use Rattle.std.proofs.Common.{◌≡◌, ◌≢◌, ◌↔◌, ℕ, suc, ◌+◌, ◌-◌, ◌<◌, ◌&&◌, eqb, Bool, true, false, cond, List, [], ◌∷◌, ◌++◌, length, drop, get_or, All, AllPairs, slice_index_or, inl, inr, refl, sym, ap, subst, ◌∙◌, append_assoc, arith}
use Rattle.std.specs.Bool.{IsTrue}
use Rattle.std.specs.List.Sorted.{IsPermutation, IsSorted}
use Rattle.std.specs.Ordering.{nat_cmp}
use Rattle.std.proofs.lemmas.Bool.{cases_lt}
use Rattle.std.proofs.lemmas.Bool.Decides.{Decides-eqb}
use Rattle.std.proofs.lemmas.Cmp.{nat_eq_equiv}
use Rattle.std.proofs.lemmas.List.Elements.{All-cons, All-head, All-tail}
use Rattle.std.proofs.lemmas.List.Kept.{AllPairs-cons}
use Rattle.std.proofs.lemmas.List.Sorted.{IsPermutation-sym}
use Rattle.std.proofs.lemmas.Map.Keys.{IsDistinct-IsPermutation}
use Rattle.std.proofs.lemmas.Map.Made.{AllPairs-from_IsDistinct, IsDistinct-from_AllPairs}
use Rattle.circuits.specs.declared.port.Pair.{Pair}
use Rattle.circuits.specs.declared.port.PortKind.{PortKind}
use Rattle.circuits.specs.declared.port.PortKind.TheVariants.{Input, Output}
use Rattle.net_core.proofs.ConeLemmas.{ascending_cone}
use Rattle.claim_core.specs.Images.{same_kind}
use Rattle.account_core.specs.Assigned.{ArePortsInTurn, StandsBefore}
use Rattle.account_core.specs.Ports.{AreOrdered}
use Rattle.account_core.specs.Tallies.{Ascend}
use Rattle.ban_check.specs.Seconds.{seconds_of}
use Rattle.ban_check.proofs.BoolLemmas.{both_tests, front, same_test}

-- standing before goes on
turn_trans : (x y z : PortKind) (a b c : ℕ) → ArePortsInTurn x y a b → ArePortsInTurn y z b c → ArePortsInTurn x z a c
turn_trans Input Input Input a b c one other = omega (arith, one, other)
turn_trans Input Input Output a b c one other = tt
turn_trans Input Output Input a b c one other = absurd other
turn_trans Input Output Output a b c one other = tt
turn_trans Output Input z a b c one other = absurd one
turn_trans Output Output Input a b c one other = absurd other
turn_trans Output Output Output a b c one other = omega (arith, one, other)

module _ (pairs : List Pair) where
  abbrev at : ℕ → Pair → Pair
  at k d = slice_index_or pairs k d

  -- each of the first k stands before those after it
  abbrev pub AreInTurn : ℕ → Type 0
  AreInTurn k = (i j : ℕ) (d : Pair) → i < j → j < k → StandsBefore (slice_index_or pairs i d) (slice_index_or pairs j d)

  pub turn_more : (k : ℕ) (one other : Pair) → 0 < k → k < length pairs → ((d : Pair) → slice_index_or pairs (k - 1) d ≡ one) → ((d : Pair) → slice_index_or pairs k d ≡ other) → StandsBefore one other → AreInTurn k → AreInTurn (k + 1)
  turn_more k one other some within one_is other_is test so_far i j d less below =
      let adjacent : StandsBefore (at (k - 1) d) (at k d) = subst (λ p. StandsBefore p (at k d)) (sym (one_is d)) (subst (StandsBefore one) (sym (other_is d)) test) in
      elim (cases_lt j k) [
        | inl before ↦ so_far i j d less before
        | inr not_before ↦
            let last : k ≡ j = omega (arith, below, not_before) in
            let to_last : StandsBefore (at i d) (at k d) =
            elim (cases_lt i (k - 1)) [
              | inl early ↦ turn_trans (at i d).kind (at (k - 1) d).kind (at k d).kind (at i d).from (at (k - 1) d).from (at k d).from (so_far i (k - 1) d early (omega (arith, some))) adjacent
              | inr late ↦ subst (λ n. StandsBefore (at n d) (at k d)) (omega (arith, late, less, last, some)) adjacent
            ]
            in
            subst (λ n. StandsBefore (at i d) (at n d)) last to_last
      ]

  pub turn_stop : (k : ℕ) (one other : Pair) → 0 < k → k < length pairs → ((d : Pair) → slice_index_or pairs (k - 1) d ≡ one) → ((d : Pair) → slice_index_or pairs k d ≡ other) → AllPairs StandsBefore pairs → StandsBefore one other
  turn_stop k one other some within one_is other_is all =
      subst (λ p. StandsBefore p other) (one_is one) (subst (StandsBefore (at (k - 1) one)) (other_is one) (all (k - 1) k one (omega (arith, some)) within))

-- numbers that are sorted ascend exactly where no two are the same
pub sorted_apart : (xs ys : List ℕ) → IsPermutation xs ys → IsSorted nat_cmp ys → (ascends : Bool) → (IsTrue ascends ↔ Ascend ys) → IsTrue ascends ↔ AllPairs (λ one other. one ≢ other) xs
sorted_apart xs ys moved sorted ascends told =
    same_test ascends (Ascend ys) (AllPairs (λ one other. one ≢ other) xs) apart ascend told
  where
    apart : Ascend ys → AllPairs (λ one other. one ≢ other) xs
    apart ascend =
        let differ : AllPairs (λ one other. one ≢ other) ys = λ i j d less within e. omega (arith, ascend i j d less within, e) in
        AllPairs-from_IsDistinct Decides-eqb xs (IsDistinct-IsPermutation eqb (λ x y. nat_eq_equiv.symm x y) ys xs (IsPermutation-sym xs ys moved) (IsDistinct-from_AllPairs Decides-eqb ys differ))

    ascend : AllPairs (λ one other. one ≢ other) xs → Ascend ys
    ascend apart = ascending_cone xs ys (IsDistinct-from_AllPairs Decides-eqb xs apart) moved sorted

-- two pairs of a kind don't go to one port
abbrev pub IsApartIn : PortKind → Pair → Pair → Type 0
IsApartIn kind one other = one.kind ≡ kind → other.kind ≡ kind → one.to ≢ other.to

kinds_same : (x y : PortKind) → same_kind x y ≡ true → x ≡ y
kinds_same Input Input e = refl
kinds_same Input Output e = cc
kinds_same Output Input e = cc
kinds_same Output Output e = refl

kinds_differ : (x y : PortKind) → same_kind x y ≡ false → x ≢ y
kinds_differ Input Input e = cc
kinds_differ Input Output e = λ same. cc
kinds_differ Output Input e = λ same. cc
kinds_differ Output Output e = cc

module _ (kind : PortKind) where
  seconds_with : (pair : Pair) (pairs : List Pair) (b : Bool) → same_kind pair.kind kind ≡ b → seconds_of kind (pair ∷ pairs) ≡ cond b (pair.to ∷ seconds_of kind pairs) (seconds_of kind pairs)
  seconds_with pair pairs b is = ap (λ c. cond c (pair.to ∷ seconds_of kind pairs) (seconds_of kind pairs)) is

  seconds_split : (pair : Pair) (pairs : List Pair) → seconds_of kind (pair ∷ pairs) ≡ seconds_of kind (pair ∷ []) ++ seconds_of kind pairs
  seconds_split pair pairs = by_test (same_kind pair.kind kind) refl
    where
      by_test : (b : Bool) → same_kind pair.kind kind ≡ b → seconds_of kind (pair ∷ pairs) ≡ seconds_of kind (pair ∷ []) ++ seconds_of kind pairs
      by_test true same = seconds_with pair pairs true same ∙ sym (ap (λ (xs : List ℕ). xs ++ seconds_of kind pairs) (seconds_with pair [] true same))
      by_test false differ = seconds_with pair pairs false differ ∙ sym (ap (λ (xs : List ℕ). xs ++ seconds_of kind pairs) (seconds_with pair [] false differ))

  -- one pair more is read
  pub seconds_next : (pairs : List Pair) (k : ℕ) (e : Pair) (found new : List ℕ) → k < length pairs → new ≡ found ++ seconds_of kind (get_or pairs k e ∷ []) → found ++ seconds_of kind (drop k pairs) ≡ seconds_of kind pairs → new ++ seconds_of kind (drop (k + 1) pairs) ≡ seconds_of kind pairs
  seconds_next pairs k e found new within is so_far =
      let pair = get_or pairs k e in
      let rest = seconds_of kind (drop (k + 1) pairs) in
      let here : seconds_of kind (drop k pairs) ≡ seconds_of kind (pair ∷ []) ++ rest = ap (seconds_of kind) (front pairs k e within) ∙ seconds_split pair (drop (k + 1) pairs) in
      ap (λ (xs : List ℕ). xs ++ rest) is ∙ (append_assoc found (seconds_of kind (pair ∷ [])) rest ∙ (ap (λ (xs : List ℕ). found ++ xs) (sym here) ∙ so_far))

  -- what holds of each of the ports
  pub each_to : (P : ℕ → Type 0) (pairs : List Pair) → All P (seconds_of kind pairs) → All (λ pair. pair.kind ≡ kind → P pair.to) pairs
  each_to P [] all = λ k d below. absurd (omega (arith, below))
  each_to P (pair ∷ pairs) all = by_test (same_kind pair.kind kind) refl (each_to P pairs)
    where
      by_test : (b : Bool) → same_kind pair.kind kind ≡ b → (All P (seconds_of kind pairs) → All (λ pair. pair.kind ≡ kind → P pair.to) pairs) → All (λ pair. pair.kind ≡ kind → P pair.to) (pair ∷ pairs)
      by_test true same rest =
          let split : All P (pair.to ∷ seconds_of kind pairs) = subst (All P) (seconds_with pair pairs true same) all in
          All-cons (λ (pair : Pair). pair.kind ≡ kind → P pair.to) pair pairs (λ is. All-head P pair.to (seconds_of kind pairs) split) (rest (All-tail P pair.to (seconds_of kind pairs) split))
      by_test false differ rest =
          let others : All P (seconds_of kind pairs) = subst (All P) (seconds_with pair pairs false differ) all in
          All-cons (λ (pair : Pair). pair.kind ≡ kind → P pair.to) pair pairs (λ is. absurd (kinds_differ pair.kind kind differ is)) (rest others)

  pub each_from : (P : ℕ → Type 0) (pairs : List Pair) → All (λ pair. pair.kind ≡ kind → P pair.to) pairs → All P (seconds_of kind pairs)
  each_from P [] all = λ k d below. absurd (omega (arith, below))
  each_from P (pair ∷ pairs) all = by_test (same_kind pair.kind kind) refl (each_from P pairs (All-tail (λ (pair : Pair). pair.kind ≡ kind → P pair.to) pair pairs all))
    where
      by_test : (b : Bool) → same_kind pair.kind kind ≡ b → All P (seconds_of kind pairs) → All P (seconds_of kind (pair ∷ pairs))
      by_test true same rest =
          subst (All P) (sym (seconds_with pair pairs true same)) (All-cons P pair.to (seconds_of kind pairs) (All-head (λ (pair : Pair). pair.kind ≡ kind → P pair.to) pair pairs all (kinds_same pair.kind kind same)) rest)
      by_test false differ rest = subst (All P) (sym (seconds_with pair pairs false differ)) rest

  -- no two of the ports are the same
  pub apart_to : (pairs : List Pair) → AllPairs (λ one other. one ≢ other) (seconds_of kind pairs) → AllPairs (IsApartIn kind) pairs
  apart_to [] all = λ i j d less within. absurd (omega (arith, within))
  apart_to (pair ∷ pairs) all = by_test (same_kind pair.kind kind) refl (apart_to pairs)
    where
      by_test : (b : Bool) → same_kind pair.kind kind ≡ b → (AllPairs (λ one other. one ≢ other) (seconds_of kind pairs) → AllPairs (IsApartIn kind) pairs) → AllPairs (IsApartIn kind) (pair ∷ pairs)
      by_test true same rest =
          let split : AllPairs (λ one other. one ≢ other) (pair.to ∷ seconds_of kind pairs) = subst (AllPairs (λ one other. one ≢ other)) (seconds_with pair pairs true same) all in
          let first : All (λ to. pair.to ≢ to) (seconds_of kind pairs) = λ k d below. split 0 (suc k) d (omega arith) (omega (arith, below)) in
          let others : AllPairs (λ one other. one ≢ other) (seconds_of kind pairs) = λ i j d less within. split (suc i) (suc j) d (omega (arith, less)) (omega (arith, within)) in
          AllPairs-cons (IsApartIn kind) pair pairs (λ k d below is other_is. each_to (λ to. pair.to ≢ to) pairs first k d below other_is) (rest others)
      by_test false differ rest =
          let others : AllPairs (λ one other. one ≢ other) (seconds_of kind pairs) = subst (AllPairs (λ one other. one ≢ other)) (seconds_with pair pairs false differ) all in
          AllPairs-cons (IsApartIn kind) pair pairs (λ k d below is other_is. absurd (kinds_differ pair.kind kind differ is)) (rest others)

  pub apart_from : (pairs : List Pair) → AllPairs (IsApartIn kind) pairs → AllPairs (λ one other. one ≢ other) (seconds_of kind pairs)
  apart_from [] all = λ i j d less within. absurd (omega (arith, within))
  apart_from (pair ∷ pairs) all = by_test (same_kind pair.kind kind) refl (apart_from pairs (λ i j d less within. all (suc i) (suc j) d (omega (arith, less)) (omega (arith, within))))
    where
      by_test : (b : Bool) → same_kind pair.kind kind ≡ b → AllPairs (λ one other. one ≢ other) (seconds_of kind pairs) → AllPairs (λ one other. one ≢ other) (seconds_of kind (pair ∷ pairs))
      by_test true same rest =
          let is = kinds_same pair.kind kind same in
          let first : All (λ to. pair.to ≢ to) (seconds_of kind pairs) = each_from (λ to. pair.to ≢ to) pairs (λ k d below other_is. all 0 (suc k) d (omega arith) (omega (arith, below)) is other_is) in
          subst (AllPairs (λ one other. one ≢ other)) (sym (seconds_with pair pairs true same)) (AllPairs-cons (λ one other. one ≢ other) pair.to (seconds_of kind pairs) first rest)
      by_test false differ rest = subst (AllPairs (λ one other. one ≢ other)) (sym (seconds_with pair pairs false differ)) rest

-- standing in order is standing before, and going apart
in_turn : (x y : PortKind) (a b : ℕ) → (x ≡ Output → y ≡ Output) → (x ≡ y → a < b) → ArePortsInTurn x y a b
in_turn Input Input a b outputs less = less refl
in_turn Input Output a b outputs less = tt
in_turn Output Input a b outputs less = let e : Input ≡ Output = outputs refl in cc
in_turn Output Output a b outputs less = less refl

in_order : (x y : PortKind) (a b : ℕ) → ArePortsInTurn x y a b → (x ≡ Output → y ≡ Output) × (x ≡ y → a < b)
in_order Input Input a b turn = ((λ e. cc), (λ e. turn))
in_order Input Output a b turn = ((λ e. refl), (λ e. cc))
in_order Output Input a b turn = absurd turn
in_order Output Output a b turn = ((λ e. refl), (λ e. turn))

pub parts_of_order : (pairs : List Pair) (turn inputs outputs : Bool) → (IsTrue turn ↔ AllPairs StandsBefore pairs) → (IsTrue inputs ↔ AllPairs (λ one other. one ≢ other) (seconds_of Input pairs)) → (IsTrue outputs ↔ AllPairs (λ one other. one ≢ other) (seconds_of Output pairs)) → IsTrue ((turn && inputs) && outputs) ↔ AreOrdered pairs
parts_of_order pairs turn inputs outputs one two three =
    same_test ((turn && inputs) && outputs) ((AllPairs StandsBefore pairs × AllPairs (λ one other. one ≢ other) (seconds_of Input pairs)) × AllPairs (λ one other. one ≢ other) (seconds_of Output pairs)) (AreOrdered pairs) to from (both_tests (turn && inputs) outputs (AllPairs StandsBefore pairs × AllPairs (λ one other. one ≢ other) (seconds_of Input pairs)) (AllPairs (λ one other. one ≢ other) (seconds_of Output pairs)) (both_tests turn inputs (AllPairs StandsBefore pairs) (AllPairs (λ one other. one ≢ other) (seconds_of Input pairs)) one two) three)
  where
    apart_in : (kind : PortKind) → AllPairs (λ one other. one ≢ other) (seconds_of Input pairs) → AllPairs (λ one other. one ≢ other) (seconds_of Output pairs) → AllPairs (IsApartIn kind) pairs
    apart_in Input inputs outputs = apart_to Input pairs inputs
    apart_in Output inputs outputs = apart_to Output pairs outputs

    to : (AllPairs StandsBefore pairs × AllPairs (λ one other. one ≢ other) (seconds_of Input pairs)) × AllPairs (λ one other. one ≢ other) (seconds_of Output pairs) → AreOrdered pairs
    to all i j d less within =
        let before = slice_index_or pairs i d in
        let after = slice_index_or pairs j d in
        let told = in_order before.kind after.kind before.from after.from (all.0.0 i j d less within) in
        record {
          inputs_first = told.0;
          ascending = told.1;
          apart = λ same. apart_in after.kind all.0.1 all.1 i j d less within same refl;
        }

    from : AreOrdered pairs → (AllPairs StandsBefore pairs × AllPairs (λ one other. one ≢ other) (seconds_of Input pairs)) × AllPairs (λ one other. one ≢ other) (seconds_of Output pairs)
    from ordered = (
      (
        (λ i j d less within. let order = ordered i j d less within in in_turn _ _ _ _ order.inputs_first order.ascending),
        apart_from Input pairs (λ i j d less within is other_is. (ordered i j d less within).apart (is ∙ sym other_is)),
      ),
      apart_from Output pairs (λ i j d less within is other_is. (ordered i j d less within).apart (is ∙ sym other_is)),
    )
