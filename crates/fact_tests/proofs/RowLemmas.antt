-- Rows that grow entry by entry.
use Rattle.std.proofs.Common.{◌≡◌, ◌⊎◌, ℕ, ◌+◌, ◌-◌, ◌<◌, ◌≤◌, Bool, List, [], ◌∷◌, ◌++◌, length, take, drop, Option, None, Some, Any, get_or, refl, sym, subst, ap, ◌∙◌, inl, inr, arith}
use Rattle.std.proofs.lemmas.Bool.{cases_lt}
use Rattle.std.proofs.lemmas.List.{append-nil, get_or_append_left, get_or_default, get_or_past, get_or-drop, length-drop, length_push, take_all}
use Rattle.std.proofs.lemmas.List.Elements.{All-drop, All-push}
use Rattle.std.proofs.lemmas.List.Quantifiers.{Any-push, all_pairs_push}
use Rattle.circuits.proofs.EachLemmas.{each_push}
use Rattle.circuits.specs.Circuits.{Circuit}
use Rattle.circuits.specs.Functions.{Computes}
use Rattle.circuits.specs.Literals.{EachAt, bit}
use Rattle.circuits.specs.Netlists.{Net}
use Rattle.claim_core.specs.Claims.{output_bit}
use Rattle.claim_core.specs.declared.info.OutputInfo.{OutputInfo}
use Rattle.claim_core.specs.declared.info.Unate.{Unate}
use Rattle.claim_core.specs.declared.info.Unate.TheVariants.{Positive}
use Rattle.claim_core.specs.declared.info.Sym.{Sym}
use Rattle.claim_core.specs.Facts.{InSupport, IsSymmetric, IsSkew}
use Rattle.claim_core.specs.Rows.{IsEntry, ListsSupport, IsPair, IsBefore, ListsPairs, IsRow, AreRows, AreRowsOf}
use Rattle.fact_tests.specs.Outputs.{IsDependence, IsSymmetry, entry_of, pair_of}
pub use Rattle.fact_tests.specs.Outputs.{input_at}

-- what is among the first entries is among more
any_more : {X : Type 0} (P : X → Type 0) (xs : List X) (x : X) → Any P xs → Any P (xs ++ x ∷ [])
any_more P xs x (k, found, h, at, is) = (k, found, omega (arith, h, length_push xs x), get_or_append_left xs (x ∷ []) found k h ∙ at, is)

-- the next input is decided
pub support_more : (n : ℕ) (f : List Bool → Bool) (start end : ℕ) (entries : List (ℕ × Unate)) (unate : Option Unate)
    → ListsSupport n f start end entries
    → start ≤ end
    → end < n
    → IsDependence n f end unate
    → ListsSupport n f start (end + 1) (entries ++ entry_of end unate)
support_more n f start end entries None lists low there outside =
    subst (ListsSupport n f start (end + 1)) (sym (append-nil entries)) (record {
      right = lists.right;
      within = λ k d h. let is = lists.within k d h in (is.0, omega (arith, is.1));
      ascending = lists.ascending;
      whole = λ i from below inside.
          elim (cases_lt i end) [
            | inl less ↦ lists.whole i from less inside
            | inr past ↦ let same : i ≡ end = omega (arith, below) in absurd (outside (subst (InSupport n f) same inside))
          ];
    })
support_more n f start end entries (Some unate) lists low there depends =
    let entry : ℕ × Unate = (end, unate) in
    record {
      right = All-push (IsEntry n f) entries entry lists.right (record { there = there; inside = depends.0; unate = depends.1 });
      within = All-push (λ (entry : ℕ × Unate). (start ≤ entry.0) × (entry.0 < end + 1)) entries entry
          (λ k d h. let is = lists.within k d h in (is.0, omega (arith, is.1))) (low, omega arith);
      ascending = all_pairs_push (λ (one other : ℕ × Unate). one.0 < other.0) entries entry lists.ascending (λ k d h. (lists.within k d h).1);
      whole = λ i from below inside.
          elim (cases_lt i end) [
            | inl less ↦ any_more (λ (entry : ℕ × Unate). entry.0 ≡ i) entries entry (lists.whole i from less inside)
            | inr past ↦ Any-push (λ (entry : ℕ × Unate). entry.0 ≡ i) entries entry (omega (arith, below))
          ];
    }

pub input_at-le : (n : ℕ) (f : List Bool → Bool) (start : ℕ) (entries : List (ℕ × Unate)) (t : ℕ) → ListsSupport n f start n entries → input_at n entries t ≤ n
input_at-le n f start entries t lists =
    elim (cases_lt t (length entries)) [
      | inl less ↦ omega (arith, (lists.within t (n, Positive) less).1)
      | inr past ↦ omega (arith, ap (λ (entry : ℕ × Unate). entry.0) (get_or_past entries t (n, Positive) past))
    ]

-- an entry, whatever the default
same_entry : (entries : List (ℕ × Unate)) (k : ℕ) (d e : ℕ × Unate) → k < length entries → (get_or entries k d).0 ≡ (get_or entries k e).0
same_entry entries k d e h = ap (λ (entry : ℕ × Unate). entry.0) (get_or_default entries k d e h)

ascending_at : (n : ℕ) (f : List Bool → Bool) (start : ℕ) (entries : List (ℕ × Unate)) (i j : ℕ) → ListsSupport n f start n entries → i ≤ j → j < length entries → input_at n entries i ≤ input_at n entries j
ascending_at n f start entries i j lists le h =
    elim (cases_lt i j) [
      | inl less ↦ omega (arith, lists.ascending i j (n, Positive) less h)
      | inr past ↦ let same : i ≡ j = omega (arith, le) in omega (arith, ap (input_at n entries) same)
    ]

-- no input of the support lies before the one at a place and after those in front of it
pub support_gap : (n : ℕ) (f : List Bool → Bool) (start : ℕ) (entries : List (ℕ × Unate)) (t b : ℕ)
    → ListsSupport n f start n entries
    → start ≤ b
    → ((k : ℕ) → k < t → k < length entries → input_at n entries k < b)
    → b < input_at n entries t
    → InSupport n f b
    → ⊥
support_gap n f start entries t b lists from later before inside =
    let found = lists.whole b from (omega (arith, before, input_at-le n f start entries t lists)) inside in
    at found.0 found.1 found.2 found.3 found.4
  where
    at : (k : ℕ) (entry : ℕ × Unate) → k < length entries → get_or entries k entry ≡ entry → entry.0 ≡ b → ⊥
    at k entry h is same =
        let here : input_at n entries k ≡ b = same_entry entries k (n, Positive) entry h ∙ (ap (λ (entry : ℕ × Unate). entry.0) is ∙ same) in
        elim (cases_lt k t) [
          | inl less ↦ omega (arith, later k less h, here)
          | inr past ↦ omega (arith, ascending_at n f start entries t k lists past h, here, before)
        ]

-- none before the first one
pub support_first : (n : ℕ) (f : List Bool → Bool) (start : ℕ) (entries : List (ℕ × Unate)) (b : ℕ) → ListsSupport n f start n entries → start ≤ b → b < input_at n entries 0 → InSupport n f b → ⊥
support_first n f start entries b lists from before inside =
    support_gap n f start entries 0 b lists from (λ k less h. absurd (omega (arith, less))) before inside

-- none between one and the next
pub support_next : (n : ℕ) (f : List Bool → Bool) (start : ℕ) (entries : List (ℕ × Unate)) (t b : ℕ) → ListsSupport n f start n entries → t < length entries → input_at n entries t < b → b < input_at n entries (t + 1) → InSupport n f b → ⊥
support_next n f start entries t b lists there later before inside =
    support_gap n f start entries (t + 1) b lists (omega (arith, (lists.within t (n, Positive) there).0, later))
    (λ k less h. omega (arith, ascending_at n f start entries k t lists (omega (arith, less)) there, later)) before inside

-- pairs

pairs_none : (n : ℕ) (f : List Bool → Bool) → ListsPairs n f 0 0 []
pairs_none n f = record {
  right = λ k d h. absurd (omega (arith, h));
  below = λ k d h. absurd (omega (arith, h));
  ascending = λ i j d less h. absurd (omega (arith, h));
  whole = λ a b before. elim before [ inl less ↦ absurd (omega (arith, less)) | inr same ↦ absurd (omega (arith, same.1)) ];
}

before_more : (a b i j k : ℕ) → j ≤ k → IsBefore a b i j → IsBefore a b i k
before_more a b i j k le before = elim before [ inl less ↦ inl less | inr same ↦ inr (same.0, omega (arith, same.1, le)) ]

before_later : (a b i j k m : ℕ) → i < k → IsBefore a b i j → IsBefore a b k m
before_later a b i j k m lt before = elim before [ inl less ↦ inl (omega (arith, less, lt)) | inr same ↦ inl (omega (arith, same.0, lt)) ]

-- the same pairs up to other inputs, where what stands before these and is to be listed stands before the old ones
pairs_within : (n : ℕ) (f : List Bool → Bool) (i j k m : ℕ) (pairs : List (ℕ × ℕ × Sym))
    → ListsPairs n f i j pairs
    → ((a b : ℕ) → IsBefore a b i j → IsBefore a b k m)
    → ((a b : ℕ) → IsBefore a b k m → b < n → a < b → InSupport n f a → InSupport n f b → IsSymmetric n f a b ⊎ IsSkew n f a b → IsBefore a b i j)
    → ListsPairs n f k m pairs
pairs_within n f i j k m pairs lists later back = record {
  right = lists.right;
  below = λ t d h. later (get_or pairs t d).0 (get_or pairs t d).1 (lists.below t d h);
  ascending = lists.ascending;
  whole = λ a b before order there first second alike. lists.whole a b (back a b before there order first second alike) order there first second alike;
}

-- no input of the support that may be exchanged with the first one lies between
pub pairs_skip : (n : ℕ) (f : List Bool → Bool) (i j k : ℕ) (pairs : List (ℕ × ℕ × Sym))
    → ListsPairs n f i j pairs
    → j ≤ k
    → ((b : ℕ) → i < b → j ≤ b → b < k → InSupport n f b → IsSymmetric n f i b ⊎ IsSkew n f i b → ⊥)
    → ListsPairs n f i k pairs
pairs_skip n f i j k pairs lists le none =
    pairs_within n f i j i k pairs lists (λ a b. before_more a b i j k le) (λ a b before there order first second alike.
    elim before [
      | inl less ↦ inl less
      | inr same ↦ elim (cases_lt b j) [
        | inl less ↦ inr (same.0, less)
        | inr past ↦ absurd (none b (omega (arith, same.0, order)) past same.1 second (subst (λ a. IsSymmetric n f a b ⊎ IsSkew n f a b) same.0 alike))
      ]
    ])

-- all pairs of an input
pub pairs_next : (n : ℕ) (f : List Bool → Bool) (i : ℕ) (pairs : List (ℕ × ℕ × Sym)) → ListsPairs n f i n pairs → ListsPairs n f (i + 1) 0 pairs
pairs_next n f i pairs lists =
    pairs_within n f i n (i + 1) 0 pairs lists (λ a b. before_later a b i n (i + 1) 0 (omega arith)) (λ a b before there order first second alike.
    elim before [
      | inl less ↦ elim (cases_lt a i) [ inl lower ↦ inl lower | inr past ↦ inr (omega (arith, less, past), there) ]
      | inr same ↦ absurd (omega (arith, same.1))
    ])

-- no input of the support lies between
pub pairs_jump : (n : ℕ) (f : List Bool → Bool) (i k : ℕ) (pairs : List (ℕ × ℕ × Sym))
    → ListsPairs n f i 0 pairs
    → i ≤ k
    → ((a : ℕ) → i ≤ a → a < k → InSupport n f a → ⊥)
    → ListsPairs n f k 0 pairs
pairs_jump n f i k pairs lists le none =
    pairs_within n f i 0 k 0 pairs lists
    (λ a b before. elim before [ inl less ↦ inl (omega (arith, less, le)) | inr same ↦ absurd (omega (arith, same.1)) ])
    (λ a b before there order first second alike.
    elim before [
      | inl less ↦ elim (cases_lt a i) [ inl lower ↦ inl lower | inr past ↦ absurd (none a past less first) ]
      | inr same ↦ absurd (omega (arith, same.1))
    ])

-- how two inputs may be exchanged says that they may
apart : (n : ℕ) (f : List Bool → Bool) (i j : ℕ) → (IsSymmetric n f i j → ⊥) × (IsSkew n f i j → ⊥) → IsSymmetric n f i j ⊎ IsSkew n f i j → ⊥
apart n f i j never alike = elim alike [ inl is ↦ never.0 is | inr is ↦ never.1 is ]

-- the next pair is decided
pub pairs_more : (n : ℕ) (f : List Bool → Bool) (i j : ℕ) (pairs : List (ℕ × ℕ × Sym)) (way : Option Sym)
    → ListsPairs n f i j pairs
    → i < j
    → j < n
    → InSupport n f i
    → InSupport n f j
    → IsSymmetry n f i j way
    → ListsPairs n f i (j + 1) (pairs ++ pair_of i j way)
pairs_more n f i j pairs None lists order there first second never =
    subst (ListsPairs n f i (j + 1)) (sym (append-nil pairs)) (pairs_skip n f i j (j + 1) pairs lists (omega arith) (λ b after low high inside alike.
    let is : b ≡ j = omega (arith, low, high) in
    apart n f i j never (subst (λ b. IsSymmetric n f i b ⊎ IsSkew n f i b) is alike)))
pairs_more n f i j pairs (Some way) lists order there first second is =
    let pair : ℕ × ℕ × Sym = (i, j, way) in
    record {
      right = All-push (IsPair n f) pairs pair lists.right (record { order = order; there = there; first = first; second = second; sym = is });
      below = All-push (λ (pair : ℕ × ℕ × Sym). IsBefore pair.0 pair.1 i (j + 1)) pairs pair
          (λ t d h. before_more (get_or pairs t d).0 (get_or pairs t d).1 i j (j + 1) (omega arith) (lists.below t d h)) (inr (refl, omega arith));
      ascending = all_pairs_push (λ (one other : ℕ × ℕ × Sym). IsBefore one.0 one.1 other.0 other.1) pairs pair lists.ascending lists.below;
      whole = λ a b before order' there' first' second' alike.
          let Q : ℕ × ℕ × Sym → Type 0 = λ pair. (pair.0 ≡ a) × (pair.1 ≡ b) in
          elim before [
            | inl less ↦ any_more Q pairs pair (lists.whole a b (inl less) order' there' first' second' alike)
            | inr same ↦ elim (cases_lt b j) [
              | inl less ↦ any_more Q pairs pair (lists.whole a b (inr (same.0, less)) order' there' first' second' alike)
              | inr past ↦ Any-push Q pairs pair (omega (arith, same.0), omega (arith, past, same.1))
            ]
          ];
    }

-- the rows of a netlist in order are those of the circuit that it computes
pub rows_of : (net : Net) (circuit : Circuit) (rows : List OutputInfo) → Computes net circuit → AreRows net rows → AreRowsOf circuit rows
rows_of net circuit rows computes are = record {
  outputs = are.outputs ∙ computes.outputs;
  each = λ k d h. record {
    function = output_bit net k;
    computed = λ x v len fits. ap (λ bits. bit bits k) (computes.function x v len fits);
    is = subst (λ n. IsRow n (output_bit net k) (get_or rows k d)) computes.inputs (are.each k d h);
  };
}

-- the steps of the loops

-- the input at a place, read at another default
pub read_at : (n : ℕ) (entries : List (ℕ × Unate)) (t : ℕ) → t < length entries → (get_or entries t (0, Positive)).0 ≡ input_at n entries t
read_at n entries t h = same_entry entries t (0, Positive) (n, Positive) h

-- the next input is above
pub support_above : (n : ℕ) (f : List Bool → Bool) (start : ℕ) (entries : List (ℕ × Unate)) (t : ℕ) → ListsSupport n f start n entries → t < length entries → input_at n entries t + 1 ≤ input_at n entries (t + 1)
support_above n f start entries t lists there =
    elim (cases_lt (t + 1) (length entries)) [
      | inl less ↦ omega (arith, lists.ascending t (t + 1) (n, Positive) (omega arith) less)
      | inr past ↦ omega (arith, (lists.within t (n, Positive) there).1, ap (λ (entry : ℕ × Unate). entry.0) (get_or_past entries (t + 1) (n, Positive) past))
    ]

-- one pair more is decided, and no input of the support lies before the next
pub pair_step : (n : ℕ) (f : List Bool → Bool) (support : List (ℕ × Unate)) (first t second : ℕ) (pairs new : List (ℕ × ℕ × Sym)) (way : Option Sym)
    → ListsSupport n f 0 n support
    → t < length support
    → second ≡ (get_or support t (0, Positive)).0
    → first < second
    → InSupport n f first
    → ListsPairs n f first (input_at n support t) pairs
    → IsSymmetry n f first second way
    → new ≡ pairs ++ pair_of first second way
    → ListsPairs n f first (input_at n support (t + 1)) new
pair_step n f support first t second pairs new way lists there read order inside so_far decided is =
    let here : second ≡ input_at n support t = read ∙ read_at n support t there in
    let entry : IsEntry n f (get_or support t (n, Positive)) = lists.right t (n, Positive) there in
    let also : InSupport n f second = subst (InSupport n f) (sym here) entry.inside in
    let more = pairs_more n f first second pairs way (subst (λ j. ListsPairs n f first j pairs) (sym here) so_far) order (omega (arith, entry.there, here)) inside also decided in
    pairs_skip n f first (second + 1) (input_at n support (t + 1)) new (subst (ListsPairs n f first (second + 1)) (sym is) more)
    (omega (arith, here, support_above n f 0 support t lists there))
    (λ b after low before inside alike. support_next n f 0 support t b lists there (omega (arith, low, here)) before inside)

-- no input of the support lies between an input and the next
pub pairs_begin : (n : ℕ) (f : List Bool → Bool) (support : List (ℕ × Unate)) (t : ℕ) (pairs : List (ℕ × ℕ × Sym)) → ListsSupport n f 0 n support → t < length support
    → ListsPairs n f (input_at n support t) 0 pairs
    → ListsPairs n f (input_at n support t) (input_at n support (t + 1)) pairs
pairs_begin n f support t pairs lists there so_far =
    pairs_skip n f (input_at n support t) 0 (input_at n support (t + 1)) pairs so_far (omega arith) (λ b after low before inside alike. support_next n f 0 support t b lists there after before inside)

-- all pairs of an input were decided, and no input of the support lies before the next
pub pairs_end : (n : ℕ) (f : List Bool → Bool) (support : List (ℕ × Unate)) (t last : ℕ) (pairs : List (ℕ × ℕ × Sym)) → ListsSupport n f 0 n support → t < length support → length support ≤ last
    → ListsPairs n f (input_at n support t) (input_at n support last) pairs
    → ListsPairs n f (input_at n support (t + 1)) 0 pairs
pairs_end n f support t last pairs lists there past so_far =
    let whole : ListsPairs n f (input_at n support t) n pairs = subst (λ j. ListsPairs n f (input_at n support t) j pairs) (ap (λ (entry : ℕ × Unate). entry.0) (get_or_past support last (n, Positive) past)) so_far in
    pairs_jump n f (input_at n support t + 1) (input_at n support (t + 1)) pairs (pairs_next n f (input_at n support t) pairs whole)
    (support_above n f 0 support t lists there)
    (λ a low before. support_next n f 0 support t a lists there (omega (arith, low)) before)

-- no pairs before those of the first input
pub first_step : (n : ℕ) (f : List Bool → Bool) (support : List (ℕ × Unate)) (pairs : List (ℕ × ℕ × Sym)) → ListsSupport n f 0 n support → pairs ≡ [] → ListsPairs n f (input_at n support 0) 0 pairs
first_step n f support pairs lists none =
    subst (ListsPairs n f (input_at n support 0) 0) (sym none) (pairs_jump n f 0 (input_at n support 0) [] (pairs_none n f) (omega arith) (λ a low before. support_first n f 0 support a lists low before))

-- one input more is decided
pub support_step : (n : ℕ) (f : List Bool → Bool) (i : ℕ) (entries new : List (ℕ × Unate)) (unate : Option Unate) → ListsSupport n f 0 i entries → i < n → IsDependence n f i unate → new ≡ entries ++ entry_of i unate → ListsSupport n f 0 (i + 1) new
support_step n f i entries new unate lists there decided is =
    subst (ListsSupport n f 0 (i + 1)) (sym is) (support_more n f 0 i entries unate lists (omega arith) there decided)

-- one row more
pub rows_step : (P : ℕ → OutputInfo → Type 0) (rows new : List OutputInfo) (row : OutputInfo) (k : ℕ) → length rows ≡ k → EachAt P rows → P k row → new ≡ rows ++ row ∷ [] → (length new ≡ k + 1) × EachAt P new
rows_step P rows new row k count each here is =
    subst (λ (new : List OutputInfo). (length new ≡ k + 1) × EachAt P new) (sym is) (omega (arith, length_push rows row, count), each_push P rows row each (subst (λ n. P n row) (sym count) here))
