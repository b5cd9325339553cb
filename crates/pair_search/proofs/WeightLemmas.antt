-- That a search has less and less left.
use Rattle.std.proofs.Common.{◌≡◌, ◌≢◌, ℕ, zero, suc, ◌+◌, ◌-◌, ◌*◌, ◌<◌, ◌≤◌, eqb, Bool, true, false, cond, List, [], ◌∷◌, ◌++◌, length, map, take, drop, get_or, All, AllPairs, refl, sym, ap, subst, ◌∙◌, inl, inr, arith, eqb-true}
use Rattle.std.specs.List.{list_any}
use Rattle.std.proofs.lemmas.Bool.{or_cases}
use Rattle.std.proofs.lemmas.Bool.Decides.{Decides-eqb}
use Rattle.std.proofs.lemmas.List.{append-nil, append_assoc, drop_more, get_or-map, length-map, length-take-le, take-append-drop}
use Rattle.std.proofs.lemmas.Map.Made.{IsDistinct-from_AllPairs}
use Rattle.std.proofs.lemmas.Map.Steps.{length-le_from_distinct_below}
use Rattle.std.proofs.lemmas.Nat.{row_fits}
use Rattle.circuits.specs.declared.port.PortKind.TheVariants.{Input}
use Rattle.pair_domains.specs.declared.entry.Entry.{Entry}
use Rattle.pair_domains.specs.declared.entry.Fate.TheVariants.{Assigned}
use Rattle.pair_domains.specs.declared.entry.Cause.TheVariants.{Choice}
use Rattle.pair_domains.specs.Numbers.{pair_number, pairs_of_ports}
use Rattle.pair_domains.specs.Trails.{IsPairOf}
use Rattle.pair_domains.proofs.NumberLemmas.{pair_number_below, pair_number_same}
use Rattle.pair_search.specs.Progress.{is_choice, left_of, open_at_ends, weight, whole}

whole_some : (radix depth : ℕ) → 0 < radix → 0 < whole radix depth
whole_some radix zero some = omega arith
whole_some radix (suc depth) some =
    omega (arith, row_fits 0 (whole radix depth) radix (whole radix depth) some (omega arith), whole_some radix depth some)

weight_none : (radix depth : ℕ) → weight radix depth [] ≡ whole radix depth
weight_none radix zero = refl
weight_none radix (suc depth) = refl

weight_some : (radix depth : ℕ) (digits : List ℕ) → 0 < radix → length digits ≤ depth → 0 < weight radix depth digits
weight_some radix depth [] some within = omega (arith, weight_none radix depth, whole_some radix depth some)
weight_some radix zero (digit ∷ digits) some within = absurd (omega (arith, within))
weight_some radix (suc depth) (digit ∷ digits) some within = omega (arith, weight_some radix depth digits some (omega (arith, within)))

-- one more digit
weight_more : (radix depth : ℕ) (digits : List ℕ) (digit : ℕ) → length digits < depth → digit + 1 < radix → weight radix depth (digits ++ digit ∷ []) < weight radix depth digits
weight_more radix zero digits digit within below = absurd (omega (arith, within))
weight_more radix (suc depth) [] digit within below =
    let p = whole radix depth in
    let one : digit * p + p ≤ (digit + 1) * p = row_fits digit p (digit + 1) p (omega arith) (omega arith) in
    let other : (digit + 1) * p + p ≤ radix * p = row_fits (digit + 1) p radix p below (omega arith) in
    omega (arith, one, other, weight_none radix depth, whole_some radix depth (omega (arith, below)))
weight_more radix (suc depth) (x ∷ digits) digit within below = omega (arith, weight_more radix depth digits digit (omega (arith, within)) below)

-- a lesser digit, and none after it
weight_less : (radix depth : ℕ) (front : List ℕ) (digit more : ℕ) (rest : List ℕ) → 0 < radix → length (front ++ (more ∷ rest)) ≤ depth → digit < more → weight radix depth (front ++ (digit ∷ [])) < weight radix depth (front ++ (more ∷ rest))
weight_less radix zero [] digit more rest some within less = absurd (omega (arith, within))
weight_less radix (suc depth) [] digit more rest some within less =
    let p = whole radix depth in
    let one : digit * p + p ≤ more * p = row_fits digit p more p less (omega arith) in
    omega (arith, one, weight_none radix depth, weight_some radix depth rest some (omega (arith, within)))
weight_less radix zero (x ∷ front) digit more rest some within less = absurd (omega (arith, within))
weight_less radix (suc depth) (x ∷ front) digit more rest some within less =
    omega (arith, weight_less radix depth front digit more rest some (omega (arith, within)) less)

-- the digits of the levels that end before the last entry
abbrev ends : ℕ → List Entry → List ℕ
ends count [] = []
ends count (e ∷ es) = cond (is_choice e.fate) (count ∷ ends (count - 1) es) (ends (count - 1) es)

ends_by : (count : ℕ) (x : Entry) (xs ys : List Entry) → open_at_ends (count - 1) (xs ++ ys) ≡ ends (count - 1) xs ++ open_at_ends (count - 1 - length xs) ys → (b : Bool) → cond b (count ∷ open_at_ends (count - 1) (xs ++ ys)) (open_at_ends (count - 1) (xs ++ ys)) ≡ cond b (count ∷ ends (count - 1) xs) (ends (count - 1) xs) ++ open_at_ends (count - suc (length xs)) ys
ends_by count x xs ys rest b =
    let e : count - 1 - length xs ≡ count - suc (length xs) = omega arith in
    let all = rest ∙ ap (λ n. ends (count - 1) xs ++ open_at_ends n ys) e in
    by b all
  where
    by : (b : Bool) → open_at_ends (count - 1) (xs ++ ys) ≡ ends (count - 1) xs ++ open_at_ends (count - suc (length xs)) ys → cond b (count ∷ open_at_ends (count - 1) (xs ++ ys)) (open_at_ends (count - 1) (xs ++ ys)) ≡ cond b (count ∷ ends (count - 1) xs) (ends (count - 1) xs) ++ open_at_ends (count - suc (length xs)) ys
    by true all = ap (λ (l : List ℕ). count ∷ l) all
    by false all = all

ends_append : (count : ℕ) (xs ys : List Entry) → open_at_ends count (xs ++ ys) ≡ ends count xs ++ open_at_ends (count - length xs) ys
ends_append count [] ys = let e : count ≡ count - 0 = omega arith in ap (λ n. open_at_ends n ys) e
ends_append count (x ∷ xs) ys = ends_by count x xs ys (ends_append (count - 1) xs ys) (is_choice x.fate)

few_by : (count : ℕ) (es : List Entry) (b : Bool) → length (open_at_ends (count - 1) es) ≤ length es + 1 → length (cond b (count ∷ open_at_ends (count - 1) es) (open_at_ends (count - 1) es)) ≤ suc (length es) + 1
few_by count es true rest = omega (arith, rest)
few_by count es false rest = omega (arith, rest)

ends_few : (count : ℕ) (es : List Entry) → length (open_at_ends count es) ≤ length es + 1
ends_few count [] = omega arith
ends_few count (e ∷ es) = few_by count es (is_choice e.fate) (ends_few (count - 1) es)

-- the digits of entries without and with one more
last_end : (count : ℕ) (es : List Entry) → open_at_ends count es ≡ ends count es ++ ((count - length es) ∷ [])
last_end count es = ap (open_at_ends count) (sym (append-nil es)) ∙ ends_append count es []

one_of : (count : ℕ) (e : Entry) (b : Bool) → is_choice e.fate ≡ b → open_at_ends count (e ∷ []) ≡ cond b (count ∷ (count - 1) ∷ []) ((count - 1) ∷ [])
one_of count e b is = ap (λ x. cond x (count ∷ (count - 1) ∷ []) ((count - 1) ∷ [])) is

-- an entry that begins no level
pub less_push : (count : ℕ) (es : List Entry) (e : Entry) → length es < count → is_choice e.fate ≡ false → left_of count (es ++ e ∷ []) < left_of count es
less_push count es e room is =
    let after : open_at_ends count (es ++ e ∷ []) ≡ ends count es ++ ((count - length es - 1) ∷ []) = ends_append count es (e ∷ []) ∙ ap (λ l. ends count es ++ l) (one_of (count - length es) e false is) in
    let few : length (ends count es ++ ((count - length es) ∷ [])) ≤ count + 1 = omega (arith, ap length (last_end count es), ends_few count es, room) in
    subst (λ l. weight (count + 2) (count + 1) l < left_of count es) (sym after) (subst (λ l. weight (count + 2) (count + 1) (ends count es ++ ((count - length es - 1) ∷ [])) < weight (count + 2) (count + 1) l) (sym (last_end count es)) (weight_less (count + 2) (count + 1) (ends count es) (count - length es - 1) (count - length es) [] (omega arith) few (omega (arith, room))))

-- an entry that begins one
pub less_choice : (count : ℕ) (es : List Entry) (e : Entry) → length es < count → is_choice e.fate ≡ true → left_of count (es ++ e ∷ []) < left_of count es
less_choice count es e room is =
    let after : open_at_ends count (es ++ e ∷ []) ≡ open_at_ends count es ++ (count - length es - 1) ∷ [] = ends_append count es (e ∷ []) ∙ (ap (λ l. ends count es ++ l) (one_of (count - length es) e true is) ∙ (sym (append_assoc (ends count es) ((count - length es) ∷ []) ((count - length es - 1) ∷ [])) ∙ ap (λ l. l ++ (count - length es - 1) ∷ []) (sym (last_end count es)))) in
    subst (λ l. weight (count + 2) (count + 1) l < left_of count es) (sym after) (weight_more (count + 2) (count + 1) (open_at_ends count es) (count - length es - 1) (omega (arith, ends_few count es, room)) (omega arith))

-- the entries before a choice, and one that begins no level
pub less_back : (count place : ℕ) (es : List Entry) (d e : Entry) → place < length es → length es ≤ count → is_choice (get_or es place d).fate ≡ true → is_choice e.fate ≡ false → left_of count (take place es ++ e ∷ []) < left_of count es
less_back count place es d e below few chosen is =
    subst (λ l. weight (count + 2) (count + 1) l < left_of count es) (sym after) (subst (λ l. weight (count + 2) (count + 1) (front ++ ((count - place - 1) ∷ [])) < weight (count + 2) (count + 1) l) (sym before) (weight_less (count + 2) (count + 1) front (count - place - 1) (count - place) rest (omega arith) (omega (arith, ap length before, ends_few count es, few)) (omega (arith, below, few))))
  where
    front : List ℕ
    front = ends count (take place es)

    rest : List ℕ
    rest = open_at_ends (count - place - 1) (drop (place + 1) es)

    size : length (take place es) ≡ place
    size = length-take-le place es (omega (arith, below))

    after : open_at_ends count (take place es ++ e ∷ []) ≡ front ++ ((count - place - 1) ∷ [])
    after = ends_append count (take place es) (e ∷ []) ∙ (ap (λ l. front ++ l) (one_of (count - length (take place es)) e false is) ∙ ap (λ n. front ++ ((count - n - 1) ∷ [])) size)

    split : es ≡ take place es ++ (get_or es place d ∷ drop (place + 1) es)
    split = sym (take-append-drop place es) ∙ ap (λ l. take place es ++ l) (drop_more es place d below)

    before : open_at_ends count es ≡ front ++ ((count - place) ∷ rest)
    before = ap (open_at_ends count) split ∙ (ends_append count (take place es) (get_or es place d ∷ drop (place + 1) es) ∙ (ap (λ n. front ++ open_at_ends (count - n) (get_or es place d ∷ drop (place + 1) es)) size ∙ ap (λ b. front ++ cond b ((count - place) ∷ rest) rest) chosen))

any_at : (q : ℕ) (xs : List ℕ) → list_any (eqb q) xs ≡ true → (i : ℕ) × (i < length xs) × (get_or xs i 0 ≡ q)
any_at q [] h = cc
any_at q (x ∷ xs) h =
    elim (or_cases (eqb q x) (list_any (eqb q) xs) h) [
      | inl e ↦ (0, omega arith, sym (eqb-true q x e))
      | inr e ↦ let later = any_at q xs e in (suc later.0, omega (arith, later.1), later.2)
    ]

abbrev no_entry : Entry
no_entry = record { pair = record { kind = Input; from = 0; to = 0; flip = false }; fate = Assigned Choice }

abbrev entry_number : ℕ → ℕ → Entry → ℕ
entry_number n m e = pair_number n m e.pair

-- there are no more entries than pairs
pub few_entries : (n m : ℕ) (es : List Entry) → All (λ entry. IsPairOf n m entry.pair) es → AllPairs (λ one other. one.pair ≢ other.pair) es → length es ≤ pairs_of_ports n m
few_entries n m es known apart =
    omega (arith, length-le_from_distinct_below (map (entry_number n m) es) (pairs_of_ports n m) (IsDistinct-from_AllPairs Decides-eqb (map (entry_number n m) es) distinct) below, length-map es (entry_number n m))
  where
    at : (k : ℕ) (d : ℕ) → k < length es → (e : Entry) → get_or (map (entry_number n m) es) k d ≡ entry_number n m (get_or es k e)
    at k d inside e = get_or-map (entry_number n m) es k e d inside

    distinct : AllPairs (λ (one other : ℕ). one ≢ other) (map (entry_number n m) es)
    distinct i j d less within same =
        let second : j < length es = omega (arith, within, length-map es (entry_number n m)) in
        let first : i < length es = omega (arith, less, second) in
        apart i j no_entry less second (pair_number_same n m (get_or es i no_entry).pair (get_or es j no_entry).pair (known i no_entry first) (known j no_entry second) (sym (at i d first no_entry) ∙ (same ∙ at j d second no_entry)))

    below : (q : ℕ) → list_any (eqb q) (map (entry_number n m) es) ≡ true → q < pairs_of_ports n m
    below q any =
        let found = any_at q (map (entry_number n m) es) any in
        let here : found.0 < length es = omega (arith, found.1, length-map es (entry_number n m)) in
        let e : entry_number n m (get_or es found.0 no_entry) ≡ q = sym (at found.0 0 here no_entry) ∙ found.2 in
        omega (arith, e, pair_number_below n m (get_or es found.0 no_entry).pair (known found.0 no_entry here))
