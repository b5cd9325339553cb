-- For checks that go over a list: the first fault of all elements, or none.
use Rattle.std.proofs.Common.{◌≡◌, ℕ, zero, suc, ◌+◌, ◌<◌, ◌≤◌, Bool, true, false, cond, List, [], ◌∷◌, ◌++◌, length, get_or, take, drop, Option, Some, Result, Ok, Err, refl, ap, sym, subst, ◌∙◌, arith, append_assoc}
use Rattle.std.specs.List.{flat_map}
use Rattle.std.specs.Result.{IsErrAnd}
use Rattle.std.proofs.lemmas.List.{at_drop_more, at_drop_all, take_more, append-nil}
use Rattle.std.proofs.lemmas.Grind.{flat_map-append}
use Rattle.text_core.specs.Piece.{Piece}
use Rattle.hier_blif.specs.declared.fault.HierFault.{HierFault}
use Rattle.hier_blif.specs.declared.fault.HierKind.{HierKind}
use Rattle.hier_blif.specs.declared.fault.HierStop.{HierStop}
use Rattle.hier_blif.specs.declared.fault.HierStop.TheVariants.{Fault}
use Rattle.hier_blif.specs.Stops.{IsStopBy, first_of, Finds}
use Rattle.hier_blif.specs.NameFaults.{found_after, found_in, when, at_words, where_wrong}
use Rattle.hier_blif.proofs.StopLemmas.{stop_as}

-- what the first elements leave of the faults
abbrev pub AreLeft : {X : Type 0} → (X → List HierFault) → List X → ℕ → Type 0
AreLeft f xs k = flat_map f xs ≡ flat_map f (drop k xs)

step : {X : Type 0} (f : X → List HierFault) (xs : List X) (k : ℕ) (x : X) → k < length xs → x ≡ get_or xs k x → flat_map f (drop k xs) ≡ f x ++ flat_map f (drop (k + 1) xs)
step f xs k x below is =
    let next : flat_map f (drop k xs) ≡ f (get_or xs k x) ++ flat_map f (drop (k + 1) xs) = at_drop_more (flat_map f) xs k x below in
    next ∙ ap (λ y. f y ++ flat_map f (drop (k + 1) xs)) (sym is)

-- an element without a fault
pub left_more : {X : Type 0} (f : X → List HierFault) (xs : List X) (k : ℕ) (x : X) → k < length xs → x ≡ get_or xs k x → AreLeft f xs k → f x ≡ [] → AreLeft f xs (k + 1)
left_more f xs k x below is left none =
    left ∙ (step f xs k x below is ∙ ap (λ fs. fs ++ flat_map f (drop (k + 1) xs)) none)

-- none has one
pub left_none : {X : Type 0} (f : X → List HierFault) (xs : List X) (k : ℕ) → length xs ≤ k → AreLeft f xs k → flat_map f xs ≡ []
left_none f xs k past left = left ∙ at_drop_all (flat_map f) xs k past

-- the first fault of an element is the first of all
pub first_front : (one rest : List HierFault) (fault : HierFault) → first_of one ≡ Some fault → first_of (one ++ rest) ≡ Some fault
first_front [] rest fault h = cc h
first_front (f ∷ fs) rest fault h = h

pub left_stop : {X T U : Type 0} (f : X → List HierFault) (xs : List X) (k : ℕ) (x : X) (call : Result T HierStop) (answer : Result U HierStop) (why : HierStop) → k < length xs → x ≡ get_or xs k x → AreLeft f xs k → call ≡ Err why → IsErrAnd answer (λ e. e ≡ why) → Finds (f x) call → Finds (flat_map f xs) answer
left_stop f xs k x call (Ok y) why below is left was from found = absurd from
left_stop f xs k x call (Err e) why below is left was from found =
    let stop : IsStopBy (λ fault. first_of (f x) ≡ Some fault) why = subst (Finds (f x)) was found in
    let whole = left ∙ step f xs k x below is in
    subst (IsStopBy (λ fault. first_of (flat_map f xs) ≡ Some fault)) (sym from) (stop_as (λ fault. first_of (f x) ≡ Some fault) (λ fault. first_of (flat_map f xs) ≡ Some fault) why (λ fault h. ap first_of whole ∙ first_front (f x) (flat_map f (drop (k + 1) xs)) fault h) stop)

-- the elements that a test finds which sees those before them: what is left to find after the first
abbrev pub AreLeftToFind : {X : Type 0} → (List X → X → Bool) → List X → ℕ → Type 0
AreLeftToFind test xs k = found_in test xs ≡ found_after test (take k xs) (drop k xs)

found_step : {X : Type 0} (test : List X → X → Bool) (xs : List X) (k : ℕ) (x : X) → k < length xs → x ≡ get_or xs k x → found_after test (take k xs) (drop k xs) ≡ cond (test (take k xs) x) (x ∷ found_after test (take (k + 1) xs) (drop (k + 1) xs)) (found_after test (take (k + 1) xs) (drop (k + 1) xs))
found_step test xs k x below is =
    let rest = drop (k + 1) xs in
    let before = take k xs in
    let next : found_after test before (drop k xs) ≡ cond (test before (get_or xs k x)) (get_or xs k x ∷ found_after test (before ++ get_or xs k x ∷ []) rest) (found_after test (before ++ get_or xs k x ∷ []) rest) = at_drop_more (found_after test before) xs k x below in
    next
    ∙ (ap (λ y. cond (test before y) (y ∷ found_after test (before ++ y ∷ []) rest) (found_after test (before ++ y ∷ []) rest)) (sym is)
    ∙ ap (λ ys. cond (test before x) (x ∷ found_after test ys rest) (found_after test ys rest)) (sym (take_more xs k x below ∙ ap (λ y. before ++ y ∷ []) (sym is))))

pub found_more : {X : Type 0} (test : List X → X → Bool) (xs : List X) (k : ℕ) (x : X) → k < length xs → x ≡ get_or xs k x → AreLeftToFind test xs k → test (take k xs) x ≡ false → AreLeftToFind test xs (k + 1)
found_more test xs k x below is left none =
    let rest = found_after test (take (k + 1) xs) (drop (k + 1) xs) in
    left ∙ (found_step test xs k x below is ∙ ap (λ t. cond t (x ∷ rest) rest) none)

pub found_next : {X : Type 0} (test : List X → X → Bool) (xs : List X) (k : ℕ) (x : X) → k < length xs → x ≡ get_or xs k x → AreLeftToFind test xs k → test (take k xs) x ≡ true → found_in test xs ≡ x ∷ found_after test (take (k + 1) xs) (drop (k + 1) xs)
found_next test xs k x below is left some =
    let rest = found_after test (take (k + 1) xs) (drop (k + 1) xs) in
    left ∙ (found_step test xs k x below is ∙ ap (λ t. cond t (x ∷ rest) rest) some)

pub found_none : {X : Type 0} (test : List X → X → Bool) (xs : List X) (k : ℕ) → length xs ≤ k → AreLeftToFind test xs k → found_in test xs ≡ []
found_none test xs k past left = left ∙ at_drop_all (found_after test (take k xs)) xs k past

abbrev some_fault : HierKind → ℕ → Option HierFault
some_fault kind at = Some (record { kind = kind; at = at })

-- the first of them is at fault
pub found_stop : (kind : HierKind) (test : List Piece → Piece → Bool) (xs : List Piece) (k : ℕ) (x : Piece) (at : ℕ) → k < length xs → x ≡ get_or xs k x → AreLeftToFind test xs k → test (take k xs) x ≡ true → at ≡ x.at → first_of (at_words kind (found_in test xs)) ≡ Some (record { kind = kind; at = at })
found_stop kind test xs k x at below is left some a =
    ap (λ ws. first_of (at_words kind ws)) (found_next test xs k x below is left some) ∙ ap (some_fault kind) (sym a)

-- none is found where none of the elements passes
pub none_found : {X : Type 0} (test : List X → X → Bool) (earlier xs : List X) → ((k : ℕ) (d : X) → k < length xs → test (earlier ++ take k xs) (get_or xs k d) ≡ false) → found_after test earlier xs ≡ []
none_found test earlier [] none = refl
none_found test earlier (x ∷ xs) none =
    let here : test earlier x ≡ false = subst (λ ys. test ys x ≡ false) (append-nil earlier) (none 0 x (omega arith)) in
    let rest = found_after test (earlier ++ x ∷ []) xs in
    ap (λ t. cond t (x ∷ rest) rest) here
    ∙ none_found test (earlier ++ x ∷ []) xs (λ k d below. subst (λ ys. test ys (get_or xs k d) ≡ false) (sym (append_assoc earlier (x ∷ []) (take k xs))) (none (suc k) d (omega (arith, below))))

-- and the first that passes is found first
pub first_found : {X : Type 0} (test : List X → X → Bool) (earlier xs : List X) (place : ℕ) (d : X) → place < length xs → ((k : ℕ) → k < place → test (earlier ++ take k xs) (get_or xs k d) ≡ false) → test (earlier ++ take place xs) (get_or xs place d) ≡ true → (rest : List X) × (found_after test earlier xs ≡ get_or xs place d ∷ rest)
first_found test earlier [] place d below none here = absurd (omega (arith, below))
first_found test earlier (x ∷ xs) zero d below none here =
    let rest = found_after test (earlier ++ x ∷ []) xs in
    (rest, ap (λ t. cond t (x ∷ rest) rest) (subst (λ ys. test ys x ≡ true) (append-nil earlier) here))
first_found test earlier (x ∷ xs) (suc place) d below none here =
    let rest = found_after test (earlier ++ x ∷ []) xs in
    let first : test earlier x ≡ false = subst (λ ys. test ys x ≡ false) (append-nil earlier) (none 0 (omega arith)) in
    let on = first_found test (earlier ++ x ∷ []) xs place d (omega (arith, below)) (λ k less. subst (λ ys. test ys (get_or xs k d) ≡ false) (sym (append_assoc earlier (x ∷ []) (take k xs))) (none (suc k) (omega (arith, less)))) (subst (λ ys. test ys (get_or xs place d) ≡ true) (sym (append_assoc earlier (x ∷ []) (take place xs))) here) in
    (on.0, ap (λ t. cond t (x ∷ rest) rest) first ∙ on.1)

-- words of which a test says that they are wrong
abbrev pub wrong_word : HierKind → (Piece → Bool) → Piece → List HierFault
wrong_word kind test word = when (test word) kind word.at

pub word_more : (kind : HierKind) (test : Piece → Bool) (words : List Piece) (k : ℕ) (word : Piece) → k < length words → word ≡ get_or words k word → AreLeft (wrong_word kind test) words k → test word ≡ false → AreLeft (wrong_word kind test) words (k + 1)
word_more kind test words k word below is left none =
    left_more (wrong_word kind test) words k word below is left (ap (λ t. when t kind word.at) none)

pub word_stop : (kind : HierKind) (test : Piece → Bool) (words : List Piece) (k : ℕ) (word : Piece) (at : ℕ) → k < length words → word ≡ get_or words k word → AreLeft (wrong_word kind test) words k → test word ≡ true → at ≡ word.at → first_of (where_wrong kind test words) ≡ Some (record { kind = kind; at = at })
word_stop kind test words k word at below is left some a =
    let f = wrong_word kind test in
    let rest = flat_map f (drop (k + 1) words) in
    ap first_of (left ∙ (step f words k word below is ∙ ap (λ t. when t kind word.at ++ rest) some)) ∙ ap (some_fault kind) (sym a)

-- checks in a row: the first that stops decides
pub then_stop : {T U : Type 0} (one rest : List HierFault) (call : Result T HierStop) (answer : Result U HierStop) (why : HierStop) → call ≡ Err why → IsErrAnd answer (λ e. e ≡ why) → Finds one call → Finds (one ++ rest) answer
then_stop one rest (Ok y) answer why was from found = absurd (cc was)
then_stop one rest (Err e) (Ok y) why was from found = absurd from
then_stop {T} one rest (Err e) (Err f) why was from found =
    let stop : IsStopBy (λ fault. first_of one ≡ Some fault) why = subst (λ (r : Result T HierStop). Finds one r) was found in
    subst (IsStopBy (λ fault. first_of (one ++ rest) ≡ Some fault)) (sym from) (stop_as (λ fault. first_of one ≡ Some fault) (λ fault. first_of (one ++ rest) ≡ Some fault) why (λ fault h. first_front one rest fault h) stop)

pub skipped : {T : Type 0} (one rest : List HierFault) (answer : Result T HierStop) → one ≡ [] → Finds rest answer → Finds (one ++ rest) answer
skipped one rest answer none found = subst (λ fs. Finds fs answer) (sym (ap (λ fs. fs ++ rest) none)) found

pub both_none : (one rest : List HierFault) → one ≡ [] → rest ≡ [] → one ++ rest ≡ []
both_none one rest h k = ap (λ fs. fs ++ rest) h ∙ k

-- what all parts have is what their elements have
pub flat_map_twice : {X Y Z : Type 0} (g : Y → List Z) (f : X → List Y) (xs : List X) → flat_map (λ x. flat_map g (f x)) xs ≡ flat_map g (flat_map f xs)
flat_map_twice g f [] = refl
flat_map_twice g f (x ∷ xs) =
    ap (λ zs. flat_map g (f x) ++ zs) (flat_map_twice g f xs) ∙ sym (flat_map-append g (f x) (flat_map f xs))

-- what a check found, passed on
pub passed_on : {T U : Type 0} (faults : List HierFault) (call : Result T HierStop) (answer : Result U HierStop) (why : HierStop) → call ≡ Err why → IsErrAnd answer (λ e. e ≡ why) → Finds faults call → Finds faults answer
passed_on faults (Ok y) answer why was from found = absurd (cc was)
passed_on faults (Err e) (Ok y) why was from found = absurd from
passed_on {T} faults (Err e) (Err f) why was from found =
    let stop : IsStopBy (λ fault. first_of faults ≡ Some fault) why = subst (λ (r : Result T HierStop). Finds faults r) was found in
    subst (IsStopBy (λ fault. first_of faults ≡ Some fault)) (sym from) stop

-- a fault that is answered where a check finds it
abbrev pub IsFirstOf : List HierFault → HierFault → Type 0
IsFirstOf faults fault = first_of faults ≡ Some fault

pub told_at : (faults : List HierFault) (kind : HierKind) (at : ℕ) (stop : HierStop) → stop ≡ Fault (record { kind = kind; at = at }) → first_of faults ≡ Some (record { kind = kind; at = at }) → IsStopBy (IsFirstOf faults) stop
told_at faults kind at stop is first = subst (IsStopBy (IsFirstOf faults)) (sym is) first
