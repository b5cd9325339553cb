-- For numberings: the signals that are worked out from the top down are one.
use Rattle.std.proofs.Common.{◌≡◌, ℕ, zero, suc, ◌+◌, ◌-◌, ◌<◌, Bool, true, false, not, cond, List, [], ◌∷◌, ◌++◌, length, map, get_or, take, Contains, Some, refl, ap, sym, subst, ◌∙◌, inl, inr, arith, length-append}
use Rattle.std.specs.Prelude.{filter, slice_get}
use Rattle.std.specs.List.{flat_map}
use Rattle.std.specs.Str.{bytes_eq}
use Rattle.std.proofs.lemmas.Bool.{cases_lt}
use Rattle.std.proofs.lemmas.List.{length-map, get_or-map, get_or_append_left, get_or-append-add}
use Rattle.std.proofs.lemmas.List.Elements.{All-contains, Contains-get_or, Contains-append_left, Contains-append_right}
use Rattle.text_core.specs.Piece.{Piece}
use Rattle.circuits.specs.Literals.{EachAt}
use Rattle.circuits.proofs.EachLemmas.{each_push}
use Rattle.hier_blif.specs.declared.model.InstanceLine.{InstanceLine}
use Rattle.hier_blif.specs.declared.model.ModelLine.{ModelLine}
use Rattle.hier_blif.specs.declared.model.ModelLine.TheVariants.{Cover, Instance}
use Rattle.hier_blif.specs.declared.model.BlifModel.{BlifModel}
use Rattle.hier_blif.specs.Bindings.{formal_of, actual_of}
use Rattle.hier_blif.specs.Names.{inputs_of, is_among, model_of, binds_input, binds_output, actual, defined_on, defined_in}
use Rattle.hier_blif.specs.Depths.{is_within}
use Rattle.hier_blif.specs.Nested.{IsInstance}
use Rattle.hier_blif.specs.Flattening.{FlatCover, own_cover, cover_inside, covers_at, covers_from, flat_covers, IsNumbering}
use Rattle.hier_blif.specs.Signals.{part_of, formal_bound, actual_bound, driver_on, driver_from, driver, signal_in, through, inner_first, signal_down, input_signal, signal_of_top}
use Rattle.hier_blif.proofs.ElementLemmas.{some_same, among_words, keep, All-unmapped, Contains-map}
use Rattle.hier_blif.proofs.AgreeLemmas.{AreWellNamed, less_deep}
use Rattle.hier_blif.proofs.DistinctLemmas.{AreApart, find_own, own_place, apart_back, apart_front, not_in_front}
use Rattle.hier_blif.proofs.ApartNamedLemmas.{AreNamedApart}

-- how many covers a line makes doesn't depend on where it stands
pub count_at : (f : BlifModel → List FlatCover) (models : List BlifModel) (j k : ℕ) (says : ModelLine) → length (covers_at f models j says) ≡ length (covers_at f models k says)
count_at f models j k (Cover line) = refl
count_at f models j k (Instance line) =
    length-map (f (model_of models line)) (cover_inside j) ∙ sym (length-map (f (model_of models line)) (cover_inside k))
count_at f models j k other = refl

pub count_from : (f : BlifModel → List FlatCover) (models : List BlifModel) (j k : ℕ) (lines : List ModelLine) → length (covers_from f models j lines) ≡ length (covers_from f models k lines)
count_from f models j k [] = refl
count_from f models j k (says ∷ lines) =
    omega (arith, length-append (covers_at f models j says) (covers_from f models (suc j) lines), length-append (covers_at f models k says) (covers_from f models (suc k) lines), count_at f models j k says, count_from f models (suc j) (suc k) lines)

-- one line more
pub count_more : (f : BlifModel → List FlatCover) (models : List BlifModel) (start : ℕ) (lines : List ModelLine) (k : ℕ) (says : ModelLine) → slice_get lines k ≡ Some says → length (covers_from f models start (take (suc k) lines)) ≡ length (covers_from f models start (take k lines)) + length (covers_at f models 0 says)
count_more f models start [] k says get = absurd (cc get)
count_more f models start (line ∷ lines) zero says get =
    let same = count_at f models start 0 line in
    let is : length (covers_at f models 0 line) ≡ length (covers_at f models 0 says) = ap (λ (l : ModelLine). length (covers_at f models 0 l)) (some_same line says get) in
    omega (arith, same, is, length-append (covers_at f models start line) [])
count_more f models start (line ∷ lines) (suc k) says get =
    omega (arith, count_more f models (suc start) lines k says get, length-append (covers_at f models start line) (covers_from f models (suc start) (take (suc k) lines)), length-append (covers_at f models start line) (covers_from f models (suc start) (take k lines)))

-- a name that a line defines is among what all define
held_at : (models : List BlifModel) (lines : List ModelLine) (k : ℕ) (says : ModelLine) (word : Piece) → slice_get lines k ≡ Some says → Contains (defined_on models says) word → Contains (flat_map (defined_on models) lines) word
held_at models [] k says word get held = absurd (cc get)
held_at models (line ∷ lines) zero says word get held =
    Contains-append_left (defined_on models line) (flat_map (defined_on models) lines) word (subst (λ (l : ModelLine). Contains (defined_on models l) word) (sym (some_same line says get)) held)
held_at models (line ∷ lines) (suc k) says word get held =
    Contains-append_right (defined_on models line) (flat_map (defined_on models) lines) word (held_at models lines k says word get held)

-- which cover defines a name, by the line that does
driver_at : (below : BlifModel → List ℕ → ℕ) (f : BlifModel → List FlatCover) (models : List BlifModel) (lines : List ModelLine) (k at : ℕ) (says : ModelLine) (word : Piece) → AreApart (λ (w : Piece). w.bytes) (flat_map (defined_on models) lines) → slice_get lines k ≡ Some says → Contains (defined_on models says) word → driver_from below f models at lines word.bytes ≡ at + length (covers_from f models 0 (take k lines)) + driver_on below models says word.bytes
driver_at below f models [] k at says word apart get held = absurd (cc get)
driver_at below f models (line ∷ lines) zero at says word apart get held =
    let same = some_same line says get in
    let among : is_among word.bytes (defined_on models line) ≡ true = among_words (defined_on models line) word word.bytes (subst (λ (l : ModelLine). Contains (defined_on models l) word) (sym same) held) refl in
    let first = ap (λ t. cond t (at + driver_on below models line word.bytes) (driver_from below f models (at + length (covers_at f models 0 line)) lines word.bytes)) among in
    let is : driver_on below models line word.bytes ≡ driver_on below models says word.bytes = ap (λ (l : ModelLine). driver_on below models l word.bytes) same in
    let empty : length (covers_from f models 0 (take 0 (line ∷ lines))) ≡ 0 = refl in
    let none : at + driver_on below models says word.bytes ≡ at + length (covers_from f models 0 (take 0 (line ∷ lines))) + driver_on below models says word.bytes = omega (arith, empty) in
    first ∙ (ap (λ n. at + n) is ∙ none)
driver_at below f models (line ∷ lines) (suc k) at says word apart get held =
    let later = held_at models lines k says word get held in
    let other = not_in_front (λ (w : Piece). w.bytes) (defined_on models line) (flat_map (defined_on models) lines) word word.bytes apart later refl in
    let next = at + length (covers_at f models 0 line) in
    let first = ap (λ t. cond t (at + driver_on below models line word.bytes) (driver_from below f models next lines word.bytes)) other in
    let rest = driver_at below f models lines k next says word (apart_back (λ (w : Piece). w.bytes) (defined_on models line) (flat_map (defined_on models) lines) apart) get held in
    first ∙ (rest ∙ omega (arith, length-append (covers_at f models 0 line) (covers_from f models 1 (take k lines)), count_from f models 1 0 (take k lines)))

-- names of actuals differ, where what they define does
apart_actuals : (words : List Piece) → AreApart (λ (w : Piece). w.bytes) (map actual words) → AreApart (λ (w : Piece). actual_of w.bytes) words
apart_actuals [] a = tt
apart_actuals (word ∷ words) a = (All-unmapped (λ (w : Piece). bytes_eq w.bytes (actual_of word.bytes) ≡ false) actual words a.0, apart_actuals words a.1)

-- what a line of a model defines differs
apart_at : (models : List BlifModel) (lines : List ModelLine) (k : ℕ) (says : ModelLine) → slice_get lines k ≡ Some says → AreApart (λ (w : Piece). w.bytes) (flat_map (defined_on models) lines) → AreApart (λ (w : Piece). w.bytes) (defined_on models says)
apart_at models [] k says get a = absurd (cc get)
apart_at models (line ∷ lines) zero says get a =
    subst (λ (l : ModelLine). AreApart (λ (w : Piece). w.bytes) (defined_on models l)) (some_same line says get) (apart_front (λ (w : Piece). w.bytes) (defined_on models line) (flat_map (defined_on models) lines) a)
apart_at models (line ∷ lines) (suc k) says get a =
    apart_at models lines k says get (apart_back (λ (w : Piece). w.bytes) (defined_on models line) (flat_map (defined_on models) lines) a)

-- What is known of models, for their numbering.
pub record AreNumberable (models : List BlifModel) : Type 0 where
  pub well : AreWellNamed models
  pub apart : AreNamedApart models

-- the signal of a name that is defined, by the line that does
defined_signal : (models : List BlifModel) (l : ℕ) (model : BlifModel) (inputs : List ℕ → ℕ) (first k : ℕ) (says : ModelLine) (word : Piece) → AreNumberable models → Contains models model → slice_get model.lines k ≡ Some says → Contains (defined_on models says) word → signal_in models (suc l) model inputs first word.bytes ≡ inner_first models l model first k + driver_on (driver models l) models says word.bytes
defined_signal models l model inputs first k says word n held get among =
    let inside = held_at models model.lines k says word get among in
    let no_input = All-contains (λ (w : Piece). is_among w.bytes (inputs_of model) ≡ false) (defined_in models model) word (n.apart.no_input model held) inside in
    let by_driver = ap (λ t. cond t (inputs word.bytes) (first + driver models (suc l) model word.bytes)) no_input in
    let is = driver_at (driver models l) (flat_covers models l) models model.lines k 0 says word (n.apart.defined model held) get among in
    by_driver ∙ omega (arith, is)

-- an output that is bound has the signal of its actual
output_shared : (models : List BlifModel) (l : ℕ) (model : BlifModel) (inputs inner : List ℕ → ℕ) (first k : ℕ) (line : InstanceLine) (word : Piece) → AreNumberable models → Contains models model → slice_get model.lines k ≡ Some (Instance line) → Contains line.bindings word → binds_output models line word ≡ true → signal_in models l (model_of models line) inner (inner_first models l model first k) (formal_of word.bytes) ≡ signal_in models (suc l) model inputs first (actual_of word.bytes)
output_shared models l model inputs inner first k line word n held get among output =
    let kept = keep (binds_output models line) line.bindings word output among in
    let outputs = filter (binds_output models line) line.bindings in
    let no_input : is_among (formal_of word.bytes) (inputs_of (model_of models line)) ≡ false = All-contains (λ w. binds_input models line w ≡ not (binds_output models line w)) line.bindings word (n.well.ports model k line held get) among ∙ ap not output in
    let left = ap (λ t. cond t (inner (formal_of word.bytes)) (inner_first models l model first k + driver models l (model_of models line) (formal_of word.bytes))) no_input in
    let right = defined_signal models l model inputs first k (Instance line) (actual word) n held get (Contains-map actual outputs word kept) in
    let bound : formal_bound models line (actual_of word.bytes) ≡ formal_of word.bytes = ap (part_of formal_of) (find_own (λ (w : Piece). actual_of w.bytes) outputs word (apart_actuals outputs (apart_at models model.lines k (Instance line) get (n.apart.defined model held))) kept) in
    left ∙ sym (right ∙ ap (λ f. inner_first models l model first k + driver models l (model_of models line) f) bound)

-- and an input too
input_shared : (models : List BlifModel) (l : ℕ) (model : BlifModel) (inputs : List ℕ → ℕ) (first k : ℕ) (line : InstanceLine) (word : Piece) → AreNumberable models → Contains models model → slice_get model.lines k ≡ Some (Instance line) → Contains line.bindings word → binds_input models line word ≡ true → signal_in models l (model_of models line) (λ port. signal_in models (suc l) model inputs first (actual_bound line port)) (inner_first models l model first k) (formal_of word.bytes) ≡ signal_in models (suc l) model inputs first (actual_of word.bytes)
input_shared models l model inputs first k line word n held get among input =
    let inner : List ℕ → ℕ = λ port. signal_in models (suc l) model inputs first (actual_bound line port) in
    let left = ap (λ t. cond t (inner (formal_of word.bytes)) (inner_first models l model first k + driver models l (model_of models line) (formal_of word.bytes))) input in
    let bound : actual_bound line (formal_of word.bytes) ≡ actual_of word.bytes = ap (part_of actual_of) (find_own (λ (w : Piece). formal_of w.bytes) line.bindings word (n.apart.formals model k line held get) among) in
    left ∙ ap (signal_in models (suc l) model inputs first) bound

port_shared : (t : Bool) (models : List BlifModel) (l : ℕ) (model : BlifModel) (inputs : List ℕ → ℕ) (first k : ℕ) (line : InstanceLine) (word : Piece) → AreNumberable models → Contains models model → slice_get model.lines k ≡ Some (Instance line) → Contains line.bindings word → binds_output models line word ≡ t → signal_in models l (model_of models line) (λ port. signal_in models (suc l) model inputs first (actual_bound line port)) (inner_first models l model first k) (formal_of word.bytes) ≡ signal_in models (suc l) model inputs first (actual_of word.bytes)
port_shared true models l model inputs first k line word n held get among output =
    output_shared models l model inputs (λ port. signal_in models (suc l) model inputs first (actual_bound line port)) first k line word n held get among output
port_shared false models l model inputs first k line word n held get among output =
    let input = All-contains (λ w. binds_input models line w ≡ not (binds_output models line w)) line.bindings word (n.well.ports model k line held get) among ∙ ap not output in
    input_shared models l model inputs first k line word n held get among input

-- down a path
shared_down : (path : List ℕ) (l : ℕ) (models : List BlifModel) (model last : BlifModel) (inputs : List ℕ → ℕ) (first k : ℕ) (line : InstanceLine) (word : Piece) → AreNumberable models → Contains models model → is_within models l model ≡ true → IsInstance models model path last → slice_get last.lines k ≡ Some (Instance line) → Contains line.bindings word → signal_down models l model inputs first (path ++ k ∷ []) (formal_of word.bytes) ≡ signal_down models l model inputs first path (actual_of word.bytes)
shared_down path zero models model last inputs first k line word n held deep is get among = absurd (cc deep)
shared_down [] (suc l) models model last inputs first k line word n held deep is get among =
    let here = subst (λ (m : BlifModel). slice_get m.lines k ≡ Some (Instance line)) is get in
    let inner = λ (other : InstanceLine). signal_down models l (model_of models other) (λ port. signal_in models (suc l) model inputs first (actual_bound other port)) (inner_first models l model first k) [] (formal_of word.bytes) in
    ap (λ o. through o inner) here ∙ port_shared (binds_output models line word) models l model inputs first k line word n held here among refl
shared_down (j ∷ path) (suc l) models model last inputs first k line word n held deep is get among =
    let inner = λ (way : List ℕ) (name : List ℕ) (other : InstanceLine). signal_down models l (model_of models other) (λ port. signal_in models (suc l) model inputs first (actual_bound other port)) (inner_first models l model first j) way name in
    ap (λ o. through o (inner (path ++ k ∷ []) (formal_of word.bytes))) is.1
    ∙ (shared_down path l models (model_of models is.0) last (λ port. signal_in models (suc l) model inputs first (actual_bound is.0 port)) (inner_first models l model first j) k line word n (n.well.there model j is.0 held is.1) (less_deep models l model j is.0 deep is.1) is.2 get among
    ∙ sym (ap (λ o. through o (inner path (actual_of word.bytes))) is.1))

-- what holds of elements with their places, in two lists in a row
each_append : {X : Type 0} (P : ℕ → X → Type 0) (xs ys : List X) → EachAt P xs → EachAt (λ d y. P (length xs + d) y) ys → EachAt P (xs ++ ys)
each_append P xs ys one other k d below =
    elim (cases_lt k (length xs)) [
      | inl less ↦ subst (P k) (sym (get_or_append_left xs ys d k less)) (one k d less)
      | inr past ↦
          let e : length xs + (k - length xs) ≡ k = omega (arith, past) in
          subst (λ n. P n (get_or (xs ++ ys) n d)) e (subst (P (length xs + (k - length xs))) (sym (get_or-append-add xs ys (k - length xs) d)) (other (k - length xs) d (omega (arith, below, past, length-append xs ys))))
    ]

each_none : {X : Type 0} (P : ℕ → X → Type 0) → EachAt P []
each_none P k d below = absurd (omega (arith, below))

each_one : {X : Type 0} (P : ℕ → X → Type 0) (x : X) → P 0 x → EachAt P (x ∷ [])
each_one P x is = each_push P [] x (each_none P) is

each_map : {X Y : Type 0} (P : ℕ → Y → Type 0) (f : X → Y) (xs : List X) → EachAt (λ k x. P k (f x)) xs → EachAt P (map f xs)
each_map {X} P f [] each k d below = absurd (omega (arith, below))
each_map {X} P f (x ∷ xs) each k d below =
    let within : k < length (x ∷ xs) = omega (arith, below, length-map (x ∷ xs) f) in
    subst (P k) (sym (get_or-map f (x ∷ xs) k x d within)) (each k x within)

-- the covers that a line makes have their signals
abbrev AreNumberedFrom : List BlifModel → ℕ → BlifModel → (List ℕ → ℕ) → ℕ → ℕ → List FlatCover → Type 0
AreNumberedFrom models l model inputs first at covers =
    EachAt (λ d cover. signal_down models l model inputs first cover.0 cover.1.defined.bytes ≡ at + d) covers

line_numbered : (models : List BlifModel) (l : ℕ) (model : BlifModel) (inputs : List ℕ → ℕ) (first k : ℕ) (says : ModelLine) → AreNumberable models → Contains models model → slice_get model.lines k ≡ Some says → ((inner : BlifModel) (own : List ℕ → ℕ) (at : ℕ) → Contains models inner → AreNumberedFrom models l inner own at at (flat_covers models l inner)) → AreNumberedFrom models (suc l) model inputs first (inner_first models l model first k) (covers_at (flat_covers models l) models k says)
line_numbered models l model inputs first k (Cover line) n held get inside =
    each_one (λ d cover. signal_down models (suc l) model inputs first cover.0 cover.1.defined.bytes ≡ inner_first models l model first k + d) (own_cover line) (defined_signal models l model inputs first k (Cover line) line.defined n held get (0, omega arith, refl))
line_numbered models l model inputs first k (Instance line) n held get inside =
    let inner : InstanceLine → FlatCover → ℕ = λ other cover. signal_down models l (model_of models other) (λ port. signal_in models (suc l) model inputs first (actual_bound other port)) (inner_first models l model first k) cover.0 cover.1.defined.bytes in
    let below = flat_covers models l (model_of models line) in
    let each = inside (model_of models line) (λ port. signal_in models (suc l) model inputs first (actual_bound line port)) (inner_first models l model first k) (n.well.there model k line held get) in
    each_map (λ d cover. signal_down models (suc l) model inputs first cover.0 cover.1.defined.bytes ≡ inner_first models l model first k + d) (cover_inside k) below (λ d z less. ap (λ o. through o (λ other. inner other (get_or below d z))) get ∙ each d z less)
line_numbered models l model inputs first k other n held get inside =
    each_none (λ d cover. signal_down models (suc l) model inputs first cover.0 cover.1.defined.bytes ≡ inner_first models l model first k + d)

lines_numbered : (models : List BlifModel) (l : ℕ) (model : BlifModel) (inputs : List ℕ → ℕ) (first start : ℕ) (lines : List ModelLine) → AreNumberable models → Contains models model → ((k place : ℕ) (says : ModelLine) → place ≡ start + k → slice_get lines k ≡ Some says → slice_get model.lines place ≡ Some says) → ((inner : BlifModel) (own : List ℕ → ℕ) (at : ℕ) → Contains models inner → AreNumberedFrom models l inner own at at (flat_covers models l inner)) → AreNumberedFrom models (suc l) model inputs first (inner_first models l model first start) (covers_from (flat_covers models l) models start lines)
lines_numbered models l model inputs first start [] n held at inside =
    each_none (λ d cover. signal_down models (suc l) model inputs first cover.0 cover.1.defined.bytes ≡ inner_first models l model first start + d)
lines_numbered models l model inputs first start (says ∷ lines) n held at inside =
    let f = flat_covers models l in
    let get = at 0 start says (omega arith) refl in
    let here = line_numbered models l model inputs first start says n held get inside in
    let rest = lines_numbered models l model inputs first (suc start) lines n held (λ k place other same g. at (suc k) place other (omega (arith, same)) g) inside in
    let more = count_more f models 0 model.lines start says get in
    let same = count_at f models start 0 says in
    let P : ℕ → FlatCover → Type 0 = λ d cover. signal_down models (suc l) model inputs first cover.0 cover.1.defined.bytes ≡ inner_first models l model first start + d in
    each_append P (covers_at f models start says) (covers_from f models (suc start) lines) here (λ d z below. rest d z below ∙ omega (arith, more, same))

pub covers_numbered : (l : ℕ) (models : List BlifModel) (model : BlifModel) (inputs : List ℕ → ℕ) (first : ℕ) → AreNumberable models → Contains models model → AreNumberedFrom models l model inputs first first (flat_covers models l model)
covers_numbered zero models model inputs first n held k d below = absurd (omega (arith, below))
covers_numbered (suc l) models model inputs first n held k d below =
    let all = lines_numbered models l model inputs first 0 model.lines n held (λ j place says same get. subst (λ p. slice_get model.lines p ≡ Some says) (sym (from_zero place j same)) get) (λ inner own at there. covers_numbered l models inner own at n there) in
    all k d below ∙ omega arith
  where
    from_zero : (place j : ℕ) → place ≡ 0 + j → place ≡ j
    from_zero place j same = omega (arith, same)

top_input : (l : ℕ) (models : List BlifModel) (top : BlifModel) (i : ℕ) (d : Piece) → AreNumberable models → Contains models top → i < length (inputs_of top) → signal_of_top models l top [] (get_or (inputs_of top) i d).bytes ≡ 1 + i
top_input l models top i d n held below =
    let word = get_or (inputs_of top) i d in
    let among = among_words (inputs_of top) word word.bytes (Contains-get_or (inputs_of top) i d below) refl in
    let first = 1 + length (inputs_of top) in
    ap (λ t. cond t (input_signal top word.bytes) (first + driver models l top word.bytes)) among
    ∙ ap (λ k. 1 + k) (own_place (λ (w : Piece). w.bytes) (inputs_of top) i d (n.apart.inputs top held) below)

-- The signals are a numbering.
pub numbering : (l : ℕ) (models : List BlifModel) (top : BlifModel) → AreNumberable models → Contains models top → is_within models l top ≡ true → IsNumbering models top (flat_covers models l top) (signal_of_top models l top)
numbering l models top n held deep = record {
  inputs = λ i d below. top_input l models top i d n held below;
  defined = covers_numbered l models top (input_signal top) (1 + length (inputs_of top)) n held;
  shared = λ path model is k line get j d below. shared_down path l models top model (input_signal top) (1 + length (inputs_of top)) k line (get_or line.bindings j d) n held deep is get (Contains-get_or line.bindings j d below);
}
