-- For `flattening`: the signals of an instance's names, and what the next of its lines makes of what is left.
use Rattle.std.proofs.Common.{◌≡◌, ℕ, zero, suc, ◌+◌, ◌-◌, ◌^◌, ◌<◌, ◌≤◌, ◌&&◌, Bool, true, false, cond, List, [], ◌∷◌, ◌++◌, length, get_or, take, drop, map, All, Option, None, Some, refl, ap, sym, subst, ◌∙◌, inl, inr, arith, append-nil, append_assoc}
use Rattle.std.specs.Prelude.{is_some, filter, unwrap_or, option_map, slice_get}
use Rattle.std.specs.List.{find, list_any, sum_by}
use Rattle.std.specs.Str.{bytes_eq}
use Rattle.std.proofs.lemmas.List.{length-append, length-map, map-append}
use Rattle.std.proofs.lemmas.List.Elements.{All-contains, All-head, Contains-get_or}
use Rattle.std.proofs.lemmas.List.Sums.{sum_by-append, sum_by-cons}
use Rattle.std.proofs.lemmas.Map.Views.{any-filter_same}
use Rattle.text_core.specs.Piece.{Piece}
use Rattle.circuits.specs.declared.definition.Def.TheVariants as def
use Rattle.hier_blif.specs.declared.model.CoverLine.{CoverLine}
use Rattle.hier_blif.specs.declared.model.InstanceLine.{InstanceLine}
use Rattle.hier_blif.specs.declared.model.ModelLine.{ModelLine}
use Rattle.hier_blif.specs.declared.model.ModelLine.TheVariants.{Inputs, Outputs, Cover, Instance}
use Rattle.hier_blif.specs.declared.model.BlifModel.{BlifModel}
use Rattle.hier_blif.specs.declared.frames.Frame.{Frame}
use Rattle.hier_blif.specs.Models.{no_name, empty_model}
use Rattle.hier_blif.specs.Bindings.{formal_of, actual_of}
use Rattle.hier_blif.specs.Names.{inputs_of, is_among, model_of, binds_input, defined_in, read_on}
use Rattle.hier_blif.specs.NameFaults.{name_faults, binds}
use Rattle.hier_blif.specs.Depths.{is_within, covers_within}
use Rattle.hier_blif.specs.Hierarchies.{most_parts}
use Rattle.hier_blif.specs.Nested.{OfNames}
use Rattle.hier_blif.specs.Flattening.{FlatCover, cover_inside, covers_at, covers_from, flat_covers}
use Rattle.hier_blif.specs.Signals.{part_of, actual_bound, driver, signal_in, inner_first, through, signal_down}
use Rattle.hier_blif.specs.Scopes.{number_of, with_number, model_at}
use Rattle.hier_blif.specs.Order.{place_of, callees_on}
use Rattle.hier_blif.specs.Drivers.{IsDriven, AreDrivers, IsFilled}
use Rattle.hier_blif.specs.Frames.{most_signals, frame_model, frame_inputs, frame_signal, own_signal, IsNameOf, IsFrame, flat_entry, frame_left, entries_left, line_steps, model_steps, frame_steps, steps_left, next_frame, inner_frame, AreInputs, KnowsInputs}
use Rattle.hier_blif.proofs.ElementLemmas.{all_of_place, some_same, same_bytes, word_named, among_either}
use Rattle.hier_blif.proofs.AgreeLemmas.{IsNameIn, less_deep, actual_known}
use Rattle.hier_blif.proofs.WellNamedLemmas.{well_named}
use Rattle.hier_blif.proofs.FlatLemmas.{map_same}
use Rattle.hier_blif.proofs.SignalLemmas.{count_more}
use Rattle.hier_blif.proofs.CheckLemmas.{all_there}
use Rattle.hier_blif.proofs.CountLemmas.{counted}
use Rattle.hier_blif.proofs.FilledLemmas.{find_told, filled_more}
use Rattle.hier_blif.proofs.DriverLemmas.{driver_le}

-- signals depend on what a model's inputs have, and on nothing else that a table gives
same_where : (t : Bool) (x y n : ℕ) → (t ≡ true → x ≡ y) → cond t x n ≡ cond t y n
same_where true x y n h = h refl
same_where false x y n h = refl

through_same : (o : Option ModelLine) (f g : InstanceLine → ℕ) → ((line : InstanceLine) → f line ≡ g line) → through o f ≡ through o g
through_same None f g same = refl
through_same (Some (Instance line)) f g same = same line
through_same (Some (Inputs words)) f g same = refl
through_same (Some (Outputs words)) f g same = refl
through_same (Some (Cover line)) f g same = refl

pub signal_down_same : (path : List ℕ) (l : ℕ) (models : List BlifModel) (model : BlifModel) (f g : List ℕ → ℕ) (first : ℕ) (name : List ℕ) → ((port : List ℕ) → is_among port (inputs_of model) ≡ true → f port ≡ g port) → signal_down models l model f first path name ≡ signal_down models l model g first path name
signal_down_same [] l models model f g first name same =
    same_where (is_among name (inputs_of model)) (f name) (g name) (first + driver models l model name) (same name)
signal_down_same (k ∷ path) zero models model f g first name same = refl
signal_down_same (k ∷ path) (suc l) models model f g first name same =
    let inner : (List ℕ → ℕ) → InstanceLine → ℕ = λ h line. signal_down models l (model_of models line) (λ port. signal_in models (suc l) model h first (actual_bound line port)) (inner_first models l model first k) path name in
    through_same (slice_get model.lines k) (inner f) (inner g) (λ line. signal_down_same path l models (model_of models line) (λ port. signal_in models (suc l) model f first (actual_bound line port)) (λ port. signal_in models (suc l) model g first (actual_bound line port)) (inner_first models l model first k) name (λ port among. same_where (is_among (actual_bound line port) (inputs_of model)) (f (actual_bound line port)) (g (actual_bound line port)) (first + driver models (suc l) model (actual_bound line port)) (same (actual_bound line port))))

-- the signal of an input, and of a name that is defined
input_by : (t : Bool) (models : List BlifModel) (frame : Frame) (name : List ℕ) (signal : ℕ) → is_among name (inputs_of (frame_model models frame)) ≡ t → t ≡ true → number_of frame.inputs name ≡ Some signal → signal ≡ own_signal models frame name
input_by t models frame name signal among is number =
    sym (ap (λ b. cond b (frame_inputs frame name) (frame.first + driver models (suc frame.depth) (frame_model models frame) name)) (among ∙ is) ∙ ap (λ o. unwrap_or o 0) number)

pub own_input : (models : List BlifModel) (frame : Frame) (name : List ℕ) (signal : ℕ) → IsFrame models frame → number_of frame.inputs name ≡ Some signal → signal ≡ own_signal models frame name
own_input models frame name signal is number =
    input_by (is_among name (inputs_of (frame_model models frame))) models frame name signal refl (sym (is.known name) ∙ ap is_some number) number

no_input : (models : List BlifModel) (frame : Frame) (name : List ℕ) → IsFrame models frame → number_of frame.inputs name ≡ None → own_signal models frame name ≡ frame.first + driver models (suc frame.depth) (frame_model models frame) name
no_input models frame name is number =
    let none : is_among name (inputs_of (frame_model models frame)) ≡ false = sym (is.known name) ∙ ap is_some number in
    ap (λ b. cond b (frame_inputs frame name) (frame.first + driver models (suc frame.depth) (frame_model models frame) name)) none

pub own_defined : (models : List BlifModel) (frame : Frame) (drivers : List (List ℕ × ℕ)) (name : List ℕ) → IsFrame models frame → IsDriven models (frame_model models frame) drivers → IsNameOf models frame name → number_of frame.inputs name ≡ None → frame.first + unwrap_or (number_of drivers name) 0 ≡ own_signal models frame name
own_defined models frame drivers name is driven known number =
    let model = frame_model models frame in
    let none : is_among name (inputs_of model) ≡ false = sym (is.known name) ∙ ap is_some number in
    elim (among_either name (inputs_of model) (defined_in models model) known) [
      | inl input ↦ absurd (cc (sym none ∙ input))
      | inr defined ↦
          ap (λ o. frame.first + unwrap_or o 0) (driven.numbers (suc frame.depth) name is.within is.few defined) ∙ sym (no_input models frame name is number)
    ]

driver_small : (models : List BlifModel) (frame : Frame) (name : List ℕ) → driver models (suc frame.depth) (frame_model models frame) name ≤ covers_within models (suc frame.depth) (frame_model models frame)
driver_small models frame name =
    subst (λ n. driver models (suc frame.depth) (frame_model models frame) name ≤ n) (counted (suc frame.depth) models (frame_model models frame)) (driver_le (suc frame.depth) models (frame_model models frame) name)

small_by : (o : Option ℕ) (models : List BlifModel) (frame : Frame) (name : List ℕ) → IsFrame models frame → number_of frame.inputs name ≡ o → own_signal models frame name ≤ most_signals
small_by (Some signal) models frame name is number =
    subst (λ n. n ≤ most_signals) (own_input models frame name signal is number) (is.small name signal number)
small_by None models frame name is number =
    subst (λ n. n ≤ most_signals) (sym (no_input models frame name is number)) (omega (arith, driver_small models frame name, is.end))

pub signal_small : (models : List BlifModel) (frame : Frame) (name : List ℕ) → IsFrame models frame → own_signal models frame name ≤ most_signals
signal_small models frame name is = small_by (number_of frame.inputs name) models frame name is refl

-- what is left after one frame more
pub entries_push : (models : List BlifModel) (frames : List Frame) (frame : Frame) → entries_left models (frames ++ frame ∷ []) ≡ frame_left models frame ++ entries_left models frames
entries_push models [] frame = sym (append-nil (frame_left models frame))
entries_push models (outer ∷ frames) frame =
    ap (λ es. es ++ frame_left models outer) (entries_push models frames frame)
    ∙ append_assoc (frame_left models frame) (entries_left models frames) (frame_left models outer)

pub steps_push : (models : List BlifModel) (frames : List Frame) (frame : Frame) → steps_left models (frames ++ frame ∷ []) ≡ frame_steps models frame + steps_left models frames
steps_push models frames frame =
    omega (arith, sum_by-append (frame_steps models) frames (frame ∷ []), sum_by-cons (frame_steps models) frame [])

-- the next line
drop_next : {X : Type 0} (xs : List X) (k : ℕ) (x : X) → slice_get xs k ≡ Some x → drop k xs ≡ x ∷ drop (suc k) xs
drop_next [] k x get = absurd (cc get)
drop_next (y ∷ xs) zero x get = ap (λ z. z ∷ xs) (some_same y x get)
drop_next (y ∷ xs) (suc k) x get = drop_next xs k x get

drop_past : {X : Type 0} (xs : List X) (k : ℕ) → slice_get xs k ≡ None → drop k xs ≡ []
drop_past [] zero get = refl
drop_past [] (suc k) get = refl
drop_past (y ∷ xs) zero get = absurd (cc get)
drop_past (y ∷ xs) (suc k) get = drop_past xs k get

-- no line is left
pub left_end : (models : List BlifModel) (frame : Frame) → slice_get (frame_model models frame).lines frame.next ≡ None → frame_left models frame ≡ []
left_end models frame get =
    ap (λ (ls : List ModelLine). map (flat_entry (frame_signal models frame)) (covers_from (flat_covers models frame.depth) models frame.next ls)) (drop_past (frame_model models frame).lines frame.next get)

pub left_next : (models : List BlifModel) (frame : Frame) (says : ModelLine) (at : ℕ) → slice_get (frame_model models frame).lines frame.next ≡ Some says → frame_left models frame ≡ map (flat_entry (frame_signal models frame)) (covers_at (flat_covers models frame.depth) models frame.next says) ++ frame_left models (next_frame frame at)
left_next models frame says at get =
    let f = flat_covers models frame.depth in
    let entry = flat_entry (frame_signal models frame) in
    let lines = (frame_model models frame).lines in
    let place : suc frame.next ≡ frame.next + 1 = omega arith in
    ap (λ (ls : List ModelLine). map entry (covers_from f models frame.next ls)) (drop_next lines frame.next says get)
    ∙ (map-append entry (covers_at f models frame.next says) (covers_from f models (suc frame.next) (drop (suc frame.next) lines)) ∙ ap (λ n. map entry (covers_at f models frame.next says) ++ map entry (covers_from f models n (drop n lines))) place)

pub steps_next : (models : List BlifModel) (frame : Frame) (says : ModelLine) (at : ℕ) → slice_get (frame_model models frame).lines frame.next ≡ Some says → frame_steps models frame ≡ line_steps (model_steps models frame.depth) models says + frame_steps models (next_frame frame at)
steps_next models frame says at get =
    let step = line_steps (model_steps models frame.depth) models in
    let lines = (frame_model models frame).lines in
    let place : suc frame.next ≡ frame.next + 1 = omega arith in
    let sums = ap (sum_by step) (drop_next lines frame.next says get) ∙ (sum_by-cons step says (drop (suc frame.next) lines) ∙ ap (λ n. step says + sum_by step (drop n lines)) place) in
    omega (arith, sums)

-- the covers of the first lines are among those of all
take_le : (f : BlifModel → List FlatCover) (models : List BlifModel) (start : ℕ) (lines : List ModelLine) (k : ℕ) → length (covers_from f models start (take k lines)) ≤ length (covers_from f models start lines)
take_le f models start lines zero = omega arith
take_le f models start [] (suc k) = omega arith
take_le f models start (says ∷ lines) (suc k) =
    omega (arith, length-append (covers_at f models start says) (covers_from f models (suc start) (take k lines)), length-append (covers_at f models start says) (covers_from f models (suc start) lines), take_le f models (suc start) lines k)

pub line_small : (models : List BlifModel) (frame : Frame) (says : ModelLine) → IsFrame models frame → slice_get (frame_model models frame).lines frame.next ≡ Some says → frame.at + length (covers_at (flat_covers models frame.depth) models 0 says) ≤ frame.first + covers_within models (suc frame.depth) (frame_model models frame)
line_small models frame says is get =
    let f = flat_covers models frame.depth in
    let lines = (frame_model models frame).lines in
    omega (arith, is.at, count_more f models 0 lines frame.next says get, take_le f models 0 lines (suc frame.next), counted (suc frame.depth) models (frame_model models frame))

-- the signals of the covers that are left are few
pub at_small : (models : List BlifModel) (frame : Frame) → IsFrame models frame → frame.at ≤ most_signals
at_small models frame is =
    omega (arith, is.at, is.end, take_le (flat_covers models frame.depth) models 0 (frame_model models frame).lines frame.next, counted (suc frame.depth) models (frame_model models frame))

pub after_small : (models : List BlifModel) (frame : Frame) (says : ModelLine) (n : ℕ) → IsFrame models frame → slice_get (frame_model models frame).lines frame.next ≡ Some says → n ≡ length (covers_at (flat_covers models frame.depth) models 0 says) → frame.at + n < 2 ^ 64
after_small models frame says n is get made =
    omega (arith, line_small models frame says is get, is.end, made)

pub next_is_frame : (models : List BlifModel) (frame : Frame) (says : ModelLine) (at : ℕ) → IsFrame models frame → slice_get (frame_model models frame).lines frame.next ≡ Some says → at ≡ frame.at + length (covers_at (flat_covers models frame.depth) models 0 says) → IsFrame models (next_frame frame at)
next_is_frame models frame says at is get adds =
    let f = flat_covers models frame.depth in
    let lines = (frame_model models frame).lines in
    let place : suc frame.next ≡ frame.next + 1 = omega arith in
    let more = ap (λ n. length (covers_from f models 0 (take n lines))) (sym place) ∙ count_more f models 0 lines frame.next says get in
    record {
      there = is.there;
      within = is.within;
      few = is.few;
      known = is.known;
      small = is.small;
      end = is.end;
      at = omega (arith, adds, is.at, more);
    }

depth_again : (d : ℕ) (models : List BlifModel) (model : BlifModel) → is_within models d model ≡ true → suc (d - 1) ≡ d
depth_again zero models model within = absurd (cc within)
depth_again (suc l) models model within = omega arith

-- a model that has an instance isn't of the last depth
pub some_depth : (models : List BlifModel) (frame : Frame) (line : InstanceLine) → IsFrame models frame → slice_get (frame_model models frame).lines frame.next ≡ Some (Instance line) → 0 < frame.depth
some_depth models frame line is get =
    omega (arith, depth_again frame.depth models (model_of models line) (less_deep models frame.depth (frame_model models frame) frame.next line is.within get))

some_mapped : {X Y : Type 0} (f : X → Y) (o : Option X) → is_some (option_map f o) ≡ is_some o
some_mapped f None = refl
some_mapped f (Some x) = refl

any_input : (t : Bool) (models : List BlifModel) (line : InstanceLine) (name : List ℕ) → is_among name (inputs_of (model_of models line)) ≡ t → All (λ input. binds line input ≡ true) (inputs_of (model_of models line)) → (t && list_any (λ word. bytes_eq name (formal_of word.bytes)) line.bindings) ≡ t
any_input false models line name among bound = refl
any_input true models line name among bound =
    let input = word_named name (inputs_of (model_of models line)) among in
    let is = All-contains (λ i. binds line i ≡ true) (inputs_of (model_of models line)) input.0 bound input.1 in
    ap (λ n. list_any (λ (w : Piece). bytes_eq n (formal_of w.bytes)) line.bindings) input.2 ∙ is

same_input : (models : List BlifModel) (line : InstanceLine) (name : List ℕ) (word : Piece) → bytes_eq name (formal_of word.bytes) ≡ true → binds_input models line word ≡ is_among name (inputs_of (model_of models line))
same_input models line name word same =
    ap (λ n. is_among n (inputs_of (model_of models line))) (sym (same_bytes name (formal_of word.bytes) same))

inputs_known : (models : List BlifModel) (frame : Frame) (line : InstanceLine) (inputs : List (List ℕ × ℕ)) (name : List ℕ) → All (λ input. binds line input ≡ true) (inputs_of (model_of models line)) → AreInputs models frame line inputs → is_some (number_of inputs name) ≡ is_among name (inputs_of (model_of models line))
inputs_known models frame line inputs name bound filled =
    let q = λ (w : Piece). bytes_eq name (formal_of w.bytes) in
    let among = is_among name (inputs_of (model_of models line)) in
    ap is_some (filled name)
    ∙ (some_mapped (λ (w : Piece). own_signal models frame (actual_of w.bytes)) (find q (filter (binds_input models line) line.bindings))
    ∙ (find_told q (filter (binds_input models line) line.bindings)
    ∙ (any-filter_same q (binds_input models line) among (same_input models line name) line.bindings ∙ any_input among models line name refl bound)))

-- what is found is found among what a filter keeps, if it keeps what could be found
find_kept_by : {X : Type 0} (t u : Bool) (q : X → Bool) (x : X) (rest kept : List X) → (u ≡ true → t ≡ true) → find q kept ≡ find q rest → q x ≡ u → find q (cond t (x ∷ kept) kept) ≡ cond u (Some x) (find q rest)
find_kept_by true u q x rest kept keeps same e = ap (λ b. cond b (Some x) (find q kept)) e ∙ ap (λ o. cond u (Some x) o) same
find_kept_by false true q x rest kept keeps same e = absurd (cc (keeps refl))
find_kept_by false false q x rest kept keeps same e = same

find_kept : {X : Type 0} (q p : X → Bool) (xs : List X) → ((x : X) → q x ≡ true → p x ≡ true) → find q (filter p xs) ≡ find q xs
find_kept q p [] keeps = refl
find_kept q p (x ∷ xs) keeps = find_kept_by (p x) (q x) q x xs (filter p xs) (keeps x) (find_kept q p xs keeps) refl

bound_by : (o : Option Piece) (f : List ℕ → ℕ) → is_some o ≡ true → unwrap_or (option_map (λ (w : Piece). f (actual_of w.bytes)) o) 0 ≡ f (part_of actual_of o)
bound_by None f h = absurd (cc h)
bound_by (Some word) f h = refl

input_bound : (models : List BlifModel) (frame : Frame) (line : InstanceLine) (inputs : List (List ℕ × ℕ)) (name : List ℕ) → All (λ input. binds line input ≡ true) (inputs_of (model_of models line)) → AreInputs models frame line inputs → is_among name (inputs_of (model_of models line)) ≡ true → unwrap_or (number_of inputs name) 0 ≡ own_signal models frame (actual_bound line name)
input_bound models frame line inputs name bound filled among =
    let q = λ (w : Piece). bytes_eq name (formal_of w.bytes) in
    let number = λ (w : Piece). own_signal models frame (actual_of w.bytes) in
    let same = find_kept q (binds_input models line) line.bindings (λ word h. same_input models line name word h ∙ among) in
    let number_is = filled name ∙ ap (option_map number) same in
    let some : is_some (find q line.bindings) ≡ true = sym (some_mapped number (find q line.bindings)) ∙ (sym (ap is_some number_is) ∙ (inputs_known models frame line inputs name bound filled ∙ among)) in
    ap (λ o. unwrap_or o 0) number_is ∙ bound_by (find q line.bindings) (own_signal models frame) some

small_number : (o : Option Piece) (models : List BlifModel) (frame : Frame) (signal : ℕ) → IsFrame models frame → option_map (λ word. own_signal models frame (actual_of word.bytes)) o ≡ Some signal → signal ≤ most_signals
small_number None models frame signal is h = absurd (cc h)
small_number (Some word) models frame signal is h =
    subst (λ n. n ≤ most_signals) (some_same (own_signal models frame (actual_of word.bytes)) signal h) (signal_small models frame (actual_of word.bytes) is)

-- and it has the covers that the line makes
pub inner_is_frame : (models : List BlifModel) (frame : Frame) (line : InstanceLine) (inputs : List (List ℕ × ℕ)) → name_faults models ≡ [] → place_of models line < length models → IsFrame models frame → slice_get (frame_model models frame).lines frame.next ≡ Some (Instance line) → AreInputs models frame line inputs → IsFrame models (inner_frame frame (place_of models line) inputs)
inner_is_frame models frame line inputs named there is get filled =
    let model = frame_model models frame in
    let inside = model_of models line in
    let held = Contains-get_or models frame.model (empty_model 0 no_name) is.there in
    let well = well_named models named in
    let bound = well.bound model frame.next line held get in
    let deep = less_deep models frame.depth model frame.next line is.within get in
    let again = sym (depth_again frame.depth models inside deep) in
    let made : length (covers_at (flat_covers models frame.depth) models 0 (Instance line)) ≡ covers_within models frame.depth inside = length-map (flat_covers models frame.depth inside) (cover_inside 0) ∙ counted frame.depth models inside in
    let small = line_small models frame (Instance line) is get in
    let from : frame.first ≤ frame.at = omega (arith, is.at) in
    record {
      there = there;
      within = subst (λ d. is_within models d inside ≡ true) again deep;
      few = subst (λ d. covers_within models d inside ≤ most_parts) again (omega (arith, made, small, from, is.few));
      known = λ name. inputs_known models frame line inputs name bound filled;
      small = λ name signal number. small_number (find (λ word. bytes_eq name (formal_of word.bytes)) (filter (binds_input models line) line.bindings)) models frame signal is (sym (filled name) ∙ number);
      end = subst (λ d. frame.at + covers_within models d inside ≤ most_signals) again (omega (arith, made, small, is.end));
      at = omega arith;
    }

entry_same : (one other : OfNames ℕ) (k : ℕ) (cover : FlatCover) → ((path name : List ℕ) → one (k ∷ path) name ≡ other path name) → flat_entry one (cover_inside k cover) ≡ flat_entry other cover
entry_same one other k cover same =
    let names = map_same (λ (word : Piece). one (k ∷ cover.0) word.bytes) (λ (word : Piece). other cover.0 word.bytes) cover.1.operands (λ j d below. same cover.0 (get_or cover.1.operands j d).bytes) in
    ap (λ ns. (def.Cover ns cover.1.rows cover.1.on, cover.1.at)) names

entries_inside : (one other : OfNames ℕ) (k : ℕ) (covers : List FlatCover) → ((path name : List ℕ) → one (k ∷ path) name ≡ other path name) → map (flat_entry one) (map (cover_inside k) covers) ≡ map (flat_entry other) covers
entries_inside one other k [] same = refl
entries_inside one other k (cover ∷ covers) same =
    ap (λ e. e ∷ map (flat_entry one) (map (cover_inside k) covers)) (entry_same one other k cover same)
    ∙ ap (λ es. flat_entry other cover ∷ es) (entries_inside one other k covers same)

pub inner_left : (models : List BlifModel) (frame : Frame) (line : InstanceLine) (inputs : List (List ℕ × ℕ)) → name_faults models ≡ [] → IsFrame models frame → slice_get (frame_model models frame).lines frame.next ≡ Some (Instance line) → AreInputs models frame line inputs → map (flat_entry (frame_signal models frame)) (covers_at (flat_covers models frame.depth) models frame.next (Instance line)) ≡ frame_left models (inner_frame frame (place_of models line) inputs)
inner_left models frame line inputs named is get filled =
    let model = frame_model models frame in
    let inside = model_of models line in
    let held = Contains-get_or models frame.model (empty_model 0 no_name) is.there in
    let well = well_named models named in
    let bound = well.bound model frame.next line held get in
    let deep = less_deep models frame.depth model frame.next line is.within get in
    let inner = λ (name : List ℕ). unwrap_or (number_of inputs name) 0 in
    let down = λ (path name : List ℕ) (other : InstanceLine). signal_down models frame.depth (model_of models other) (λ port. signal_in models (suc frame.depth) model (frame_inputs frame) frame.first (actual_bound other port)) (inner_first models frame.depth model frame.first frame.next) path name in
    let same : (path name : List ℕ) → frame_signal models frame (frame.next ∷ path) name ≡ signal_down models frame.depth inside inner frame.at path name =
    λ path name.
    ap (λ o. through o (down path name)) get
    ∙ (ap (λ n. signal_down models frame.depth inside (λ port. signal_in models (suc frame.depth) model (frame_inputs frame) frame.first (actual_bound line port)) n path name) (sym is.at)
    ∙ sym (signal_down_same path frame.depth models inside inner (λ port. signal_in models (suc frame.depth) model (frame_inputs frame) frame.first (actual_bound line port)) frame.at name (λ port among. input_bound models frame line inputs port bound filled among))) in
    entries_inside (frame_signal models frame) (λ path name. signal_down models frame.depth inside inner frame.at path name) frame.next (flat_covers models frame.depth inside) same
    ∙ ap (λ d. map (flat_entry (λ path name. signal_down models d inside inner frame.at path name)) (flat_covers models d inside)) (sym (depth_again frame.depth models inside deep))

-- entering it takes a step
steps_at : (d : ℕ) (models : List BlifModel) (model : BlifModel) → is_within models d model ≡ true → 1 + sum_by (line_steps (model_steps models (d - 1)) models) model.lines ≡ model_steps models d model
steps_at zero models model within = absurd (cc within)
steps_at (suc l) models model within =
    let e : suc l - 1 ≡ l = omega arith in
    ap (λ n. 1 + sum_by (line_steps (model_steps models n) models) model.lines) e

pub inner_steps : (models : List BlifModel) (frame : Frame) (line : InstanceLine) (inputs : List (List ℕ × ℕ)) → IsFrame models frame → slice_get (frame_model models frame).lines frame.next ≡ Some (Instance line) → line_steps (model_steps models frame.depth) models (Instance line) ≡ 1 + frame_steps models (inner_frame frame (place_of models line) inputs)
inner_steps models frame line inputs is get =
    let deep = less_deep models frame.depth (frame_model models frame) frame.next line is.within get in
    ap (λ n. 1 + n) (sym (steps_at frame.depth models (model_of models line) deep))

-- a name that was looked up in the table of the instance's model
pub defined_is : (models : List BlifModel) (frame : Frame) (drivers : List (List (List ℕ × ℕ))) (d : List (List ℕ × ℕ)) (name : List ℕ) (n : ℕ) → IsFrame models frame → AreDrivers models drivers → IsNameOf models frame name → number_of frame.inputs name ≡ None → n ≡ unwrap_or (number_of (get_or drivers frame.model d) name) 0 → frame.first + n ≡ own_signal models frame name
defined_is models frame drivers d name n is driven known none number =
    ap (λ m. frame.first + m) number
    ∙ own_defined models frame (get_or drivers frame.model d) name is (driven.each frame.model is.there d) known none

pub defined_small : (models : List BlifModel) (frame : Frame) (drivers : List (List (List ℕ × ℕ))) (d : List (List ℕ × ℕ)) (name : List ℕ) (n : ℕ) → IsFrame models frame → AreDrivers models drivers → IsNameOf models frame name → number_of frame.inputs name ≡ None → n ≡ unwrap_or (number_of (get_or drivers frame.model d) name) 0 → frame.first + n ≤ most_signals
defined_small models frame drivers d name n is driven known none number =
    subst (λ s. s ≤ most_signals) (sym (defined_is models frame drivers d name n is driven known none number)) (signal_small models frame name is)

-- the inputs of an instance, word by word, where its model's place was looked up
pub inputs_more : (models : List BlifModel) (frame : Frame) (line : InstanceLine) (place : ℕ) (words : List Piece) (k : ℕ) (word : Piece) (binds_it : Bool) (old new : List (List ℕ × ℕ)) → words ≡ line.bindings → place ≡ place_of models line → k < length words → word ≡ get_or words k word → binds_it ≡ is_among (formal_of word.bytes) (inputs_of (model_at models place)) → new ≡ cond binds_it (with_number old (formal_of word.bytes) (own_signal models frame (actual_of word.bytes))) old → IsFilled (binds_input models line) (λ w. formal_of w.bytes) (λ w. own_signal models frame (actual_of w.bytes)) [] (take k line.bindings) old → IsFilled (binds_input models line) (λ w. formal_of w.bytes) (λ w. own_signal models frame (actual_of w.bytes)) [] (take (k + 1) line.bindings) new
inputs_more models frame line place words k word binds_it old new same at below is told adds filled =
    let binds_is = told ∙ ap (λ n. is_among (formal_of word.bytes) (inputs_of (model_at models n))) at in
    filled_more (binds_input models line) (λ (w : Piece). formal_of w.bytes) (λ (w : Piece). own_signal models frame (actual_of w.bytes)) [] line.bindings k word old new (subst (λ ws. k < length ws) same below) (subst (λ ws. word ≡ get_or ws k word) same is) (adds ∙ ap (λ t. cond t (with_number old (formal_of word.bytes) (own_signal models frame (actual_of word.bytes))) old) binds_is) filled

pub input_name : (models : List BlifModel) (frame : Frame) (line : InstanceLine) (place : ℕ) (words : List Piece) (k : ℕ) (word : Piece) (binds_it : Bool) → words ≡ line.bindings → place ≡ place_of models line → k < length words → word ≡ get_or words k word → binds_it ≡ is_among (formal_of word.bytes) (inputs_of (model_at models place)) → KnowsInputs models frame line → binds_it ≡ true → IsNameOf models frame (actual_of word.bytes)
input_name models frame line place words k word binds_it same at below is told knows binding =
    let binds_is = told ∙ ap (λ n. is_among (formal_of word.bytes) (inputs_of (model_at models n))) at in
    let there : k < length line.bindings = subst (λ ws. k < length ws) same below in
    let found : word ≡ get_or line.bindings k word = subst (λ ws. word ≡ get_or ws k word) same is in
    let known : binds_input models line (get_or line.bindings k word) ≡ true → IsNameOf models frame (actual_of (get_or line.bindings k word).bytes) = knows k word there in
    subst (λ (w : Piece). binds_input models line w ≡ true → IsNameOf models frame (actual_of w.bytes)) (sym found) known (sym binds_is ∙ binding)

-- no name is refused, so what a cover reads and what inputs are bound to is known
pub operands_known : (models : List BlifModel) (frame : Frame) (line : CoverLine) → name_faults models ≡ [] → IsFrame models frame → slice_get (frame_model models frame).lines frame.next ≡ Some (Cover line) → All (λ word. IsNameOf models frame word.bytes) line.operands
operands_known models frame line named is get =
    let held = Contains-get_or models frame.model (empty_model 0 no_name) is.there in
    all_of_place (λ w. IsNameIn models (frame_model models frame) w.bytes) (read_on models) (frame_model models frame).lines frame.next (Cover line) get ((well_named models named).known (frame_model models frame) held)

pub knows_inputs : (models : List BlifModel) (frame : Frame) (line : InstanceLine) → name_faults models ≡ [] → IsFrame models frame → slice_get (frame_model models frame).lines frame.next ≡ Some (Instance line) → KnowsInputs models frame line
knows_inputs models frame line named is get k d below binds_it =
    let held = Contains-get_or models frame.model (empty_model 0 no_name) is.there in
    actual_known models (frame_model models frame) frame.next line (get_or line.bindings k d) (well_named models named) held get (Contains-get_or line.bindings k d below) binds_it

-- the model of a line's instance is there
pub instance_below : (models : List BlifModel) (frame : Frame) (line : InstanceLine) → name_faults models ≡ [] → IsFrame models frame → slice_get (frame_model models frame).lines frame.next ≡ Some (Instance line) → place_of models line < length models
instance_below models frame line named is get =
    let says = Instance line in
    let there = (all_there models named).each frame.model is.there in
    All-head (λ callee. callee < length models) (place_of models line) [] (all_of_place (λ callee. callee < length models) (callees_on models) (frame_model models frame).lines frame.next says get there)
