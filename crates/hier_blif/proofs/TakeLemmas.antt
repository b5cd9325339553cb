-- For `flattening`: each step adds what the next line of the innermost instance makes, and the steps end.
use Rattle.std.proofs.Common.{◌≡◌, ℕ, suc, ◌+◌, ◌<◌, ◌≤◌, Bool, true, false, cond, List, [], ◌∷◌, ◌++◌, length, get_or, map, All, Bor, Option, None, Some, refl, ap, sym, subst, ◌∙◌, arith, append-nil, append_assoc}
use Rattle.std.specs.Prelude.{is_some, nat_lt, option_map, position, slice_get, unwrap_or}
use Rattle.std.specs.List.{position_or_len}
use Rattle.std.specs.Str.{bytes_eq}
use Rattle.std.proofs.lemmas.Bool.Decides.{nat_tests}
use Rattle.std.proofs.lemmas.List.{length-map, map-append, get_or-map}
use Rattle.std.proofs.lemmas.Option.{slice_get_read, slice_get_past}
use Rattle.std.proofs.lemmas.Simd.{map-map}
use Rattle.std.proofs.lemmas.List.Elements.{All-nil, All-cons, All-push, All-head, All-map}
use Rattle.text_core.specs.Piece.{Piece}
use Rattle.circuits.specs.declared.definition.Def.TheVariants as def
use Rattle.blif_reader.specs.Numbers.{bytes_of}
use Rattle.blif_reader.proofs.NumberLemmas.{any_place, position_or_len-map}
use Rattle.circuits.proofs.Lists.{All-front, All-back}
use Rattle.hier_blif.specs.declared.model.CoverLine.{CoverLine}
use Rattle.hier_blif.specs.declared.model.InstanceLine.{InstanceLine}
use Rattle.hier_blif.specs.declared.model.ModelLine.{ModelLine}
use Rattle.hier_blif.specs.declared.model.ModelLine.TheVariants.{Inputs, Outputs, Cover, Instance}
use Rattle.hier_blif.specs.declared.model.BlifModel.{BlifModel}
use Rattle.hier_blif.specs.declared.sizes.Size.{Size}
use Rattle.hier_blif.specs.declared.frames.Frame.{Frame}
use Rattle.hier_blif.specs.declared.flattening.Flattening.{Flattening}
use Rattle.hier_blif.specs.Names.{inputs_of, is_among, model_of}
use Rattle.hier_blif.specs.NameFaults.{name_faults}
use Rattle.hier_blif.specs.Depths.{covers_within}
use Rattle.hier_blif.specs.Nested.{OfNames}
use Rattle.hier_blif.specs.Flattening.{FlatCover, own_cover, cover_inside, covers_at, flat_covers}
use Rattle.hier_blif.specs.Signals.{input_signal, signal_down, signal_of_top}
use Rattle.hier_blif.specs.Scopes.{number_of, model_at}
use Rattle.hier_blif.specs.Order.{place_of}
use Rattle.hier_blif.specs.Sizes.{covers_listed, IsSize, AreSizes}
use Rattle.hier_blif.specs.Frames.{most_signals, frame_model, frame_inputs, frame_signal, IsFrame, FlatEntry, flat_entry, defs_of, places_of, frame_left, entries_left, line_steps, model_steps, steps_left, next_frame, inner_frame, AreInputs, IsFlattening, Takes, IsTop, IsTopFrame}
use Rattle.hier_blif.proofs.ElementLemmas.{some_same}
use Rattle.hier_blif.proofs.AgreeLemmas.{less_deep}
use Rattle.hier_blif.proofs.FlatLemmas.{map_same}
use Rattle.hier_blif.proofs.CountLemmas.{counted}
use Rattle.hier_blif.proofs.FrameLemmas.{signal_down_same, entries_push, steps_push, left_end, left_next, steps_next, line_small, next_is_frame, inner_is_frame, inner_left, inner_steps, instance_below}

-- no line is left
pub takes_end : (models : List BlifModel) (frame : Frame) (old new : Flattening) → slice_get (frame_model models frame).lines frame.next ≡ None → new ≡ old → Takes models frame old new
takes_end models frame old new get same = subst (Takes models frame old) (sym same) (record {
  frames = λ all. all;
  added = [];
  defs = sym (append-nil old.defs);
  places = sym (append-nil old.places);
  left = ap (λ es. es ++ entries_left models old.frames) (left_end models frame get);
  falls = omega arith;
})

-- a line that adds these
record Adds (models : List BlifModel) (frame : Frame) (says : ModelLine) (at : ℕ) (added : List FlatEntry) : Type 0 where
  get : slice_get (frame_model models frame).lines frame.next ≡ Some says
  made : map (flat_entry (frame_signal models frame)) (covers_at (flat_covers models frame.depth) models frame.next says) ≡ added
  steps : line_steps (model_steps models frame.depth) models says ≡ 1
  next : at ≡ frame.at + length (covers_at (flat_covers models frame.depth) models 0 says)

takes_added : (models : List BlifModel) (frame : Frame) (says : ModelLine) (at : ℕ) (added : List FlatEntry) (old new : Flattening) → IsFrame models frame → Adds models frame says at added → new.defs ≡ old.defs ++ defs_of added → new.places ≡ old.places ++ places_of added → new.frames ≡ old.frames ++ next_frame frame at ∷ [] → Takes models frame old new
takes_added models frame says at added old new is adds defs places frames = record {
  frames = λ all. subst (All (IsFrame models)) (sym frames) (All-push (IsFrame models) old.frames (next_frame frame at) all (next_is_frame models frame says at is adds.get adds.next));
  added = added;
  defs = defs;
  places = places;
  left =
      ap (λ es. es ++ entries_left models old.frames) (left_next models frame says at adds.get ∙ ap (λ es. es ++ frame_left models (next_frame frame at)) adds.made)
      ∙ (append_assoc added (frame_left models (next_frame frame at)) (entries_left models old.frames)
      ∙ ap (λ es. added ++ es) (sym (ap (entries_left models) frames ∙ entries_push models old.frames (next_frame frame at))));
  falls = omega (arith, steps_next models frame says at adds.get, adds.steps, ap (steps_left models) frames, steps_push models old.frames (next_frame frame at));
}

pub takes_cover : (models : List BlifModel) (frame : Frame) (line : CoverLine) (at : ℕ) (old new : Flattening) → IsFrame models frame → slice_get (frame_model models frame).lines frame.next ≡ Some (Cover line) → at ≡ frame.at + 1 → new.defs ≡ old.defs ++ (flat_entry (frame_signal models frame) (own_cover line)).0 ∷ [] → new.places ≡ old.places ++ line.at ∷ [] → new.frames ≡ old.frames ++ next_frame frame at ∷ [] → Takes models frame old new
takes_cover models frame line at old new is get next defs places frames =
    takes_added models frame (Cover line) at (flat_entry (frame_signal models frame) (own_cover line) ∷ []) old new is (record { get = get; made = refl; steps = refl; next = next }) defs places frames

-- a line of ports adds none
no_covers : (models : List BlifModel) (frame : Frame) (says : ModelLine) (at : ℕ) → ((line : CoverLine) → says ≡ Cover line → ⊥) → ((line : InstanceLine) → says ≡ Instance line → ⊥) → slice_get (frame_model models frame).lines frame.next ≡ Some says → at ≡ frame.at + 0 → Adds models frame says at []
no_covers models frame (Cover line) at one other get next = absurd (one line refl)
no_covers models frame (Instance line) at one other get next = absurd (other line refl)
no_covers models frame (Inputs words) at one other get next = record { get = get; made = refl; steps = refl; next = next }
no_covers models frame (Outputs words) at one other get next = record { get = get; made = refl; steps = refl; next = next }

pub takes_ports : (models : List BlifModel) (frame : Frame) (says : ModelLine) (at : ℕ) (old new : Flattening) → IsFrame models frame → ((line : CoverLine) → says ≡ Cover line → ⊥) → ((line : InstanceLine) → says ≡ Instance line → ⊥) → slice_get (frame_model models frame).lines frame.next ≡ Some says → at ≡ frame.at + 0 → new.defs ≡ old.defs → new.places ≡ old.places → new.frames ≡ old.frames ++ next_frame frame at ∷ [] → Takes models frame old new
takes_ports models frame says at old new is one other get next defs places frames =
    takes_added models frame says at [] old new is (no_covers models frame says at one other get next) (defs ∙ sym (append-nil old.defs)) (places ∙ sym (append-nil old.places)) frames

-- how many covers an instance makes
pub instance_made : (models : List BlifModel) (frame : Frame) (line : InstanceLine) (size : Size) → IsFrame models frame → slice_get (frame_model models frame).lines frame.next ≡ Some (Instance line) → IsSize models (model_of models line) size → size.covers ≡ length (covers_at (flat_covers models frame.depth) models 0 (Instance line))
instance_made models frame line size is get sized =
    let inside = model_of models line in
    let deep = less_deep models frame.depth (frame_model models frame) frame.next line is.within get in
    let made : length (covers_at (flat_covers models frame.depth) models 0 (Instance line)) ≡ covers_within models frame.depth inside = length-map (flat_covers models frame.depth inside) (cover_inside 0) ∙ counted frame.depth models inside in
    let from : frame.first ≤ frame.at = omega (arith, is.at) in
    omega (arith, made, line_small models frame (Instance line) is get, from, is.few, sized.covers frame.depth deep)

-- by the size that was looked up
abbrev no_size : Size
no_size = record { instances = 0; covers = 0 }

pub size_made : (models : List BlifModel) (frame : Frame) (line : InstanceLine) (place : ℕ) (sizes : List Size) → name_faults models ≡ [] → IsFrame models frame → slice_get (frame_model models frame).lines frame.next ≡ Some (Instance line) → AreSizes models sizes → place ≡ place_of models line → covers_listed sizes place ≡ length (covers_at (flat_covers models frame.depth) models 0 (Instance line))
size_made models frame line place sizes named is get are at =
    let there = instance_below models frame line named is get in
    let sized = subst (λ p. IsSize models (model_of models line) (get_or sizes p no_size)) (sym at) (are.each (place_of models line) there no_size) in
    instance_made models frame line (get_or sizes place no_size) is get sized

-- two instances are put on the stack
pub both_pushed : (frames one two : List Frame) (after inner after_is inner_is : Frame) → one ≡ frames ++ after ∷ [] → after ≡ after_is → two ≡ one ++ inner ∷ [] → inner ≡ inner_is → two ≡ (frames ++ after_is ∷ []) ++ inner_is ∷ []
both_pushed frames one two after inner after_is inner_is first same second other =
    second
    ∙ (ap (λ (fs : List Frame). fs ++ inner ∷ []) (first ∙ ap (λ (f : Frame). frames ++ f ∷ []) same) ∙ ap (λ (f : Frame). (frames ++ after_is ∷ []) ++ f ∷ []) other)

-- an instance is entered
pub takes_instance : (models : List BlifModel) (frame : Frame) (line : InstanceLine) (at : ℕ) (inputs : List (List ℕ × ℕ)) (old new : Flattening) → name_faults models ≡ [] → place_of models line < length models → IsFrame models frame → slice_get (frame_model models frame).lines frame.next ≡ Some (Instance line) → at ≡ frame.at + length (covers_at (flat_covers models frame.depth) models 0 (Instance line)) → AreInputs models frame line inputs → new.defs ≡ old.defs → new.places ≡ old.places → new.frames ≡ (old.frames ++ next_frame frame at ∷ []) ++ inner_frame frame (place_of models line) inputs ∷ [] → Takes models frame old new
takes_instance models frame line at inputs old new named there is get next filled defs places frames =
    let after = next_frame frame at in
    let inner = inner_frame frame (place_of models line) inputs in
    let first = old.frames ++ after ∷ [] in
    let after_is = next_is_frame models frame (Instance line) at is get next in
    let inner_is = inner_is_frame models frame line inputs named there is get filled in
    let left = left_next models frame (Instance line) at get ∙ ap (λ es. es ++ frame_left models after) (inner_left models frame line inputs named is get filled) in
    record {
      frames = λ all. subst (All (IsFrame models)) (sym frames) (All-push (IsFrame models) first inner (All-push (IsFrame models) old.frames after all after_is) inner_is);
      added = [];
      defs = defs ∙ sym (append-nil old.defs);
      places = places ∙ sym (append-nil old.places);
      left =
          ap (λ es. es ++ entries_left models old.frames) left
          ∙ (append_assoc (frame_left models inner) (frame_left models after) (entries_left models old.frames)
          ∙ (ap (λ es. frame_left models inner ++ es) (sym (entries_push models old.frames after)) ∙ sym (ap (entries_left models) frames ∙ entries_push models first inner)));
      falls = omega (arith, steps_next models frame (Instance line) at get, inner_steps models frame line inputs is get, ap (steps_left models) frames, steps_push models first inner, steps_push models old.frames after);
    }

-- the loop: a frame was taken off, and its next line was taken
added_on : {X : Type 0} (f : FlatEntry → X) (models : List BlifModel) (frame : Frame) (rest now next : List X) (frames last : List Frame) (left : List FlatEntry) → frames ≡ last ++ frame ∷ [] → rest ++ map f (entries_left models frames) ≡ now → frame_left models frame ++ entries_left models last ≡ left → rest ++ map f left ≡ now
added_on f models frame rest now next frames last left same so_far is =
    ap (λ es. rest ++ map f es) (sym is)
    ∙ (ap (λ es. rest ++ map f es) (sym (ap (entries_left models) same ∙ entries_push models last frame)) ∙ so_far)

then_added : {X : Type 0} (f : FlatEntry → X) (rest new now : List X) (added left : List FlatEntry) → new ≡ rest ++ map f added → rest ++ map f (added ++ left) ≡ now → new ++ map f left ≡ now
then_added f rest new now added left adds so_far =
    ap (λ xs. xs ++ map f left) adds
    ∙ (append_assoc rest (map f added) (map f left) ∙ (ap (λ xs. rest ++ xs) (sym (map-append f added left)) ∙ so_far))

pub popped : (models : List BlifModel) (frames last : List Frame) (frame : Frame) → frames ≡ last ++ frame ∷ [] → All (IsFrame models) frames → All (IsFrame models) last × IsFrame models frame
popped models frames last frame same all =
    let parts = subst (All (IsFrame models)) same all in
    (All-front (IsFrame models) last (frame ∷ []) parts, All-head (IsFrame models) frame [] (All-back (IsFrame models) last (frame ∷ []) parts))

pub flattening_more : (models : List BlifModel) (all : List FlatEntry) (frame : Frame) (before old new : Flattening) → before.frames ≡ old.frames ++ frame ∷ [] → before.defs ≡ old.defs → before.places ≡ old.places → Takes models frame old new → IsFlattening models all before → IsFlattening models all new
flattening_more models all frame before old new same defs places takes so_far = record {
  frames = takes.frames (popped models before.frames old.frames frame same so_far.frames).0;
  defs = then_added (λ (e : FlatEntry). e.0) old.defs new.defs (defs_of all) takes.added (entries_left models new.frames) takes.defs (added_on (λ (e : FlatEntry). e.0) models frame old.defs (defs_of all) [] before.frames old.frames (takes.added ++ entries_left models new.frames) same (ap (λ ds. ds ++ defs_of (entries_left models before.frames)) (sym defs) ∙ so_far.defs) takes.left);
  places = then_added (λ (e : FlatEntry). e.1) old.places new.places (places_of all) takes.added (entries_left models new.frames) takes.places (added_on (λ (e : FlatEntry). e.1) models frame old.places (places_of all) [] before.frames old.frames (takes.added ++ entries_left models new.frames) same (ap (λ ps. ps ++ places_of (entries_left models before.frames)) (sym places) ∙ so_far.places) takes.left);
}

pub steps_fall : (models : List BlifModel) (frame : Frame) (before old new : Flattening) → before.frames ≡ old.frames ++ frame ∷ [] → Takes models frame old new → steps_left models new.frames < steps_left models before.frames
steps_fall models frame before old new same takes =
    omega (arith, takes.falls, ap (steps_left models) same, steps_push models old.frames frame)

-- the first frame, and none left
pub flattening_first : (models : List BlifModel) (frame : Frame) (flattening : Flattening) → IsFrame models frame → flattening.defs ≡ [] → flattening.places ≡ [] → flattening.frames ≡ frame ∷ [] → IsFlattening models (frame_left models frame) flattening
flattening_first models frame flattening is defs places frames = record {
  frames = subst (All (IsFrame models)) (sym frames) (All-cons (IsFrame models) frame [] is (All-nil (IsFrame models)));
  defs = ap (λ ds. ds ++ defs_of (entries_left models flattening.frames)) defs ∙ ap (λ fs. defs_of (entries_left models fs)) frames;
  places = ap (λ ps. ps ++ places_of (entries_left models flattening.frames)) places ∙ ap (λ fs. places_of (entries_left models fs)) frames;
}

pub none_left : {X : Type 0} (xs : List X) → (0 < length xs → false ≡ true) → xs ≡ []
none_left [] none = refl
none_left (x ∷ xs) none = absurd (cc (none (omega arith)))

pub flattening_done : (models : List BlifModel) (all : List FlatEntry) (flattening : Flattening) → flattening.frames ≡ [] → IsFlattening models all flattening → (flattening.defs ≡ defs_of all) × (flattening.places ≡ places_of all)
flattening_done models all flattening none is = (
  sym (ap (λ fs. flattening.defs ++ defs_of (entries_left models fs)) none ∙ append-nil flattening.defs) ∙ is.defs,
  sym (ap (λ fs. flattening.places ++ places_of (entries_left models fs)) none ∙ append-nil flattening.places) ∙ is.places,
)

-- the top, whose inputs have the first signals
abbrev pub AreNumbers : List Piece → List (List ℕ × ℕ) → Type 0
AreNumbers words numbers =
    (name : List ℕ) → number_of numbers name ≡ option_map (λ k. 1 + k) (position (λ word. bytes_eq name word.bytes) words)

some_numbered : (o : Option ℕ) → is_some (option_map (λ k. 1 + k) o) ≡ is_some o
some_numbered None = refl
some_numbered (Some n) = refl

told : (t : Bool) (n : ℕ) → is_some (cond t (Some n) None) ≡ t
told true n = refl
told false n = refl

numbered_known : (words : List Piece) (numbers : List (List ℕ × ℕ)) (name : List ℕ) → AreNumbers words numbers → is_some (number_of numbers name) ≡ is_among name words
numbered_known words numbers name are =
    let p = λ (word : Piece). bytes_eq name word.bytes in
    ap is_some (are name)
    ∙ (some_numbered (position p words)
    ∙ (told (nat_lt (position_or_len p words) (length words)) (position_or_len p words) ∙ any_place p words))

number_by : (t : Bool) (n m signal : ℕ) → nat_lt n m ≡ t → option_map (λ k. 1 + k) (cond t (Some n) None) ≡ Some signal → signal ≤ m
number_by false n m signal e h = absurd (cc h)
number_by true n m signal e h =
    let is : 1 + n ≡ signal = some_same (1 + n) signal h in
    let below : n < m = grind (arith, nat_tests) in
    omega (arith, is, below)

numbered_small : (words : List Piece) (numbers : List (List ℕ × ℕ)) (name : List ℕ) (signal : ℕ) → AreNumbers words numbers → number_of numbers name ≡ Some signal → signal ≤ length words
numbered_small words numbers name signal are number =
    let p = λ (word : Piece). bytes_eq name word.bytes in
    number_by (nat_lt (position_or_len p words) (length words)) (position_or_len p words) (length words) signal refl (sym (are name) ∙ number)

input_by : (t : Bool) (n m : ℕ) → nat_lt n m ≡ t → t ≡ true → unwrap_or (option_map (λ k. 1 + k) (cond t (Some n) None)) 0 ≡ 1 + n
input_by true n m e h = refl
input_by false n m e h = absurd (cc h)

numbered_input : (top : BlifModel) (numbers : List (List ℕ × ℕ)) (name : List ℕ) → AreNumbers (inputs_of top) numbers → is_among name (inputs_of top) ≡ true → unwrap_or (number_of numbers name) 0 ≡ input_signal top name
numbered_input top numbers name are among =
    let p = λ (word : Piece). bytes_eq name word.bytes in
    let words = inputs_of top in
    ap (λ o. unwrap_or o 0) (are name)
    ∙ input_by (nat_lt (position_or_len p words) (length words)) (position_or_len p words) (length words) refl (any_place p words ∙ among)

entries_same : (one other : OfNames ℕ) (covers : List FlatCover) → ((path name : List ℕ) → one path name ≡ other path name) → map (flat_entry one) covers ≡ map (flat_entry other) covers
entries_same one other [] same = refl
entries_same one other (cover ∷ covers) same =
    let names = map_same (λ (word : Piece). one cover.0 word.bytes) (λ (word : Piece). other cover.0 word.bytes) cover.1.operands (λ j d below. same cover.0 (get_or cover.1.operands j d).bytes) in
    let here : flat_entry one cover ≡ flat_entry other cover = ap (λ ns. (def.Cover ns cover.1.rows cover.1.on, cover.1.at)) names in
    ap (λ e. e ∷ map (flat_entry one) covers) here ∙ ap (λ es. flat_entry other cover ∷ es) (entries_same one other covers same)

abbrev pub top_at : ℕ → ℕ → List (List ℕ × ℕ) → Frame
top_at depth first inputs = record { model = 0; next = 0; first = first; at = first; depth = depth; inputs = inputs }

pub is_top_frame : (models : List BlifModel) (depth first : ℕ) (inputs : List (List ℕ × ℕ)) → IsTop models depth → first ≡ 1 + length (inputs_of (model_at models 0)) → AreNumbers (inputs_of (model_at models 0)) inputs → IsTopFrame models depth (top_at depth first inputs)
is_top_frame models depth first inputs is at are = record {
  frame_is = record {
    there = is.there;
    within = is.within;
    few = is.few;
    known = λ name. numbered_known (inputs_of top) inputs name are;
    small = λ name signal number. small_input signal (numbered_small (inputs_of top) inputs name signal are number);
    end = omega (arith, at, is.inputs, is.few);
    at = omega arith;
  };
  model = refl;
  signals = signals;
  left = entries_same (frame_signal models (top_at depth first inputs)) (signal_of_top models (suc depth) (model_at models 0)) (flat_covers models (suc depth) (model_at models 0)) signals;
}
  where
    top : BlifModel
    top = model_at models 0

    small_input : (signal : ℕ) → signal ≤ length (inputs_of (model_at models 0)) → signal ≤ most_signals
    small_input signal le = omega (arith, le, is.inputs)

    signals : (path name : List ℕ) → frame_signal models (top_at depth first inputs) path name ≡ signal_of_top models (suc depth) (model_at models 0) path name
    signals path name =
        signal_down_same path (suc depth) models (model_at models 0) (frame_inputs (top_at depth first inputs)) (input_signal (model_at models 0)) first name (λ port among. numbered_input (model_at models 0) inputs port are among)
        ∙ ap (λ n. signal_down models (suc depth) (model_at models 0) (input_signal (model_at models 0)) n path name) at

-- by the keys of a set of names that are those of words
position_mapped : {X Y : Type 0} (p : Y → Bool) (f : X → Y) (xs : List X) → position p (map f xs) ≡ position (λ x. p (f x)) xs
position_mapped p f xs =
    ap (λ n. cond (nat_lt n (length (map f xs))) (Some n) None) (position_or_len-map p f xs)
    ∙ ap (λ m. cond (nat_lt (position_or_len (λ x. p (f x)) xs) m) (Some (position_or_len (λ x. p (f x)) xs)) None) (length-map xs f)

pub numbers_by_keys : (keys : List (Bor (List ℕ))) (words : List Piece) (numbers : List (List ℕ × ℕ)) → map (λ (key : Bor (List ℕ)). key.now) keys ≡ bytes_of words → ((name : List ℕ) → number_of numbers name ≡ option_map (λ k. 1 + k) (position (λ (key : Bor (List ℕ)). bytes_eq name key.now) keys)) → AreNumbers words numbers
numbers_by_keys keys words numbers is are name =
    are name
    ∙ ap (option_map (λ k. 1 + k)) (sym (position_mapped (bytes_eq name) (λ (key : Bor (List ℕ)). key.now) keys) ∙ (ap (position (bytes_eq name)) is ∙ position_mapped (bytes_eq name) (λ (word : Piece). word.bytes) words))

pub map_by_keys : {Y : Type 0} (g : List ℕ → Y) (keys : List (Bor (List ℕ))) (words : List Piece) → map (λ (key : Bor (List ℕ)). key.now) keys ≡ bytes_of words → map (λ (key : Bor (List ℕ)). g key.now) keys ≡ map (λ (word : Piece). g word.bytes) words
map_by_keys g keys words is =
    sym (map-map g (λ (key : Bor (List ℕ)). key.now) keys) ∙ (ap (map g) is ∙ map-map g (λ (word : Piece). word.bytes) words)

-- as many keys as words, and what is so of words
pub keys_long : (keys : List (Bor (List ℕ))) (words : List Piece) → map (λ (key : Bor (List ℕ)). key.now) keys ≡ bytes_of words → length keys ≡ length words
keys_long keys words is =
    sym (length-map keys (λ (key : Bor (List ℕ)). key.now)) ∙ (ap length is ∙ length-map words (λ (word : Piece). word.bytes))

pub all_by_keys : (P : List ℕ → Type 0) (keys : List (Bor (List ℕ))) (words : List Piece) → map (λ (key : Bor (List ℕ)). key.now) keys ≡ bytes_of words → All (λ word. P word.bytes) words → All (λ key. P key.now) keys
all_by_keys P keys words is all k d below =
    let now = λ (key : Bor (List ℕ)). key.now in
    let names = subst (All P) (sym is) (All-map P (λ (word : Piece). word.bytes) words all) in
    subst P (get_or-map now keys k d d.now below) (names k d.now (subst (λ n. k < n) (sym (length-map keys now)) below))

-- the next line of an instance, read, and that there is none
pub line_read : (models : List BlifModel) (frame : Frame) (lines : List ModelLine) (line : ModelLine) → lines ≡ (frame_model models frame).lines → frame.next < length lines → line ≡ get_or lines frame.next line → slice_get (frame_model models frame).lines frame.next ≡ Some line
line_read models frame lines line same below is =
    subst (λ ls. slice_get ls frame.next ≡ Some line) same (slice_get_read lines (length lines) frame.next line refl below is)

pub line_ended : (models : List BlifModel) (frame : Frame) (lines : List ModelLine) → lines ≡ (frame_model models frame).lines → length lines ≤ frame.next → slice_get (frame_model models frame).lines frame.next ≡ None
line_ended models frame lines same past =
    subst (λ ls. slice_get ls frame.next ≡ None) same (slice_get_past lines frame.next past)
