-- A flat circuit under way: instances whose covers are being added, and what their lines leave to add.
use Rattle.std.specs.Prelude.{◌≡◌, ℕ, zero, suc, ◌+◌, ◌-◌, ◌<◌, ◌≤◌, true, List, [], ◌∷◌, ◌++◌, length, take, drop, map, All, Some, is_some, unwrap_or}
use Rattle.std.specs.List.{sum_by}
use Rattle.circuits.specs.declared.definition.Def.{Def}
use Rattle.net_core.specs.Limits.{most_ports}
use Rattle.hier_blif.specs.declared.model.InstanceLine.{InstanceLine}
use Rattle.hier_blif.specs.declared.model.ModelLine.{ModelLine}
use Rattle.hier_blif.specs.declared.model.ModelLine.TheVariants.{Instance}
use Rattle.hier_blif.specs.declared.model.BlifModel.{BlifModel}
use Rattle.hier_blif.specs.declared.frames.Blocks.{Blocks}
use Rattle.hier_blif.specs.declared.frames.Frame.{Frame}
use Rattle.hier_blif.specs.declared.flattening.Flat.{Flat}
use Rattle.hier_blif.specs.declared.flattening.Flattening.{Flattening}
use Rattle.hier_blif.specs.Bindings.{formal_of, actual_of}
use Rattle.hier_blif.specs.Names.{inputs_of, outputs_of, is_among, model_of, binds_input, names_in}
use Rattle.hier_blif.specs.NameFaults.{name_faults}
use Rattle.hier_blif.specs.Depths.{is_within, covers_within}
use Rattle.hier_blif.specs.Hierarchies.{most_parts}
use Rattle.hier_blif.specs.Nested.{OfNames}
use Rattle.hier_blif.specs.Flattening.{FlatCover, covers_from, flat_covers, flat_def, flat_circuit}
use Rattle.hier_blif.specs.Signals.{signal_down, signal_of_top}
use Rattle.hier_blif.specs.Scopes.{number_of, model_at, IsScope}
use Rattle.hier_blif.specs.Sizes.{AreSizes}
use Rattle.hier_blif.specs.Drivers.{AreDrivers, IsFilled}

-- no more signals than that of the constant, of as many inputs as the limit, and of as many covers
abbrev pub most_signals : ℕ
most_signals = 1 + most_ports + most_parts

abbrev pub models_in : Blocks → List BlifModel
models_in blocks = blocks.scope.now.models.now

-- Models in which no name is refused, with how many covers each makes, and which of them defines a name.
pub record AreBlocks (blocks : Blocks) : Type 0 where
  pub scope : IsScope blocks.scope.now
  pub named : name_faults (models_in blocks) ≡ []
  pub sizes : AreSizes (models_in blocks) blocks.sizes.now
  pub drivers : AreDrivers (models_in blocks) blocks.drivers.now

-- the model of an instance
abbrev pub frame_model : List BlifModel → Frame → BlifModel
frame_model models frame = model_at models frame.model

-- the signals of its inputs, and those of all its names and of the names of instances in it
abbrev pub frame_inputs : Frame → List ℕ → ℕ
frame_inputs frame name = unwrap_or (number_of frame.inputs name) 0

abbrev pub frame_signal : List BlifModel → Frame → OfNames ℕ
frame_signal models frame = λ path name. signal_down models (suc frame.depth) (frame_model models frame) (frame_inputs frame) frame.first path name

-- its own signals
abbrev pub own_signal : List BlifModel → Frame → List ℕ → ℕ
own_signal models frame name = frame_signal models frame [] name

-- a name is one of its model
abbrev pub IsNameOf : List BlifModel → Frame → List ℕ → Type 0
IsNameOf models frame name = is_among name (names_in models (frame_model models frame)) ≡ true

-- An instance whose first lines have made their covers.
pub record IsFrame (models : List BlifModel) (frame : Frame) : Type 0 where
  pub there : frame.model < length models
  pub within : is_within models (suc frame.depth) (frame_model models frame) ≡ true
  pub few : covers_within models (suc frame.depth) (frame_model models frame) ≤ most_parts
  pub known : (name : List ℕ) → is_some (number_of frame.inputs name) ≡ is_among name (inputs_of (frame_model models frame))
  pub small : (name : List ℕ) (signal : ℕ) → number_of frame.inputs name ≡ Some signal → signal ≤ most_signals
  pub end : frame.first + covers_within models (suc frame.depth) (frame_model models frame) ≤ most_signals
  pub at : frame.at ≡ frame.first + length (covers_from (flat_covers models frame.depth) models 0
      (take frame.next (frame_model models frame).lines))

-- a definition, and the offset of its `.names` line
abbrev pub FlatEntry : Type 0
FlatEntry = Def × ℕ

abbrev pub flat_entry : OfNames ℕ → FlatCover → FlatEntry
flat_entry signal cover = (flat_def signal cover, cover.1.at)

abbrev pub defs_of : List FlatEntry → List Def
defs_of entries = map (λ entry. entry.0) entries

abbrev pub places_of : List FlatEntry → List ℕ
places_of entries = map (λ entry. entry.1) entries

-- what the lines left of an instance make
abbrev pub frame_left : List BlifModel → Frame → List FlatEntry
frame_left models frame = map (flat_entry (frame_signal models frame))
    (covers_from (flat_covers models frame.depth) models frame.next (drop frame.next (frame_model models frame).lines))

-- and what those of all instances make: the innermost, which is the last, comes first
abbrev pub entries_left : List BlifModel → List Frame → List FlatEntry
entries_left models [] = []
entries_left models (frame ∷ frames) = entries_left models frames ++ frame_left models frame

-- the steps that a line takes, those of all lines of a model, and those that are left
abbrev pub line_steps : (BlifModel → ℕ) → List BlifModel → ModelLine → ℕ
line_steps below models (Instance line) = 1 + below (model_of models line)
line_steps below models other = 1

abbrev pub model_steps : List BlifModel → ℕ → BlifModel → ℕ
model_steps models zero model = 1
model_steps models (suc l) model = 1 + sum_by (line_steps (model_steps models l) models) model.lines

abbrev pub frame_steps : List BlifModel → Frame → ℕ
frame_steps models frame = 1 + sum_by (line_steps (model_steps models frame.depth) models)
    (drop frame.next (frame_model models frame).lines)

abbrev pub steps_left : List BlifModel → List Frame → ℕ
steps_left models frames = sum_by (frame_steps models) frames

-- What was added, continued by what the instances leave to add, is this.
pub record IsFlattening (models : List BlifModel) (all : List FlatEntry) (flattening : Flattening) : Type 0 where
  pub frames : All (IsFrame models) flattening.frames
  pub defs : flattening.defs ++ defs_of (entries_left models flattening.frames) ≡ defs_of all
  pub places : flattening.places ++ places_of (entries_left models flattening.frames) ≡ places_of all

-- The next line of an instance was taken, which isn't among those that are left.
pub record Takes (models : List BlifModel) (frame : Frame) (old new : Flattening) : Type 0 where
  pub frames : All (IsFrame models) old.frames → All (IsFrame models) new.frames
  pub added : List FlatEntry
  pub defs : new.defs ≡ old.defs ++ defs_of added
  pub places : new.places ≡ old.places ++ places_of added
  pub left : frame_left models frame ++ entries_left models old.frames ≡ added ++ entries_left models new.frames
  pub falls : steps_left models new.frames < frame_steps models frame + steps_left models old.frames

-- an instance after its next line
abbrev pub next_frame : Frame → ℕ → Frame
next_frame frame at = record {
  model = frame.model;
  next = frame.next + 1;
  first = frame.first;
  at = at;
  depth = frame.depth;
  inputs = frame.inputs;
}

-- the instance of a line
abbrev pub inner_frame : Frame → ℕ → List (List ℕ × ℕ) → Frame
inner_frame frame place inputs = record {
  model = place;
  next = 0;
  first = frame.at;
  at = frame.at;
  depth = frame.depth - 1;
  inputs = inputs;
}

-- its inputs have the signals of what they are bound to
abbrev pub AreInputs : List BlifModel → Frame → InstanceLine → List (List ℕ × ℕ) → Type 0
AreInputs models frame line inputs =
    IsFilled (binds_input models line) (λ word. formal_of word.bytes) (λ word. own_signal models frame (actual_of word.bytes)) [] line.bindings inputs

-- what its inputs are bound to is known
abbrev pub KnowsInputs : List BlifModel → Frame → InstanceLine → Type 0
KnowsInputs models frame line =
    All (λ word. binds_input models line word ≡ true → IsNameOf models frame (actual_of word.bytes)) line.bindings

-- The first model is within this depth, and makes no more covers than the limit, and it has no more ports than the
-- limits.
pub record IsTop (models : List BlifModel) (depth : ℕ) : Type 0 where
  pub there : 0 < length models
  pub within : is_within models (suc depth) (model_at models 0) ≡ true
  pub few : covers_within models (suc depth) (model_at models 0) ≤ most_parts
  pub inputs : length (inputs_of (model_at models 0)) ≤ most_ports
  pub outputs : length (outputs_of (model_at models 0)) ≤ most_ports

-- the covers of the first model, and the signals of all names of all instances
abbrev pub first_covers : List BlifModel → ℕ → List FlatCover
first_covers models depth = flat_covers models (suc depth) (model_at models 0)

abbrev pub first_signals : List BlifModel → ℕ → OfNames ℕ
first_signals models depth = signal_of_top models (suc depth) (model_at models 0)

-- The top before its first line.
pub record IsTopFrame (models : List BlifModel) (depth : ℕ) (frame : Frame) : Type 0 where
  pub frame_is : IsFrame models frame
  pub model : frame.model ≡ 0
  pub signals : (path name : List ℕ) → frame_signal models frame path name ≡ first_signals models depth path name
  pub left : frame_left models frame ≡ map (flat_entry (first_signals models depth)) (first_covers models depth)

-- The flat circuit of the first model, and where the `.names` lines of its covers stand.
pub record IsFlatOf (models : List BlifModel) (depth : ℕ) (flat : Flat) : Type 0 where
  pub net : flat.net ≡ flat_circuit (model_at models 0) (first_covers models depth) (first_signals models depth)
  pub places : flat.places ≡ map (λ cover. cover.1.at) (first_covers models depth)
