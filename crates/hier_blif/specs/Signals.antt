-- A numbering of the names of all instances, worked out from the top down: which cover of an instance defines a name,
-- and what its inputs are bound to.
use Rattle.std.specs.Prelude.{ℕ, zero, suc, ◌+◌, List, [], ◌∷◌, length, filter, take, Option, None, Some, slice_get, if◌then◌else◌}
use Rattle.std.specs.List.{find, position_or_len}
use Rattle.std.specs.Str.{bytes_eq}
use Rattle.text_core.specs.Piece.{Piece}
use Rattle.hier_blif.specs.declared.model.InstanceLine.{InstanceLine}
use Rattle.hier_blif.specs.declared.model.ModelLine.{ModelLine}
use Rattle.hier_blif.specs.declared.model.ModelLine.TheVariants.{Instance}
use Rattle.hier_blif.specs.declared.model.BlifModel.{BlifModel}
use Rattle.hier_blif.specs.Bindings.{formal_of, actual_of}
use Rattle.hier_blif.specs.Names.{inputs_of, is_among, model_of, binds_output, defined_on}
use Rattle.hier_blif.specs.Nested.{OfNames}
use Rattle.hier_blif.specs.Flattening.{FlatCover, covers_at, covers_from, flat_covers}

-- a part of a word, if there is a word
abbrev pub part_of : (List ℕ → List ℕ) → Option Piece → List ℕ
part_of part None = []
part_of part (Some word) = part word.bytes

-- the output that an instance binds to a name: the first one, or no name where none is
abbrev pub formal_bound : List BlifModel → InstanceLine → List ℕ → List ℕ
formal_bound models line name =
    part_of formal_of (find (λ word. bytes_eq name (actual_of word.bytes)) (filter (binds_output models line) line.bindings))

-- the name to which an instance binds a port: the first one, or no name where it binds none
abbrev pub actual_bound : InstanceLine → List ℕ → List ℕ
actual_bound line port = part_of actual_of (find (λ word. bytes_eq port (formal_of word.bytes)) line.bindings)

-- which of the covers that a line makes defines a name
abbrev pub driver_on : (BlifModel → List ℕ → ℕ) → List BlifModel → ModelLine → List ℕ → ℕ
driver_on below models (Instance line) name = below (model_of models line) (formal_bound models line name)
driver_on below models other name = 0

-- and which of those of lines, of which the first makes the one at this place
abbrev pub driver_from : (BlifModel → List ℕ → ℕ) → (BlifModel → List FlatCover) → List BlifModel → ℕ → List ModelLine → List ℕ → ℕ
driver_from below covers models at [] name = at
driver_from below covers models at (line ∷ lines) name =
    if is_among name (defined_on models line) then at + driver_on below models line name
    else driver_from below covers models (at + length (covers_at covers models 0 line)) lines name

-- which of the covers that a model makes defines a name
abbrev pub driver : List BlifModel → ℕ → BlifModel → List ℕ → ℕ
driver models zero model name = 0
driver models (suc l) model name = driver_from (driver models l) (flat_covers models l) models 0 model.lines name

-- the signal of a name of an instance, whose inputs have these signals, and whose covers the signals from this one on
abbrev pub signal_in : List BlifModel → ℕ → BlifModel → (List ℕ → ℕ) → ℕ → List ℕ → ℕ
signal_in models l model inputs first name =
    if is_among name (inputs_of model) then inputs name
    else first + driver models l model name

-- the signals of the inputs of an instance in it
abbrev pub inner_inputs : List BlifModel → ℕ → BlifModel → (List ℕ → ℕ) → ℕ → InstanceLine → List ℕ → ℕ
inner_inputs models l model inputs first line = λ port. signal_in models l model inputs first (actual_bound line port)

-- the instance of a line
abbrev pub through : Option ModelLine → (InstanceLine → ℕ) → ℕ
through (Some (Instance line)) f = f line
through other f = 0

-- the first signal of the covers of the instance at place k
abbrev pub inner_first : List BlifModel → ℕ → BlifModel → ℕ → ℕ → ℕ
inner_first models l model first k =
    first + length (covers_from (flat_covers models l) models 0 (take k model.lines))

-- the signal of a name of the instance at a path
abbrev pub signal_down : List BlifModel → ℕ → BlifModel → (List ℕ → ℕ) → ℕ → List ℕ → List ℕ → ℕ
signal_down models l model inputs first [] name = signal_in models l model inputs first name
signal_down models zero model inputs first (k ∷ path) name = 0
signal_down models (suc l) model inputs first (k ∷ path) name =
    let inner = inner_inputs models (suc l) model inputs first in
    let begin = inner_first models l model first k in
    through (slice_get model.lines k) (λ line. signal_down models l (model_of models line) (inner line) begin path name)

-- of the top: its inputs are the first signals
abbrev pub input_signal : BlifModel → List ℕ → ℕ
input_signal top name = 1 + position_or_len (λ word. bytes_eq name word.bytes) (inputs_of top)

-- the signal of each name of each instance, by the path that leads to it from the top
abbrev pub signal_of_top : List BlifModel → ℕ → BlifModel → OfNames ℕ
signal_of_top models l top =
    λ path name. signal_down models l top (input_signal top) (1 + length (inputs_of top)) path name
