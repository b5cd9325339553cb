-- Names that are numbered in the order in which they come.
use Rattle.std.specs.Prelude.{◌≡◌, ℕ, ◌<◌, Bool, false, not, List, [], ◌∷◌, ◌++◌, map, filter, take, slice_index_or, if◌then◌else◌}
use Rattle.std.specs.List.{list_any}
use Rattle.std.specs.Str.{bytes_eq}
use Rattle.std.specs.declared.hash.FoldHasher.{FoldHasher}
use Rattle.std.specs.declared.hash.BuildHasherDefault.{BuildHasherDefault}
use Rattle.std.specs.Borrow.{Bor}
use Rattle.indexmap.specs.IndexSet.{IndexSet}
use Rattle.text_core.specs.Piece.{Piece}
use Rattle.circuits.specs.declared.port.PortKind.{PortKind}
use Rattle.circuits.specs.declared.port.PortKind.TheVariants.{Input, Output}
use Rattle.net_file.specs.declared.fault.NetKind.{NetKind}
use Rattle.net_file.specs.declared.fault.NetKind.TheVariants as fault
use Rattle.blif_reader.specs.declared.survey.PortWord.{PortWord}
use Rattle.blif_reader.specs.Firsts.{IsFirst}
use Rattle.blif_reader.specs.Names.{is_same_kind, repeats_port, is_redefined}
use Rattle.blif_reader.specs.Faults.{IsAtFirst}

-- the names, in the order of their numbers
abbrev pub names_of : IndexSet (Bor (List ℕ)) (BuildHasherDefault FoldHasher) → List (List ℕ)
names_of names = map (λ name. name.now) names.keys

-- A name was added at the end, or was there before.
pub record IsAdded (name : List ℕ) (added : Bool) (old new : List (List ℕ)) : Type 0 where
  pub told : added ≡ not (list_any (bytes_eq name) old)
  pub names : new ≡ (if added then old ++ name ∷ [] else old)

-- the bytes of words
abbrev pub bytes_of : List Piece → List (List ℕ)
bytes_of words = map (λ word. word.bytes) words

-- the names of the ports of a kind
abbrev pub port_names : PortKind → List PortWord → List (List ℕ)
port_names kind ports = map (λ port. port.word.bytes) (filter (λ port. is_same_kind port.kind kind) ports)

-- the test finds none of the first elements
abbrev pub NoneBefore : {X : Type 0} → (List X → X → Bool) → List X → ℕ → Type 0
NoneBefore {X} found xs count = (k : ℕ) (d : X) → k < count → found (take k xs) (slice_index_or xs k d) ≡ false

-- The first ports are named, each kind once.
pub record AreNamed (ports : List PortWord) (count : ℕ) (inputs outputs : List (List ℕ)) : Type 0 where
  pub once : NoneBefore repeats_port ports count
  pub inputs_are : inputs ≡ port_names Input (take count ports)
  pub outputs_are : outputs ≡ port_names Output (take count ports)

-- The first of the defined names are numbered after the inputs, each once.
pub record AreDefined (inputs defined : List Piece) (count : ℕ) (names : List (List ℕ)) : Type 0 where
  pub once : NoneBefore (is_redefined inputs) defined count
  pub names_are : names ≡ bytes_of (inputs ++ take count defined)

-- a port's name is that of an earlier one
pub record IsRepeatedPort (ports : List PortWord) (kind : NetKind) (at : ℕ) : Type 0 where
  pub is : kind ≡ fault.DuplicatePort
  pub place : ℕ
  pub first : IsFirst repeats_port ports place
  pub offset : (d : PortWord) → at ≡ (slice_index_or ports place d).word.at

-- a defined name is defined again
pub record IsRepeatedName (inputs defined : List Piece) (kind : NetKind) (at : ℕ) : Type 0 where
  pub is : kind ≡ fault.NameRedefined
  pub why : IsAtFirst (is_redefined inputs) defined at
