-- What `flatten` says of the words and of the files, and what it leaves: a file of several models as one flat netlist.
use Rattle.std.specs.Prelude.{◌≡◌, ℕ, ◌≤◌, List, length, take, Option, None, Some}
use Rattle.circuits.specs.Functions.{Computes, as_circuit}
use Rattle.net_core.specs.Limits.{most_bytes}
use Rattle.net_file.specs.declared.named.Named.{Named}
use Rattle.net_print.specs.Files.{aag_text}
use Rattle.aiger_reader.specs.Aiger.{IsAiger}
use Rattle.hier_blif.specs.declared.fault.HierFault.{HierFault}
use Rattle.hier_blif.specs.Hierarchies.{IsHierFault, ReadAs}
use Rattle.check_steps.specs.Held.{HasTooMuch}
use Rattle.check_steps.specs.Words.{AsksFlatten, FlattenRequest}
use Rattle.check_steps.specs.declared.outcome.Which.TheVariants.{First}
use Rattle.check_steps.specs.declared.outcome.Outcome.{Outcome}
use Rattle.check_steps.specs.declared.outcome.Outcome.TheVariants.{Absent, TooLarge, Flattened}

-- what stands under a name isn't read as models: there is no such file, or it has more than 67,108,864 bytes
abbrev pub HasNoModels : Option (List ℕ) → Outcome → Type 0
HasNoModels content (Absent which) = (which ≡ First) × (content ≡ None)
HasNoModels content (TooLarge which) = (which ≡ First) × HasTooMuch content
HasNoModels content other = ⊥

-- The words ask for a file to be flattened, which isn't read as models.
pub record LacksModels (held : List ℕ → Option (List ℕ)) (words : List (List ℕ)) (outcome : Outcome) : Type 0 where
  pub request : FlattenRequest
  pub asks : AsksFlatten words request
  pub lacks : HasNoModels (held request.file) outcome

-- The words ask for a file to be flattened, which has this first fault.
pub record IsBadHierarchy (held : List ℕ → Option (List ℕ)) (words : List (List ℕ)) (fault : HierFault) : Type 0 where
  pub request : FlattenRequest
  pub asks : AsksFlatten words request
  pub file : List ℕ
  pub there : held request.file ≡ Some file
  pub short : length file ≤ most_bytes
  pub first : IsHierFault file fault

-- The words ask for a file of models to be flattened, which has no fault. This is what it is flattened to: a netlist with
-- the names of the top's ports, whose graph has the function of the models, of so many models and instances.
pub record IsFlattenable (held : List ℕ → Option (List ℕ)) (words : List (List ℕ)) (flat : Named)
    (models instances : ℕ) : Type 0 where
  pub request : FlattenRequest
  pub asks : AsksFlatten words request
  pub file : List ℕ
  pub there : held request.file ≡ Some file
  pub short : length file ≤ most_bytes
  pub is : ReadAs file flat.graph flat.input_names flat.output_names models instances

-- The words ask for a file of models to be flattened, which has no fault.
pub record IsAskedToFlatten (held : List ℕ → Option (List ℕ)) (words : List (List ℕ)) : Type 0 where
  pub flat : Named
  pub models : ℕ
  pub instances : ℕ
  pub is : IsFlattenable held words flat models instances

-- the outcome is that a file of models was flattened
abbrev pub IsOfFlatten : Outcome → Type 0
IsOfFlatten outcome =
    (models : ℕ) × (instances : ℕ) × (gates : ℕ) × (outcome ≡ Flattened models instances gates)

-- A file of so many models is flattened to a netlist of so many instances, whose graph has so many gates.
pub record IsFlattenedTo (held : List ℕ → Option (List ℕ)) (words : List (List ℕ))
    (models instances gates : ℕ) : Type 0 where
  pub flat : Named
  pub is : IsFlattenable held words flat models instances
  pub gates_are : gates ≡ length flat.graph.gates

-- The bytes are a netlist as the ASCII form of AIGER has it. Read as a file they are a circuit with the same names, which
-- its graph computes.
pub record IsFileOfFlat (flat : Named) (bytes : List ℕ) : Type 0 where
  pub text : bytes ≡ aag_text flat
  pub file : IsAiger bytes (as_circuit flat.graph) flat.input_names flat.output_names
  pub computes : Computes flat.graph (as_circuit flat.graph)

-- The words ask for a file of models to be flattened, and the new file has the flat netlist.
pub record HasFlattened (before after : List ℕ → Option (List ℕ)) (words : List (List ℕ))
    (models instances gates : ℕ) : Type 0 where
  pub flattening : IsFlattenedTo before words models instances gates
  pub bytes : List ℕ
  pub there : after flattening.is.request.flat ≡ Some bytes
  pub file : IsFileOfFlat flattening.flat bytes

-- The words ask for a file of models to be flattened, and the new file has the first bytes of the flat netlist.
pub record HasPartOfFlattened (before after : List ℕ → Option (List ℕ)) (words : List (List ℕ)) : Type 0 where
  pub flat : Named
  pub models : ℕ
  pub instances : ℕ
  pub is : IsFlattenable before words flat models instances
  pub bytes : List ℕ
  pub file : IsFileOfFlat flat bytes
  pub count : ℕ
  pub part : after is.request.flat ≡ Some (take count bytes)

-- the words ask for a file of models to be flattened into a file of this name
abbrev pub NamesFlattened : List (List ℕ) → List ℕ → Type 0
NamesFlattened words name = (request : FlattenRequest) × AsksFlatten words request × (name ≡ request.flat)
