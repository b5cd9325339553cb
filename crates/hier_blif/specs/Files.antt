-- What is known of a file while it is read: the flat circuit of its top, and the graph of that.
use Rattle.std.specs.Prelude.{◌≡◌, ℕ, suc, List, map}
use Rattle.circuits.specs.Netlists.{Net}
use Rattle.circuits.specs.Circuits.{Circuit}
use Rattle.circuits.specs.Functions.{Computes}
use Rattle.circuits.specs.Levels.{IsOrderOf}
use Rattle.blif_reader.specs.Blif.{blif_lines}
use Rattle.net_file.specs.declared.named.Named.{Named}
use Rattle.hier_blif.specs.declared.flattening.Flat.{Flat}
use Rattle.hier_blif.specs.Models.{models_of, top_of}
use Rattle.hier_blif.specs.Names.{inputs_of, outputs_of}
use Rattle.hier_blif.specs.Hierarchies.{AreFew, AreHierarchy, HasFunction}
use Rattle.hier_blif.specs.Frames.{IsFlatOf}

-- The file has no fault but of cycles and gates, and this is its flat circuit.
pub record IsFlatFile (bytes : List ℕ) (flat : Flat) : Type 0 where
  pub depth : ℕ
  pub few : AreFew (blif_lines bytes) (suc depth)
  pub flat_is : IsFlatOf (models_of (blif_lines bytes)) depth flat

-- The file has no fault, and this is the graph of its flat circuit.
pub record IsGraphOf (bytes : List ℕ) (graph : Net) : Type 0 where
  pub depth : ℕ
  pub circuit : Circuit
  pub is : AreHierarchy (blif_lines bytes) depth circuit
  pub numbered : IsOrderOf circuit graph
  pub computes : Computes graph circuit
  pub function : HasFunction (models_of (blif_lines bytes)) (top_of (models_of (blif_lines bytes))) graph

-- And these are its ports' names.
pub record IsNamedOf (bytes : List ℕ) (named : Named) : Type 0 where
  pub graph_is : IsGraphOf bytes named.graph
  pub input_names_are : named.input_names ≡ map (λ word. word.bytes) (inputs_of (top_of (models_of (blif_lines bytes))))
  pub output_names_are : named.output_names ≡ map (λ word. word.bytes) (outputs_of (top_of (models_of (blif_lines bytes))))
