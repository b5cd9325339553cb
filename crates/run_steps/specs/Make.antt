-- The pair of netlists that a number gives, and what `make` leaves in the two files that it writes.
use Rattle.std.specs.Prelude.{◌≡◌, ◌⊎◌, ℕ, List, Option, Some, take}
use Rattle.circuits.specs.Functions.{Computes}
use Rattle.circuits.specs.Matches.{IsMatch, IsMatchOfFunctions}
use Rattle.circuits.specs.Netlists.{Net, IsOrdered}
use Rattle.net_core.specs.declared.matching.Matching.{Matching}
use Rattle.gen_pair.specs.declared.pair.GenPair.{GenPair}
use Rattle.gen_pair.specs.Names.{HasNames}
use Rattle.gen_pair.specs.Pairs.{ArePairOf, HasSizes}
use Rattle.net_print.specs.BlifLines.{blif_text}
use Rattle.net_print.specs.Files.{aig_text}
use Rattle.check_steps.specs.Held.{Netlist, HasNetlist}
use Rattle.check_steps.specs.Words.{AsksConvert, AsksFlatten, AsksMake, AsksMatch, AsksRestore, AsksSweep, AsksTrim}
use Rattle.check_steps.specs.Words.{ConvertRequest, FlattenRequest, MatchRequest, MakeRequest, RestoreRequest, SweepRequest, TrimRequest}

-- The pair of a number: two graphs of 64 inputs, 32 outputs and 2,000 gates, and a match of them.
pub record IsPairOf (number : ℕ) (first second : Net) (matching : Matching) : Type 0 where
  pub drawn : ArePairOf number first second matching.inputs matching.outputs
  pub matches : IsMatchOfFunctions first second matching.inputs matching.outputs
  pub first_size : HasSizes first
  pub second_size : HasSizes second

-- A pair of netlists is that of a number, with the names of its ports, and the gates of both stand in order.
pub record IsDrawn (number : ℕ) (pair : GenPair) : Type 0 where
  pub drawn : IsPairOf number pair.first.graph pair.second.graph pair.hidden
  pub first_names : HasNames 97 102 pair.first
  pub second_names : HasNames 112 113 pair.second
  pub first_ordered : IsOrdered pair.first.graph
  pub second_ordered : IsOrdered pair.second.graph

-- What stands under a name is read as a netlist that a graph computes.
pub record HasComputed (content : Option (List ℕ)) (graph : Net) (netlist : Netlist) : Type 0 where
  pub holds : HasNetlist content netlist
  pub computes : Computes graph netlist.circuit

-- The words ask for a pair, and the two files have it, the first netlist in the binary form of AIGER and the second as
-- BLIF: netlists that its graphs compute, and of which its matching is a match.
pub record HasMadePair (held : List ℕ → Option (List ℕ)) (words : List (List ℕ)) : Type 0 where
  pub request : MakeRequest
  pub asks : AsksMake words request
  pub pair : GenPair
  pub drawn : IsDrawn request.number pair
  pub first_there : held request.first ≡ Some (aig_text pair.first)
  pub second_there : held request.second ≡ Some (blif_text pair.second.graph)
  pub first_file : Netlist
  pub second_file : Netlist
  pub first_read : HasComputed (held request.first) pair.first.graph first_file
  pub second_read : HasComputed (held request.second) pair.second.graph second_file
  pub matches : IsMatch first_file.circuit second_file.circuit pair.hidden.inputs pair.hidden.outputs

-- a file is as it was, or has the first bytes of a text
abbrev pub IsCutFrom : List ℕ → Option (List ℕ) → Option (List ℕ) → Type 0
IsCutFrom text before after = (after ≡ before) ⊎ ((count : ℕ) × (after ≡ Some (take count text)))

-- The words ask for a pair, and the writing was cut off: in the first file, before the second was touched, or in the
-- second.
pub record HasPartOfPair (before after : List ℕ → Option (List ℕ)) (words : List (List ℕ)) : Type 0 where
  pub request : MakeRequest
  pub asks : AsksMake words request
  pub pair : GenPair
  pub drawn : IsDrawn request.number pair
  pub part :
      (IsCutFrom (aig_text pair.first) (before request.first) (after request.first) × (after request.second ≡ before request.second))
      ⊎ ((after request.first ≡ Some (aig_text pair.first))
      × IsCutFrom (blif_text pair.second.graph) (before request.second) (after request.second))

-- the words ask for a match, for a pair, for a netlist to be restored, flattened or swept, or for an account to be trimmed or
-- converted: these are written
abbrev pub WriteFiles : List (List ℕ) → Type 0
WriteFiles words =
    ((sought : MatchRequest) × AsksMatch words sought)
    ⊎ ((request : MakeRequest) × AsksMake words request)
    ⊎ ((request : RestoreRequest) × AsksRestore words request)
    ⊎ ((request : TrimRequest) × AsksTrim words request)
    ⊎ ((request : ConvertRequest) × AsksConvert words request)
    ⊎ ((request : FlattenRequest) × AsksFlatten words request)
    ⊎ ((request : SweepRequest) × AsksSweep words request)

-- the words ask for a pair, of which one file has this name
abbrev pub NamesPair : List (List ℕ) → List ℕ → Type 0
NamesPair words name = (request : MakeRequest) × AsksMake words request × ((name ≡ request.first) ⊎ (name ≡ request.second))
