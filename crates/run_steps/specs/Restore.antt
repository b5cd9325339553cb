-- What `restore` says of the words and of the files, and what it leaves: the second netlist with the first one's ports.
use Rattle.std.specs.Prelude.{◌≡◌, ◌⊎◌, ℕ, ◌≤◌, true, List, length, map, take, Option, Some}
use Rattle.circuits.specs.Circuits.{Circuit}
use Rattle.circuits.specs.Netlists.{Net}
use Rattle.print_laws.specs.Printable.{symbol_name}
use Rattle.aiger_reader.specs.Aiger.{IsAiger}
use Rattle.aiger_reader.specs.Headers.{keyword}
use Rattle.net_core.specs.declared.matching.Matching.{Matching}
use Rattle.account_check.specs.declared.verdict.Verdict.TheVariants as verdict
use Rattle.port_moves.specs.Restored.{ComputeTheSame}
use Rattle.check_steps.specs.Check.{IsAccepted}
use Rattle.check_steps.specs.Held.{Netlist, HasNetlist, HasGraph}
use Rattle.check_steps.specs.Words.{AsksRestore, RestoreRequest, check_words}

-- this is so of the words, or they ask for a netlist to be restored and it is so of a check by the first three names
abbrev pub AsChecked : (List (List ℕ) → Type 0) → List (List ℕ) → Type 0
AsChecked P words =
    P words ⊎ ((request : RestoreRequest) × AsksRestore words request × P (check_words request.first request.second request.account))

-- The words ask for a netlist to be restored, and a check by the first three names accepts the account: it proves that
-- a matching is a match. The second netlist's graph has so many gates.
pub record IsRestorable (held : List ℕ → Option (List ℕ)) (words : List (List ℕ)) (gates : ℕ) : Type 0 where
  pub request : RestoreRequest
  pub asks : AsksRestore words request
  pub matching : Matching
  pub accepted : IsAccepted held (check_words request.first request.second request.account) (verdict.Match matching)
  pub gates_are : gates ≡ length accepted.graphs.second.gates

-- The bytes are a file of the binary form of AIGER: a netlist that has the ports of a first one, in their order and
-- with their names, and computes what it does on every vector. It has so many gates, no more than a second netlist's
-- graph.
pub record IsRestored (first : Netlist) (second : Net) (gates : ℕ) (bytes : List ℕ) : Type 0 where
  pub circuit : Circuit
  pub binary : take 4 bytes ≡ keyword true
  pub file : IsAiger bytes circuit (map symbol_name first.input_names) (map symbol_name first.output_names)
  pub same : ComputeTheSame first.circuit circuit
  pub gates_are : length circuit.defs ≡ gates
  pub no_more : gates ≤ length second.gates

-- The words ask for a netlist to be restored, and the new file has it.
pub record HasRestored (before after : List ℕ → Option (List ℕ)) (words : List (List ℕ)) (gates : ℕ) : Type 0 where
  pub request : RestoreRequest
  pub asks : AsksRestore words request
  pub first : Netlist
  pub second : Net
  pub first_held : HasNetlist (before request.first) first
  pub second_held : HasGraph (before request.second) second
  pub bytes : List ℕ
  pub there : after request.restored ≡ Some bytes
  pub restored : IsRestored first second gates bytes

-- The words ask for a netlist to be restored, and the new file has the first bytes of it.
pub record HasPartOfRestored (before after : List ℕ → Option (List ℕ)) (words : List (List ℕ)) : Type 0 where
  pub request : RestoreRequest
  pub asks : AsksRestore words request
  pub first : Netlist
  pub second : Net
  pub first_held : HasNetlist (before request.first) first
  pub second_held : HasGraph (before request.second) second
  pub gates : ℕ
  pub bytes : List ℕ
  pub restored : IsRestored first second gates bytes
  pub count : ℕ
  pub part : after request.restored ≡ Some (take count bytes)

-- the words ask for a netlist to be restored in a file of this name
abbrev pub NamesRestored : List (List ℕ) → List ℕ → Type 0
NamesRestored words name = (request : RestoreRequest) × AsksRestore words request × (name ≡ request.restored)
