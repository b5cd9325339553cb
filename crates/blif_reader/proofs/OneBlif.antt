-- For the laws that a file is one netlist at most, or has one first fault at most, and never both.
use Rattle.std.proofs.Common.{◌≡◌, ℕ, ◌≤◌, ◌⊎◌, Bool, List, [], length, take, Some, get_or, inl, inr, sym, ap, subst, ◌∙◌, arith}
use Rattle.text_core.specs.Piece.{Piece}
use Rattle.circuits.specs.declared.port.PortKind.TheVariants.{Input}
use Rattle.circuits.specs.Circuits.{Circuit}
use Rattle.circuits.specs.Expansion.{gates_in}
use Rattle.circuits.specs.Levels.{IsAcyclic}
use Rattle.circuits.proofs.OneOrder.{one_first_looped, acyclic_not_looped}
use Rattle.net_core.specs.Limits.{most_ports}
use Rattle.net_file.specs.declared.fault.NetKind.{NetKind}
use Rattle.net_file.proofs.OneFault.{IsOne, either}
use Rattle.blif_reader.specs.declared.survey.PortWord.{PortWord}
use Rattle.blif_reader.specs.JoinedLines.{word_of}
use Rattle.blif_reader.specs.Firsts.{NoneIs}
use Rattle.blif_reader.specs.Names.{input_words, defined_words, read_words, port_words, repeats_port, is_redefined, is_undefined}
use Rattle.blif_reader.specs.Faults.{is_faulty, line_fault, AreDeclared, AreDistinct, AreDefinedOnce, AreKnown, AreFew, IsAtFirst, IsLineFault, IsPortLineFault, IsPortFault, IsRedefinedFault, IsUndefinedFault, IsInputsFault, IsOutputsFault}
use Rattle.blif_reader.specs.Covers.{blif_circuit, names_lines}
use Rattle.blif_reader.specs.Blif.{blif_lines, AreBlif, IsCycleFault, IsGatesFault, IsFaultOfLines, IsBlif, IsBlifFault}
use Rattle.blif_reader.proofs.FirstLemmas.{one_first, no_first}

pub one_netlist : (bytes : List ℕ) (a b : Circuit) (i o j p : List (List ℕ))
    → IsBlif bytes a i o
    → IsBlif bytes b j p
    → (a ≡ b) × (i ≡ j) × (o ≡ p)
one_netlist bytes a b i o j p one other =
    (one.same ∙ sym other.same, one.input_names_are ∙ sym other.input_names_are, one.output_names_are ∙ sym other.output_names_are)

-- stands where a list has no piece
pub nothing : Piece
nothing = record { bytes = []; at = 0 }

-- each sort of fault is one at most
one_line : (lines : List (List Piece)) → IsOne (IsLineFault lines)
one_line lines f g a b one other =
    let same : one.place ≡ other.place = one_first is_faulty lines [] one.place other.place one.first other.first in
    let kinds : Some f ≡ Some g = sym one.why ∙ (ap (λ k. line_fault (take k lines) (get_or lines k [])) same ∙ other.why) in
    (cc kinds, one.offset ∙ (ap (λ k. (word_of (get_or lines k []) 0).at) same ∙ sym other.offset))

one_port_line : (end : ℕ) (lines : List (List Piece)) → IsOne (IsPortLineFault end lines)
one_port_line end lines f g a b one other = (one.is ∙ sym other.is, one.offset ∙ sym other.offset)

one_at_first : (found : List Piece → Piece → Bool) (words : List Piece) (a b : ℕ) → IsAtFirst found words a → IsAtFirst found words b → a ≡ b
one_at_first found words a b one other =
    one.offset ∙ (ap (λ k. (word_of words k).at) (one_first found words nothing one.place other.place one.first other.first) ∙ sym other.offset)

one_port : (lines : List (List Piece)) → IsOne (IsPortFault lines)
one_port lines f g a b one other =
    let none : PortWord = record { kind = Input; word = nothing } in
    let same : one.place ≡ other.place = one_first repeats_port (port_words lines) none one.place other.place one.first other.first in
    (one.is ∙ sym other.is, one.offset none ∙ (ap (λ k. (get_or (port_words lines) k none).word.at) same ∙ sym (other.offset none)))

one_redefined : (lines : List (List Piece)) → IsOne (IsRedefinedFault lines)
one_redefined lines f g a b one other =
    (one.is ∙ sym other.is, one_at_first (is_redefined (input_words lines)) (defined_words lines) a b one.why other.why)

one_undefined : (lines : List (List Piece)) → IsOne (IsUndefinedFault lines)
one_undefined lines f g a b one other =
    (one.is ∙ sym other.is, one_at_first (is_undefined (input_words lines) (defined_words lines)) (read_words lines) a b one.why other.why)

one_inputs : (lines : List (List Piece)) → IsOne (IsInputsFault lines)
one_inputs lines f g a b one other = (one.is ∙ sym other.is, one.offset ∙ sym other.offset)

one_outputs : (lines : List (List Piece)) → IsOne (IsOutputsFault lines)
one_outputs lines f g a b one other = (one.is ∙ sym other.is, one.offset ∙ sym other.offset)

one_cycle : (lines : List (List Piece)) → IsOne (IsCycleFault lines)
one_cycle lines f g a b one other =
    let same : one.definition ≡ other.definition = one_first_looped (blif_circuit lines) one.definition other.definition one.why other.why in
    (one.is ∙ sym other.is, one.offset ∙ (ap (λ d. (word_of (get_or (names_lines lines) d []) 0).at) same ∙ sym other.offset))

one_gates : (end : ℕ) (lines : List (List Piece)) → IsOne (IsGatesFault end lines)
one_gates end lines f g a b one other = (one.is ∙ sym other.is, one.offset ∙ sym other.offset)

-- the faults from some sort on, and what holds where one of them comes
module _ (end : ℕ) (lines : List (List Piece)) where
  abbrev FromCycle : NetKind → ℕ → Type 0
  FromCycle f a = IsCycleFault lines f a ⊎ IsGatesFault end lines f a

  abbrev FromOutputs : NetKind → ℕ → Type 0
  FromOutputs f a = IsOutputsFault lines f a ⊎ FromCycle f a

  abbrev FromInputs : NetKind → ℕ → Type 0
  FromInputs f a = IsInputsFault lines f a ⊎ FromOutputs f a

  abbrev FromUndefined : NetKind → ℕ → Type 0
  FromUndefined f a = IsUndefinedFault lines f a ⊎ FromInputs f a

  abbrev FromRedefined : NetKind → ℕ → Type 0
  FromRedefined f a = IsRedefinedFault lines f a ⊎ FromUndefined f a

  abbrev FromPorts : NetKind → ℕ → Type 0
  FromPorts f a = IsPortFault lines f a ⊎ FromRedefined f a

  abbrev FromPortLines : NetKind → ℕ → Type 0
  FromPortLines f a = IsPortLineFault end lines f a ⊎ FromPorts f a

  few : (f : NetKind) (a : ℕ) → FromCycle f a → AreFew lines
  few f a (inl fault) = fault.names
  few f a (inr fault) = fault.names

  few_inputs : (f : NetKind) (a : ℕ) → FromOutputs f a → length (input_words lines) ≤ most_ports
  few_inputs f a (inl fault) = fault.few_inputs
  few_inputs f a (inr fault) = (few f a fault).inputs

  known : (f : NetKind) (a : ℕ) → FromInputs f a → AreKnown lines
  known f a (inl fault) = fault.known
  known f a (inr (inl fault)) = fault.known
  known f a (inr (inr fault)) = (few f a fault).known

  single : (f : NetKind) (a : ℕ) → FromUndefined f a → AreDefinedOnce lines
  single f a (inl fault) = fault.single
  single f a (inr fault) = (known f a fault).single

  distinct : (f : NetKind) (a : ℕ) → FromRedefined f a → AreDistinct lines
  distinct f a (inl fault) = fault.distinct
  distinct f a (inr fault) = (single f a fault).distinct

  declared : (f : NetKind) (a : ℕ) → FromPorts f a → AreDeclared lines
  declared f a (inl fault) = fault.declared
  declared f a (inr fault) = (distinct f a fault).declared

  sound : (f : NetKind) (a : ℕ) → FromPortLines f a → NoneIs is_faulty lines
  sound f a (inl fault) = fault.sound
  sound f a (inr fault) = (declared f a fault).sound

  no_line : (f : NetKind) (a : ℕ) → IsLineFault lines f a → NoneIs is_faulty lines → ⊥
  no_line f a fault good = no_first is_faulty lines [] fault.place good fault.first

  no_port : (f : NetKind) (a : ℕ) → IsPortFault lines f a → AreDistinct lines → ⊥
  no_port f a fault good =
      no_first repeats_port (port_words lines) (record { kind = Input; word = nothing }) fault.place good.once fault.first

  no_redefined : (f : NetKind) (a : ℕ) → IsRedefinedFault lines f a → AreDefinedOnce lines → ⊥
  no_redefined f a fault good =
      no_first (is_redefined (input_words lines)) (defined_words lines) nothing fault.why.place good.once fault.why.first

  no_undefined : (f : NetKind) (a : ℕ) → IsUndefinedFault lines f a → AreKnown lines → ⊥
  no_undefined f a fault good =
      no_first (is_undefined (input_words lines) (defined_words lines)) (read_words lines) nothing fault.why.place good.known fault.why.first

  no_inputs : (f : NetKind) (a : ℕ) → IsInputsFault lines f a → length (input_words lines) ≤ most_ports → ⊥
  no_inputs f a fault good = omega (arith, fault.many)

  no_outputs : (f : NetKind) (a : ℕ) → IsOutputsFault lines f a → AreFew lines → ⊥
  no_outputs f a fault good = omega (arith, fault.many, good.outputs)

  no_cycle : (f : NetKind) (a : ℕ) → IsCycleFault lines f a → IsAcyclic (blif_circuit lines) → ⊥
  no_cycle f a fault good = acyclic_not_looped (blif_circuit lines) fault.definition good fault.why

  pub one_fault_of_lines : IsOne (IsFaultOfLines end lines)
  one_fault_of_lines =
      either (IsLineFault lines) FromPortLines (λ f g a b bad later. no_line f a bad (sound g b later)) (one_line lines)
      (either (IsPortLineFault end lines) FromPorts (λ f g a b bad later. bad.missing (declared g b later)) (one_port_line end lines)
      (either (IsPortFault lines) FromRedefined (λ f g a b bad later. no_port f a bad (distinct g b later)) (one_port lines)
      (either (IsRedefinedFault lines) FromUndefined (λ f g a b bad later. no_redefined f a bad (single g b later)) (one_redefined lines)
      (either (IsUndefinedFault lines) FromInputs (λ f g a b bad later. no_undefined f a bad (known g b later)) (one_undefined lines)
      (either (IsInputsFault lines) FromOutputs (λ f g a b bad later. no_inputs f a bad (few_inputs g b later)) (one_inputs lines)
      (either (IsOutputsFault lines) FromCycle (λ f g a b bad later. no_outputs f a bad (few g b later)) (one_outputs lines)
      (either (IsCycleFault lines) (IsGatesFault end lines) (λ f g a b bad later. no_cycle f a bad later.acyclic) (one_cycle lines)
      (one_gates end lines))))))))

  pub lines_or_fault : (circuit : Circuit) (i o : List (List ℕ)) (f : NetKind) (a : ℕ) → AreBlif lines circuit i o → IsFaultOfLines end lines f a → ⊥
  lines_or_fault circuit i o f a is (inl fault) = no_line f a fault is.names.known.single.distinct.declared.sound
  lines_or_fault circuit i o f a is (inr (inl fault)) = fault.missing is.names.known.single.distinct.declared
  lines_or_fault circuit i o f a is (inr (inr (inl fault))) = no_port f a fault is.names.known.single.distinct
  lines_or_fault circuit i o f a is (inr (inr (inr (inl fault)))) = no_redefined f a fault is.names.known.single
  lines_or_fault circuit i o f a is (inr (inr (inr (inr (inl fault))))) = no_undefined f a fault is.names.known
  lines_or_fault circuit i o f a is (inr (inr (inr (inr (inr (inl fault)))))) = no_inputs f a fault is.names.inputs
  lines_or_fault circuit i o f a is (inr (inr (inr (inr (inr (inr (inl fault))))))) = no_outputs f a fault is.names
  lines_or_fault circuit i o f a is (inr (inr (inr (inr (inr (inr (inr (inl fault)))))))) = no_cycle f a fault (subst IsAcyclic is.same is.acyclic)
  lines_or_fault circuit i o f a is (inr (inr (inr (inr (inr (inr (inr (inr fault)))))))) = omega (arith, fault.many, is.few_gates, ap gates_in is.same)

pub one_fault : (bytes : List ℕ) (fault other : NetKind) (at place : ℕ) → IsBlifFault bytes fault at → IsBlifFault bytes other place → (fault ≡ other) × (at ≡ place)
one_fault bytes fault other at place one two =
    one_fault_of_lines (length bytes) (blif_lines bytes) fault other at place one two

pub netlist_or_fault : (bytes : List ℕ) (circuit : Circuit) (i o : List (List ℕ)) (fault : NetKind) (at : ℕ) → IsBlif bytes circuit i o → IsBlifFault bytes fault at → ⊥
netlist_or_fault bytes circuit i o fault at is bad =
    lines_or_fault (length bytes) (blif_lines bytes) circuit i o fault at is bad
