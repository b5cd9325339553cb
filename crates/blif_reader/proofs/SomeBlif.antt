-- For the law that each list of bytes is a netlist, or has a first fault.
use Rattle.std.proofs.Common.{◌≡◌, ℕ, ◌≤◌, ◌⊎◌, Bool, true, false, List, [], ◌∷◌, ◌++◌, length, map, take, get_or, Option, Some, None, refl, ap, sym, subst, inl, inr, arith, append_assoc, append-nil}
use Rattle.std.specs.Prelude.{is_some}
use Rattle.std.proofs.lemmas.Bool.{cases_lt}
use Rattle.std.proofs.lemmas.List.{get_or_default}
use Rattle.text_core.specs.Piece.{Piece}
use Rattle.circuits.specs.declared.port.PortKind.TheVariants.{Input}
use Rattle.circuits.specs.Circuits.{Circuit}
use Rattle.circuits.specs.Expansion.{gates_in}
use Rattle.circuits.specs.Levels.{IsAcyclic}
use Rattle.circuits.proofs.Looped.{acyclic_or_looped}
use Rattle.net_core.specs.Limits.{most_gates, most_ports}
use Rattle.net_file.specs.declared.fault.NetKind.{NetKind}
use Rattle.net_file.specs.declared.fault.NetKind.TheVariants as fault
use Rattle.blif_reader.specs.declared.survey.PortWord.{PortWord}
use Rattle.blif_reader.specs.JoinedLines.{word_of}
use Rattle.blif_reader.specs.Firsts.{IsFirst, NoneIs}
use Rattle.blif_reader.specs.Directives.{is_inputs, is_outputs}
use Rattle.blif_reader.specs.Names.{input_words, output_words, defined_words, read_words, port_words, repeats_port, is_redefined, is_undefined}
use Rattle.blif_reader.specs.Faults.{has_line, is_faulty, line_fault, AreDeclared, AreDistinct, AreDefinedOnce, AreKnown, AreFew}
use Rattle.blif_reader.specs.Covers.{blif_circuit, names_lines}
use Rattle.blif_reader.specs.Blif.{blif_lines, IsFaultOfLines, IsBlif}
use Rattle.blif_reader.proofs.FirstLemmas.{NoneIs-push, IsFirst-seam}
use Rattle.blif_reader.proofs.OneBlif.{nothing}

-- a test finds a first element, or none
abbrev FirstOrNone : {X : Type 0} → (List X → X → Bool) → List X → Type 0
FirstOrNone found xs = ((place : ℕ) × IsFirst found xs place) ⊎ NoneIs found xs

first_by_test : {X : Type 0} (t : Bool) (found : List X → X → Bool) (before : List X) (x : X) (after : List X)
    → found before x ≡ t
    → NoneIs found before
    → (NoneIs found (before ++ x ∷ []) → FirstOrNone found ((before ++ x ∷ []) ++ after))
    → FirstOrNone found (before ++ x ∷ after)
first_by_test true found before x after e none later = inl (length before, IsFirst-seam found before x after none e)
first_by_test false found before x after e none later =
    subst (FirstOrNone found) (append_assoc before (x ∷ []) after) (later (NoneIs-push found before x none e))

first_after : {X : Type 0} (found : List X → X → Bool) (before after : List X) → NoneIs found before → FirstOrNone found (before ++ after)
first_after found before [] none = inr (subst (NoneIs found) (sym (append-nil before)) none)
first_after found before (x ∷ after) none =
    first_by_test (found before x) found before x after refl none (λ more. first_after found (before ++ x ∷ []) after more)

first_or_none : {X : Type 0} (found : List X → X → Bool) (xs : List X) → FirstOrNone found xs
first_or_none found xs = first_after found [] xs (λ k d below. absurd (omega arith))

some_kind : (found : Option NetKind) → is_some found ≡ true → (kind : NetKind) × (found ≡ Some kind)
some_kind None h = absurd (cc h)
some_kind (Some kind) h = (kind, refl)

module _ (end : ℕ) (lines : List (List Piece)) where
  abbrev HasFault : Type 0
  HasFault = (kind : NetKind) × (at : ℕ) × IsFaultOfLines end lines kind at

  sound : HasFault ⊎ NoneIs is_faulty lines
  sound =
      elim (first_or_none is_faulty lines) [
        | inr none ↦ inr none
        | inl found ↦ let kind = some_kind (line_fault (take found.0 lines) (get_or lines found.0 [])) (found.1.here []) in inl (kind.0, (word_of (get_or lines found.0 []) 0).at, inl (record { place = found.0; first = found.1; why = kind.1; offset = refl }))
      ]

  declared_by_tests : (inputs outputs : Bool) → has_line is_inputs lines ≡ inputs → has_line is_outputs lines ≡ outputs → NoneIs is_faulty lines → HasFault ⊎ AreDeclared lines
  declared_by_tests true true i o none = inr (record { sound = none; inputs = i; outputs = o })
  declared_by_tests false outputs i o none =
      inl (fault.NoPortLine, end, inr (inl (record { sound = none; missing = λ d. absurd (cc (d.inputs, i)); is = refl; offset = refl })))
  declared_by_tests true false i o none =
      inl (fault.NoPortLine, end, inr (inl (record { sound = none; missing = λ d. absurd (cc (d.outputs, o)); is = refl; offset = refl })))

  declared : NoneIs is_faulty lines → HasFault ⊎ AreDeclared lines
  declared none = declared_by_tests (has_line is_inputs lines) (has_line is_outputs lines) refl refl none

  distinct : AreDeclared lines → HasFault ⊎ AreDistinct lines
  distinct declared =
      let none_port : PortWord = record { kind = Input; word = nothing } in
      elim (first_or_none repeats_port (port_words lines)) [
        | inr none ↦ inr (record { declared = declared; once = none })
        | inl found ↦ inl (
          fault.DuplicatePort,
          (get_or (port_words lines) found.0 none_port).word.at,
          inr (inr (inl (record {
            declared = declared;
            is = refl;
            place = found.0;
            first = found.1;
            offset = λ d. ap (λ (p : PortWord). p.word.at) (get_or_default (port_words lines) found.0 none_port d found.1.there);
          }))),
        )
      ]

  once : AreDistinct lines → HasFault ⊎ AreDefinedOnce lines
  once distinct =
      elim (first_or_none (is_redefined (input_words lines)) (defined_words lines)) [
        | inr none ↦ inr (record { distinct = distinct; once = none })
        | inl found ↦ inl (
          fault.NameRedefined,
          (word_of (defined_words lines) found.0).at,
          inr (inr (inr (inl (record {
            distinct = distinct;
            is = refl;
            why = record { place = found.0; first = found.1; offset = refl };
          })))),
        )
      ]

  known : AreDefinedOnce lines → HasFault ⊎ AreKnown lines
  known single =
      elim (first_or_none (is_undefined (input_words lines) (defined_words lines)) (read_words lines)) [
        | inr none ↦ inr (record { single = single; known = none })
        | inl found ↦ inl (
          fault.NameUndefined,
          (word_of (read_words lines) found.0).at,
          inr (inr (inr (inr (inl (record {
            single = single;
            is = refl;
            why = record { place = found.0; first = found.1; offset = refl };
          }))))),
        )
      ]

  few : AreKnown lines → HasFault ⊎ AreFew lines
  few known =
      elim (cases_lt most_ports (length (input_words lines))) [
        | inl many ↦ inl (
          fault.TooManyInputs,
          (word_of (input_words lines) most_ports).at,
          inr (inr (inr (inr (inr (inl (record { known = known; is = refl; many = many; offset = refl })))))),
        )
        | inr few_inputs ↦ elim (cases_lt most_ports (length (output_words lines))) [
          | inl many ↦ inl (
            fault.TooManyOutputs,
            (word_of (output_words lines) most_ports).at,
            inr (inr (inr (inr (inr (inr (inl (record {
              known = known;
              is = refl;
              few_inputs = few_inputs;
              many = many;
              offset = refl;
            }))))))),
          )
          | inr few_outputs ↦ inr (record { known = known; inputs = few_inputs; outputs = few_outputs })
        ]
      ]

  acyclic : AreFew lines → HasFault ⊎ IsAcyclic (blif_circuit lines)
  acyclic few =
      elim (acyclic_or_looped (blif_circuit lines)) [
        | inl levels ↦ inr levels
        | inr looped ↦ inl (
          fault.CoverCycle,
          (word_of (get_or (names_lines lines) looped.0 []) 0).at,
          inr (inr (inr (inr (inr (inr (inr (inl (record {
            names = few;
            is = refl;
            definition = looped.0;
            why = looped.1;
            offset = refl;
          })))))))),
        )
      ]

  few_gates : AreFew lines → IsAcyclic (blif_circuit lines) → HasFault ⊎ (gates_in (blif_circuit lines) ≤ most_gates)
  few_gates few acyclic =
      elim (cases_lt most_gates (gates_in (blif_circuit lines))) [
        | inl many ↦ inl (
          fault.TooManyGates,
          end,
          inr (inr (inr (inr (inr (inr (inr (inr (record {
            names = few;
            acyclic = acyclic;
            is = refl;
            many = many;
            offset = refl;
          })))))))),
        )
        | inr less ↦ inr less
      ]

-- what comes first, and what comes then
or_fault : {F A B : Type 0} → F ⊎ A → (A → F ⊎ B) → F ⊎ B
or_fault (inl bad) then = inl bad
or_fault (inr good) then = then good

-- the netlist with its names, if nothing is wrong
abbrev IsSome : List ℕ → Type 0
IsSome bytes = (circuit : Circuit) × (input_names : List (List ℕ)) × (output_names : List (List ℕ)) × IsBlif bytes circuit input_names output_names

some_netlist : (bytes : List ℕ) → AreFew (blif_lines bytes) → IsAcyclic (blif_circuit (blif_lines bytes)) → gates_in (blif_circuit (blif_lines bytes)) ≤ most_gates → IsSome bytes
some_netlist bytes few acyclic gates =
    let lines = blif_lines bytes in (
      blif_circuit lines,
      map (λ (w : Piece). w.bytes) (input_words lines),
      map (λ (w : Piece). w.bytes) (output_words lines),
      record {
        names = few;
        same = refl;
        acyclic = acyclic;
        few_gates = gates;
        input_names_are = refl;
        output_names_are = refl;
      },
    )

swapped : {A B : Type 0} → A ⊎ B → B ⊎ A
swapped (inl a) = inr a
swapped (inr b) = inl b

pub netlist_or_its_fault : (bytes : List ℕ) → IsSome bytes ⊎ HasFault (length bytes) (blif_lines bytes)
netlist_or_its_fault bytes =
    let end = length bytes in
    let lines = blif_lines bytes in
    let fine : HasFault end lines ⊎ AreFew lines = or_fault (or_fault (or_fault (or_fault (or_fault (sound end lines) (declared end lines)) (distinct end lines)) (once end lines)) (known end lines)) (few end lines) in
    swapped (or_fault fine (λ fine. or_fault (acyclic end lines fine) (λ levels. or_fault (few_gates end lines fine levels) (λ gates. inr (some_netlist bytes fine levels gates)))))
