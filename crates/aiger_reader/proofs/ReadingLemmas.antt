-- One line more of a role, the first line, and the whole body.
use Rattle.std.proofs.Common.{◌≡◌, ℕ, zero, suc, ◌+◌, ◌<◌, false, List, [], ◌∷◌, ◌++◌, length, get_or, replicate, refl, sym, ap, subst, ◌∙◌, arith}
use Rattle.std.proofs.lemmas.List.{length-replicate}
use Rattle.text_core.specs.Piece.{Piece}
use Rattle.text_core.specs.Lines.{after_line}
use Rattle.aiger_reader.specs.declared.body.AndLine.{AndLine}
use Rattle.aiger_reader.specs.declared.body.Literals.{Literals}
use Rattle.aiger_reader.specs.Headers.{AigerHeader}
use Rattle.aiger_reader.specs.Bodies.{Role, Input, Output, Gate, roles_of, width_of, defined, AreLines}
use Rattle.aiger_reader.specs.Numbered.{IsSound}
use Rattle.aiger_reader.specs.Reading.{rows_of, input_lines_of, gate_lines_of, IsReading, IsRowRead, HasCounts}
use Rattle.aiger_reader.proofs.PlaceLemmas.{place_first}
use Rattle.aiger_reader.proofs.GoodLemmas.{defined_none, reading_output}
use Rattle.aiger_reader.proofs.RoleLemmas.{length-roles_of, length-rows_of, next_output, rows_input, rows_output, rows_gate}

pub width_some : (role : Role) → 0 < width_of role
width_some Input = omega arith
width_some Output = omega arith
width_some Gate = omega arith

-- the same under other names
pub reading_as : (bytes : List ℕ) (h : AigerHeader) (rows others : List (List ℕ)) (p : Piece) (signals later : List ℕ) (count number : ℕ) → rows ≡ others → signals ≡ later → count ≡ number → IsReading bytes h rows p signals count → IsReading bytes h others p later number
reading_as bytes h rows others p signals later count number one two three reading =
    subst (λ n. IsReading bytes h others p later n) three (subst (λ s. IsReading bytes h others p s count) two (subst (λ r. IsReading bytes h r p signals count) one reading))

pub input_line : (bytes : List ℕ) (h : AigerHeader) (old now new : Literals) (rest : Piece) (signals : List ℕ) (n count : ℕ) (row : List ℕ) → now ≡ old → HasCounts old n 0 0 → length row ≡ 1 → IsReading bytes h (rows_of old ++ row ∷ []) rest signals count → new.inputs.items ≡ now.inputs.items ++ get_or row 0 0 ∷ [] → new.outputs.items ≡ now.outputs.items → new.gates.items ≡ now.gates.items → IsReading bytes h (rows_of new) rest signals count
input_line bytes h old now new rest signals n count row same counts wide reading inputs outputs gates =
    let rows = rows_input old new row wide (inputs ∙ ap (λ (l : Literals). l.inputs.items ++ get_or row 0 0 ∷ []) same) (outputs ∙ ap (λ (l : Literals). l.outputs.items) same) (gates ∙ ap (λ (l : Literals). l.gates.items) same) counts.outputs_read counts.gates_read in
    subst (λ r. IsReading bytes h r rest signals count) (sym rows) reading

pub gate_line : (bytes : List ℕ) (h : AigerHeader) (old now new : Literals) (rest : Piece) (signals : List ℕ) (count : ℕ) (row : List ℕ) → now ≡ old → length row ≡ 3 → IsReading bytes h (rows_of old ++ row ∷ []) rest signals count → new.inputs.items ≡ now.inputs.items → new.outputs.items ≡ now.outputs.items → new.gates.items ≡ now.gates.items ++ (record { lhs = get_or row 0 0; a = get_or row 1 0; b = get_or row 2 0 }) ∷ [] → IsReading bytes h (rows_of new) rest signals count
gate_line bytes h old now new rest signals count row same wide reading inputs outputs gates =
    let gate : AndLine = record { lhs = get_or row 0 0; a = get_or row 1 0; b = get_or row 2 0 } in
    let rows = rows_gate old new row wide (inputs ∙ ap (λ (l : Literals). l.inputs.items) same) (outputs ∙ ap (λ (l : Literals). l.outputs.items) same) (gates ∙ ap (λ (l : Literals). l.gates.items ++ gate ∷ []) same) in
    subst (λ r. IsReading bytes h r rest signals count) (sym rows) reading

pub output_line : (bytes : List ℕ) (h : AigerHeader) (old now new : Literals) (p rest : Piece) (signals later : List ℕ) (n count number : ℕ) (row : List ℕ) → now ≡ old → later ≡ signals → number ≡ count → HasCounts old (input_lines_of h) n 0 → n < h.outputs → length row ≡ 1 → IsReading bytes h (rows_of old) p signals count → IsRowRead bytes h (rows_of old) false row rest → new.inputs.items ≡ now.inputs.items → new.outputs.items ≡ now.outputs.items ++ get_or row 0 0 ∷ [] → new.gates.items ≡ now.gates.items → IsReading bytes h (rows_of new) rest later number
output_line bytes h old now new p rest signals later n count number row same laters numbers counts below wide reading read inputs outputs gates =
    let rows = rows_output old new row wide (inputs ∙ ap (λ (l : Literals). l.inputs.items) same) (outputs ∙ ap (λ (l : Literals). l.outputs.items ++ get_or row 0 0 ∷ []) same) (gates ∙ ap (λ (l : Literals). l.gates.items) same) counts.gates_read in
    reading_as bytes h (rows_of old ++ row ∷ []) (rows_of new) rest signals later count number (sym rows) (sym laters) (sym numbers) (reading_output bytes h (rows_of old) p rest signals count 1 row reading (next_output h old n counts below) wide read)

-- zeros alone
none_there : (n v : ℕ) → ◌≡◌ {A = ℕ} (get_or (replicate n 0) v 0) 0
none_there zero v = refl
none_there (suc n) zero = refl
none_there (suc n) (suc v) = none_there n v

-- after the header no line of the body is read
pub reading_first : (bytes : List ℕ) (h : AigerHeader) (p : Piece) (later : List ℕ) → p ≡ record { bytes = bytes; at = 0 } → later ≡ replicate (h.variables + 1) 0 → IsReading bytes h [] (after_line p) later 0
reading_first bytes h p later start zeros =
    let none : defined (roles_of h) [] ≡ [] = defined_none (roles_of h) in
    let count : length (defined (roles_of h) []) ≡ 0 = ap length none in
    record {
      good = record {
        announced = omega arith;
        there = omega arith;
        written = λ k below. absurd (omega arith);
        good = λ k below. absurd (omega arith);
        distinct = λ i j d before below. absurd (omega arith);
      };
      left = place_first bytes p start;
      numbered = record {
        entries = ap length zeros ∙ length-replicate (h.variables + 1) 0;
        places = λ k below. absurd (omega arith);
        others = λ v some. absurd (omega (arith, ap (λ t. get_or t v 0) zeros, none_there (h.variables + 1) v));
      };
      counted = sym count;
    }

-- where all announced lines are read, they are the body
pub body_read : (bytes : List ℕ) (h : AigerHeader) (literals : Literals) (p : Piece) (signals : List ℕ) (count : ℕ) → HasCounts literals (input_lines_of h) h.outputs (gate_lines_of h) → IsReading bytes h (rows_of literals) p signals count → AreLines bytes h (rows_of literals)
body_read bytes h literals p signals count counts reading =
    record {
      good = reading.good;
      whole = omega (arith, length-rows_of literals, length-roles_of h, counts.inputs_read, counts.outputs_read, counts.gates_read);
    }

pub body_sound : (bytes : List ℕ) (h : AigerHeader) (literals : Literals) (p : Piece) (signals : List ℕ) (count : ℕ) → HasCounts literals (input_lines_of h) h.outputs (gate_lines_of h) → IsReading bytes h (rows_of literals) p signals count → IsSound h literals signals
body_sound bytes h literals p signals count counts reading =
    record {
      counts = counts;
      in_range = λ k below. (reading.good.good k below).in_range;
      numbered = reading.numbered;
    }
