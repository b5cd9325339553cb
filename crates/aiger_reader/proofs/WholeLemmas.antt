-- What stands between a file's parts and the whole.
use Rattle.std.proofs.Common.{◌≡◌, ℕ, ◌+◌, ◌*◌, ◌<◌, ◌≤◌, Bool, true, false, List, [], ◌∷◌, length, map, drop, inl, inr, if◌then◌else◌, refl, sym, ap, subst, ◌∙◌, arith, length-drop, All}
use Rattle.std.specs.List.{sum_by}
use Rattle.std.proofs.lemmas.List.{drop_min, length-map}
use Rattle.std.proofs.lemmas.List.Sums.{sum_by-cons}
use Rattle.text_core.specs.Lines.{lines}
use Rattle.text_core.specs.Piece.{Piece}
use Rattle.circuits.specs.declared.netlist.Lit.{Lit}
use Rattle.circuits.specs.declared.definition.Def.TheVariants.{And}
use Rattle.circuits.specs.Circuits.{Circuit}
use Rattle.circuits.specs.Expansion.{def_gates, gates_in}
use Rattle.circuits.specs.Levels.{IsAcyclic, IsFirstLooped}
use Rattle.net_core.specs.Limits.{most_gates}
use Rattle.net_file.specs.declared.fault.NetKind.{NetKind}
use Rattle.net_file.specs.declared.fault.NetKind.TheVariants as kind
use Rattle.aiger_reader.specs.declared.limits.Header.{Header}
use Rattle.aiger_reader.specs.declared.body.Literals.{Literals}
use Rattle.aiger_reader.specs.Numbers.{header_of}
use Rattle.aiger_reader.specs.Headers.{AigerHeader}
use Rattle.aiger_reader.specs.Bodies.{roles_of, IsBody, IsFirstFault, IsKnownRow, IsUndefined, lit_from, text_circuit, line_offset}
use Rattle.aiger_reader.specs.Deltas.{BeginsGates, IsPairFault, and_from, after_outputs, binary_circuit}
use Rattle.aiger_reader.specs.Numbered.{IsSound, circuit_from}
use Rattle.aiger_reader.specs.Reading.{rows_of, input_lines_of, gate_lines_of, IsAtLine}
use Rattle.aiger_reader.specs.Aiger.{IsOfForm, IsNetlist, IsAigerFault}
use Rattle.aiger_reader.specs.Symbols.{IsSymbolFault}
use Rattle.aiger_reader.specs.Assembly.{IsBegun, AreLinesRead, IsNetOf, ArePairsBelow, IsBinaryBody}
use Rattle.aiger_reader.proofs.RoleLemmas.{length-rows_of, length-roles_of}
use Rattle.aiger_reader.proofs.NumberingLemmas.{outputs_small}
use Rattle.aiger_reader.proofs.PairLemmas.{file_fault, file_gates}
use Rattle.aiger_reader.proofs.BinaryNetLemmas.{begins_below, binary_is, not_looped}
use Rattle.aiger_reader.proofs.LimitLemmas.{KeepsLimits}
use Rattle.aiger_reader.proofs.NetlistLemmas.{HasSizes, net_sizes}

-- what is left after k lines
pub rest_is : (bytes : List ℕ) (k : ℕ) (p : Piece) → IsAtLine bytes k p → p.bytes ≡ drop (line_offset bytes k) bytes
rest_is bytes k p at =
    at.rest ∙ (ap (λ n. drop n bytes) at.offset ∙ drop_min (line_offset bytes k) bytes)

pub end_is : (bytes : List ℕ) (k : ℕ) (p : Piece) → IsAtLine bytes k p → p.at + length p.bytes ≡ length bytes
end_is bytes k p at =
    omega (arith, at.offset, ap length at.rest, length-drop p.at bytes)

-- a fault of the lines is the file's
pub lines_fault : (bytes : List ℕ) (header : Header) → IsBegun bytes header → (fault : NetKind) (at : ℕ) → IsFirstFault bytes (header_of header []) fault at → IsAigerFault bytes fault at
lines_fault bytes header begun fault at why =
    inr (inl (record { h = header_of header begun.0; begins = begun.1; why = why }))

-- the first line that reads what no line defines is the file's fault
pub undefined_fault : (bytes : List ℕ) (header : Header) (literals : Literals) (signals : List ℕ) (rest : Piece) (at : ℕ) → header.binary ≡ false → IsBegun bytes header → AreLinesRead bytes header literals signals rest → ((properties : List ℕ) → IsUndefined bytes (header_of header properties) (rows_of literals) at) → IsAigerFault bytes kind.Undefined at
undefined_fault bytes header literals signals rest at text begun read why =
    inr (inr (inr (inl (record {
      h = header_of header begun.0;
      begins = begun.1;
      rows = rows_of literals;
      body = read.body;
      text = text;
      is_undefined = refl;
      why = why begun.0;
    }))))

-- a file of a header's form
of_form : (binary form : Bool) (bytes : List ℕ) (h : AigerHeader) (rows : List (List ℕ)) (circuit : Circuit) (rest : List ℕ) → binary ≡ form → IsOfForm form bytes h rows circuit rest → IsOfForm binary bytes h rows circuit rest
of_form binary form bytes h rows circuit rest same is =
    subst (λ t. IsOfForm t bytes h rows circuit rest) (sym same) is

-- the netlist of the ASCII form's lines is the file's
pub text_is : (bytes : List ℕ) (header : Header) (literals : Literals) (signals : List ℕ) (rest : Piece) (circuit : Circuit) → header.binary ≡ false → IsBegun bytes header → AreLinesRead bytes header literals signals rest → ((properties : List ℕ) (k : ℕ) → k < length (rows_of literals) → IsKnownRow (header_of header properties) (rows_of literals) k) → ((properties : List ℕ) → circuit ≡ text_circuit (header_of header properties) (rows_of literals)) → IsNetOf bytes header circuit rest.bytes
text_is bytes header literals signals rest circuit text begun read known same =
    let h = header_of header begun.0 in
    let rows = rows_of literals in
    let lines_read : length rows + 1 ≡ 1 + length rows = omega arith in (
      begun.0,
      record {
        begins = begun.1;
        rows = rows;
        body = read.body;
        form = of_form header.binary false bytes h rows circuit rest.bytes text (record {
          known = known begun.0;
          same = same begun.0;
          after = rest_is bytes (length rows + 1) rest read.left ∙ ap (λ n. drop (line_offset bytes n) bytes) lines_read;
        });
      },
    )

-- what is left after the lines of the binary form begins with the gates
after_is : (bytes : List ℕ) (header : Header) (literals : Literals) (signals : List ℕ) (rest : Piece) (properties : List ℕ) → header.binary ≡ true → AreLinesRead bytes header literals signals rest → rest.bytes ≡ after_outputs bytes (header_of header properties)
after_is bytes header literals signals rest properties binary read =
    let counts = read.sound.counts in
    let no_inputs : length literals.inputs.items ≡ 0 = counts.inputs_read ∙ ap (λ t. if t then 0 else header.inputs) binary in
    let no_gates : length literals.gates.items ≡ 0 = counts.gates_read ∙ ap (λ t. if t then 0 else header.gates) binary in
    let lines_read : length (rows_of literals) + 1 ≡ 1 + header.outputs = omega (arith, length-rows_of literals, counts.outputs_read) in
    rest_is bytes (length (rows_of literals) + 1) rest read.left ∙ ap (λ n. drop (line_offset bytes n) bytes) lines_read

pub delta_fault : (bytes : List ℕ) (header : Header) (literals : Literals) (signals : List ℕ) (rest : Piece) → header.binary ≡ true → IsBegun bytes header → AreLinesRead bytes header literals signals rest → (fault : NetKind) (at : ℕ) → (fault ≡ kind.Delta) × IsPairFault (header.inputs + 1) header.gates rest.bytes (rest.at + length rest.bytes) at → IsAigerFault bytes fault at
delta_fault bytes header literals signals rest binary begun read fault at is =
    let h = header_of header begun.0 in
    inr (inr (inl (record {
      h = h;
      begins = begun.1;
      rows = rows_of literals;
      body = read.body;
      binary = binary;
      is_delta = is.0;
      why = file_fault bytes rest.bytes h header.inputs header.gates (rest.at + length rest.bytes) at (after_is bytes header literals signals rest begun.0 binary read) refl refl (end_is bytes (length (rows_of literals) + 1) rest read.left) is.1;
    })))

-- the netlist of the gates in the binary form is the file's
pub deltas_are : (bytes : List ℕ) (header : Header) (literals : Literals) (signals : List ℕ) (rest : Piece) (after : List ℕ) (circuit : Circuit) (gates : List (ℕ × ℕ)) → header.binary ≡ true → IsBegun bytes header → AreLinesRead bytes header literals signals rest → length gates ≡ header.gates → BeginsGates (header.inputs + 1) rest.bytes gates after → circuit ≡ circuit_from header.inputs (map and_from gates) (map lit_from literals.outputs.items) → IsNetOf bytes header circuit after
deltas_are bytes header literals signals rest after circuit gates binary begun read count begins same =
    let h = header_of header begun.0 in
    let rows = rows_of literals in
    let gates_are = file_gates bytes rest.bytes after h header.inputs gates (after_is bytes header literals signals rest begun.0 binary read) refl count begins in (
      begun.0,
      record {
        begins = begun.1;
        rows = rows;
        body = read.body;
        form = of_form header.binary true bytes h rows circuit after binary (record {
          gates = gates;
          read = gates_are;
          same = same ∙ binary_is h literals gates binary read.sound.counts;
        });
      },
    )

-- the outputs and the gates of the binary form are in range
pub binary_body : (bytes : List ℕ) (header : Header) (literals : Literals) (signals : List ℕ) (rest : Piece) (after outputs : List ℕ) (gates pairs : List (ℕ × ℕ)) → header.binary ≡ true → IsBegun bytes header → AreLinesRead bytes header literals signals rest → length gates ≡ header.gates → BeginsGates (header.inputs + 1) rest.bytes gates after → outputs ≡ literals.outputs.items → pairs ≡ gates → IsBinaryBody header outputs pairs
binary_body bytes header literals signals rest after outputs gates pairs binary begun read count begins outs gates_same =
    let sound = read.sound in
    let h = header_of header [] in
    let small : All (λ literal. literal ≤ 2 * header.variables + 1) literals.outputs.items = λ k d below. outputs_small h literals signals k d sound below in
    record {
      no_gaps = omega (arith, begun.1.header.no_gaps binary);
      outputs_read = ap length outs ∙ sound.counts.outputs_read;
      in_range = subst (All (λ literal. literal ≤ 2 * header.variables + 1)) (sym outs) small;
      gates_read = ap length gates_same ∙ count;
      below = subst (ArePairsBelow (header.inputs + 1)) (sym gates_same) (begins_below (header.inputs + 1) rest.bytes after gates begins);
    }

-- the header's own limits
pub header_limits : (header : Header) (properties : List ℕ) → KeepsLimits (header_of header properties)
header_limits header properties = record {
  latches = refl;
  inputs = header.few_inputs;
  outputs = header.few_outputs;
  gates = header.few_gates;
}

-- all announced lines are read
pub sound_lines : (h : AigerHeader) (literals : Literals) (signals : List ℕ) → IsSound h literals signals → length (rows_of literals) ≡ length (roles_of h)
sound_lines h literals signals sound =
    omega (arith, length-rows_of literals, length-roles_of h, sound.counts.inputs_read, sound.counts.outputs_read, sound.counts.gates_read)

-- an AND gives one gate
one_gate_each : {X : Type 0} (a b : X → Lit) (xs : List X) → sum_by def_gates (map (λ x. And (a x) (b x)) xs) ≡ length xs
one_gate_each {X} a b [] = refl
one_gate_each {X} a b (x ∷ xs) =
    omega (arith, one_gate_each a b xs, sum_by-cons def_gates (And (a x) (b x)) (map (λ y. And (a y) (b y)) xs))

-- a file's netlist has a gate for each definition
pub gates_of_form : (binary : Bool) (bytes : List ℕ) (h : AigerHeader) (rows : List (List ℕ)) (circuit : Circuit) (rest : List ℕ) → IsOfForm binary bytes h rows circuit rest → gates_in circuit ≡ length circuit.defs
gates_of_form false bytes h rows circuit rest form =
    let lines = drop (h.inputs + h.outputs) rows in
    let each : gates_in (text_circuit h rows) ≡ length (text_circuit h rows).defs = one_gate_each _ _ lines ∙ sym (length-map lines _) in
    subst (λ c. gates_in c ≡ length c.defs) (sym form.same) each
gates_of_form true bytes h rows circuit rest form =
    let each : gates_in (binary_circuit h rows form.gates) ≡ length (binary_circuit h rows form.gates).defs = one_gate_each (λ gate. lit_from gate.0) (λ gate. lit_from gate.1) form.gates ∙ sym (length-map form.gates _) in
    subst (λ c. gates_in c ≡ length c.defs) (sym form.same) each

-- a file's netlist has no more gates than the limit of the header
pub few_gates : (bytes : List ℕ) (header : Header) (circuit : Circuit) (rest : List ℕ) → IsNetOf bytes header circuit rest → gates_in circuit ≤ most_gates
few_gates bytes header circuit rest net =
    let h = header_of header net.0 in
    omega (arith, (net_sizes bytes h circuit rest net.1).defs, header.few_gates, gates_of_form h.binary bytes h net.1.rows circuit rest net.1.form)

-- the line of a gate on a cycle is there: in the binary form there is none
loop_line : (binary : Bool) (bytes : List ℕ) (h : AigerHeader) (rows : List (List ℕ)) (circuit : Circuit) (rest : List ℕ) (d : ℕ) → h.binary ≡ binary → IsBody bytes h rows → IsOfForm binary bytes h rows circuit rest → HasSizes h circuit → IsFirstLooped circuit d → 1 + h.inputs + h.outputs + d < length (lines bytes)
loop_line false bytes h rows circuit rest d is body form sizes looped =
    let i : input_lines_of h ≡ h.inputs = ap (λ t. if t then 0 else h.inputs) is in
    let g : gate_lines_of h ≡ h.gates = ap (λ t. if t then 0 else h.gates) is in
    let whole : length rows ≡ length (roles_of h) = body.whole in
    omega (arith, whole, length-roles_of h, i, g, body.good.there, length-drop 1 (lines bytes), looped.there, sizes.defs)
loop_line true bytes h rows circuit rest d is body form sizes looped =
    let variables : h.inputs + 1 ≡ circuit.inputs + 1 = omega (arith, sizes.inputs) in
    let pairs = begins_below (h.inputs + 1) (after_outputs bytes h) rest form.gates form.read.read in
    absurd (not_looped circuit form.gates d (ap (λ c. c.defs) form.same) (subst (λ n. ArePairsBelow n form.gates) variables pairs) looped)

pub loop_there : (bytes : List ℕ) (h : AigerHeader) (circuit : Circuit) (rest : List ℕ) (d : ℕ) → IsNetlist bytes h circuit rest → IsFirstLooped circuit d → 1 + h.inputs + h.outputs + d < length (lines bytes)
loop_there bytes h circuit rest d net looped =
    loop_line h.binary bytes h net.rows circuit rest d refl net.body net.form (net_sizes bytes h circuit rest net) looped

-- a fault of the symbols is the file's
pub names_fault : (bytes : List ℕ) (header : Header) (circuit : Circuit) (rest : Piece) → IsNetOf bytes header circuit rest.bytes → IsAcyclic circuit → rest.at + length rest.bytes ≡ length bytes → (fault : NetKind) (at : ℕ) → (fault ≡ kind.BadSymbol) × IsSymbolFault header.inputs header.outputs rest.at rest.bytes at → IsAigerFault bytes fault at
names_fault bytes header circuit rest net acyclic end fault at is =
    inr (inr (inr (inr (inr (record {
      h = header_of header net.0;
      circuit = circuit;
      rest = rest.bytes;
      base = rest.at;
      netlist = net.1;
      acyclic = acyclic;
      is_symbol = is.0;
      after = end;
      why = is.1;
    })))))
