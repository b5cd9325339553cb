-- A file is one netlist at most, or has one first fault, and never both.
use Rattle.std.proofs.Common.{◌≡◌, ℕ, ◌+◌, ◌⊎◌, Bool, true, false, List, length, inl, inr, sym, ap, subst, ◌∙◌, arith}
use Rattle.circuits.specs.Circuits.{Circuit}
use Rattle.circuits.specs.Levels.{IsAcyclic, IsFirstLooped}
use Rattle.circuits.proofs.OneOrder.{one_first_looped, acyclic_not_looped}
use Rattle.net_file.specs.declared.fault.NetKind.{NetKind}
use Rattle.net_file.proofs.OneFault.{IsOne, either}
use Rattle.aiger_reader.specs.Headers.{AigerHeader, Begins}
use Rattle.aiger_reader.specs.Bodies.{IsBody, IsBodyFault, IsUndefined, line_offset}
use Rattle.aiger_reader.specs.Deltas.{IsDeltaFault, binary_circuit}
use Rattle.aiger_reader.specs.Numbers.{IsHeaderFault}
use Rattle.aiger_reader.specs.Symbols.{AreNames, IsSymbolFault}
use Rattle.aiger_reader.specs.Aiger.{IsOfForm, IsNetlist, IsAiger, IsLinesFault, IsGatesFault, IsUndefinedFault, IsCycleFault, IsNamesFault, IsAigerFault}
use Rattle.aiger_reader.proofs.HeaderLemmas.{no_clash}
use Rattle.aiger_reader.proofs.OneBody.{one_header, one_body, body_or_fault, one_body_fault, compared}
use Rattle.aiger_reader.proofs.OneDelta.{one_are_gates, gates_or_fault, one_delta_fault}
use Rattle.aiger_reader.proofs.OneSymbols.{names_same, names_or_fault, fault_same}

-- one header, one netlist and one rest
same_form : (binary : Bool) (bytes : List ℕ) (h : AigerHeader) (rows : List (List ℕ)) (c d : Circuit) (r s : List ℕ) → IsOfForm binary bytes h rows c r → IsOfForm binary bytes h rows d s → (c ≡ d) × (r ≡ s)
same_form false bytes h rows c d r s one other = (one.same ∙ sym other.same, one.after ∙ sym other.after)
same_form true bytes h rows c d r s one other =
    let same = one_are_gates bytes r s h one.gates other.gates one.read other.read in
    (one.same ∙ (ap (binary_circuit h rows) same.0 ∙ sym other.same), same.1)

same_net : (bytes : List ℕ) (h : AigerHeader) (c d : Circuit) (r s : List ℕ) → IsNetlist bytes h c r → IsNetlist bytes h d s → (c ≡ d) × (r ≡ s)
same_net bytes h c d r s one other =
    let rows : one.rows ≡ other.rows = one_body bytes h one.rows other.rows one.body other.body in
    same_form h.binary bytes h one.rows c d r s one.form (subst (λ rs. IsOfForm h.binary bytes h rs d s) (sym rows) other.form)

same_begins : (bytes : List ℕ) (h g : AigerHeader) → Begins bytes h → Begins bytes g → h ≡ g
same_begins bytes h g one other = one_header bytes h g one.header other.header

one_file : (bytes : List ℕ) (h g : AigerHeader) (c d : Circuit) (r s : List ℕ) → IsNetlist bytes h c r → IsNetlist bytes g d s → (h ≡ g) × (c ≡ d) × (r ≡ s)
one_file bytes h g c d r s one other =
    let same : h ≡ g = same_begins bytes h g one.begins other.begins in
    let net = same_net bytes h c d r s one (subst (λ k. IsNetlist bytes k d s) (sym same) other) in
    (same, net.0, net.1)

pub one_netlist : (bytes : List ℕ) (a b : Circuit) (i o j p : List (List ℕ)) → IsAiger bytes a i o → IsAiger bytes b j p → (a ≡ b) × (i ≡ j) × (o ≡ p)
one_netlist bytes a b i o j p one other =
    let same = one_file bytes one.h other.h a b one.rest other.rest one.netlist other.netlist in
    let named = subst (λ h. AreNames h.inputs h.outputs one.rest j p) (sym same.0) (subst (λ r. AreNames other.h.inputs other.h.outputs r j p) (sym same.2) other.names) in
    let names = names_same one.h.inputs one.h.outputs one.rest i j o p one.names named in
    (same.1, names.0, names.1)

-- the lines after some accepted header are good
abbrev HasBody : List ℕ → Type 0
HasBody bytes = (h : AigerHeader) × Begins bytes h × (rows : List (List ℕ)) × IsBody bytes h rows

abbrev HasNet : List ℕ → Type 0
HasNet bytes = (h : AigerHeader) × (circuit : Circuit) × (rest : List ℕ) × IsNetlist bytes h circuit rest

net_body : (bytes : List ℕ) → HasNet bytes → HasBody bytes
net_body bytes net = (net.0, net.3.begins, net.3.rows, net.3.body)

-- the stages of the faults exclude one another
no_header : (bytes : List ℕ) (h : AigerHeader) (fault : NetKind) → IsHeaderFault bytes fault → Begins bytes h → ⊥
no_header bytes h fault (inl none) begins = none.1 h begins.header
no_header bytes h fault (inr some) begins =
    let same : some.0 ≡ h = one_header bytes some.0 h some.1 begins.header in
    cc (same, some.2, begins.accepted)

no_lines : (bytes : List ℕ) (fault : NetKind) (at : ℕ) → IsLinesFault bytes fault at → HasBody bytes → ⊥
no_lines bytes fault at lines body =
    let same = same_begins bytes body.0 lines.h body.1 lines.begins in
    body_or_fault bytes lines.h body.2 fault at (subst (λ h. IsBody bytes h body.2) same body.3) lines.why

form_gates : (binary : Bool) (bytes : List ℕ) (h : AigerHeader) (rows : List (List ℕ)) (circuit : Circuit) (rest : List ℕ) (at : ℕ) → binary ≡ true → IsOfForm binary bytes h rows circuit rest → IsDeltaFault bytes h at → ⊥
form_gates false bytes h rows circuit rest at is form fault = no_clash (sym is)
form_gates true bytes h rows circuit rest at is form fault = gates_or_fault bytes rest h form.gates at form.read fault

no_gates : (bytes : List ℕ) (fault : NetKind) (at : ℕ) → IsGatesFault bytes fault at → HasNet bytes → ⊥
no_gates bytes fault at gates net =
    let same = same_begins bytes gates.h net.0 gates.begins net.3.begins in
    let here = subst (λ h. IsNetlist bytes h net.1 net.2) (sym same) net.3 in
    form_gates gates.h.binary bytes gates.h here.rows net.1 net.2 at gates.binary here.form gates.why

form_known : (binary : Bool) (bytes : List ℕ) (h : AigerHeader) (rows : List (List ℕ)) (circuit : Circuit) (rest : List ℕ) (at : ℕ) → binary ≡ false → IsOfForm binary bytes h rows circuit rest → IsUndefined bytes h rows at → ⊥
form_known false bytes h rows circuit rest at is form fault = fault.unknown (form.known fault.place fault.there)
form_known true bytes h rows circuit rest at is form fault = no_clash is

no_undefined : (bytes : List ℕ) (fault : NetKind) (at : ℕ) → IsUndefinedFault bytes fault at → HasNet bytes → ⊥
no_undefined bytes fault at missing net =
    let same = same_begins bytes missing.h net.0 missing.begins net.3.begins in
    let here = subst (λ h. IsNetlist bytes h net.1 net.2) (sym same) net.3 in
    let rows : missing.rows ≡ here.rows = one_body bytes missing.h missing.rows here.rows missing.body here.body in
    form_known missing.h.binary bytes missing.h here.rows net.1 net.2 at missing.text here.form (subst (λ rs. IsUndefined bytes missing.h rs at) rows missing.why)

no_cycle : (bytes : List ℕ) (fault : NetKind) (at : ℕ) (h : AigerHeader) (circuit : Circuit) (rest : List ℕ) → IsCycleFault bytes fault at → IsNetlist bytes h circuit rest → IsAcyclic circuit → ⊥
no_cycle bytes fault at h circuit rest cycle net acyclic =
    let same = one_file bytes cycle.h h cycle.circuit circuit cycle.rest rest cycle.netlist net in
    acyclic_not_looped cycle.circuit cycle.definition (subst IsAcyclic (sym same.1) acyclic) cycle.why

-- the names' fault, for the same ports and rest
names_at : (bytes : List ℕ) (fault : NetKind) (at : ℕ) (h : AigerHeader) (circuit : Circuit) (rest : List ℕ) → IsNetlist bytes h circuit rest → (names : IsNamesFault bytes fault at) → (names.base + length rest ≡ length bytes) × IsSymbolFault h.inputs h.outputs names.base rest at
names_at bytes fault at h circuit rest net names =
    let same = one_file bytes names.h h names.circuit circuit names.rest rest names.netlist net in
    let why = subst (λ g. IsSymbolFault g.inputs g.outputs names.base names.rest at) same.0 names.why in
    (subst (λ r. names.base + length r ≡ length bytes) same.2 names.after, subst (λ r. IsSymbolFault h.inputs h.outputs names.base r at) same.2 why)

pub netlist_or_fault : (bytes : List ℕ) (circuit : Circuit) (i o : List (List ℕ)) (fault : NetKind) (at : ℕ) → IsAiger bytes circuit i o → IsAigerFault bytes fault at → ⊥
netlist_or_fault bytes circuit i o fault at is (inl header) = no_header bytes is.h fault header.0 is.netlist.begins
netlist_or_fault bytes circuit i o fault at is (inr (inl lines)) = no_lines bytes fault at lines (net_body bytes (is.h, circuit, is.rest, is.netlist))
netlist_or_fault bytes circuit i o fault at is (inr (inr (inl gates))) = no_gates bytes fault at gates (is.h, circuit, is.rest, is.netlist)
netlist_or_fault bytes circuit i o fault at is (inr (inr (inr (inl missing)))) = no_undefined bytes fault at missing (is.h, circuit, is.rest, is.netlist)
netlist_or_fault bytes circuit i o fault at is (inr (inr (inr (inr (inl cycle))))) = no_cycle bytes fault at is.h circuit is.rest cycle is.netlist is.acyclic
netlist_or_fault bytes circuit i o fault at is (inr (inr (inr (inr (inr names))))) =
    let here = names_at bytes fault at is.h circuit is.rest is.netlist names in
    names_or_fault is.h.inputs is.h.outputs names.base is.rest i o at is.names here.1

one_header_kind : (bytes : List ℕ) (fault other : NetKind) → IsHeaderFault bytes fault → IsHeaderFault bytes other → fault ≡ other
one_header_kind bytes fault other (inl a) (inl b) = a.0 ∙ sym b.0
one_header_kind bytes fault other (inl a) (inr b) = absurd (a.1 b.0 b.1)
one_header_kind bytes fault other (inr a) (inl b) = absurd (b.1 a.0 a.1)
one_header_kind bytes fault other (inr a) (inr b) =
    let same : a.0 ≡ b.0 = one_header bytes a.0 b.0 a.1 b.1 in
    cc (same, a.2, b.2)

abbrev HeaderStage : List ℕ → NetKind → ℕ → Type 0
HeaderStage bytes fault at = IsHeaderFault bytes fault × (at ≡ 0)

one_at_header : (bytes : List ℕ) → IsOne (HeaderStage bytes)
one_at_header bytes fault other at place one two = (one_header_kind bytes fault other one.0 two.0, one.1 ∙ sym two.1)

one_in_lines : (bytes : List ℕ) → IsOne (IsLinesFault bytes)
one_in_lines bytes fault other at place one two =
    let same = same_begins bytes two.h one.h two.begins one.begins in
    let same_fault = one_body_fault bytes one.h fault other at place one.why (subst (λ h. IsBodyFault bytes h other place) same two.why) in
    (same_fault.0, same_fault.1)

one_in_gates : (bytes : List ℕ) → IsOne (IsGatesFault bytes)
one_in_gates bytes fault other at place one two =
    let same = same_begins bytes two.h one.h two.begins one.begins in
    (one.is_delta ∙ sym two.is_delta, one_delta_fault bytes one.h at place one.why (subst (λ h. IsDeltaFault bytes h place) same two.why))

first_undefined : (bytes : List ℕ) (h : AigerHeader) (rows : List (List ℕ)) (at place : ℕ) → IsUndefined bytes h rows at → IsUndefined bytes h rows place → at ≡ place
first_undefined bytes h rows at place one two =
    elim (compared one.place two.place) [
      | inl less ↦ absurd (one.unknown (two.first one.place less))
      | inr (inl same) ↦ one.offset ∙ (ap (λ k. line_offset bytes (k + 1)) same ∙ sym two.offset)
      | inr (inr more) ↦ absurd (two.unknown (one.first two.place more))
    ]

one_in_undefined : (bytes : List ℕ) → IsOne (IsUndefinedFault bytes)
one_in_undefined bytes fault other at place one two =
    let same = same_begins bytes two.h one.h two.begins one.begins in
    let rows : two.rows ≡ one.rows = one_body bytes one.h two.rows one.rows (subst (λ h. IsBody bytes h two.rows) same two.body) one.body in
    let why = subst (λ rs. IsUndefined bytes one.h rs place) rows (subst (λ h. IsUndefined bytes h two.rows place) same two.why) in
    (one.is_undefined ∙ sym two.is_undefined, first_undefined bytes one.h one.rows at place one.why why)

one_in_cycles : (bytes : List ℕ) → IsOne (IsCycleFault bytes)
one_in_cycles bytes fault other at place one two =
    let same = one_file bytes one.h two.h one.circuit two.circuit one.rest two.rest one.netlist two.netlist in
    let first : one.definition ≡ two.definition = one_first_looped one.circuit one.definition two.definition one.why (subst (λ c. IsFirstLooped c two.definition) (sym same.1) two.why) in
    let line : one.h ≡ two.h → 1 + one.h.inputs + one.h.outputs + one.definition ≡ 1 + two.h.inputs + two.h.outputs + two.definition = λ e. ap (λ h. 1 + h.inputs + h.outputs + one.definition) e ∙ ap (λ d. 1 + two.h.inputs + two.h.outputs + d) first in
    (one.is_cycle ∙ sym two.is_cycle, one.offset ∙ (ap (line_offset bytes) (line same.0) ∙ sym two.offset))

one_in_names : (bytes : List ℕ) → IsOne (IsNamesFault bytes)
one_in_names bytes fault other at place one two =
    let there = names_at bytes other place one.h one.circuit one.rest one.netlist two in
    let base : two.base ≡ one.base = omega (arith, there.0, one.after) in
    let why = subst (λ b. IsSymbolFault one.h.inputs one.h.outputs b one.rest place) base there.1 in
    (one.is_symbol ∙ sym two.is_symbol, fault_same one.h.inputs one.h.outputs one.base one.rest at place one.why why)

abbrev AtNames : List ℕ → NetKind → ℕ → Type 0
AtNames bytes fault at = IsCycleFault bytes fault at ⊎ IsNamesFault bytes fault at

abbrev AtNet : List ℕ → NetKind → ℕ → Type 0
AtNet bytes fault at = IsUndefinedFault bytes fault at ⊎ AtNames bytes fault at

abbrev AtGates : List ℕ → NetKind → ℕ → Type 0
AtGates bytes fault at = IsGatesFault bytes fault at ⊎ AtNet bytes fault at

abbrev AtLines : List ℕ → NetKind → ℕ → Type 0
AtLines bytes fault at = IsLinesFault bytes fault at ⊎ AtGates bytes fault at

has_net : (bytes : List ℕ) (fault : NetKind) (at : ℕ) → AtNames bytes fault at → HasNet bytes
has_net bytes fault at (inl cycle) = (cycle.h, cycle.circuit, cycle.rest, cycle.netlist)
has_net bytes fault at (inr names) = (names.h, names.circuit, names.rest, names.netlist)

has_body : (bytes : List ℕ) (fault : NetKind) (at : ℕ) → AtGates bytes fault at → HasBody bytes
has_body bytes fault at (inl gates) = (gates.h, gates.begins, gates.rows, gates.body)
has_body bytes fault at (inr (inl missing)) = (missing.h, missing.begins, missing.rows, missing.body)
has_body bytes fault at (inr (inr later)) = net_body bytes (has_net bytes fault at later)

has_begun : (bytes : List ℕ) (fault : NetKind) (at : ℕ) → AtLines bytes fault at → (h : AigerHeader) × Begins bytes h
has_begun bytes fault at (inl lines) = (lines.h, lines.begins)
has_begun bytes fault at (inr later) = let body = has_body bytes fault at later in (body.0, body.1)

gates_apart : (bytes : List ℕ) (fault other : NetKind) (at place : ℕ) → IsGatesFault bytes fault at → AtNet bytes other place → ⊥
gates_apart bytes fault other at place gates (inl missing) =
    let same = same_begins bytes gates.h missing.h gates.begins missing.begins in
    no_clash (sym gates.binary ∙ (ap (λ h. h.binary) same ∙ missing.text))
gates_apart bytes fault other at place gates (inr later) = no_gates bytes fault at gates (has_net bytes other place later)

pub one_fault : (bytes : List ℕ) → IsOne (IsAigerFault bytes)
one_fault bytes =
    let names : IsOne (AtNames bytes) = either (IsCycleFault bytes) (IsNamesFault bytes) (λ f g at place cycle later. no_cycle bytes f at later.h later.circuit later.rest cycle later.netlist later.acyclic) (one_in_cycles bytes) (one_in_names bytes) in
    let net : IsOne (AtNet bytes) = either (IsUndefinedFault bytes) (AtNames bytes) (λ f g at place missing later. no_undefined bytes f at missing (has_net bytes g place later)) (one_in_undefined bytes) names in
    let gates : IsOne (AtGates bytes) = either (IsGatesFault bytes) (AtNet bytes) (gates_apart bytes) (one_in_gates bytes) net in
    let lines : IsOne (AtLines bytes) = either (IsLinesFault bytes) (AtGates bytes) (λ f g at place lines later. no_lines bytes f at lines (has_body bytes g place later)) (one_in_lines bytes) gates in
    either (HeaderStage bytes) (AtLines bytes) (λ f g at place header later. let begun = has_begun bytes g place later in no_header bytes begun.0 f header.0 begun.1) (one_at_header bytes) lines
