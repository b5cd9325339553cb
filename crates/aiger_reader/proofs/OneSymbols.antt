-- The names of the ports are determined: a text gives one row of names or has one fault, and not both.
use Rattle.std.proofs.Common.{◌≡◌, ◌≢◌, ℕ, zero, suc, ◌+◌, ◌<◌, ◌≤◌, ◌⊎◌, List, [], ◌∷◌, ◌++◌, length, take, get_or, All, inl, inr, refl, sym, ap, ap₂, ◌∙◌, subst, arith}
use Rattle.std.proofs.lemmas.List.{ext_get_or, take_all}
use Rattle.std.proofs.lemmas.List.Elements.{All-nil, All-cons}
use Rattle.std.proofs.lemmas.Bool.Decides.{eqb_tells}
use Rattle.text_core.specs.Lines.{lines, text_of_lines}
use Rattle.circuits.specs.declared.port.PortKind.{PortKind}
use Rattle.circuits.specs.declared.port.PortKind.TheVariants.{Input, Output}
use Rattle.aiger_reader.specs.Symbols.{Port, Entry, GiveNames, AreSymbols, IsSymbolFault, IsNameOf, ArePortNames, AreNames, port_at, symbol_lines}
use Rattle.aiger_reader.proofs.GiveLemmas.{give_same}

-- the symbols of a text give one row of names
pub symbols_same : (inputs outputs : ℕ) (text : List ℕ) (xs ys : List Entry) → AreSymbols inputs outputs text xs → AreSymbols inputs outputs text ys → xs ≡ ys
symbols_same inputs outputs text xs ys =
    give_same inputs outputs (symbol_lines text) [] xs ys

kind_or_not : (a b : PortKind) → (a ≡ b) ⊎ (a ≢ b)
kind_or_not Input Input = inl refl
kind_or_not Input Output = inr (λ e. cc)
kind_or_not Output Input = inr (λ e. cc)
kind_or_not Output Output = inl refl

pub port_or_not : (p q : Port) → (p ≡ q) ⊎ (p ≢ q)
port_or_not p q = elim (kind_or_not p.kind q.kind) [
  | inl e ↦ elim (eqb_tells p.position q.position) [
    | inl (t, f) ↦ inl (ap₂ port_at e f)
    | inr (t, apart) ↦ inr (λ same. apart (ap (λ (r : Port). r.position) same))
  ]
  | inr apart ↦ inr (λ same. apart (ap (λ (r : Port). r.kind) same))
]

-- an entry names the port, or none does
pub named_or_not : (entries : List Entry) (port : Port) → ((k : ℕ) × (k < length entries) × ((d : Entry) → (get_or entries k d).0 ≡ port)) ⊎ All (λ entry. entry.0 ≢ port) entries
named_or_not [] port = inr (All-nil (λ (entry : Entry). entry.0 ≢ port))
named_or_not (entry ∷ entries) port =
    elim (port_or_not entry.0 port) [
      | inl e ↦ inl (zero, omega arith, λ d. e)
      | inr apart ↦ elim (named_or_not entries port) [
        | inl h ↦ inl (suc h.0, omega (arith, h.1), h.2)
        | inr none ↦ inr (All-cons (λ (e : Entry). e.0 ≢ port) entry entries apart none)
      ]
    ]

-- a port has one name
pub name_same : (entries : List Entry) (port : Port) (a b : List ℕ) → IsNameOf entries port a → IsNameOf entries port b → a ≡ b
name_same entries port a b one other =
    elim (named_or_not entries port) [
      | inl h ↦ let d : Entry = (port, []) in
          one.given h.0 h.1 d (h.2 d) ∙ sym (other.given h.0 h.1 d (h.2 d))
      | inr none ↦ one.unnamed none ∙ sym (other.unnamed none)
    ]

-- the ports of a kind have one row of names
pub port_names_same : (entries : List Entry) (kind : PortKind) (count : ℕ) (xs ys : List (List ℕ)) → ArePortNames entries kind count xs → ArePortNames entries kind count ys → xs ≡ ys
port_names_same entries kind count xs ys one other =
    let same : length xs ≡ length ys = one.count_is ∙ sym other.count_is in
    ext_get_or [] xs ys same (λ k below. name_same entries (port_at kind k) (get_or xs k []) (get_or ys k []) (one.each k [] below) (other.each k [] (omega (arith, same, below))))

-- the ports have one row of names by a text
pub names_same : (inputs outputs : ℕ) (text : List ℕ) (i j o p : List (List ℕ)) → AreNames inputs outputs text i o → AreNames inputs outputs text j p → (i ≡ j) × (o ≡ p)
names_same inputs outputs text i j o p one other =
    let same = symbols_same inputs outputs text other.entries one.entries other.symbols one.symbols in
    let P : List Entry → Type 0 = λ xs. ArePortNames xs Input inputs j in
    let Q : List Entry → Type 0 = λ xs. ArePortNames xs Output outputs p in
    (port_names_same one.entries Input inputs i j one.input_names_are (subst P same other.input_names_are), port_names_same one.entries Output outputs o p one.output_names_are (subst Q same other.output_names_are))

-- lines that give names give names as far as any of them
give_front : (inputs outputs n m : ℕ) (all : List (List ℕ)) (before after : List Entry) → n ≤ m → GiveNames inputs outputs (take m all) before after → (some : List Entry) × GiveNames inputs outputs (take n all) before some
give_front inputs outputs zero m all before after within given = (before, refl)
give_front inputs outputs (suc n) zero all before after within given =
    absurd (omega arith)
give_front inputs outputs (suc n) (suc m) [] before after within given = (before, refl)
give_front inputs outputs (suc n) (suc m) (line ∷ all) before after within given =
    let rest = give_front inputs outputs n m all (before ++ given.0) after (omega arith) given.4 in
    (rest.0, (given.0, given.1, given.2, given.3, rest.1))

-- the lines before a fault don't reach after another
not_after : (inputs outputs base : ℕ) (text : List ℕ) (at m : ℕ) (after : List Entry) → (fault : IsSymbolFault inputs outputs base text at) → fault.place < m → GiveNames inputs outputs (take m (symbol_lines text)) [] after → ⊥
not_after inputs outputs base text at m after fault below given =
    let front = give_front inputs outputs (fault.place + 1) m (symbol_lines text) [] after (omega (arith, below)) given in
    fault.bad front.0 front.1

-- no text both gives names and has a fault
pub symbols_or_fault : (inputs outputs base : ℕ) (text : List ℕ) (entries : List Entry) (at : ℕ) → AreSymbols inputs outputs text entries → IsSymbolFault inputs outputs base text at → ⊥
symbols_or_fault inputs outputs base text entries at symbols fault =
    let all = symbol_lines text in
    let P : List (List ℕ) → Type 0 = λ xs. GiveNames inputs outputs xs [] entries in
    not_after inputs outputs base text at (length all) entries fault fault.there (subst P (sym (take_all (length all) all (omega arith))) symbols)

pub names_or_fault : (inputs outputs base : ℕ) (text : List ℕ) (i o : List (List ℕ)) (at : ℕ) → AreNames inputs outputs text i o → IsSymbolFault inputs outputs base text at → ⊥
names_or_fault inputs outputs base text i o at names fault =
    symbols_or_fault inputs outputs base text names.entries at names.symbols fault

place_from : (a b : ℕ) → (a < b → ⊥) → (b < a → ⊥) → a ≡ b
place_from a b less more = omega (arith, less, more)

-- the fault has one place, and one offset
pub fault_same : (inputs outputs base : ℕ) (text : List ℕ) (a b : ℕ) → IsSymbolFault inputs outputs base text a → IsSymbolFault inputs outputs base text b → a ≡ b
fault_same inputs outputs base text a b one other =
    let place = place_from one.place other.place (λ less. not_after inputs outputs base text a other.place other.entries one less other.good) (λ more. not_after inputs outputs base text b one.place one.entries other more one.good) in
    one.offset ∙ (ap (λ n. base + length (text_of_lines (take n (lines text)))) place ∙ sym other.offset)
