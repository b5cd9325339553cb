-- The slots of the ports, when one more name is given.
use Rattle.std.proofs.Common.{◌≡◌, ◌≢◌, ℕ, zero, suc, ◌<◌, ◌⊎◌, Bool, true, false, List, [], ◌∷◌, ◌++◌, length, get_or, set, All, Option, None, Some, inl, inr, refl, sym, ap, ◌∙◌, subst, arith}
use Rattle.std.proofs.lemmas.List.{get_or_append_left, get_or_push, get_or-set_same, get_or-set_other, length_push, length-set}
use Rattle.std.proofs.lemmas.List.Elements.{All-nil, All-cons, All-push}
use Rattle.std.proofs.lemmas.Bool.Decides.{eqb_tells}
use Rattle.circuits.specs.declared.port.PortKind.{PortKind}
use Rattle.circuits.specs.declared.port.PortKind.TheVariants.{Input, Output}
use Rattle.text_core.specs.Words.{words}
use Rattle.aiger_reader.specs.Symbols.{Port, Entry, NamesPort, AddsName, GivesName, IsThere, IsFree, IsNamed, IsGiven, AreSlots, ArePortSlots, Puts, IsPut, Slots, TakesName, TakesLine, port_at}
use Rattle.aiger_reader.proofs.SymbolLemmas.{named_same}

-- an element of a list with one more at its end
push_cases : (xs : List Entry) (y d : Entry) (k : ℕ) → k < length (xs ++ y ∷ []) → ((k < length xs) × (get_or (xs ++ y ∷ []) k d ≡ get_or xs k d)) ⊎ (get_or (xs ++ y ∷ []) k d ≡ y)
push_cases [] y d zero below = inr refl
push_cases [] y d (suc k) below = absurd (omega arith)
push_cases (x ∷ xs) y d zero below = inl (omega arith, refl)
push_cases (x ∷ xs) y d (suc k) below =
    elim (push_cases xs y d k (omega arith)) [ inl h ↦ inl (omega arith, h.1) | inr h ↦ inr h ]

given_other : (entries : List Entry) (port other : Port) (name : List ℕ) (o : Option (List ℕ)) → IsGiven entries port o → other ≢ port → IsGiven (entries ++ (other, name) ∷ []) port o
given_other entries port other name None given apart =
    All-push (λ (entry : Entry). entry.0 ≢ port) entries (other, name) given apart
given_other entries port other name (Some own) given apart = record {
  place = given.place;
  there = omega (arith, given.there, length_push entries (other, name));
  named = λ d. ap (λ (e : Entry). e.0) (get_or_append_left entries ((other, name) ∷ []) d given.place given.there) ∙ given.named d;
  only = λ k below d is. elim (push_cases entries (other, name) d k below) [
    | inl h ↦ given.only k h.0 d (sym (ap (λ (e : Entry). e.0) h.1) ∙ is) ∙ sym (ap (λ (e : Entry). e.1) h.1)
    | inr h ↦ absurd (apart (sym (ap (λ (e : Entry). e.0) h) ∙ is))
  ];
}

given_now : (entries : List Entry) (port : Port) (name : List ℕ) → IsGiven entries port None → IsNamed (entries ++ (port, name) ∷ []) port name
given_now entries port name none = record {
  place = length entries;
  there = omega (arith, length_push entries (port, name));
  named = λ d. ap (λ (e : Entry). e.0) (get_or_push entries (port, name) d (length entries) refl);
  only = λ k below d is. elim (push_cases entries (port, name) d k below) [
    | inl h ↦ absurd (none k d h.0 (sym (ap (λ (e : Entry). e.0) h.1) ∙ is))
    | inr h ↦ sym (ap (λ (e : Entry). e.1) h)
  ];
}

-- a free port has nothing in its slot
free_slot : (entries : List Entry) (port : Port) (o : Option (List ℕ)) → IsGiven entries port o → All (λ old. old.0 ≢ port) entries → o ≡ None
free_slot entries port None given free = refl
free_slot entries port (Some name) given free =
    let d : Entry = (port, []) in
    absurd (free given.place d given.there (given.named d))

slots_put : (entries : List Entry) (kind : PortKind) (position : ℕ) (name : List ℕ) (old new : List (Option (List ℕ))) → AreSlots entries kind old → Puts old position name new → AreSlots (entries ++ (port_at kind position, name) ∷ []) kind new
slots_put entries kind position name old new slots puts =
    let longer = entries ++ (port_at kind position, name) ∷ [] in
    let P : List (Option (List ℕ)) → Type 0 = λ xs. AreSlots longer kind xs in
    let free : IsGiven entries (port_at kind position) None = let Q : Option (List ℕ) → Type 0 = IsGiven entries (port_at kind position) in subst Q (puts.free None) (slots position None puts.there) in
    subst P (sym puts.put) (λ k d below. elim (eqb_tells k position) [
      | inl (t, e) ↦ let Q : Option (List ℕ) → Type 0 = IsGiven longer (port_at kind k) in
          let R : ℕ → Type 0 = λ n. IsNamed longer (port_at kind n) name in
          let at : get_or (set old position (Some name)) k d ≡ Some name = ap (λ n. get_or (set old position (Some name)) n d) e ∙ get_or-set_same old position (Some name) d puts.there in
          subst Q (sym at) (subst R (sym e) (given_now entries (port_at kind position) name free))
      | inr (f, apart) ↦ let Q : Option (List ℕ) → Type 0 = IsGiven longer (port_at kind k) in
          subst Q (sym (get_or-set_other old position k (Some name) d apart)) (given_other entries (port_at kind k) (port_at kind position) name (get_or old k d) (slots k d (omega (arith, length-set old position (Some name)))) (λ e. apart (sym (ap (λ p. p.position) e))))
    ])

slots_other : (entries : List Entry) (kind other : PortKind) (position : ℕ) (name : List ℕ) (slots : List (Option (List ℕ))) → other ≢ kind → AreSlots entries kind slots → AreSlots (entries ++ (port_at other position, name) ∷ []) kind slots
slots_other entries kind other position name slots apart given = λ k d below.
    given_other entries (port_at kind k) (port_at other position) name (get_or slots k d) (given k d below) (λ e. apart (ap (λ p. p.kind) e))

free_at : (entries : List Entry) (kind : PortKind) (position : ℕ) (name : List ℕ) (old new : List (Option (List ℕ))) → AreSlots entries kind old → Puts old position name new → All (λ e. e.0 ≢ port_at kind position) entries
free_at entries kind position name old new slots puts =
    let Q : Option (List ℕ) → Type 0 = IsGiven entries (port_at kind position) in
    subst Q (puts.free None) (slots position None puts.there)

pub put_input : (put : Bool) (kind : PortKind) (position : ℕ) (name : List ℕ) (inputs outputs new : List (Option (List ℕ))) → kind ≡ Input → IsPut put inputs position name new → (before : List Entry) → ArePortSlots before inputs outputs → TakesName put before (inputs, outputs) (new, outputs) (port_at kind position) name
put_input true Input position name inputs outputs new is puts before ports =
    ((puts.there, free_at before Input position name inputs new ports.input_slots puts), record { input_slots = slots_put before Input position name inputs new ports.input_slots puts; output_slots = slots_other before Output Input position name outputs (λ e. cc) ports.output_slots })
put_input false Input position name inputs outputs new is bad before ports = λ free.
    bad None free.0 (free_slot before (port_at Input position) (get_or inputs position None) (ports.input_slots position None free.0) free.1)
put_input put Output position name inputs outputs new is puts before ports = absurd (cc)

pub put_output : (put : Bool) (kind : PortKind) (position : ℕ) (name : List ℕ) (inputs outputs new : List (Option (List ℕ))) → kind ≡ Output → IsPut put outputs position name new → (before : List Entry) → ArePortSlots before inputs outputs → TakesName put before (inputs, outputs) (inputs, new) (port_at kind position) name
put_output true Output position name inputs outputs new is puts before ports =
    ((puts.there, free_at before Output position name outputs new ports.output_slots puts), record { input_slots = slots_other before Input Output position name inputs (λ e. cc) ports.input_slots; output_slots = slots_put before Output position name outputs new ports.output_slots puts })
put_output false Output position name inputs outputs new is bad before ports = λ free.
    bad None free.0 (free_slot before (port_at Output position) (get_or outputs position None) (ports.output_slots position None free.0) free.1)
put_output put Input position name inputs outputs new is puts before ports = absurd (cc)

pub named_adds : (inputs outputs : ℕ) (line name : List ℕ) (port : Port) (before : List Entry) → NamesPort line port name → IsFree before inputs outputs port → AddsName inputs outputs line before (before ++ (port, name) ∷ [])
named_adds inputs outputs line name port before named free =
    let entry : Entry = (port, name) in
    let P : Entry → Type 0 = λ e. IsThere inputs outputs e.0 in
    let Q : Entry → Type 0 = λ e. All (λ old. old.0 ≢ e.0) before in
    (entry ∷ [], named, All-cons P entry [] free.0 (All-nil P), All-cons Q entry [] free.1 (All-nil Q), refl)

not_of : (inputs outputs : ℕ) (line name : List ℕ) (port : Port) (before new : List Entry) → (words line ≡ [] → ⊥) → NamesPort line port name → (IsFree before inputs outputs port → ⊥) → GivesName line new → All (λ entry. IsThere inputs outputs entry.0) new → All (λ entry. All (λ old. old.0 ≢ entry.0) before) new → ⊥
not_of inputs outputs line name port before [] some named taken gives there fresh = some gives
not_of inputs outputs line name port before (e ∷ []) some named taken gives there fresh =
    let same = named_same line e.1 name e.0 port gives named in
    let P : Port → Type 0 = λ p. IsFree before inputs outputs p in
    taken (subst P same.0 (there 0 e (omega arith), fresh 0 e (omega arith)))
not_of inputs outputs line name port before (e ∷ f ∷ new) some named taken gives there fresh = gives

-- a line that names a port adds nothing where the port isn't free
pub not_added : (inputs outputs : ℕ) (line name : List ℕ) (port : Port) (before after : List Entry) → (words line ≡ [] → ⊥) → NamesPort line port name → (IsFree before inputs outputs port → ⊥) → AddsName inputs outputs line before after → ⊥
not_added inputs outputs line name port before after some named taken adds =
    not_of inputs outputs line name port before adds.0 some named taken adds.1 adds.2 adds.3

-- the line that names a port takes what the port does
pub line_takes : (put : Bool) (line name : List ℕ) (port : Port) (old new : Slots) (before : List Entry) → (words line ≡ [] → ⊥) → NamesPort line port name → TakesName put before old new port name → TakesLine put before old new line
line_takes true line name port old new before some named takes =
    (before ++ (port, name) ∷ [], named_adds (length old.0) (length old.1) line name port before named takes.0, takes.1)
line_takes false line name port old new before some named taken = λ after adds.
    not_added (length old.0) (length old.1) line name port before after some named taken adds
