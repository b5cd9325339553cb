-- For numberings: where no name is refused, the names of a model differ.
use Rattle.std.proofs.Common.{◌≡◌, ◌||◌, ◌&&◌, Bool, true, false, cond, ℕ, List, [], ◌∷◌, ◌++◌, map, All, Contains, Some, refl, ap, sym, subst, ◌∙◌}
use Rattle.std.specs.Prelude.{filter, slice_get}
use Rattle.std.specs.List.{flat_map, list_any}
use Rattle.std.specs.Str.{bytes_eq}
use Rattle.std.proofs.lemmas.List.{map-append}
use Rattle.std.proofs.lemmas.List.Elements.{All-nil, All-cons, All-contains, Contains-append_left, Contains-push, filter-append}
use Rattle.text_core.specs.Piece.{Piece}
use Rattle.circuits.specs.declared.port.PortKind.{PortKind}
use Rattle.circuits.specs.declared.port.PortKind.TheVariants.{Input, Output}
use Rattle.blif_reader.specs.declared.survey.PortWord.{PortWord}
use Rattle.blif_reader.specs.Names.{same_name, is_same_kind, named_ports, words_of_kind, repeats_port, is_redefined}
use Rattle.hier_blif.specs.declared.fault.HierKind.TheVariants as wrong
use Rattle.hier_blif.specs.declared.model.InstanceLine.{InstanceLine}
use Rattle.hier_blif.specs.declared.model.ModelLine.{ModelLine}
use Rattle.hier_blif.specs.declared.model.ModelLine.TheVariants.{Inputs, Outputs, Instance}
use Rattle.hier_blif.specs.declared.model.BlifModel.{BlifModel}
use Rattle.hier_blif.specs.Bindings.{formal_of}
use Rattle.hier_blif.specs.LineFaults.{fault_at}
use Rattle.hier_blif.specs.Names.{inputs_on, inputs_of, ports_on, ports_of, all_instances, is_among, defined_in}
use Rattle.hier_blif.specs.NameFaults.{found_after, found_in, port_line_faults, port_faults, model_faults, formal_faults, binds_again, twice_faults, unbound_faults, redefined_faults, name_faults}
use Rattle.hier_blif.proofs.WellNamedLemmas.{both_empty, parts_empty, none_passes, among_all}
use Rattle.hier_blif.proofs.DistinctLemmas.{AreApart, Compares, clear, apart, each_clear}

-- What holds of models in which no name is refused.
pub record AreNamedApart (models : List BlifModel) : Type 0 where
  pub inputs : (model : BlifModel) → Contains models model → AreApart (λ (word : Piece). word.bytes) (inputs_of model)
  pub defined : (model : BlifModel) → Contains models model → AreApart (λ (word : Piece). word.bytes) (defined_in models model)
  pub no_input : (model : BlifModel) → Contains models model → All (λ word. is_among word.bytes (inputs_of model) ≡ false) (defined_in models model)
  pub formals : (model : BlifModel) (k : ℕ) (line : InstanceLine) → Contains models model → slice_get model.lines k ≡ Some (Instance line) → AreApart (λ (word : Piece). formal_of word.bytes) line.bindings

map_empty : {X Y : Type 0} (f : X → Y) (xs : List X) → map f xs ≡ [] → xs ≡ []
map_empty f [] h = refl
map_empty f (x ∷ xs) h = cc h

second_false : (one other : Bool) → (one || other) ≡ false → (one ≡ false) × (other ≡ false)
second_false true other h = absurd (cc h)
second_false false other h = (refl, h)

-- what is defined
redefined_compares : (inputs : List Piece) → Compares (is_redefined inputs) (λ (word : Piece). word.bytes)
redefined_compares inputs = record {
  with_each = λ earlier word h. (second_false (list_any (same_name word) inputs) (list_any (same_name word) earlier) h).1;
}

-- what is bound
again_compares : Compares binds_again (λ (word : Piece). formal_of word.bytes)
again_compares = record { with_each = λ earlier word h. h }

-- ports of a kind
kinds_same : (kind other : PortKind) → is_same_kind kind other ≡ true → kind ≡ other
kinds_same Input Input h = refl
kinds_same Output Output h = refl
kinds_same one other h = cc h

kind_itself : (kind : PortKind) → is_same_kind kind kind ≡ true
kind_itself Input = refl
kind_itself Output = refl

name_differs : (kind other : Bool) → kind ≡ true → (kind && other) ≡ false → other ≡ false
name_differs true other e h = h
name_differs false other e h = cc e

differ_of_kind : (kind : PortKind) (earlier : List PortWord) (port e : PortWord) → Contains earlier e → e.kind ≡ kind → is_same_kind port.kind kind ≡ true → repeats_port earlier port ≡ false → bytes_eq port.word.bytes e.word.bytes ≡ false
differ_of_kind kind earlier port e held is same h =
    let none = All-contains (λ (other : PortWord). (is_same_kind other.kind port.kind && same_name port.word other.word) ≡ false) earlier e (none_passes (λ (other : PortWord). is_same_kind other.kind port.kind && same_name port.word other.word) earlier h) held in
    let kinds : is_same_kind e.kind port.kind ≡ true = ap (λ k. is_same_kind e.kind k) (kinds_same port.kind kind same ∙ sym is) ∙ kind_itself e.kind in
    name_differs (is_same_kind e.kind port.kind) (same_name port.word e.word) kinds none

of_kind_by : (t : Bool) (kind : PortKind) (port e : PortWord) (ports : List PortWord) → is_same_kind port.kind kind ≡ t → (t ≡ true → bytes_eq port.word.bytes e.word.bytes ≡ false) → All (λ (word : Piece). bytes_eq word.bytes e.word.bytes ≡ false) (words_of_kind kind ports) → All (λ (word : Piece). bytes_eq word.bytes e.word.bytes ≡ false) (map (λ (p : PortWord). p.word) (cond t (port ∷ filter (λ (p : PortWord). is_same_kind p.kind kind) ports) (filter (λ (p : PortWord). is_same_kind p.kind kind) ports)))
of_kind_by true kind port e ports is here rest =
    All-cons (λ (word : Piece). bytes_eq word.bytes e.word.bytes ≡ false) port.word (words_of_kind kind ports) (here refl) rest
of_kind_by false kind port e ports is here rest = rest

kind_apart_from : (kind : PortKind) (earlier ports : List PortWord) (e : PortWord) → Contains earlier e → e.kind ≡ kind → found_after repeats_port earlier ports ≡ [] → All (λ (word : Piece). bytes_eq word.bytes e.word.bytes ≡ false) (words_of_kind kind ports)
kind_apart_from kind earlier [] e held is h = All-nil (λ (word : Piece). bytes_eq word.bytes e.word.bytes ≡ false)
kind_apart_from kind earlier (port ∷ ports) e held is h =
    let here = clear repeats_port earlier port ports h in
    of_kind_by (is_same_kind port.kind kind) kind port e ports refl (λ same. differ_of_kind kind earlier port e held is same here.0) (kind_apart_from kind (earlier ++ port ∷ []) ports e (Contains-append_left earlier (port ∷ []) e held) is here.1)

kind_apart_by : (t : Bool) (kind : PortKind) (port : PortWord) (ports : List PortWord) → is_same_kind port.kind kind ≡ t → (t ≡ true → All (λ (word : Piece). bytes_eq word.bytes port.word.bytes ≡ false) (words_of_kind kind ports)) → AreApart (λ (word : Piece). word.bytes) (words_of_kind kind ports) → AreApart (λ (word : Piece). word.bytes) (map (λ (p : PortWord). p.word) (cond t (port ∷ filter (λ (p : PortWord). is_same_kind p.kind kind) ports) (filter (λ (p : PortWord). is_same_kind p.kind kind) ports)))
kind_apart_by true kind port ports is here rest = (here refl, rest)
kind_apart_by false kind port ports is here rest = rest

kind_apart : (kind : PortKind) (earlier ports : List PortWord) → found_after repeats_port earlier ports ≡ [] → AreApart (λ (word : Piece). word.bytes) (words_of_kind kind ports)
kind_apart kind earlier [] h = tt
kind_apart kind earlier (port ∷ ports) h =
    let here = clear repeats_port earlier port ports h in
    kind_apart_by (is_same_kind port.kind kind) kind port ports refl (λ same. kind_apart_from kind (earlier ++ port ∷ []) ports port (Contains-push earlier port) (kinds_same port.kind kind same) here.1) (kind_apart kind (earlier ++ port ∷ []) ports here.1)

-- inputs are the ports of their kind
all_inputs : (words : List Piece) → words_of_kind Input (named_ports Input words) ≡ words
all_inputs [] = refl
all_inputs (word ∷ words) = ap (λ ws. word ∷ ws) (all_inputs words)

no_inputs : (words : List Piece) → words_of_kind Input (named_ports Output words) ≡ []
no_inputs [] = refl
no_inputs (word ∷ words) = no_inputs words

words-append : (one other : List PortWord) → words_of_kind Input (one ++ other) ≡ words_of_kind Input one ++ words_of_kind Input other
words-append one other =
    let test = λ (p : PortWord). is_same_kind p.kind Input in
    ap (map (λ (p : PortWord). p.word)) (filter-append test one other) ∙ map-append (λ (p : PortWord). p.word) (filter test one) (filter test other)

inputs_of_line : (line : ModelLine) → words_of_kind Input (ports_on line) ≡ inputs_on line
inputs_of_line (Inputs words) = all_inputs words
inputs_of_line (Outputs words) = no_inputs words
inputs_of_line other = refl

inputs_among_ports : (lines : List ModelLine) → words_of_kind Input (flat_map ports_on lines) ≡ flat_map inputs_on lines
inputs_among_ports [] = refl
inputs_among_ports (line ∷ lines) =
    words-append (ports_on line) (flat_map ports_on lines)
    ∙ (ap (λ ws. ws ++ words_of_kind Input (flat_map ports_on lines)) (inputs_of_line line)
    ∙ ap (λ ws. inputs_on line ++ ws) (inputs_among_ports lines))

-- models without a fault of names
pub named_apart : (models : List BlifModel) → name_faults models ≡ [] → AreNamedApart models
named_apart models h =
    let lines = all_instances models in
    let one = (both_empty (flat_map port_line_faults models) _ h).1 in
    let two = both_empty (flat_map port_faults models) _ one in
    let three = (both_empty (flat_map (model_faults models) lines) _ two.1).1 in
    let four = (both_empty (flat_map (formal_faults models) lines) _ three).1 in
    let five = both_empty (flat_map twice_faults lines) _ four in
    let six = (both_empty (flat_map (unbound_faults models) lines) _ five.1).1 in
    let seven = both_empty (flat_map (redefined_faults models) models) _ six in
    let ports = parts_empty port_faults models two.0 in
    let twice = parts_empty twice_faults lines five.0 in
    let redefined = parts_empty (redefined_faults models) models seven.0 in
    record {
      inputs = λ model held.
          let none = map_empty (λ (p : PortWord). p.word) (found_in repeats_port (ports_of model)) (map_empty (fault_at wrong.DuplicatePort) _ (All-contains (λ m. port_faults m ≡ []) models model ports held)) in
          subst (AreApart (λ (word : Piece). word.bytes)) (inputs_among_ports model.lines) (kind_apart Input [] (ports_of model) none);
      defined = λ model held.
          let none = map_empty (fault_at wrong.Redefined) _ (All-contains (λ m. redefined_faults models m ≡ []) models model redefined held) in
          apart (is_redefined (inputs_of model)) (λ (word : Piece). word.bytes) [] (defined_in models model) (redefined_compares (inputs_of model)) none;
      no_input = λ model held.
          let none = map_empty (fault_at wrong.Redefined) _ (All-contains (λ m. redefined_faults models m ≡ []) models model redefined held) in
          each_clear (is_redefined (inputs_of model)) (λ word. is_among word.bytes (inputs_of model) ≡ false) [] (defined_in models model) (λ before word h. (second_false (list_any (same_name word) (inputs_of model)) (list_any (same_name word) before) h).0) none;
      formals = λ model k line held get.
          let none = map_empty (fault_at wrong.FormalTwice) _ (All-contains (λ l. twice_faults l ≡ []) (all_instances models) line twice (among_all models model k line held get)) in
          apart binds_again (λ (word : Piece). formal_of word.bytes) [] line.bindings again_compares none;
    }
