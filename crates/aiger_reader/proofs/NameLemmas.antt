-- The names of all ports, from the slots of those that are given.
use Rattle.std.proofs.Common.{◌≡◌, ℕ, List, [], length, get_or, Option, None, Some, refl, sym, ◌∙◌, subst, arith}
use Rattle.circuits.specs.Literals.{EachAt}
use Rattle.circuits.specs.declared.port.PortKind.{PortKind}
use Rattle.circuits.specs.declared.port.PortKind.TheVariants.{Input, Output}
use Rattle.aiger_reader.specs.Symbols.{Port, Entry, IsNameOf, IsGiven, AreSlots, name_or, port_at, ArePortNames, AreSymbols, AreNames}

-- the names at the positions so far
abbrev pub AreSoFar : PortKind → List (Option (List ℕ)) → List (List ℕ) → Type 0
AreSoFar kind slots names = EachAt (λ position name. name ≡ name_or (port_at kind position) (get_or slots position None)) names

name_is : (entries : List Entry) (port : Port) (o : Option (List ℕ)) → IsGiven entries port o → IsNameOf entries port (name_or port o)
name_is entries port None none = record {
  given = λ k below d is. absurd (none k d below is);
  unnamed = λ _. refl;
}
name_is entries port (Some name) named = record {
  given = named.only;
  unnamed = λ all. let d : Entry = (port, []) in
      absurd (all named.place d named.there (named.named d));
}

pub all_named : (kind : PortKind) (slots : List (Option (List ℕ))) (names : List (List ℕ)) → length names ≡ length slots → AreSoFar kind slots names → (entries : List Entry) → AreSlots entries kind slots → ArePortNames entries kind (length slots) names
all_named kind slots names count each entries given = record {
  count_is = count;
  each = λ k d below. let P : List ℕ → Type 0 = IsNameOf entries (port_at kind k) in
      subst P (sym (each k d below)) (name_is entries (port_at kind k) (get_or slots k None) (given k None (omega arith)));
}

pub names_from : (inputs outputs i o : ℕ) (text : List ℕ) (input_slots output_slots : List (Option (List ℕ))) (input_names output_names : List (List ℕ)) (entries : List Entry) → AreSymbols i o text entries → i ≡ inputs → o ≡ outputs → length input_slots ≡ i → length output_slots ≡ o → ArePortNames entries Input (length input_slots) input_names → ArePortNames entries Output (length output_slots) output_names → AreNames inputs outputs text input_names output_names
names_from inputs outputs i o text input_slots output_slots input_names output_names entries symbols same too as_many also ins outs =
    let P : ℕ → Type 0 = λ n. AreSymbols n o text entries in
    let Q : ℕ → Type 0 = λ n. AreSymbols inputs n text entries in
    let R : ℕ → Type 0 = λ n. ArePortNames entries Input n input_names in
    let S : ℕ → Type 0 = λ n. ArePortNames entries Output n output_names in
    record {
      entries = entries;
      symbols = subst Q too (subst P same symbols);
      input_names_are = subst R (as_many ∙ same) ins;
      output_names_are = subst S (also ∙ too) outs;
    }
