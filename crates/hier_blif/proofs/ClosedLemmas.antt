-- The flat circuit names signals that are there, and its rows are as wide as their covers' operands.
use Rattle.std.proofs.Common.{◌≡◌, ℕ, ◌+◌, ◌<◌, true, List, [], length, get_or, map, All, refl, ap, sym, subst, ◌∙◌, arith}
use Rattle.std.specs.Prelude.{nat_lt}
use Rattle.std.proofs.lemmas.Bool.Decides.{nat_tests}
use Rattle.std.proofs.lemmas.List.{length-map}
use Rattle.std.proofs.lemmas.List.Elements.{All-map, All-weaker, All-contains, Contains-get_or}
use Rattle.text_core.specs.Piece.{Piece}
use Rattle.circuits.specs.declared.netlist.Lit.{Lit}
use Rattle.circuits.specs.declared.definition.Trit.{Trit}
use Rattle.circuits.specs.Literals.{signal_of, plain_literal}
use Rattle.circuits.specs.Circuits.{IsClosed, HasWideRows, named_by}
use Rattle.circuits.proofs.Expansions.{signal_of-plain}
use Rattle.hier_blif.specs.declared.model.CoverLine.{CoverLine}
use Rattle.hier_blif.specs.declared.model.BlifModel.{BlifModel}
use Rattle.hier_blif.specs.Names.{inputs_of, outputs_of, covers_of}
use Rattle.hier_blif.specs.Nested.{OfNames, IsInstance}
use Rattle.hier_blif.specs.Flattening.{FlatCover, flat_covers, flat_def, flat_circuit}
use Rattle.hier_blif.specs.Widths.{IsWide, HasWideCovers}
use Rattle.hier_blif.proofs.AgreeLemmas.{IsNameIn, instance_there, outputs_among_read, all_agree}
use Rattle.hier_blif.proofs.FlatCoverLemmas.{cover_among, IsOfInstance, covers_of_instances}
use Rattle.hier_blif.proofs.FlatLemmas.{IsNumbered, operands_among_read}

-- how many signals there are
abbrev count : List BlifModel → BlifModel → ℕ → ℕ
count models top l = 1 + length (inputs_of top) + length (flat_covers models l top)

below_count : (s n : ℕ) → s < n → nat_lt s n ≡ true
below_count s n h = grind (arith, nat_tests)

within_count : (s n : ℕ) → nat_lt s n ≡ true → s < n
within_count s n h = grind (arith, nat_tests)

-- each name of each instance has one of them, since those of inputs and covers are
signal_there : (models : List BlifModel) (top : BlifModel) (l : ℕ) (signal : OfNames ℕ) (path : List ℕ) (model : BlifModel) (name : List ℕ) → IsNumbered models top l signal → IsInstance models top path model → IsNameIn models model name → signal path name < count models top l
signal_there models top l signal path model name n is known =
    within_count (signal path name) (count models top l) (all_agree l models top (λ way word. nat_lt (signal way word) (count models top l)) (λ way word. true) (record {
      well = n.well;
      held = n.held;
      inputs = λ i d below. below_count (signal [] (get_or (inputs_of top) i d).bytes) (count models top l) (subst (λ s. s < count models top l) (sym (n.numbering.inputs i d below)) (omega (arith, below)));
      covers = λ way inside at k d below.
          let line = get_or (covers_of inside) k d in
          let among = cover_among l way models top inside line at n.deep (Contains-get_or (covers_of inside) k d below) in
          let number : signal way line.defined.bytes ≡ 1 + length (inputs_of top) + among.0 = subst (λ (c : FlatCover). signal c.0 c.1.defined.bytes ≡ 1 + length (inputs_of top) + among.0) among.2 (n.numbering.defined among.0 (way, line) among.1) in
          below_count (signal way line.defined.bytes) (count models top l) (subst (λ s. s < count models top l) (sym number) (omega (arith, among.1)));
      one_shared = λ way inside at k line get j d below. ap (λ s. nat_lt s (count models top l)) (n.numbering.shared way inside at k line get j d below);
      other_shared = λ way inside at k line get j d below. refl;
    }) n.deep path model name is known)

-- of a cover
abbrev IsThere : List BlifModel → BlifModel → ℕ → OfNames ℕ → FlatCover → Type 0
IsThere models top l signal cover = All (λ s. s < count models top l) (named_by (flat_def signal cover))

cover_there : (models : List BlifModel) (top : BlifModel) (l : ℕ) (signal : OfNames ℕ) (cover : FlatCover) → IsNumbered models top l signal → IsOfInstance models top cover → IsThere models top l signal cover
cover_there models top l signal cover n is =
    let model = is.0 in
    let known = All-contains (λ (line : CoverLine). All (λ (word : Piece). IsNameIn models model word.bytes) line.operands) (covers_of model) cover.1 (operands_among_read (λ (word : Piece). IsNameIn models model word.bytes) models model.lines (n.well.known model (instance_there models cover.0 top model n.well n.held is.2))) is.1 in
    All-map (λ s. s < count models top l) (λ (word : Piece). signal cover.0 word.bytes) cover.1.operands (All-weaker (λ (word : Piece). IsNameIn models model word.bytes) (λ (word : Piece). signal cover.0 word.bytes < count models top l) (λ word in_model. signal_there models top l signal cover.0 model word.bytes n is.2 in_model) cover.1.operands known)

cover_wide : (models : List BlifModel) (top : BlifModel) (l : ℕ) (signal : OfNames ℕ) (cover : FlatCover) → IsNumbered models top l signal → All HasWideCovers models → IsOfInstance models top cover → HasWideRows (flat_def signal cover)
cover_wide models top l signal cover n wide is =
    let held = instance_there models cover.0 top is.0 n.well n.held is.2 in
    let rows = All-contains IsWide (covers_of is.0) cover.1 (All-contains HasWideCovers models is.0 wide held) is.1 in
    let long = length-map cover.1.operands (λ (word : Piece). signal cover.0 word.bytes) in
    All-weaker (λ (row : List Trit). length row ≡ length cover.1.operands) (λ (row : List Trit). length row ≡ length (map (λ (word : Piece). signal cover.0 word.bytes) cover.1.operands)) (λ row same. same ∙ sym long) cover.1.rows rows

-- and of the circuit
pub closed_flat : (models : List BlifModel) (top : BlifModel) (l : ℕ) (signal : OfNames ℕ) → IsNumbered models top l signal → All HasWideCovers models → IsClosed (flat_circuit top (flat_covers models l top) signal)
closed_flat models top l signal n wide =
    let covers = flat_covers models l top in
    let of_instances = covers_of_instances l models top in
    let signals : 1 + length (inputs_of top) + length (map (flat_def signal) covers) ≡ count models top l = ap (λ k. 1 + length (inputs_of top) + k) (length-map covers (flat_def signal)) in
    let known = outputs_among_read (λ (word : Piece). IsNameIn models top word.bytes) models top.lines (n.well.known top n.held) in
    record {
      defs = All-map (λ d. All (λ s. s < 1 + length (inputs_of top) + length (map (flat_def signal) covers)) (named_by d)) (flat_def signal) covers (All-weaker (IsOfInstance models top) (λ cover. All (λ s. s < 1 + length (inputs_of top) + length (map (flat_def signal) covers)) (named_by (flat_def signal cover))) (λ cover is. subst (λ m. All (λ s. s < m) (named_by (flat_def signal cover))) (sym signals) (cover_there models top l signal cover n is)) covers of_instances);
      rows = All-map HasWideRows (flat_def signal) covers (All-weaker (IsOfInstance models top) (λ cover. HasWideRows (flat_def signal cover)) (λ cover is. cover_wide models top l signal cover n wide is) covers of_instances);
      outputs = All-map (λ (literal : Lit). signal_of literal < 1 + length (inputs_of top) + length (map (flat_def signal) covers)) (λ (word : Piece). plain_literal (signal [] word.bytes)) (outputs_of top) (All-weaker (λ (word : Piece). IsNameIn models top word.bytes) (λ (word : Piece). signal_of (plain_literal (signal [] word.bytes)) < 1 + length (inputs_of top) + length (map (flat_def signal) covers)) (λ word in_model. output_there word (signal_there models top l signal [] top word.bytes n refl in_model)) (outputs_of top) known);
    }
  where
    output_there : (word : Piece) → signal [] word.bytes < count models top l → signal_of (plain_literal (signal [] word.bytes)) < 1 + length (inputs_of top) + length (map (flat_def signal) (flat_covers models l top))
    output_there word below =
        omega (arith, below, signal_of-plain (signal [] word.bytes), length-map (flat_covers models l top) (flat_def signal))
