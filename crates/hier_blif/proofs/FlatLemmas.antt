-- For the law of flattened circuits: the valuations of the flat circuit are the nested ones.
use Rattle.std.proofs.Common.{◌≡◌, ℕ, suc, ◌+◌, ◌<◌, Bool, true, false, List, [], ◌∷◌, ◌++◌, length, map, get_or, All, Contains, refl, ap, sym, subst, ◌∙◌, arith, length-append}
use Rattle.std.specs.List.{flat_map}
use Rattle.std.proofs.lemmas.List.{length-map, get_or-map, get_or_default, get_or_append_left, get_or-append-add}
use Rattle.std.proofs.lemmas.List.Elements.{All-nil, All-cons, All-head, All-tail, All-contains, Contains-get_or}
use Rattle.std.proofs.lemmas.Simd.{map-map}
use Rattle.text_core.specs.Piece.{Piece}
use Rattle.circuits.specs.Literals.{bit, plain_literal, literal_bit}
use Rattle.circuits.specs.Netlists.{Net}
use Rattle.circuits.specs.Circuits.{Circuit, FitsCircuit, def_bit, cover_bit, circuit_outputs}
use Rattle.circuits.specs.Functions.{Computes}
use Rattle.circuits.specs.Levels.{IsAcyclic}
use Rattle.circuits.proofs.CircuitValuations.{some_valuation, one_valuation}
use Rattle.circuits.proofs.Expansions.{literal_bit-plain}
use Rattle.circuits.proofs.Lists.{All-front, All-back}
use Rattle.hier_blif.specs.declared.model.CoverLine.{CoverLine}
use Rattle.hier_blif.specs.declared.model.ModelLine.{ModelLine}
use Rattle.hier_blif.specs.declared.model.ModelLine.TheVariants.{Cover}
use Rattle.hier_blif.specs.declared.model.BlifModel.{BlifModel}
use Rattle.hier_blif.specs.Models.{no_name}
use Rattle.hier_blif.specs.Names.{inputs_of, outputs_of, covers_on, covers_of, read_on}
use Rattle.hier_blif.specs.Depths.{is_within}
use Rattle.hier_blif.specs.Nested.{OfNames, cover_value, FitsNested, nested_outputs, AreSameOnNames}
use Rattle.hier_blif.specs.Flattening.{FlatCover, flat_covers, IsNumbering, flat_def, flat_circuit}
use Rattle.hier_blif.specs.Hierarchies.{HasFunction}
use Rattle.hier_blif.proofs.AgreeLemmas.{IsNameIn, AreWellNamed, instance_there, outputs_among_read, Agree, all_agree}
use Rattle.hier_blif.proofs.FlatCoverLemmas.{cover_among, IsOfInstance, covers_of_instances}

-- A top of models in which no name is refused, within some depth, and a numbering of its names.
pub record IsNumbered (models : List BlifModel) (top : BlifModel) (l : ℕ) (signal : OfNames ℕ) : Type 0 where
  pub well : AreWellNamed models
  pub held : Contains models top
  pub deep : is_within models l top ≡ true
  pub numbering : IsNumbering models top (flat_covers models l top) signal

-- the flat circuit
abbrev pub flat : List BlifModel → BlifModel → ℕ → OfNames ℕ → Circuit
flat models top l signal = flat_circuit top (flat_covers models l top) signal

-- the bits of names, by those of their signals
abbrev pub by_signals : List Bool → OfNames ℕ → OfNames Bool
by_signals w signal = λ path name. bit w (signal path name)

-- a cover that is asked for where there is none
abbrev pub no_cover : FlatCover
no_cover = ([], record { at = 0; operands = []; defined = no_name; rows = []; on = true })

-- values of names that are the same
pub map_same : {X : Type 0} (f g : Piece → X) (words : List Piece) → All (λ word. f word ≡ g word) words → map f words ≡ map g words
map_same f g [] all = refl
map_same f g (word ∷ words) all =
    ap (λ x. x ∷ map f words) (All-head (λ w. f w ≡ g w) word words all)
    ∙ ap (λ xs. g word ∷ xs) (map_same f g words (All-tail (λ w. f w ≡ g w) word words all))

-- what a flat definition gives is what its cover gives
flat_value : (signal : OfNames ℕ) (w : List Bool) (cover : FlatCover) → def_bit w (flat_def signal cover) ≡ cover_value (by_signals w signal cover.0) cover.1
flat_value signal w cover =
    ap (λ bits. cover_bit bits cover.1.rows cover.1.on) (map-map (bit w) (λ (word : Piece). signal cover.0 word.bytes) cover.1.operands)

-- the definition of a flattened cover
def_of_cover : (signal : OfNames ℕ) (covers : List FlatCover) (d : ℕ) (cover : FlatCover) → d < length covers → get_or covers d cover ≡ cover → get_or (map (flat_def signal) covers) d (flat_def signal cover) ≡ flat_def signal cover
def_of_cover signal covers d cover below is =
    get_or-map (flat_def signal) covers d cover (flat_def signal cover) below ∙ ap (flat_def signal) is

-- where a valuation fits the flat circuit, each cover gives the bit of its signal
fits_at : (models : List BlifModel) (top : BlifModel) (l : ℕ) (signal : OfNames ℕ) (x w : List Bool) (cover : FlatCover) → IsNumbered models top l signal → FitsCircuit (flat models top l signal) x w → Contains (flat_covers models l top) cover → by_signals w signal cover.0 cover.1.defined.bytes ≡ cover_value (by_signals w signal cover.0) cover.1
fits_at models top l signal x w cover n f held =
    let covers = flat_covers models l top in
    let d = held.0 in
    let is = def_of_cover signal covers d cover held.1 held.2 in
    let number : signal cover.0 cover.1.defined.bytes ≡ 1 + length (inputs_of top) + d = subst (λ (c : FlatCover). signal c.0 c.1.defined.bytes ≡ 1 + length (inputs_of top) + d) held.2 (n.numbering.defined d cover held.1) in
    let fits = f.defs d (flat_def signal cover) (omega (arith, held.1, length-map covers (flat_def signal))) in
    ap (bit w) number ∙ (fits ∙ (ap (def_bit w) is ∙ flat_value signal w cover))

-- a valuation of the flat circuit is a nested one
pub nested_from_flat : (models : List BlifModel) (top : BlifModel) (l : ℕ) (signal : OfNames ℕ) (x w : List Bool) → IsNumbered models top l signal → FitsCircuit (flat models top l signal) x w → FitsNested models top x (by_signals w signal)
nested_from_flat models top l signal x w n f = record {
  inputs = λ i d below. ap (bit w) (n.numbering.inputs i d below) ∙ f.inputs i below;
  covers = λ path model is k d below. fits_at models top l signal x w (path, get_or (covers_of model) k d) n f (cover_among l path models top model (get_or (covers_of model) k d) is n.deep (Contains-get_or (covers_of model) k d below));
  shared = λ path model is k line get j d below. ap (bit w) (n.numbering.shared path model is k line get j d below);
}

-- the bits of signals, by those of names
abbrev pub by_names : BlifModel → List FlatCover → OfNames Bool → List Bool → List Bool
by_names top covers value x = false ∷ (x ++ map (λ cover. value cover.0 cover.1.defined.bytes) covers)

input_bit : (top : BlifModel) (covers : List FlatCover) (value : OfNames Bool) (x : List Bool) (i : ℕ) → i < length x → bit (by_names top covers value x) (1 + i) ≡ bit x i
input_bit top covers value x i below =
    let place : 1 + i ≡ suc i = omega arith in
    ap (bit (by_names top covers value x)) place
    ∙ get_or_append_left x (map (λ (cover : FlatCover). value cover.0 cover.1.defined.bytes) covers) false i below

cover_at_bit : (top : BlifModel) (covers : List FlatCover) (value : OfNames Bool) (x : List Bool) (n d : ℕ) (cover : FlatCover) → length x ≡ n → d < length covers → get_or covers d cover ≡ cover → bit (by_names top covers value x) (1 + n + d) ≡ value cover.0 cover.1.defined.bytes
cover_at_bit top covers value x n d cover long below is =
    let of_cover = λ (c : FlatCover). value c.0 c.1.defined.bytes in
    let place : 1 + n + d ≡ suc (length x + d) = omega (arith, long) in
    ap (bit (by_names top covers value x)) place
    ∙ (get_or-append-add x (map of_cover covers) d false
    ∙ (get_or-map of_cover covers d cover false below ∙ ap of_cover is))

-- they agree with the nested ones
agree_by_names : (models : List BlifModel) (top : BlifModel) (l : ℕ) (signal : OfNames ℕ) (x : List Bool) (value : OfNames Bool) → IsNumbered models top l signal → length x ≡ length (inputs_of top) → FitsNested models top x value → Agree models top value (by_signals (by_names top (flat_covers models l top) value x) signal)
agree_by_names models top l signal x value n long fits =
    let covers = flat_covers models l top in
    let w = by_names top covers value x in
    record {
      well = n.well;
      held = n.held;
      inputs = λ i d below. fits.inputs i d below ∙ sym (ap (bit w) (n.numbering.inputs i d below) ∙ input_bit top covers value x i (omega (arith, below, long)));
      covers = λ path model is k d below.
          let line = get_or (covers_of model) k d in
          let among = cover_among l path models top model line is n.deep (Contains-get_or (covers_of model) k d below) in
          let number : signal path line.defined.bytes ≡ 1 + length (inputs_of top) + among.0 = subst (λ (c : FlatCover). signal c.0 c.1.defined.bytes ≡ 1 + length (inputs_of top) + among.0) among.2 (n.numbering.defined among.0 (path, line) among.1) in
          sym (ap (bit w) number ∙ cover_at_bit top covers value x (length (inputs_of top)) among.0 (path, line) long among.1 among.2);
      one_shared = fits.shared;
      other_shared = λ path model is k line get j d below. ap (bit w) (n.numbering.shared path model is k line get j d below);
    }

-- the operands of a model's covers are known
operands_first : (P : Piece → Type 0) (models : List BlifModel) (says : ModelLine) (rest : List CoverLine) → All P (read_on models says) → All (λ (c : CoverLine). All P c.operands) rest → All (λ (c : CoverLine). All P c.operands) (covers_on says ++ rest)
operands_first P models (Cover line) rest here later = All-cons (λ (c : CoverLine). All P c.operands) line rest here later
operands_first P models other rest here later = later

pub operands_among_read : (P : Piece → Type 0) (models : List BlifModel) (lines : List ModelLine) → All P (flat_map (read_on models) lines) → All (λ (c : CoverLine). All P c.operands) (flat_map covers_on lines)
operands_among_read P models [] all = All-nil (λ (c : CoverLine). All P c.operands)
operands_among_read P models (says ∷ lines) all =
    operands_first P models says (flat_map covers_on lines) (All-front P (read_on models says) (flat_map (read_on models) lines) all) (operands_among_read P models lines (All-back P (read_on models says) (flat_map (read_on models) lines) all))

-- a nested valuation is one of the flat circuit
flat_def_fits : (models : List BlifModel) (top : BlifModel) (l : ℕ) (signal : OfNames ℕ) (x : List Bool) (value : OfNames Bool) (cover : FlatCover) → IsNumbered models top l signal → length x ≡ length (inputs_of top) → FitsNested models top x value → IsOfInstance models top cover → value cover.0 cover.1.defined.bytes ≡ def_bit (by_names top (flat_covers models l top) value x) (flat_def signal cover)
flat_def_fits models top l signal x value cover n long fits is =
    let w = by_names top (flat_covers models l top) value x in
    let model = is.0 in
    let holds = All-contains (λ (line : CoverLine). value cover.0 line.defined.bytes ≡ cover_value (value cover.0) line) (covers_of model) cover.1 (fits.covers cover.0 model is.2) is.1 in
    let known = All-contains (λ (line : CoverLine). All (λ (word : Piece). IsNameIn models model word.bytes) line.operands) (covers_of model) cover.1 (operands_among_read (λ (word : Piece). IsNameIn models model word.bytes) models model.lines (n.well.known model (instance_there models cover.0 top model n.well n.held is.2))) is.1 in
    let same = all_agree l models top value (by_signals w signal) (agree_by_names models top l signal x value n long fits) n.deep in
    let bits = map_same (λ (word : Piece). value cover.0 word.bytes) (λ (word : Piece). by_signals w signal cover.0 word.bytes) cover.1.operands (λ k d below. same cover.0 model (get_or cover.1.operands k d).bytes is.2 (known k d below)) in
    holds ∙ (ap (λ bs. cover_bit bs cover.1.rows cover.1.on) bits ∙ sym (flat_value signal w cover))

pub flat_from_nested : (models : List BlifModel) (top : BlifModel) (l : ℕ) (signal : OfNames ℕ) (x : List Bool) (value : OfNames Bool) → IsNumbered models top l signal → length x ≡ length (inputs_of top) → FitsNested models top x value → FitsCircuit (flat models top l signal) x (by_names top (flat_covers models l top) value x)
flat_from_nested models top l signal x value n long fits =
    let covers = flat_covers models l top in
    let w = by_names top covers value x in
    let of_cover = λ (c : FlatCover). value c.0 c.1.defined.bytes in
    record {
      signals = omega (arith, long, length-append x (map of_cover covers), length-map covers of_cover, length-map covers (flat_def signal));
      constant = refl;
      inputs = λ i below. input_bit top covers value x i (omega (arith, below, long));
      defs = λ d e below.
          let there : d < length covers = omega (arith, below, length-map covers (flat_def signal)) in
          let cover = get_or covers d no_cover in
          let itself : get_or covers d cover ≡ cover = get_or_default covers d cover no_cover there in
          let is : get_or (map (flat_def signal) covers) d e ≡ flat_def signal cover = get_or-map (flat_def signal) covers d no_cover e there in
          cover_at_bit top covers value x (length (inputs_of top)) d cover long there itself
          ∙ (flat_def_fits models top l signal x value cover n long fits (covers_of_instances l models top d no_cover there) ∙ ap (def_bit w) (sym is));
    }

-- the outputs under a valuation of the flat circuit
flat_outputs : (top : BlifModel) (covers : List FlatCover) (signal : OfNames ℕ) (w : List Bool) → circuit_outputs (flat_circuit top covers signal) w ≡ nested_outputs top (by_signals w signal)
flat_outputs top covers signal w =
    map-map (literal_bit w) (λ (word : Piece). plain_literal (signal [] word.bytes)) (outputs_of top)
    ∙ map_same (λ (word : Piece). literal_bit w (plain_literal (signal [] word.bytes))) (λ (word : Piece). by_signals w signal [] word.bytes) (outputs_of top) (λ k d below. literal_bit-plain w (signal [] (get_or (outputs_of top) k d).bytes))

-- A graph that computes the flat circuit has the function of the models.
pub flat_function : (models : List BlifModel) (top : BlifModel) (l : ℕ) (signal : OfNames ℕ) (graph : Net) → IsNumbered models top l signal → IsAcyclic (flat models top l signal) → Computes graph (flat models top l signal) → HasFunction models top graph
flat_function models top l signal graph n acyclic computes =
    let covers = flat_covers models l top in
    let circuit = flat models top l signal in
    let same : (x : List Bool) (value : OfNames Bool) → length x ≡ length (inputs_of top) → FitsNested models top x value → AreSameOnNames models top value (by_signals (by_names top covers value x) signal) =
    λ x value long fits. all_agree l models top value (by_signals (by_names top covers value x) signal) (agree_by_names models top l signal x value n long fits) n.deep in
    record {
      inputs = computes.inputs;
      some = λ x long.
          let w = some_valuation circuit x acyclic (long ∙ computes.inputs) in
          (by_signals w.0 signal, nested_from_flat models top l signal x w.0 n w.1);
      only = λ x one other long f g path model name is known.
          let long_x : length x ≡ length (inputs_of top) = long ∙ computes.inputs in
          let v = by_names top covers one x in
          let w = by_names top covers other x in
          let e = one_valuation circuit x v w acyclic (flat_from_nested models top l signal x one n long_x f) (flat_from_nested models top l signal x other n long_x g) in
          same x one long_x f path model name is known ∙ (ap (λ bits. bit bits (signal path name)) e ∙ sym (same x other long_x g path model name is known));
      function = λ x value long fits.
          let long_x : length x ≡ length (inputs_of top) = long ∙ computes.inputs in
          let w = by_names top covers value x in
          let known = outputs_among_read (λ (word : Piece). IsNameIn models top word.bytes) models top.lines (n.well.known top n.held) in
          computes.function x w long_x (flat_from_nested models top l signal x value n long_x fits)
          ∙ (flat_outputs top covers signal w
          ∙ sym (map_same (λ (word : Piece). value [] word.bytes) (λ (word : Piece). by_signals w signal [] word.bytes) (outputs_of top) (λ k d below. same x value long_x fits [] top (get_or (outputs_of top) k d).bytes refl (known k d below))));
    }
