-- Proofs of the laws of `PrefixCodes`. They stand here since a `.rt` file takes lemmas of its own crate from specs
-- alone.
use Rattle.std.proofs.Common.{◌≡◌, ◌≤◌, ℕ, List, ◌++◌, Bool, true, false, Option, None, Some, drop, refl, ap, ◌∙◌, arith}
use Rattle.circuits.specs.declared.port.Pair.{Pair}
use Rattle.circuits.specs.declared.port.PortKind.{PortKind}
use Rattle.circuits.specs.declared.port.PortKind.TheVariants.{Input, Output}
use Rattle.net_core.specs.declared.graphs.Side.{Side}
use Rattle.net_core.specs.declared.graphs.Side.TheVariants.{First, Second}
use Rattle.word_sim.specs.declared.tri.Tri.{Tri}
use Rattle.word_sim.specs.declared.tri.Tri.TheVariants as tri
use Rattle.cnf_core.specs.declared.literal.SatLit.{SatLit}
use Rattle.cnf_core.specs.declared.log.LogLine.{LogLine}
use Rattle.claim_core.specs.declared.claims.Shape.{Shape}
use Rattle.claim_core.specs.declared.claims.Shape.TheVariants.{Up, Down, Swap}
use Rattle.claim_core.specs.declared.claims.Claim.{Claim}
use Rattle.account_core.specs.declared.step.Ban.{Ban}
use Rattle.account_core.specs.declared.step.Step.{Step}
use Rattle.account_core.specs.declared.step.Step.TheVariants.{Vector, Mismatch, Tally, Cover}
use Rattle.account_core.specs.declared.step.Tallied.{Tallied}
use Rattle.account_core.specs.declared.step.Tallied.TheVariants.{Support, Binate}
use Rattle.byte_form.specs.Codes.{BothFit, IsPrefixCode, ListFits, both_bytes, list_bytes, number_bytes}
use Rattle.byte_form.proofs.CodeLemmas.{both_code, code_by, list_code, number_code}
use Rattle.account_bytes.specs.Bodies.{Always, ClaimHasPorts, HasPorts, IsLiteral, IsNumber, IsPort, IsReference, LineFits, ShapeHasPorts}
use Rattle.account_bytes.specs.Bodies.{bit_byte, bit_bytes, claim_bytes, kind_byte, kind_bytes, line_bytes, literal_bytes, pair_bytes, port_bytes}
use Rattle.account_bytes.specs.Bodies.{BanFits, StepFits, ban_bytes, cover_tag, step_bytes, step_fields, step_tag, tally_tag}
use Rattle.account_bytes.specs.Bodies.{reference_bytes, reference_fields, reference_tag, shape_bytes, shape_fields, shape_tag}
use Rattle.account_bytes.specs.Bodies.{side_byte, side_bytes, tri_byte, tri_bytes}
use Rattle.account_bytes.specs.Fields.{byte_bytes, pair_fields, pair_with, pair_fields_bytes, PairFieldsFit, tagged_bytes, swap_with}
use Rattle.account_bytes.specs.Fields.{swap_fields_bytes, SwapFieldsFit, claim_fields, claim_with, claim_fields_bytes, ClaimFieldsFit}
use Rattle.account_bytes.specs.Fields.{line_fields, line_with, line_fields_bytes, LineFieldsFit, ports_and_references}
use Rattle.account_bytes.specs.Fields.{PortsAndReferencesFit, ban_fields, ban_with, ban_fields_bytes, BanFieldsFit}

-- values that have different bytes
code_of_byte : {X : Type 0} (byte : X → ℕ) → ((x y : X) → byte x ≡ byte y → x ≡ y) → IsPrefixCode (byte_bytes byte) Always
code_of_byte {X} byte same_by = record { one = λ x y after other fits fit same. same_by x y (cc same) }

same_bit : (x y : Bool) → bit_byte x ≡ bit_byte y → x ≡ y
same_bit true true same = refl
same_bit false false same = refl
same_bit true false same = cc
same_bit false true same = cc

same_kind : (x y : PortKind) → kind_byte x ≡ kind_byte y → x ≡ y
same_kind Input Input same = refl
same_kind Output Output same = refl
same_kind Input Output same = cc
same_kind Output Input same = cc

same_side : (x y : Side) → side_byte x ≡ side_byte y → x ≡ y
same_side First First same = refl
same_side Second Second same = refl
same_side First Second same = cc
same_side Second First same = cc

same_tri : (x y : Tri) → tri_byte x ≡ tri_byte y → x ≡ y
same_tri tri.Zero tri.Zero same = refl
same_tri tri.One tri.One same = refl
same_tri tri.X tri.X same = refl
same_tri tri.Zero tri.One same = cc
same_tri tri.Zero tri.X same = cc
same_tri tri.One tri.Zero same = cc
same_tri tri.One tri.X same = cc
same_tri tri.X tri.Zero same = cc
same_tri tri.X tri.One same = cc

-- a bit has one byte, and the two have different ones
pub bit_code : IsPrefixCode bit_bytes Always
bit_code = code_of_byte bit_byte same_bit

-- a kind of ports has one byte, and the two have different ones
pub kind_code : IsPrefixCode kind_bytes Always
kind_code = code_of_byte kind_byte same_kind

-- a circuit has one byte, and the two have different ones
pub side_code : IsPrefixCode side_bytes Always
side_code = code_of_byte side_byte same_side

-- one of three values has one byte, and they have different ones
pub tri_code : IsPrefixCode tri_bytes Always
tri_code = code_of_byte tri_byte same_tri

-- a value with one field
abbrev literal_with : ℕ → SatLit
literal_with number = record { 0 = number }

-- a literal has its number's bytes
pub literal_code : IsPrefixCode literal_bytes IsLiteral
literal_code =
    code_by literal_bytes IsLiteral (number_bytes 8) IsNumber (λ literal. literal.0) (number_code 8)
    (λ literal. refl) (λ literal fits. fits) (λ x y same. ap literal_with same)

pair_fields_code : IsPrefixCode pair_fields_bytes PairFieldsFit
pair_fields_code =
    both_code kind_bytes Always (both_bytes port_bytes (both_bytes port_bytes bit_bytes)) (BothFit IsPort (BothFit IsPort Always)) kind_code
    (both_code port_bytes IsPort (both_bytes port_bytes bit_bytes) (BothFit IsPort Always) (number_code 4)
    (both_code port_bytes IsPort bit_bytes Always (number_code 4) bit_code))

-- a pair that can be written has fields that can
pub pair_fits : (pair : Pair) → HasPorts pair → PairFieldsFit (pair_fields pair)
pair_fits pair fits = (tt, (fits.from, (fits.to, tt)))

-- a pair has its fields' bytes
pub pair_code : IsPrefixCode pair_bytes HasPorts
pair_code = code_by pair_bytes HasPorts pair_fields_bytes PairFieldsFit pair_fields pair_fields_code (λ pair. refl) pair_fits (λ x y same. ap pair_with same)

tagged_code : {X : Type 0} (tag : X → ℕ) (fields : X → List ℕ) (Fits : X → Type 0)
    → ((x y : X) (after other : List ℕ) → Fits x → Fits y → tag x ≡ tag y → fields x ++ after ≡ fields y ++ other → x ≡ y)
    → IsPrefixCode (tagged_bytes tag fields) Fits
tagged_code {X} tag fields Fits by = record {
  one = λ x y after other fits fit same. by x y after other fits fit (cc same) (ap (drop 1) same);
}

same_reference : (x y : Option ℕ) (after other : List ℕ) → IsReference x → IsReference y → reference_tag x ≡ reference_tag y
    → reference_fields x ++ after ≡ reference_fields y ++ other → x ≡ y
same_reference None None after other fits fit tags same = refl
same_reference (Some x) (Some y) after other fits fit tags same =
    let e = (number_code 8).one x y after other fits fit same in cc
same_reference None (Some y) after other fits fit tags same = cc
same_reference (Some x) None after other fits fit tags same = cc

-- a reference says by its first byte whether a ban's number follows
pub reference_code : IsPrefixCode reference_bytes IsReference
reference_code = tagged_code reference_tag reference_fields IsReference same_reference

swap_fields_code : IsPrefixCode swap_fields_bytes SwapFieldsFit
swap_fields_code =
    both_code port_bytes IsPort (both_bytes port_bytes (both_bytes bit_bytes bit_bytes)) (BothFit IsPort (BothFit Always Always)) (number_code 4)
    (both_code port_bytes IsPort (both_bytes bit_bytes bit_bytes) (BothFit Always Always) (number_code 4)
    (both_code bit_bytes Always bit_bytes Always bit_code bit_code))

same_shape : (x y : Shape) (after other : List ℕ) → ShapeHasPorts x → ShapeHasPorts y → shape_tag x ≡ shape_tag y
    → shape_fields x ++ after ≡ shape_fields y ++ other → x ≡ y
same_shape (Up i) (Up j) after other fits fit tags same =
    let e = (number_code 4).one i j after other fits fit same in cc
same_shape (Down i) (Down j) after other fits fit tags same =
    let e = (number_code 4).one i j after other fits fit same in cc
same_shape (Swap i j a b) (Swap k l c d) after other fits fit tags same =
    ap swap_with (swap_fields_code.one (i, (j, (a, b))) (k, (l, (c, d))) after other (fits.0, (fits.1, (tt, tt))) (fit.0, (fit.1, (tt, tt))) same)
same_shape (Up i) (Down j) after other fits fit tags same = cc
same_shape (Up i) (Swap j k a b) after other fits fit tags same = cc
same_shape (Down i) (Up j) after other fits fit tags same = cc
same_shape (Down i) (Swap j k a b) after other fits fit tags same = cc
same_shape (Swap i j a b) (Up k) after other fits fit tags same = cc
same_shape (Swap i j a b) (Down k) after other fits fit tags same = cc

-- a change of inputs says by its first byte how many inputs and values follow
pub shape_code : IsPrefixCode shape_bytes ShapeHasPorts
shape_code = tagged_code shape_tag shape_fields ShapeHasPorts same_shape

claim_fields_code : IsPrefixCode claim_fields_bytes ClaimFieldsFit
claim_fields_code =
    both_code side_bytes Always (both_bytes port_bytes shape_bytes) (BothFit IsPort ShapeHasPorts) side_code
    (both_code port_bytes IsPort shape_bytes ShapeHasPorts (number_code 4) shape_code)

-- a claim that can be written has fields that can
pub claim_fits : (claim : Claim) → ClaimHasPorts claim → ClaimFieldsFit (claim_fields claim)
claim_fits claim fits = (tt, (fits.output, fits.shape))

-- a claim has its fields' bytes
pub claim_code : IsPrefixCode claim_bytes ClaimHasPorts
claim_code =
    code_by claim_bytes ClaimHasPorts claim_fields_bytes ClaimFieldsFit claim_fields claim_fields_code
    (λ claim. refl) claim_fits (λ x y same. ap claim_with same)

line_fields_code : IsPrefixCode line_fields_bytes LineFieldsFit
line_fields_code =
    both_code (list_bytes literal_bytes) (ListFits IsLiteral) (list_bytes (number_bytes 8)) (ListFits IsNumber)
    (list_code literal_bytes IsLiteral literal_code) (list_code (number_bytes 8) IsNumber (number_code 8))

-- a line that can be written has fields that can
pub line_fits : (line : LogLine) → LineFits line → LineFieldsFit (line_fields line)
line_fits line fits = (fits.clause, fits.hints)

-- a line has its fields' bytes
pub line_code : IsPrefixCode line_bytes LineFits
line_code = code_by line_bytes LineFits line_fields_bytes LineFieldsFit line_fields line_fields_code (λ line. refl) line_fits (λ x y same. ap line_with same)

-- steps
vector_code : IsPrefixCode (both_bytes port_bytes (list_bytes tri_bytes)) (BothFit IsPort (ListFits Always))
vector_code = both_code port_bytes IsPort (list_bytes tri_bytes) (ListFits Always) (number_code 4) (list_code tri_bytes Always tri_code)

mismatch_code : IsPrefixCode (both_bytes (number_bytes 8) (number_bytes 8)) (BothFit IsNumber IsNumber)
mismatch_code = both_code (number_bytes 8) IsNumber (number_bytes 8) IsNumber (number_code 8) (number_code 8)

numbers_code : IsPrefixCode (list_bytes (number_bytes 8)) (ListFits IsNumber)
numbers_code = list_code (number_bytes 8) IsNumber (number_code 8)

ports_code : IsPrefixCode (list_bytes port_bytes) (ListFits IsPort)
ports_code = list_code port_bytes IsPort (number_code 4)

tally_code : IsPrefixCode (both_bytes (list_bytes (number_bytes 8)) (list_bytes (number_bytes 8))) (BothFit (ListFits IsNumber) (ListFits IsNumber))
tally_code = both_code (list_bytes (number_bytes 8)) (ListFits IsNumber) (list_bytes (number_bytes 8)) (ListFits IsNumber) numbers_code numbers_code

cover_code : IsPrefixCode (both_bytes (list_bytes port_bytes) ports_and_references) (BothFit (ListFits IsPort) PortsAndReferencesFit)
cover_code =
    both_code (list_bytes port_bytes) (ListFits IsPort) ports_and_references PortsAndReferencesFit ports_code
    (both_code (list_bytes port_bytes) (ListFits IsPort) (list_bytes reference_bytes) (ListFits IsReference)
    ports_code (list_code reference_bytes IsReference reference_code))

-- a tally's tag is 2 or 3
pub tally_tags : (kind : Tallied) → (2 ≤ tally_tag kind) × (tally_tag kind ≤ 3)
tally_tags Support = (omega arith, omega arith)
tally_tags Binate = (omega arith, omega arith)

-- a cover's tag is 4 or more
pub cover_tags : (kind : PortKind) → 4 ≤ cover_tag kind
cover_tags Input = omega arith
cover_tags Output = omega arith

-- the two kinds of tally have different tags
pub same_tallied : (x y : Tallied) → tally_tag x ≡ tally_tag y → x ≡ y
same_tallied Support Support same = refl
same_tallied Binate Binate same = refl
same_tallied Support Binate same = cc
same_tallied Binate Support same = cc

-- covers of inputs and of outputs have different tags
pub same_covered : (x y : PortKind) → cover_tag x ≡ cover_tag y → x ≡ y
same_covered Input Input same = refl
same_covered Output Output same = refl
same_covered Input Output same = cc
same_covered Output Input same = cc

abbrev vector_with : ℕ × List Tri → Step
vector_with fields = Vector fields.0 fields.1

abbrev mismatch_with : ℕ × ℕ → Step
mismatch_with fields = Mismatch fields.0 fields.1

abbrev tally_with : Tallied → List ℕ × List ℕ → Step
tally_with kind fields = Tally kind fields.0 fields.1

abbrev cover_with : PortKind → List ℕ × (List ℕ × List (Option ℕ)) → Step
cover_with kind fields = Cover kind fields.0 fields.1.0 fields.1.1

same_step : (x y : Step) (after other : List ℕ) → StepFits x → StepFits y → step_tag x ≡ step_tag y
    → step_fields x ++ after ≡ step_fields y ++ other → x ≡ y
same_step (Vector output tris) (Vector put bits) after other fits fit tags same =
    ap vector_with (vector_code.one (output, tris) (put, bits) after other fits fit same)
same_step (Mismatch fails holds) (Mismatch fail hold) after other fits fit tags same =
    ap mismatch_with (mismatch_code.one (fails, holds) (fail, hold) after other fits fit same)
same_step (Tally kind have lack) (Tally sort has lacks) after other fits fit tags same =
    let kinds = same_tallied kind sort tags in
    ap (λ k. tally_with k (have, lack)) kinds ∙ ap (tally_with sort) (tally_code.one (have, lack) (has, lacks) after other fits fit same)
same_step (Cover kind from to refs) (Cover sort start end known) after other fits fit tags same =
    let kinds = same_covered kind sort tags in
    ap (λ k. cover_with k (from, (to, refs))) kinds
    ∙ ap (cover_with sort) (cover_code.one (from, (to, refs)) (start, (end, known)) after other fits fit same)
same_step (Vector output tris) (Mismatch fail hold) after other fits fit tags same = absurd (omega (arith, tags))
same_step (Vector output tris) (Tally sort has lacks) after other fits fit tags same = absurd (omega (arith, tags, tally_tags sort))
same_step (Vector output tris) (Cover sort start end known) after other fits fit tags same = absurd (omega (arith, tags, cover_tags sort))
same_step (Mismatch fails holds) (Vector put bits) after other fits fit tags same = absurd (omega (arith, tags))
same_step (Mismatch fails holds) (Tally sort has lacks) after other fits fit tags same = absurd (omega (arith, tags, tally_tags sort))
same_step (Mismatch fails holds) (Cover sort start end known) after other fits fit tags same = absurd (omega (arith, tags, cover_tags sort))
same_step (Tally kind have lack) (Vector put bits) after other fits fit tags same = absurd (omega (arith, tags, tally_tags kind))
same_step (Tally kind have lack) (Mismatch fail hold) after other fits fit tags same = absurd (omega (arith, tags, tally_tags kind))
same_step (Tally kind have lack) (Cover sort start end known) after other fits fit tags same = absurd (omega (arith, tags, tally_tags kind, cover_tags sort))
same_step (Cover kind from to refs) (Vector put bits) after other fits fit tags same = absurd (omega (arith, tags, cover_tags kind))
same_step (Cover kind from to refs) (Mismatch fail hold) after other fits fit tags same = absurd (omega (arith, tags, cover_tags kind))
same_step (Cover kind from to refs) (Tally sort has lacks) after other fits fit tags same = absurd (omega (arith, tags, cover_tags kind, tally_tags sort))

-- a step says by its first byte which kind of step follows
pub step_code : IsPrefixCode step_bytes StepFits
step_code = tagged_code step_tag step_fields StepFits same_step

ban_fields_code : IsPrefixCode ban_fields_bytes BanFieldsFit
ban_fields_code = both_code (list_bytes pair_bytes) (ListFits HasPorts) step_bytes StepFits (list_code pair_bytes HasPorts pair_code) step_code

-- a ban that can be written has fields that can
pub ban_fits : (ban : Ban) → BanFits ban → BanFieldsFit (ban_fields ban)
ban_fits ban fits = (fits.pairs, fits.step)

-- a ban has its fields' bytes
pub ban_code : IsPrefixCode ban_bytes BanFits
ban_code = code_by ban_bytes BanFits ban_fields_bytes BanFieldsFit ban_fields ban_fields_code (λ ban. refl) ban_fits (λ x y same. ap ban_with same)
