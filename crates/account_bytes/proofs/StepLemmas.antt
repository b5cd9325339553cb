-- Steps and shapes of one kind, where their fields aren't there.
use Rattle.std.proofs.Common.{ℕ, List, Option, arith}
use Rattle.circuits.specs.declared.port.PortKind.{PortKind}
use Rattle.word_sim.specs.declared.tri.Tri.{Tri}
use Rattle.claim_core.specs.declared.claims.Shape.{Shape}
use Rattle.claim_core.specs.declared.claims.Shape.TheVariants.{Up, Down, Swap}
use Rattle.account_core.specs.declared.step.Step.{Step}
use Rattle.account_core.specs.declared.step.Step.TheVariants.{Vector, Mismatch, Tally, Cover}
use Rattle.account_core.specs.declared.step.Tallied.{Tallied}
use Rattle.byte_form.specs.Codes.{BeginsWith, BeginsNone, BothFit, ListFits, both_bytes, list_bytes, number_bytes}
use Rattle.account_bytes.specs.Bodies.{Always, IsNumber, IsPort, ShapeHasPorts, StepFits, cover_tag, port_bytes, shape_fields, shape_tag, step_fields, step_tag, tally_tag, tri_bytes}
use Rattle.account_bytes.specs.Fields.{PortsAndReferencesFit, SwapFieldsFit, ports_and_references, swap_fields_bytes}
use Rattle.account_bytes.specs.PrefixProofs.{cover_tags, tally_tags}
use Rattle.account_bytes.specs.Reading.{OfTag}

swap_never : (text : List ℕ) → BeginsNone swap_fields_bytes SwapFieldsFit text → (shape : Shape) (left : List ℕ) → BeginsWith shape_fields (OfTag shape_tag ShapeHasPorts 2) text shape left → ⊥
swap_never text h (Swap i j a b) left begins = h.none (i, (j, (a, b))) left (record { fits = (begins.fits.0.0, (begins.fits.0.1, (tt, tt))); text_is = begins.text_is })
swap_never text h (Up i) left begins = omega (arith, begins.fits.1)
swap_never text h (Down i) left begins = omega (arith, begins.fits.1)

pub swap_none : (text : List ℕ) → BeginsNone swap_fields_bytes SwapFieldsFit text → BeginsNone shape_fields (OfTag shape_tag ShapeHasPorts 2) text
swap_none text h = record { none = swap_never text h }

-- the fields of steps
abbrev pub vector_bytes : ℕ × List Tri → List ℕ
vector_bytes = both_bytes port_bytes (list_bytes tri_bytes)

abbrev pub VectorFits : ℕ × List Tri → Type 0
VectorFits = BothFit IsPort (ListFits Always)

abbrev pub mismatch_bytes : ℕ × ℕ → List ℕ
mismatch_bytes = both_bytes (number_bytes 8) (number_bytes 8)

abbrev pub MismatchFits : ℕ × ℕ → Type 0
MismatchFits = BothFit IsNumber IsNumber

abbrev pub tally_bytes : List ℕ × List ℕ → List ℕ
tally_bytes = both_bytes (list_bytes (number_bytes 8)) (list_bytes (number_bytes 8))

abbrev pub TallyFits : List ℕ × List ℕ → Type 0
TallyFits = BothFit (ListFits IsNumber) (ListFits IsNumber)

abbrev pub cover_bytes : List ℕ × (List ℕ × List (Option ℕ)) → List ℕ
cover_bytes = both_bytes (list_bytes port_bytes) ports_and_references

abbrev pub CoverFits : List ℕ × (List ℕ × List (Option ℕ)) → Type 0
CoverFits = BothFit (ListFits IsPort) PortsAndReferencesFit

vector_never : (text : List ℕ) → BeginsNone vector_bytes VectorFits text → (step : Step) (left : List ℕ) → BeginsWith step_fields (OfTag step_tag StepFits 0) text step left → ⊥
vector_never text h (Vector output tris) left begins = h.none (output, tris) left (record { fits = begins.fits.0; text_is = begins.text_is })
vector_never text h (Mismatch fails holds) left begins = omega (arith, begins.fits.1)
vector_never text h (Tally kind have lack) left begins = omega (arith, begins.fits.1, tally_tags kind)
vector_never text h (Cover kind from to refs) left begins = omega (arith, begins.fits.1, cover_tags kind)

pub vector_none : (text : List ℕ) → BeginsNone vector_bytes VectorFits text → BeginsNone step_fields (OfTag step_tag StepFits 0) text
vector_none text h = record { none = vector_never text h }

mismatch_never : (text : List ℕ) → BeginsNone mismatch_bytes MismatchFits text → (step : Step) (left : List ℕ) → BeginsWith step_fields (OfTag step_tag StepFits 1) text step left → ⊥
mismatch_never text h (Vector output tris) left begins = omega (arith, begins.fits.1)
mismatch_never text h (Mismatch fails holds) left begins = h.none (fails, holds) left (record { fits = begins.fits.0; text_is = begins.text_is })
mismatch_never text h (Tally kind have lack) left begins = omega (arith, begins.fits.1, tally_tags kind)
mismatch_never text h (Cover kind from to refs) left begins = omega (arith, begins.fits.1, cover_tags kind)

pub mismatch_none : (text : List ℕ) → BeginsNone mismatch_bytes MismatchFits text → BeginsNone step_fields (OfTag step_tag StepFits 1) text
mismatch_none text h = record { none = mismatch_never text h }

tally_never : (given : Tallied) (text : List ℕ) → BeginsNone tally_bytes TallyFits text → (step : Step) (left : List ℕ) → BeginsWith step_fields (OfTag step_tag StepFits (tally_tag given)) text step left → ⊥
tally_never given text h (Vector output tris) left begins = omega (arith, begins.fits.1, tally_tags given)
tally_never given text h (Mismatch fails holds) left begins = omega (arith, begins.fits.1, tally_tags given)
tally_never given text h (Tally kind have lack) left begins = h.none (have, lack) left (record { fits = begins.fits.0; text_is = begins.text_is })
tally_never given text h (Cover kind from to refs) left begins = omega (arith, begins.fits.1, tally_tags given, cover_tags kind)

pub tally_none : (given : Tallied) (text : List ℕ) → BeginsNone tally_bytes TallyFits text → BeginsNone step_fields (OfTag step_tag StepFits (tally_tag given)) text
tally_none given text h = record { none = tally_never given text h }

cover_never : (given : PortKind) (text : List ℕ) → BeginsNone cover_bytes CoverFits text → (step : Step) (left : List ℕ) → BeginsWith step_fields (OfTag step_tag StepFits (cover_tag given)) text step left → ⊥
cover_never given text h (Vector output tris) left begins = omega (arith, begins.fits.1, cover_tags given)
cover_never given text h (Mismatch fails holds) left begins = omega (arith, begins.fits.1, cover_tags given)
cover_never given text h (Tally kind have lack) left begins = omega (arith, begins.fits.1, cover_tags given, tally_tags kind)
cover_never given text h (Cover kind from to refs) left begins = h.none (from, (to, refs)) left (record { fits = begins.fits.0; text_is = begins.text_is })

pub cover_none : (given : PortKind) (text : List ℕ) → BeginsNone cover_bytes CoverFits text → BeginsNone step_fields (OfTag step_tag StepFits (cover_tag given)) text
cover_none given text h = record { none = cover_never given text h }
