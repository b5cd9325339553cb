-- Vectors with an input inverted.
use Rattle.std.proofs.Common.{ℕ, zero, suc, ◌+◌, ◌<◌, ◌≡◌, Bool, false, not, cond, List, [], length, get_or, set, refl, sym, ap, subst, ◌∙◌, inl, inr, arith}
use Rattle.std.proofs.lemmas.Bool.{cases_eq}
use Rattle.std.proofs.lemmas.Bool.Decides.{eqb_tells}
use Rattle.std.proofs.lemmas.List.{get_or-set_same, get_or-set_other, length-set}
use Rattle.circuits.specs.Literals.{bit, differ}
use Rattle.circuits.specs.Netlists.{Net, valuation_of}
use Rattle.circuits.proofs.Expansions.{differ_false, differ_true}
use Rattle.circuits.proofs.Valuations.{valuation_of-fits}
use Rattle.net_core.specs.Graph.{IsGraph}
use Rattle.sim_signature.specs.declared.change.Change.{Change}
use Rattle.sim_signature.specs.declared.change.Change.TheVariants.{Nothing, Inverted}
use Rattle.sim_signature.specs.Changes.{IsChange, changed, is_inverted}
use Rattle.sim_signature.specs.Blocks.{IsEvaluated, IsFlipped, IsValuation, block_after, block_bit, pattern}
use Rattle.sim_signature.proofs.Evaluating.{length-pattern, pattern-bit}

pub length-changed : (change : Change) (x : List Bool) → length (changed change x) ≡ length x
length-changed Nothing x = refl
length-changed (Inverted i) x = length-set x i (not (bit x i))

-- an input's bit after a change
pub changed-bit : (change : Change) (x : List Bool) (k : ℕ) → IsChange (length x) change → bit (changed change x) k ≡ differ (bit x k) (is_inverted change k)
changed-bit Nothing x k is = sym (differ_false (bit x k))
changed-bit (Inverted i) x k is =
    elim (eqb_tells k i) [
      | inl (same, e) ↦ ap (bit (set x i (not (bit x i)))) e ∙ (get_or-set_same x i (not (bit x i)) false is ∙ (ap (λ i. not (bit x i)) (sym e) ∙ (sym (differ_true (bit x k)) ∙ ap (differ (bit x k)) (sym same))))
      | inr (other, apart) ↦ get_or-set_other x i k (not (bit x i)) false apart ∙ (sym (differ_false (bit x k)) ∙ ap (differ (bit x k)) (sym other))
    ]

-- before any gate is evaluated again, the constant and the inputs have their bits after the change
pub IsEvaluated-flipped : (net : Net) (i : ℕ) (inputs before after : List (List ℕ)) (marks : List Bool) (w v : ℕ) → IsGraph net → length inputs ≡ net.inputs → i < net.inputs → w < 8 → v < 64
    → IsValuation net (pattern inputs w v) (λ s. block_bit w v (get_or before s []))
    → IsFlipped i inputs after marks
    → IsEvaluated net (changed (Inverted i) (pattern inputs w v)) (1 + net.inputs) (λ s. block_bit w v (block_after before after marks s))
IsEvaluated-flipped net i inputs before after marks w v is len fit h k known flipped zero less =
    let x = pattern inputs w v in
    let long = length-pattern inputs w v ∙ len in
    let was = valuation_of-fits net x is.ordered long in
    let fits = valuation_of-fits net (changed (Inverted i) x) is.ordered (length-changed (Inverted i) x ∙ long) in
    ap (λ mark. block_bit w v (cond mark (get_or after 0 []) (get_or before 0 []))) (flipped.others 0 (omega arith) (λ e. absurd (omega (arith, e)))) ∙ (known 0 (omega arith) ∙ (was.constant ∙ sym fits.constant))
IsEvaluated-flipped net i inputs before after marks w v is len fit h k known flipped (suc j) less =
    let x = pattern inputs w v in
    let y = changed (Inverted i) x in
    let long = length-pattern inputs w v ∙ len in
    let was = valuation_of-fits net x is.ordered long in
    let fits = valuation_of-fits net y is.ordered (length-changed (Inverted i) x ∙ long) in
    let there : j < net.inputs = omega (arith, less) in
    let e : suc j ≡ 1 + j = omega arith in
    let at : block_bit w v (block_after before after marks (1 + j)) ≡ bit y j = elim (cases_eq j i) [
      | inl same ↦
          let turned : block_bit w v (block_after before after marks (1 + i)) ≡ bit y i = ap (λ mark. block_bit w v (cond mark (get_or after (1 + i) []) (get_or before (1 + i) []))) flipped.marked ∙ (flipped.bits w v h k ∙ (ap not (pattern-bit inputs w v i) ∙ sym (get_or-set_same x i (not (bit x i)) false (omega (arith, fit, long))))) in
          subst (λ j. block_bit w v (block_after before after marks (1 + j)) ≡ bit y j) (sym same) turned
      | inr apart ↦ ap (λ mark. block_bit w v (cond mark (get_or after (1 + j) []) (get_or before (1 + j) []))) (flipped.others (1 + j) (omega (arith, there, len)) (λ e. apart (omega (arith, e)))) ∙ (known (1 + j) (omega (arith, there)) ∙ (was.inputs j there ∙ sym (get_or-set_other x i j (not (bit x i)) false apart)))
    ] in
    ap (λ s. block_bit w v (block_after before after marks s)) e ∙ (at ∙ (sym (fits.inputs j there) ∙ ap (bit (valuation_of net y)) (sym e)))
