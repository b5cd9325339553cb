-- For `sizes_of`: what lines make is counted line by line, and a model's size is what its lines make.
use Rattle.std.proofs.Common.{◌≡◌, ℕ, zero, suc, ◌+◌, ◌<◌, ◌≤◌, true, List, [], ◌∷◌, ◌++◌, length, get_or, set, take, All, Contains, refl, ap, sym, subst, ◌∙◌, arith}
use Rattle.std.specs.List.{flat_map, sum_by}
use Rattle.std.proofs.lemmas.List.{length-append, take_more}
use Rattle.std.proofs.lemmas.List.Elements.{All-head, All-take, All-weaker, All-contains}
use Rattle.std.proofs.lemmas.List.Sums.{AllPass-from_list_all, sum_by-append}
use Rattle.std.proofs.lemmas.Grind.{flat_map-append}
use Rattle.circuits.proofs.Lists.{All-front, All-back}
use Rattle.hier_blif.specs.declared.model.CoverLine.{CoverLine}
use Rattle.hier_blif.specs.declared.model.InstanceLine.{InstanceLine}
use Rattle.hier_blif.specs.declared.model.ModelLine.{ModelLine}
use Rattle.hier_blif.specs.declared.model.ModelLine.TheVariants.{Inputs, Outputs, Cover, Instance}
use Rattle.hier_blif.specs.declared.model.BlifModel.{BlifModel}
use Rattle.hier_blif.specs.declared.sizes.Size.{Size}
use Rattle.hier_blif.specs.Names.{covers_on, instances_on, model_of}
use Rattle.hier_blif.specs.Depths.{is_within, instances_within, covers_within}
use Rattle.hier_blif.specs.Scopes.{model_at}
use Rattle.hier_blif.specs.Order.{place_of, callees_on, callees, IsListing}
use Rattle.hier_blif.specs.Sizes.{capped, IsSize, IsSizeAt, AreSizes, AreWithin, instances_made, covers_made, Counts}
use Rattle.hier_blif.proofs.OrderLemmas.{test_lines, callees_here, lines_at}
use Rattle.hier_blif.proofs.TableLemmas.{table_more, table_held, table_all}

-- lines one after another
instances_both : (models : List BlifModel) (l : ℕ) (one other : List ModelLine) → instances_made models l (one ++ other) ≡ instances_made models l one + instances_made models l other
instances_both models l one other =
    let f = λ (line : InstanceLine). instances_within models l (model_of models line) in
    ap (sum_by f) (flat_map-append instances_on one other) ∙ sum_by-append f (flat_map instances_on one) (flat_map instances_on other)

pub covers_both : (models : List BlifModel) (l : ℕ) (one other : List ModelLine) → covers_made models l (one ++ other) ≡ covers_made models l one + covers_made models l other
covers_both models l one other =
    let f = λ (line : InstanceLine). covers_within models l (model_of models line) in
    let sums = ap (sum_by f) (flat_map-append instances_on one other) ∙ sum_by-append f (flat_map instances_on one) (flat_map instances_on other) in
    let counts = ap length (flat_map-append covers_on one other) ∙ length-append (flat_map covers_on one) (flat_map covers_on other) in
    omega (arith, sums, counts)

pub within_both : (models : List BlifModel) (l : ℕ) (one other : List ModelLine) → AreWithin models l (one ++ other) → AreWithin models l one × AreWithin models l other
within_both models l one other all =
    let P = λ (callee : ℕ). is_within models l (model_at models callee) ≡ true in
    let parts = subst (All P) (flat_map-append (callees_on models) one other) all in
    (All-front P (callees models one) (callees models other) parts, All-back P (callees models one) (callees models other) parts)

both_capped : (a b c x y : ℕ) → a ≡ capped x → b ≡ capped y → c ≡ capped (a + b) → c ≡ capped (x + y)
both_capped a b c x y h k e = omega (arith, h, k, e)

-- one line more
pub counts_more : (models : List BlifModel) (first : ℕ) (lines : List ModelLine) (k : ℕ) (line : ModelLine) (old more new : Size) → k < length lines → line ≡ get_or lines k line → new.instances ≡ capped (old.instances + more.instances) → new.covers ≡ capped (old.covers + more.covers) → Counts models first (take k lines) old → Counts models 0 (line ∷ []) more → Counts models first (take (k + 1) lines) new
counts_more models first lines k line old more new below is i c so_far here =
    subst (λ ls. Counts models first ls new) (sym next) (record {
      instances = λ l all.
          let parts = within_both models l (take k lines) (line ∷ []) all in
          both_capped old.instances more.instances new.instances (first + instances_made models l (take k lines)) (0 + instances_made models l (line ∷ [])) (so_far.instances l parts.0) (here.instances l parts.1) i
          ∙ ap capped (omega (arith, instances_both models l (take k lines) (line ∷ [])));
      covers = λ l all.
          let parts = within_both models l (take k lines) (line ∷ []) all in
          both_capped old.covers more.covers new.covers (covers_made models l (take k lines)) (covers_made models l (line ∷ [])) (so_far.covers l parts.0) (here.covers l parts.1) c
          ∙ ap capped (sym (covers_both models l (take k lines) (line ∷ [])));
    })
  where
    next : take (k + 1) lines ≡ take k lines ++ line ∷ []
    next = take_more lines k line below ∙ ap (λ x. take k lines ++ x ∷ []) (sym is)

-- one line
instance_here : (models : List BlifModel) (line : InstanceLine) (size : Size) → IsSize models (model_of models line) size → Counts models 0 (Instance line ∷ []) size
instance_here models line size is = record {
  instances = λ l all. is.instances l (within l all) ∙ ap capped (omega arith);
  covers = λ l all. is.covers l (within l all) ∙ ap capped (omega arith);
}
  where
    within : (l : ℕ) → AreWithin models l (Instance line ∷ []) → is_within models l (model_of models line) ≡ true
    within l all = all 0 0 (omega arith)

pub counts_instance : (models : List BlifModel) (says : ModelLine) (line : InstanceLine) (sizes : List Size) (place : ℕ) (d : Size) → says ≡ Instance line → place ≡ place_of models line → All (IsSizeAt models sizes) (callees_on models says) → Counts models 0 (says ∷ []) (get_or sizes place d)
counts_instance models says line sizes place d is at sized =
    let all = subst (λ (l : ModelLine). All (IsSizeAt models sizes) (callees_on models l)) is sized in
    let here = All-head (IsSizeAt models sizes) (place_of models line) [] all d in
    let size = get_or sizes (place_of models line) d in
    subst (λ n. Counts models 0 (says ∷ []) (get_or sizes n d)) (sym at) (subst (λ (l : ModelLine). Counts models 0 (l ∷ []) size) (sym is) (instance_here models line size here))

pub counts_cover : (models : List BlifModel) (says : ModelLine) (line : CoverLine) (size : Size) → says ≡ Cover line → size.instances ≡ 0 → size.covers ≡ 1 → Counts models 0 (says ∷ []) size
counts_cover models says line size is i c =
    subst (λ (l : ModelLine). Counts models 0 (l ∷ []) size) (sym is) (record { instances = λ l all. omega (arith, i); covers = λ l all. omega (arith, c) })

pub counts_none : (models : List BlifModel) (says : ModelLine) (size : Size) → ((line : InstanceLine) → says ≡ Instance line → ⊥) → ((line : CoverLine) → says ≡ Cover line → ⊥) → size.instances ≡ 0 → size.covers ≡ 0 → Counts models 0 (says ∷ []) size
counts_none models (Instance line) size one other i c = absurd (one line refl)
counts_none models (Cover line) size one other i c = absurd (other line refl)
counts_none models (Inputs words) size one other i c = record { instances = λ l all. omega (arith, i); covers = λ l all. omega (arith, c) }
counts_none models (Outputs words) size one other i c = record { instances = λ l all. omega (arith, i); covers = λ l all. omega (arith, c) }

-- what a model's lines make is its size
pub lines_within : (models : List BlifModel) (model : BlifModel) (l : ℕ) → is_within models (suc l) model ≡ true → AreWithin models l model.lines
lines_within models model l h =
    AllPass-from_list_all (λ (q : ℕ). is_within models l (model_at models q)) (callees models model.lines) (sym (test_lines (is_within models l) models model.lines) ∙ h)

counted : (models : List BlifModel) (model : BlifModel) (size : Size) → Counts models 1 model.lines size → IsSize models model size
counted models model size counts = record {
  instances = instances;
  covers = covers;
}
  where
    instances : (depth : ℕ) → is_within models depth model ≡ true → size.instances ≡ capped (instances_within models depth model)
    instances zero h = absurd (cc h)
    instances (suc l) h = counts.instances l (lines_within models model l h)

    covers : (depth : ℕ) → is_within models depth model ≡ true → size.covers ≡ capped (covers_within models depth model)
    covers zero h = absurd (cc h)
    covers (suc l) h = counts.covers l (lines_within models model l h)

-- one size more in the table
abbrev SizeAt : List BlifModel → ℕ → Size → Type 0
SizeAt models place size = IsSize models (model_at models place) size

pub sized_more : (models : List BlifModel) (order : List ℕ) (k place : ℕ) (sizes : List Size) (size : Size) → k < length order → place ≡ get_or order k place → place < length sizes → IsSize models (model_at models place) size → All (IsSizeAt models sizes) (take k order) → All (IsSizeAt models (set sizes place size)) (take (k + 1) order)
sized_more models order k place sizes size below is there here so_far =
    table_more (SizeAt models) order k place sizes size below is there here so_far

-- the callees of the next model in the order
pub step_callees : (models : List BlifModel) (order : List ℕ) (k : ℕ) (model : BlifModel) (lines : List ModelLine) → IsListing models order → k < length order → model ≡ get_or models (get_or order k 0) model → lines ≡ model.lines → All (Contains (take k order)) (callees models lines)
step_callees models order k model lines is below at same =
    let place = get_or order k 0 in
    let there = is.there k 0 below in
    subst (λ ls. All (Contains (take k order)) (callees models ls)) (sym same) (subst (All (Contains (take k order))) (callees_here models place model there at) (is.after k 0 below))

pub callees_below : (models : List BlifModel) (order : List ℕ) (k : ℕ) (found : List ℕ) (n : ℕ) → n ≡ length models → IsListing models order → All (Contains (take k order)) found → All (λ callee. callee < n) found
callees_below models order k found n same is held =
    let P = λ (callee : ℕ). callee < length models in
    subst (λ m. All (λ (callee : ℕ). callee < m) found) (sym same) (All-weaker (Contains (take k order)) P (λ q h. All-contains P (take k order) q (All-take P k order is.there) h) found held)

pub counted_at : (models : List BlifModel) (place : ℕ) (model : BlifModel) (lines : List ModelLine) (size : Size) → place < length models → model ≡ get_or models place model → lines ≡ model.lines → Counts models 1 lines size → IsSize models (model_at models place) size
counted_at models place model lines size there at same counts =
    counted models (model_at models place) size (subst (λ ls. Counts models 1 ls size) (same ∙ sym (lines_at models place model there at)) counts)

pub callees_sized : (models : List BlifModel) (sizes : List Size) (places lines : List ℕ) → All (IsSizeAt models sizes) places → All (Contains places) lines → All (IsSizeAt models sizes) lines
callees_sized models sizes places lines sized held = table_held (SizeAt models) sizes places lines sized held

pub all_sized : (models : List BlifModel) (sizes : List Size) (order : List ℕ) (k : ℕ) → length order ≤ k → length sizes ≡ length models → ((place : ℕ) → place < length models → Contains order place) → All (IsSizeAt models sizes) (take k order) → AreSizes models sizes
all_sized models sizes order k past entries whole sized = record {
  entries = entries;
  each = λ place below. table_all (SizeAt models) sizes order k place past (whole place below) sized;
}
