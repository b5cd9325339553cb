-- For the law of flattened circuits: the flattened covers are those of all instances.
use Rattle.std.proofs.Common.{◌≡◌, ℕ, zero, suc, ◌+◌, List, [], ◌∷◌, All, Contains, inl, inr, Some, refl, ap, sym, subst, true, arith}
use Rattle.std.specs.Prelude.{slice_get}
use Rattle.std.specs.List.{flat_map}
use Rattle.std.proofs.lemmas.List.Elements.{All-nil, All-cons, All-append, All-map, All-weaker, Contains-append_left, Contains-append_right, Contains-append_cases}
use Rattle.circuits.proofs.Lists.{cons_cases}
use Rattle.hier_blif.specs.declared.model.CoverLine.{CoverLine}
use Rattle.hier_blif.specs.declared.model.InstanceLine.{InstanceLine}
use Rattle.hier_blif.specs.declared.model.ModelLine.{ModelLine}
use Rattle.hier_blif.specs.declared.model.ModelLine.TheVariants.{Cover, Instance}
use Rattle.hier_blif.specs.declared.model.BlifModel.{BlifModel}
use Rattle.hier_blif.specs.Names.{covers_on, covers_of, model_of}
use Rattle.hier_blif.specs.Depths.{is_within}
use Rattle.hier_blif.specs.Nested.{IsInstance}
use Rattle.hier_blif.specs.Flattening.{FlatCover, own_cover, cover_inside, covers_at, covers_from, flat_covers}
use Rattle.hier_blif.proofs.ElementLemmas.{some_same, Contains-map}
use Rattle.hier_blif.proofs.AgreeLemmas.{less_deep}

-- a model's own covers are among them
own_here : (below : BlifModel → List FlatCover) (models : List BlifModel) (k : ℕ) (says : ModelLine) (line : CoverLine) → Contains (covers_on says) line → Contains (covers_at below models k says) (own_cover line)
own_here below models k (Cover cover) line held =
    elim (cons_cases [] cover line held) [
      | inl same ↦ (0, omega arith, ap own_cover same)
      | inr later ↦ absurd (omega (arith, later.1))
    ]
own_here below models k other line held = absurd (omega (arith, held.1))

own_among : (below : BlifModel → List FlatCover) (models : List BlifModel) (k : ℕ) (lines : List ModelLine) (line : CoverLine) → Contains (flat_map covers_on lines) line → Contains (covers_from below models k lines) (own_cover line)
own_among below models k [] line held = absurd (omega (arith, held.1))
own_among below models k (says ∷ lines) line held =
    elim (Contains-append_cases (covers_on says) (flat_map covers_on lines) line held) [
      | inl here ↦ Contains-append_left (covers_at below models k says) (covers_from below models (suc k) lines) (own_cover line) (own_here below models k says line here)
      | inr later ↦ Contains-append_right (covers_at below models k says) (covers_from below models (suc k) lines) (own_cover line) (own_among below models (suc k) lines line later)
    ]

-- and so are those of its instances
inner_among : (below : BlifModel → List FlatCover) (models : List BlifModel) (start : ℕ) (lines : List ModelLine) (k place : ℕ) (line : InstanceLine) (cover : FlatCover) → place ≡ start + k → slice_get lines k ≡ Some (Instance line) → Contains (below (model_of models line)) cover → Contains (covers_from below models start lines) (cover_inside place cover)
inner_among below models start [] k place line cover at get held = absurd (cc get)
inner_among below models start (says ∷ lines) zero place line cover at get held =
    let same : start ≡ place = omega (arith, at) in
    let here = Contains-map (cover_inside start) (below (model_of models line)) cover held in
    let first = subst (λ (l : ModelLine). Contains (covers_at below models start l) (cover_inside start cover)) (sym (some_same says (Instance line) get)) here in
    subst (λ p. Contains (covers_from below models start (says ∷ lines)) (cover_inside p cover)) same (Contains-append_left (covers_at below models start says) (covers_from below models (suc start) lines) (cover_inside start cover) first)
inner_among below models start (says ∷ lines) (suc k) place line cover at get held =
    Contains-append_right (covers_at below models start says) (covers_from below models (suc start) lines) (cover_inside place cover) (inner_among below models (suc start) lines k place line cover (omega (arith, at)) get held)

-- each cover of each instance is a flattened one
pub cover_among : (l : ℕ) (path : List ℕ) (models : List BlifModel) (top model : BlifModel) (line : CoverLine) → IsInstance models top path model → is_within models l top ≡ true → Contains (covers_of model) line → Contains (flat_covers models l top) (path, line)
cover_among zero path models top model line is deep held = absurd (cc deep)
cover_among (suc l) [] models top model line is deep held =
    own_among (flat_covers models l) models 0 top.lines line (subst (λ (m : BlifModel). Contains (covers_of m) line) is held)
cover_among (suc l) (k ∷ path) models top model line is deep held =
    let inner = cover_among l path models (model_of models is.0) model line is.2 (less_deep models l top k is.0 deep is.1) held in
    inner_among (flat_covers models l) models 0 top.lines k k is.0 (path, line) (omega arith) is.1 inner

-- a flattened cover is one of an instance
abbrev pub IsOfInstance : List BlifModel → BlifModel → FlatCover → Type 0
IsOfInstance models top cover = (model : BlifModel) × Contains (covers_of model) cover.1 × IsInstance models top cover.0 model

cover_held : (lines : List ModelLine) (k : ℕ) (line : CoverLine) → slice_get lines k ≡ Some (Cover line) → Contains (flat_map covers_on lines) line
cover_held [] k line get = absurd (cc get)
cover_held (says ∷ lines) zero line get =
    let here : Contains (covers_on (Cover line)) line = (0, omega arith, refl) in
    Contains-append_left (covers_on says) (flat_map covers_on lines) line (subst (λ (l : ModelLine). Contains (covers_on l) line) (sym (some_same says (Cover line) get)) here)
cover_held (says ∷ lines) (suc k) line get =
    Contains-append_right (covers_on says) (flat_map covers_on lines) line (cover_held lines k line get)

line_covers : (models : List BlifModel) (l : ℕ) (top : BlifModel) (k : ℕ) (says : ModelLine) → slice_get top.lines k ≡ Some says → ((model : BlifModel) → All (IsOfInstance models model) (flat_covers models l model)) → All (IsOfInstance models top) (covers_at (flat_covers models l) models k says)
line_covers models l top k (Cover line) get inside =
    All-cons (IsOfInstance models top) (own_cover line) [] (top, cover_held top.lines k line get, refl) (All-nil (IsOfInstance models top))
line_covers models l top k (Instance line) get inside =
    let below = flat_covers models l (model_of models line) in
    All-map (IsOfInstance models top) (cover_inside k) below (All-weaker (IsOfInstance models (model_of models line)) (λ cover. IsOfInstance models top (cover_inside k cover)) (λ cover is. (is.0, is.1, (line, get, is.2))) below (inside (model_of models line)))
line_covers models l top k other get inside = All-nil (IsOfInstance models top)

lines_covers : (models : List BlifModel) (l : ℕ) (top : BlifModel) (start : ℕ) (lines : List ModelLine) → ((k place : ℕ) (says : ModelLine) → place ≡ start + k → slice_get lines k ≡ Some says → slice_get top.lines place ≡ Some says) → ((model : BlifModel) → All (IsOfInstance models model) (flat_covers models l model)) → All (IsOfInstance models top) (covers_from (flat_covers models l) models start lines)
lines_covers models l top start [] at inside = All-nil (IsOfInstance models top)
lines_covers models l top start (says ∷ lines) at inside =
    let first = line_covers models l top start says (at 0 start says (omega arith) refl) inside in
    let rest = lines_covers models l top (suc start) lines (λ k place other same get. at (suc k) place other (omega (arith, same)) get) inside in
    All-append (IsOfInstance models top) (covers_at (flat_covers models l) models start says) (covers_from (flat_covers models l) models (suc start) lines) first rest

pub covers_of_instances : (l : ℕ) (models : List BlifModel) (top : BlifModel) → All (IsOfInstance models top) (flat_covers models l top)
covers_of_instances zero models top = All-nil (IsOfInstance models top)
covers_of_instances (suc l) models top =
    lines_covers models l top 0 top.lines (λ k place says same get. subst (λ p. slice_get top.lines p ≡ Some says) (sym (zero_on place k same)) get) (λ model. covers_of_instances l models model)
  where
    zero_on : (place k : ℕ) → place ≡ 0 + k → place ≡ k
    zero_on place k same = omega (arith, same)
