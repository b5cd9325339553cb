-- The models of a file, each after those that it has instances of, and what a depth-first search for that order knows
-- while it is under way (depth-first search with a stack, as in textbooks).
use Rattle.std.specs.Prelude.{ℕ, suc, ◌+◌, ◌*◌, ◌<◌, ◌≡◌, ◌≢◌, ◌++◌, Bool, true, false, List, [], ◌∷◌, length, take, All, Contains, count_by, slice_index_or}
use Rattle.std.specs.List.{flat_map, position_or_len}
use Rattle.hier_blif.specs.declared.fault.HierFault.{HierFault}
use Rattle.hier_blif.specs.declared.fault.HierKind.TheVariants as wrong
use Rattle.hier_blif.specs.declared.model.InstanceLine.{InstanceLine}
use Rattle.hier_blif.specs.declared.model.ModelLine.{ModelLine}
use Rattle.hier_blif.specs.declared.model.ModelLine.TheVariants.{Instance}
use Rattle.hier_blif.specs.declared.model.BlifModel.{BlifModel}
use Rattle.hier_blif.specs.declared.order.Visit.{Visit}
use Rattle.hier_blif.specs.declared.order.Visit.TheVariants.{New, Open, Listed}
use Rattle.hier_blif.specs.declared.order.Call.{Call}
use Rattle.hier_blif.specs.declared.order.ModelSearch.{ModelSearch}
use Rattle.hier_blif.specs.Names.{has_name, model_of}
use Rattle.hier_blif.specs.Depths.{HasDepth, HasNoDepth}
use Rattle.hier_blif.specs.Scopes.{model_at}

-- the place of the model that an instance is of
abbrev pub place_of : List BlifModel → InstanceLine → ℕ
place_of models line = position_or_len (has_name line.model.bytes) models

-- the models that lines have instances of, by their places
abbrev pub callees_on : List BlifModel → ModelLine → List ℕ
callees_on models (Instance line) = place_of models line ∷ []
callees_on models other = []

-- the models of all instances that these lines make, by their places
abbrev pub callees : List BlifModel → List ModelLine → List ℕ
callees models lines = flat_map (callees_on models) lines

-- the models that the one at a place has instances of, by their places
abbrev pub callees_at : List BlifModel → ℕ → List ℕ
callees_at models place = callees models (model_at models place).lines

-- each instance is of a model of the file
pub record AreThere (models : List BlifModel) : Type 0 where
  pub each : (place : ℕ) → place < length models → All (λ callee. callee < length models) (callees_at models place)

-- each model is listed after those that it has instances of
pub record IsListing (models : List BlifModel) (order : List ℕ) : Type 0 where
  pub there : All (λ place. place < length models) order
  pub after : (k d : ℕ) → k < length order
      → All (Contains (take k order)) (callees_at models (slice_index_or order k d))

-- and all models are listed
pub record IsBottomUp (models : List BlifModel) (order : List ℕ) : Type 0 where
  pub listing : IsListing models order
  pub whole : (place : ℕ) → place < length models → Contains order place

-- The fault is at this instance, whose model has no depth.
pub record IsRecursionAt (models : List BlifModel) (line : InstanceLine) (fault : HierFault) : Type 0 where
  pub recursive : HasNoDepth models (model_of models line)
  pub is : fault ≡ record { kind = wrong.Recursion; at = line.at }

-- The fault is at the first of these instances whose model has no depth.
pub record IsRecursionAmong (models : List BlifModel) (lines : List InstanceLine) (fault : HierFault) : Type 0 where
  pub line : InstanceLine
  pub before : List InstanceLine
  pub after : List InstanceLine
  pub whole : lines ≡ before ++ line ∷ after
  pub deep : All (λ other. HasDepth models (model_of models other)) before
  pub at : IsRecursionAt models line fault

-- how far the search has come with the model at a place
abbrev pub visit_of : List Visit → ℕ → Visit
visit_of visits place = slice_index_or visits place New

-- the search hasn't met the model yet
abbrev pub is_new : Visit → Bool
is_new New = true
is_new Open = false
is_new Listed = false

-- how much is left to do: each model that is new is put on the stack and taken off, each one on the stack is taken off
abbrev pub left : List Visit → List ℕ → ℕ
left visits stack = 2 * count_by is_new visits + length stack

-- the lines of a model that were looked at have instances of models that are listed
abbrev pub AreLooked : List BlifModel → List ℕ → ℕ → ℕ → Type 0
AreLooked models order place looked = All (Contains order) (callees models (take looked (model_at models place).lines))

-- what is known of the models
pub record Knows (models : List BlifModel) (visits : List Visit) (looked stack order : List ℕ) : Type 0 where
  pub entries : length visits ≡ length models
  pub looked_entries : length looked ≡ length models
  pub listing : IsListing models order
  pub listed : (place : ℕ) → visit_of visits place ≡ Listed → Contains order place
  pub opens : (place : ℕ) → visit_of visits place ≡ Open → Contains stack place
  pub lines : (place : ℕ) → place < length models → AreLooked models order place (slice_index_or looked place 0)

-- each model on the stack has an instance of the one above it, and the search's root is at the bottom
pub record IsPath (models : List BlifModel) (root : ℕ) (stack : List ℕ) : Type 0 where
  pub there : All (λ place. place < length models) stack
  pub bottom : (d : ℕ) → 0 < length stack → slice_index_or stack 0 d ≡ root
  pub steps : (j d : ℕ) → suc j < length stack
      → Contains (callees_at models (slice_index_or stack j d)) (slice_index_or stack (suc j) d)

-- The search from a root goes on: what is known of all models, and of those on the stack.
pub record IsUnderWay (models : List BlifModel) (root : ℕ) (search : ModelSearch) : Type 0 where
  pub knows : Knows models search.visits.items search.looked.items search.stack.items search.order.items
  pub path : IsPath models root search.stack.items
  pub met : visit_of search.visits.items root ≢ New

-- no search is under way
pub record IsReady (models : List BlifModel) (search : ModelSearch) : Type 0 where
  pub knows : Knows models search.visits.items search.looked.items search.stack.items search.order.items
  pub no_stack : length search.stack.items ≡ 0

-- what is listed stays listed
abbrev pub Grows : List ℕ → List ℕ → Type 0
Grows old new = (place : ℕ) → Contains old place → Contains new place

-- searches that end with these models listed
pub record Explores (models : List BlifModel) (found : List ℕ) (old new : ModelSearch) : Type 0 where
  pub ready : IsReady models new
  pub grows : Grows old.order.items new.order.items
  pub listed : All (Contains new.order.items) found

-- the model's first line with an instance of a model that isn't listed, and that model
pub record IsCall (models : List BlifModel) (visits : List Visit) (order : List ℕ) (place : ℕ) (call : Call) : Type 0 where
  pub looked : AreLooked models order place call.line
  pub callee : Contains (callees_at models place) call.callee
  pub there : call.callee < length models
  pub open_or_new : visit_of visits call.callee ≢ Listed
