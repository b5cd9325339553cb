-- For `check_models`: what follows where no name is refused, and the size of the top.
use Rattle.std.proofs.Common.{◌≡◌, ℕ, ◌+◌, ◌<◌, ◌≤◌, Bool, true, false, not, List, [], length, get_or, All, refl, ap, sym, subst, ◌∙◌, inl, inr, arith}
use Rattle.std.specs.Prelude.{nat_lt}
use Rattle.std.specs.List.{flat_map, position_or_len}
use Rattle.std.proofs.lemmas.Bool.Decides.{nat_tests}
use Rattle.std.proofs.lemmas.List.{get_or_default}
use Rattle.std.proofs.lemmas.List.Elements.{All-weaker}
use Rattle.std.proofs.lemmas.Option.{slice_get-get_or}
use Rattle.blif_reader.proofs.NumberLemmas.{any_place}
use Rattle.hier_blif.specs.declared.fault.HierFault.{HierFault}
use Rattle.hier_blif.specs.declared.fault.HierKind.{HierKind}
use Rattle.hier_blif.specs.declared.fault.HierKind.TheVariants as wrong
use Rattle.hier_blif.specs.declared.fault.HierStop.{HierStop}
use Rattle.hier_blif.specs.declared.fault.HierStop.TheVariants.{Fault}
use Rattle.hier_blif.specs.declared.model.InstanceLine.{InstanceLine}
use Rattle.hier_blif.specs.declared.model.ModelLine.{ModelLine}
use Rattle.hier_blif.specs.declared.model.BlifModel.{BlifModel}
use Rattle.hier_blif.specs.declared.sizes.Size.{Size}
use Rattle.hier_blif.specs.Models.{no_name, empty_model}
use Rattle.hier_blif.specs.Names.{instances_of, all_instances, has_name, model_of}
use Rattle.hier_blif.specs.NameFaults.{when, port_line_faults, port_faults, model_faults, name_faults}
use Rattle.hier_blif.specs.Stops.{IsStopBy}
use Rattle.hier_blif.specs.Depths.{HasDepth, instances_within, covers_within}
use Rattle.hier_blif.specs.Hierarchies.{most_parts}
use Rattle.hier_blif.specs.Scopes.{model_at}
use Rattle.hier_blif.specs.Order.{place_of, AreThere, IsBottomUp}
use Rattle.hier_blif.specs.Sizes.{capped, IsSize, AreSizes}
use Rattle.hier_blif.specs.Limits.{HasManyPorts}
use Rattle.hier_blif.specs.Checks.{AreSmallModels, IsModelFault}
use Rattle.hier_blif.proofs.ElementLemmas.{all_of_place}
use Rattle.hier_blif.proofs.WellNamedLemmas.{both_empty, parts_empty}
use Rattle.hier_blif.proofs.OrderLemmas.{by_callee, has_depth}

-- each instance is of a model of the file
there_by : (t : Bool) (n m : ℕ) (kind : HierKind) (at : ℕ) → nat_lt n m ≡ t → when (not t) kind at ≡ [] → n < m
there_by true n m kind at e h = grind (arith, nat_tests)
there_by false n m kind at e h = absurd (cc h)

line_is_there : (models : List BlifModel) (line : InstanceLine) → model_faults models line ≡ [] → place_of models line < length models
line_is_there models line h =
    let p = has_name line.model.bytes in
    there_by (nat_lt (position_or_len p models) (length models)) (position_or_len p models) (length models) wrong.NoModel line.model.at refl (ap (λ t. when (not t) wrong.NoModel line.model.at) (any_place p models) ∙ h)

pub all_there : (models : List BlifModel) → name_faults models ≡ [] → AreThere models
all_there models h =
    let lines = all_instances models in
    let one = (both_empty (flat_map port_line_faults models) _ h).1 in
    let two = (both_empty (flat_map port_faults models) _ one).1 in
    let three = (both_empty (flat_map (model_faults models) lines) _ two).0 in
    let each = All-weaker (λ line. model_faults models line ≡ []) (λ line. place_of models line < length models) (line_is_there models) lines (parts_empty (model_faults models) lines three) in
    record {
      each = λ c below. by_callee (λ place. place < length models) models (model_at models c).lines (all_of_place (λ line. place_of models line < length models) instances_of models c (model_at models c) (slice_get-get_or models c (empty_model 0 no_name) below) each);
    }

-- the size of the top
is_big : (a b i c : ℕ) → i ≡ capped a → c ≡ capped b → nat_lt most_parts (i + c) ≡ true → most_parts < a + b
is_big a b i c h k e =
    let more : most_parts < i + c = grind (arith, nat_tests) in
    omega (arith, more, h, k)

is_small : (a b i c : ℕ) → i ≡ capped a → c ≡ capped b → nat_lt most_parts (i + c) ≡ false → a + b ≤ most_parts
is_small a b i c h k e =
    let few : i + c ≤ most_parts = grind (arith, nat_tests) in
    omega (arith, few, h, k)

-- what is known once the models are in order and sized
pub record AreSized (models : List BlifModel) (order : List ℕ) (sizes : List Size) : Type 0 where
  pub named : name_faults models ≡ []
  pub deep : All (λ line. HasDepth models (model_of models line)) (all_instances models)
  pub order_is : IsBottomUp models order
  pub sizes_are : AreSizes models sizes

pub sized_as : (models seen : List BlifModel) (order : List ℕ) (sizes : List Size) → seen ≡ models → name_faults models ≡ [] → All (λ line. HasDepth seen (model_of seen line)) (all_instances seen) → IsBottomUp seen order → AreSizes seen sizes → AreSized models order sizes
sized_as models seen order sizes same named deep is are = record {
  named = named;
  deep = subst (λ ms. All (λ line. HasDepth ms (model_of ms line)) (all_instances ms)) same deep;
  order_is = subst (λ ms. IsBottomUp ms order) same is;
  sizes_are = subst (λ ms. AreSizes ms sizes) same are;
}

top_depth : (models : List BlifModel) (order : List ℕ) (sizes : List Size) → 0 < length models → AreSized models order sizes → HasDepth models (model_at models 0)
top_depth models order sizes some are = has_depth models order 0 are.order_is.listing (are.order_is.whole 0 some)

pub top_small : (models : List BlifModel) (order : List ℕ) (sizes : List Size) (size : Size) → 0 < length models → AreSized models order sizes → size ≡ get_or sizes 0 size → nat_lt most_parts (size.instances + size.covers) ≡ false → AreSmallModels models
top_small models order sizes size some are at small =
    let depth = top_depth models order sizes some are in
    let is = subst (IsSize models (model_at models 0)) (sym at) (are.sizes_are.each 0 some size) in
    record {
      checked = record { named = are.named; deep = are.deep };
      depth = depth.0;
      within = depth.1;
      small = is_small (instances_within models depth.0 (model_at models 0)) (covers_within models depth.0 (model_at models 0)) size.instances size.covers (is.instances depth.0 depth.1) (is.covers depth.0 depth.1) small;
    }

pub top_big : (end : ℕ) (models : List BlifModel) (order : List ℕ) (sizes : List Size) (size : Size) (stop : HierStop) → 0 < length models → AreSized models order sizes → size ≡ get_or sizes 0 size → nat_lt most_parts (size.instances + size.covers) ≡ true → stop ≡ Fault (record { kind = wrong.TooBig; at = end }) → IsStopBy (IsModelFault end models) stop
top_big end models order sizes size stop some are at big is_stop =
    let depth = top_depth models order sizes some are in
    let is = subst (IsSize models (model_at models 0)) (sym at) (are.sizes_are.each 0 some size) in
    subst (IsStopBy (IsModelFault end models)) (sym is_stop) (inr (inr (inl (record {
      checked = record { named = are.named; deep = are.deep };
      depth = depth.0;
      within = depth.1;
      many = is_big (instances_within models depth.0 (model_at models 0)) (covers_within models depth.0 (model_at models 0)) size.instances size.covers (is.instances depth.0 depth.1) (is.covers depth.0 depth.1) big;
      is = refl;
    }))))

-- the ports of the top
pub ports_many : (end : ℕ) (models : List BlifModel) (lines : List ModelLine) (fault : HierFault) → lines ≡ (model_at models 0).lines → AreSmallModels models → HasManyPorts lines fault → IsModelFault end models fault
ports_many end models lines fault same small many =
    inr (inr (inr (record { small = small; many = subst (λ ls. HasManyPorts ls fault) same many })))

pub top_lines : (models : List BlifModel) (read : BlifModel) (lines : List ModelLine) → 0 < length models → lines ≡ (get_or models 0 read).lines → lines ≡ (model_at models 0).lines
top_lines models read lines some is =
    is ∙ ap (λ (m : BlifModel). m.lines) (get_or_default models 0 read (empty_model 0 no_name) some)
