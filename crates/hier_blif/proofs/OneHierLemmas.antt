-- For the law that a file of models has one first fault at most, and none where it is a circuit.
use Rattle.std.proofs.Common.{◌≡◌, ℕ, ◌≤◌, ◌⊎◌, inl, inr, List, [], ◌∷◌, ◌++◌, length, take, drop, get_or, All, Option, Some, ap, sym, subst, ◌∙◌, arith}
use Rattle.std.specs.Prelude.{unwrap_or}
use Rattle.std.proofs.lemmas.List.Elements.{All-head, All-tail}
use Rattle.text_core.specs.Piece.{Piece}
use Rattle.circuits.specs.Circuits.{Circuit}
use Rattle.circuits.specs.Expansion.{gates_in}
use Rattle.circuits.specs.Levels.{IsAcyclic, IsFirstLooped}
use Rattle.net_core.specs.Limits.{most_ports}
use Rattle.circuits.proofs.OneOrder.{one_first_looped, acyclic_not_looped}
use Rattle.circuits.proofs.Lists.{All-back}
use Rattle.blif_reader.proofs.FirstLemmas.{one_first, no_first}
use Rattle.hier_blif.specs.declared.fault.HierFault.{HierFault}
use Rattle.hier_blif.specs.declared.fault.HierKind.TheVariants as wrong
use Rattle.hier_blif.specs.declared.model.InstanceLine.{InstanceLine}
use Rattle.hier_blif.specs.Models.{models_of, top_of}
use Rattle.hier_blif.specs.LineFaults.{AreSound, line_fault, is_faulty, IsLineFault}
use Rattle.hier_blif.specs.Names.{inputs_of, model_of}
use Rattle.hier_blif.specs.NameFaults.{name_faults}
use Rattle.hier_blif.specs.Stops.{first_of}
use Rattle.hier_blif.specs.Depths.{HasDepth}
use Rattle.hier_blif.specs.Flattening.{FlatCover}
use Rattle.hier_blif.specs.Hierarchies.{AreNamed, AreDeep, AreSmall, AreFew, covers_of_top, AreFlattened, IsNameFault, IsRecursionFault, IsSizeFault, IsInputsFault, IsOutputsFault, IsCycleFault, IsGatesFault, IsFaultOfLines, AreHierarchy}
use Rattle.hier_blif.proofs.WellNamedLemmas.{well_named}
use Rattle.hier_blif.proofs.FlatLemmas.{no_cover}
use Rattle.hier_blif.proofs.DepthLemmas.{same_size, same_covers, same_circuit, top_held}

-- there is one fault of a sort at most
abbrev IsOne : (HierFault → Type 0) → Type 0
IsOne R = (f g : HierFault) → R f → R g → f ≡ g

-- two sorts that exclude one another, and are one fault each, are one together
either : (S R : HierFault → Type 0) → ((f g : HierFault) → S f → R g → ⊥) → IsOne S → IsOne R → IsOne (λ f. S f ⊎ R f)
either S R apart one two f g (inl s) (inl t) = one f g s t
either S R apart one two f g (inl s) (inr r) = absurd (apart f g s r)
either S R apart one two f g (inr r) (inl s) = absurd (apart g f s r)
either S R apart one two f g (inr r) (inr q) = two f g r q

some_one : (f g : HierFault) (o : Option HierFault) → o ≡ Some f → o ≡ Some g → f ≡ g
some_one f g o one other = ap (λ (p : Option HierFault). unwrap_or p f) (sym one ∙ other)

-- the first of these that isn't so
first_same : (P : InstanceLine → Type 0) (before rest : List InstanceLine) (line next : InstanceLine) (after tail : List InstanceLine) → before ++ line ∷ after ≡ rest ++ next ∷ tail → All P before → All P rest → (P line → ⊥) → (P next → ⊥) → line ≡ next
first_same P [] [] line next after tail e one other not_line not_next = head_same line next after tail e
  where
    head_same : (a b : InstanceLine) (xs ys : List InstanceLine) → a ∷ xs ≡ b ∷ ys → a ≡ b
    head_same a b xs ys e = ap (λ (zs : List InstanceLine). get_or zs 0 a) e
first_same P [] (other ∷ rest) line next after tail e one all not_line not_next =
    absurd (not_line (subst P (sym (ap (λ (zs : List InstanceLine). get_or zs 0 line) e)) (All-head P other rest all)))
first_same P (other ∷ before) [] line next after tail e one all not_line not_next =
    absurd (not_next (subst P (ap (λ (zs : List InstanceLine). get_or zs 0 next) e) (All-head P other before one)))
first_same P (one_line ∷ before) (other ∷ rest) line next after tail e one all not_line not_next =
    first_same P before rest line next after tail (ap (drop 1) e) (All-tail P one_line before one) (All-tail P other rest all) not_line not_next

-- a fault of a kind at a place
abbrev at_recursion : ℕ → HierFault
at_recursion at = record { kind = wrong.Recursion; at = at }

abbrev at_cycle : ℕ → HierFault
at_cycle at = record { kind = wrong.Cycle; at = at }

-- the faults from some sort on, and what holds where one of them comes
module _ (end : ℕ) (lines : List (List Piece)) where
  abbrev FromCycle : HierFault → Type 0
  FromCycle f = IsCycleFault lines f ⊎ IsGatesFault end lines f

  abbrev FromOutputs : HierFault → Type 0
  FromOutputs f = IsOutputsFault lines f ⊎ FromCycle f

  abbrev FromInputs : HierFault → Type 0
  FromInputs f = IsInputsFault lines f ⊎ FromOutputs f

  abbrev FromSize : HierFault → Type 0
  FromSize f = IsSizeFault end lines f ⊎ FromInputs f

  abbrev FromRecursion : HierFault → Type 0
  FromRecursion f = IsRecursionFault lines f ⊎ FromSize f

  abbrev FromNames : HierFault → Type 0
  FromNames f = IsNameFault lines f ⊎ FromRecursion f

  few : (f : HierFault) → FromCycle f → (depth : ℕ) × AreFew lines depth
  few f (inl fault) = (fault.depth, fault.few)
  few f (inr fault) = (fault.depth, fault.few)

  few_inputs : (f : HierFault) → FromOutputs f → length (inputs_of (top_of (models_of lines))) ≤ most_ports
  few_inputs f (inl fault) = fault.few_inputs
  few_inputs f (inr fault) = (few f fault).1.inputs

  small : (f : HierFault) → FromInputs f → (depth : ℕ) × AreSmall lines depth
  small f (inl fault) = (fault.depth, fault.small)
  small f (inr (inl fault)) = (fault.depth, fault.small)
  small f (inr (inr fault)) = let is = few f fault in (is.0, is.1.small)

  deep : (f : HierFault) → FromSize f → AreDeep lines
  deep f (inl fault) = fault.deep
  deep f (inr fault) = (small f fault).1.deep

  named : (f : HierFault) → FromRecursion f → AreNamed lines
  named f (inl fault) = fault.named
  named f (inr fault) = (deep f fault).named

  sound : (f : HierFault) → FromNames f → AreSound lines
  sound f (inl fault) = fault.sound
  sound f (inr fault) = (named f fault).sound

  no_line : (f : HierFault) → IsLineFault lines f → AreSound lines → ⊥
  no_line f fault good = no_first is_faulty lines [] fault.place good fault.first

  no_name : (f : HierFault) → IsNameFault lines f → AreNamed lines → ⊥
  no_name f fault good = cc (fault.first, ap first_of good.named)

  no_recursion : (f : HierFault) → IsRecursionFault lines f → AreDeep lines → ⊥
  no_recursion f fault good =
      let P = λ (l : InstanceLine). HasDepth (models_of lines) (model_of (models_of lines) l) in
      let has = All-head P fault.line fault.first.after (All-back P fault.first.before (fault.line ∷ fault.first.after) (subst (All P) fault.first.whole good.deep)) in
      cc (has.1, fault.first.recursive has.0)

  no_size : (f : HierFault) (depth : ℕ) → IsSizeFault end lines f → AreSmall lines depth → ⊥
  no_size f depth fault good =
      omega (arith, fault.many, good.small, same_size fault.depth depth (models_of lines) (top_of (models_of lines)) fault.within good.within)

  no_inputs : (f : HierFault) → IsInputsFault lines f → length (inputs_of (top_of (models_of lines))) ≤ most_ports → ⊥
  no_inputs f fault good = omega (arith, fault.many, good)

  no_outputs : (f : HierFault) (depth : ℕ) → IsOutputsFault lines f → AreFew lines depth → ⊥
  no_outputs f depth fault good = omega (arith, fault.many, good.outputs)

  one_circuit : (d e : ℕ) (a b : Circuit) → AreFew lines d → AreFew lines e → AreFlattened lines d a → AreFlattened lines e b → a ≡ b
  one_circuit d e a b one other first second =
      same_circuit (models_of lines) (top_of (models_of lines)) d e a b (well_named (models_of lines) one.small.deep.named.named) (top_held lines) one.small.within other.small.within first second

  no_cycle : (f : HierFault) (depth : ℕ) (circuit : Circuit) → IsCycleFault lines f → AreFew lines depth → AreFlattened lines depth circuit → IsAcyclic circuit → ⊥
  no_cycle f depth circuit fault few_ports flattened good =
      let same = one_circuit fault.depth depth fault.circuit circuit fault.few few_ports fault.flattened flattened in
      acyclic_not_looped circuit fault.definition good (subst (λ c. IsFirstLooped c fault.definition) same fault.why)

  one_line : IsOne (IsLineFault lines)
  one_line f g one other =
      let same = one_first is_faulty lines [] one.place other.place one.first other.first in
      some_one f g (line_fault (take one.place lines) (get_or lines one.place [])) one.why (ap (λ p. line_fault (take p lines) (get_or lines p [])) same ∙ other.why)

  one_name : IsOne (IsNameFault lines)
  one_name f g one other = some_one f g (first_of (name_faults (models_of lines))) one.first other.first

  one_recursion : IsOne (IsRecursionFault lines)
  one_recursion f g one other =
      let P = λ (l : InstanceLine). HasDepth (models_of lines) (model_of (models_of lines) l) in
      let same = first_same P one.first.before other.first.before one.line other.line one.first.after other.first.after (sym one.first.whole ∙ other.first.whole) one.first.deep other.first.deep (λ has. cc (has.1, one.first.recursive has.0)) (λ has. cc (has.1, other.first.recursive has.0)) in
      one.is ∙ (ap (λ (l : InstanceLine). at_recursion l.at) same ∙ sym other.is)

  one_size : IsOne (IsSizeFault end lines)
  one_size f g one other = one.is ∙ sym other.is

  one_inputs : IsOne (IsInputsFault lines)
  one_inputs f g one other = one.is ∙ sym other.is

  one_outputs : IsOne (IsOutputsFault lines)
  one_outputs f g one other = one.is ∙ sym other.is

  one_cycle : IsOne (IsCycleFault lines)
  one_cycle f g one other =
      let same = one_circuit one.depth other.depth one.circuit other.circuit one.few other.few one.flattened other.flattened in
      let covers = same_covers one.depth other.depth (models_of lines) (top_of (models_of lines)) one.few.small.within other.few.small.within in
      let place = one_first_looped other.circuit one.definition other.definition (subst (λ c. IsFirstLooped c one.definition) same one.why) other.why in
      one.is no_cover ∙ (ap (λ (cs : List FlatCover). at_cycle (get_or cs one.definition no_cover).1.at) covers ∙ (ap (λ p. at_cycle (get_or (covers_of_top lines other.depth) p no_cover).1.at) place ∙ sym (other.is no_cover)))

  one_gates : IsOne (IsGatesFault end lines)
  one_gates f g one other = one.is ∙ sym other.is

  pub one_fault_of_lines : IsOne (IsFaultOfLines end lines)
  one_fault_of_lines =
      either (IsLineFault lines) FromNames (λ f g bad later. no_line f bad (sound g later)) one_line
      (either (IsNameFault lines) FromRecursion (λ f g bad later. no_name f bad (named g later)) one_name
      (either (IsRecursionFault lines) FromSize (λ f g bad later. no_recursion f bad (deep g later)) one_recursion
      (either (IsSizeFault end lines) FromInputs (λ f g bad later. no_size f (small g later).0 bad (small g later).1) one_size
      (either (IsInputsFault lines) FromOutputs (λ f g bad later. no_inputs f bad (few_inputs g later)) one_inputs
      (either (IsOutputsFault lines) FromCycle (λ f g bad later. no_outputs f (few g later).0 bad (few g later).1) one_outputs
      (either (IsCycleFault lines) (IsGatesFault end lines) (λ f g bad later. no_cycle f later.depth later.circuit bad later.few later.flattened later.acyclic) one_cycle
      one_gates))))))

  pub lines_or_fault : (depth : ℕ) (circuit : Circuit) (f : HierFault) → AreHierarchy lines depth circuit → IsFaultOfLines end lines f → ⊥
  lines_or_fault depth circuit f is (inl fault) = no_line f fault is.few.small.deep.named.sound
  lines_or_fault depth circuit f is (inr (inl fault)) = no_name f fault is.few.small.deep.named
  lines_or_fault depth circuit f is (inr (inr (inl fault))) = no_recursion f fault is.few.small.deep
  lines_or_fault depth circuit f is (inr (inr (inr (inl fault)))) = no_size f depth fault is.few.small
  lines_or_fault depth circuit f is (inr (inr (inr (inr (inl fault))))) = no_inputs f fault is.few.inputs
  lines_or_fault depth circuit f is (inr (inr (inr (inr (inr (inl fault)))))) = no_outputs f depth fault is.few
  lines_or_fault depth circuit f is (inr (inr (inr (inr (inr (inr (inl fault))))))) = no_cycle f depth circuit fault is.few is.flattened is.acyclic
  lines_or_fault depth circuit f is (inr (inr (inr (inr (inr (inr (inr fault))))))) =
      omega (arith, fault.many, is.few_gates, ap gates_in (one_circuit fault.depth depth fault.circuit circuit fault.few is.few fault.flattened is.flattened))

  pub one_hierarchy : (d e : ℕ) (a b : Circuit) → AreHierarchy lines d a → AreHierarchy lines e b → a ≡ b
  one_hierarchy d e a b one other = one_circuit d e a b one.few other.few one.flattened other.flattened
