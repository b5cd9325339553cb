-- Signatures, and what they show.
use Rattle.std.proofs.Common.{ℕ, ◌+◌, ◌<◌, ◌≤◌, ◌≡◌, ◌↔◌, ◌++◌, ◌∷◌, ◌^◌, Bool, true, false, List, [], length, get_or, sym, ap, subst, ◌∙◌, inl, inr, lit<, arith}
use Rattle.std.specs.Prelude.{Option, None, Some, IsSome, IfSome}
use Rattle.std.proofs.Math.Nat.{pow-le-pow_right}
use Rattle.std.proofs.lemmas.Bool.{cases_lt}
use Rattle.std.proofs.lemmas.List.{length_push, get_or_append_left, get_or_push}
use Rattle.circuits.specs.Literals.{vector_of}
use Rattle.circuits.proofs.Codes.{code_of, code_of-below, vector_of-code_of}
use Rattle.claim_core.specs.declared.claims.Shape.{Shape}
use Rattle.claim_core.specs.Claims.{output_bit, HasValues, BreaksShape, IsPlaced}
use Rattle.sim_signature.specs.declared.change.Change.{Change}
use Rattle.sim_signature.specs.declared.change.Change.TheVariants.{Nothing, Inverted}
use Rattle.sim_signature.specs.Changes.{AreEnds, IsChange, changed, ends_of}
use Rattle.sim_signature.specs.Blocks.{block_bit, pattern}
use Rattle.sim_signature.specs.Signatures.{AreColumns, HasAllVectors, IsColumn, IsOneOf, IsTried, Signed, place_of}
use Rattle.sim_signature.proofs.Ends.{changed-twice, ends}
use Rattle.sim_signature.proofs.Inverting.{length-changed}

-- one input more
pub AreColumns-more : (s : Signed) (done : ℕ) (columns : List (List (List ℕ))) (column : List (List ℕ)) → AreColumns s done columns → IsColumn s (Inverted done) column → AreColumns s (done + 1) (columns ++ column ∷ [])
AreColumns-more s done columns column are is = record {
  count = omega (arith, length_push columns column, are.count);
  each = each;
}
  where
    each : (change : Change) (d : List (List ℕ)) → IsChange (done + 1) change → IsColumn s change (get_or (columns ++ column ∷ []) (place_of change) d)
    each Nothing d there =
        subst (IsColumn s Nothing) (sym (get_or_append_left columns (column ∷ []) d 0 (omega (arith, are.count)))) (are.each Nothing d tt)
    each (Inverted i) d there =
        elim (cases_lt i done) [
          | inl sooner ↦ subst (IsColumn s (Inverted i)) (sym (get_or_append_left columns (column ∷ []) d (1 + i) (omega (arith, are.count, sooner)))) (are.each (Inverted i) d sooner)
          | inr past ↦
              let e : done ≡ i = omega (arith, past, there) in
              subst (IsColumn s (Inverted i)) (sym (get_or_push columns column d (1 + i) (are.count ∙ ap (λ n. 1 + n) e))) (subst (λ i. IsColumn s (Inverted i) column) e is)
        ]

-- falls between two changes break the shape where the first one has its values
pub breaking : (s : Signed) (k : ℕ) (shape : Shape) (from to : Change) (x : List Bool) (found fall : Bool)
    → length x ≡ s.net.inputs
    → AreEnds s.net.inputs shape from to
    → (fall ≡ true) ↔ ((output_bit s.net k (changed from x) ≡ true) × (output_bit s.net k (changed to x) ≡ false))
    → (found ≡ true) ↔ ((fall ≡ true) × HasValues shape (changed from x))
    → (found ≡ true) ↔ BreaksShape s.net k shape (changed from x)
breaking s k shape from to x found fall len ends falls valued = (
  λ is.
      let both = valued.0 is in
      let change = falls.0 both.0 in
      record {
        inputs = length-changed from x ∙ len;
        values = both.1;
        before = change.0;
        after = ap (output_bit s.net k) (ends.opposite x len both.1) ∙ change.1;
      },
  λ breaks. valued.1 (falls.1 (breaks.before, sym (ap (output_bit s.net k) (ends.opposite x len breaks.values)) ∙ breaks.after), breaks.values),
)

-- at most six inputs have each vector among 64
pub has-all : (s : Signed) → s.net.inputs ≤ 6 → ((w v : ℕ) → w < 8 → v < 64 → pattern s.blocks w v ≡ vector_of s.net.inputs v) → HasAllVectors s
has-all s few all x len =
    let code = code_of x in
    let most : 2 ^ s.net.inputs ≤ 2 ^ 6 = pow-le-pow_right {n = 2} (lit< tt) {i = s.net.inputs} {j = 6} few in
    let small : code < 64 = omega (arith, code_of-below x, most, ap (λ n. 2 ^ n) len) in
    (0, code, omega arith, small, vector_of-code_of x ∙ (ap (λ n. vector_of n code) len ∙ sym (all 0 code (omega arith) small)))

-- where a block's bits stand for vectors that break the shape, one that is found breaks it
pub one-breaks : (s : Signed) (k : ℕ) (shape : Shape) (change : Change) (lanes : List ℕ) (found : Option (List Bool))
    → ((w v : ℕ) → w < 8 → v < 64 → (block_bit w v lanes ≡ true) ↔ BreaksShape s.net k shape (changed change (pattern s.blocks w v)))
    → IfSome found (IsOneOf s.blocks lanes change)
    → IfSome found (BreaksShape s.net k shape)
one-breaks s k shape change lanes None breaking found = tt
one-breaks s k shape change lanes (Some x) breaking (w, v, h, l, is, at) =
    subst (BreaksShape s.net k shape) (sym at) ((breaking w v h l).0 is)

-- where each vector is among the 512, each is tried
pub all-tried : (s : Signed) (shape : Shape) (x : List Bool) → IsPlaced s.net.inputs shape → HasAllVectors s → length x ≡ s.net.inputs → IsTried s shape x
all-tried s shape x placed all len =
    let change = (ends_of shape).0 in
    let there : IsChange (length x) change = subst (λ n. IsChange n change) (sym len) (ends s.net.inputs shape placed).from_there in
    let at = all (changed change x) (length-changed change x ∙ len) in
    (at.0, at.1, at.2, at.3, inl (sym (changed-twice change x there) ∙ ap (changed change) at.4))

pub nothing : {X : Type 0} (found : Option X) → found ≡ None → IsSome found → ⊥
nothing None is some = cc
nothing (Some x) is some = cc

-- where nothing is found in one direction, what is found in the other is all that is tried
pub seen : {X : Type 0} (s : Signed) (k : ℕ) (shape : Shape) (one other : Option X) → one ≡ None
    → ((w v : ℕ) → w < 8 → v < 64 → BreaksShape s.net k shape (changed (ends_of shape).0 (pattern s.blocks w v)) → IsSome one)
    → ((w v : ℕ) → w < 8 → v < 64 → BreaksShape s.net k shape (changed (ends_of shape).1 (pattern s.blocks w v)) → IsSome other)
    → (x : List Bool) → IsTried s shape x → BreaksShape s.net k shape x → IsSome other
seen s k shape one other none first second x (w, v, h, l, inl is) breaks =
    absurd (nothing one none (first w v h l (subst (BreaksShape s.net k shape) is breaks)))
seen s k shape one other none first second x (w, v, h, l, inr is) breaks =
    second w v h l (subst (BreaksShape s.net k shape) is breaks)
