-- What a hunt leaves: broken claims, and one sighting of each shape that a vector breaks.
use Rattle.std.proofs.Common.{ℕ, ◌+◌, ◌<◌, ◌≡◌, ◌⊎◌, List, [], ◌∷◌, ◌++◌, length, get_or, take, sym, subst, ◌∙◌, inl, inr, arith}
use Rattle.std.specs.List.{Contains}
use Rattle.std.proofs.lemmas.List.{length_push, get_or_append_left, take_more}
use Rattle.std.proofs.lemmas.List.Elements.{All-push, Contains-push_cases}
use Rattle.std.proofs.lemmas.List.Quantifiers.{Any-push}
use Rattle.claim_core.specs.declared.claims.Shape.{Shape}
use Rattle.claim_core.specs.Claims.{ShapeFails}
use Rattle.sim_signature.specs.declared.sighting.Sighting.{Sighting}
use Rattle.sim_signature.specs.Signatures.{HasAllVectors, Signed}
use Rattle.sim_signature.specs.Sightings.{AreLeft, IsBroken, IsSighted, Hunted}

IsSighted-push : (shape : Shape) (old : List Sighting) (sighting : Sighting) → IsSighted shape old → IsSighted shape (old ++ sighting ∷ [])
IsSighted-push shape old sighting (k, found, h, at, is) =
    (k, found, omega (arith, h, length_push old sighting), get_or_append_left old (sighting ∷ []) found k h ∙ at, is)

pub Hunted-none : (s : Signed) (k : ℕ) (shape : Shape) (old : List Sighting) → (HasAllVectors s → ShapeFails s.net k shape → ⊥) → Hunted s k (λ other. other ≡ shape) old old
Hunted-none s k shape old none = record {
  good = λ all. all;
  kept = λ other found. found;
  found = λ other (is, all, fails). absurd (none all (subst (ShapeFails s.net k) is fails));
}

pub Hunted-push : (s : Signed) (k : ℕ) (sighting : Sighting) (old : List Sighting) → IsBroken s.net k sighting → Hunted s k (λ other. other ≡ sighting.shape) old (old ++ sighting ∷ [])
Hunted-push s k sighting old is = record {
  good = λ all. All-push (IsBroken s.net k) old sighting all is;
  kept = λ other found. IsSighted-push other old sighting found;
  found = λ other wanted. Any-push (λ (sighting : Sighting). sighting.shape ≡ other) old sighting (sym wanted.0);
}

-- one claim more, and all of them
pub one_claim_more : (claims : List Shape) (k : ℕ) (d shape : Shape) → k < length claims → Contains (take (k + 1) claims) shape → Contains (take k claims) shape ⊎ (shape ≡ get_or claims k d)
one_claim_more claims k d shape here found =
    elim (Contains-push_cases (take k claims) (get_or claims k d) shape (subst (λ front. Contains front shape) (take_more claims k d here) found)) [
      | inl before ↦ inl before
      | inr is ↦ inr (sym is)
    ]

pub AreLeft-more : (claims : List Shape) (k : ℕ) (d : Shape) (old new : List Sighting) (left next : List Shape) → k < length claims → AreLeft (take k claims) old left → ((shape : Shape) → IsSighted shape old → IsSighted shape new) → ((shape : Shape) → Contains left shape → Contains next shape)
    → Contains next (get_or claims k d) ⊎ IsSighted (get_or claims k d) new
    → AreLeft (take (k + 1) claims) new next
AreLeft-more claims k d old new left next here before sighted still last = λ shape wanted. elim (one_claim_more claims k d shape here wanted) [
  | inl earlier ↦ elim (before shape earlier) [ inl remains ↦ inl (still shape remains) | inr seen ↦ inr (sighted shape seen) ]
  | inr is ↦ subst (λ claim. Contains next claim ⊎ IsSighted claim new) (sym is) last
]
