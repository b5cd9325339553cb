-- Hints, one after the other, and the lines that they derive.
use Rattle.std.proofs.Common.{◌≡◌, ℕ, suc, ◌≤◌, drop, drop_of_length-le, ◌+◌, ◌<◌, cond, List, [], ◌∷◌, ◌++◌, length, All, Contains, None, Some, slice_index_or, refl, ◌∙◌, ap, subst, arith, append_assoc}
use Rattle.std.proofs.lemmas.Bool.{lt-ltb}
use Rattle.std.proofs.lemmas.List.Elements.{All-push, Contains-get_or}
use Rattle.cnf_core.specs.declared.literal.SatLit.{SatLit}
use Rattle.cnf_core.specs.declared.effect.Effect.TheVariants.{Conflict, Makes, Neither}
use Rattle.cnf_core.specs.declared.fault.LineFault.TheVariants as fault
use Rattle.cnf_core.specs.Clauses.{clause_at}
use Rattle.cnf_core.specs.Derivations.{effect_of, fault_after, hint_fault}
use Rattle.std.proofs.Math.Seq.{drop-cons}
use Rattle.joint_hash.specs.Chains.{LeadOn}
use Rattle.joint_hash.proofs.LeadLemmas.{lead_makes, lead_neither, lead_there}

-- Hints so far make these literals true.
pub record IsHinted (clauses : List (List SatLit)) (start made : List SatLit) (hints : List ℕ) : Type 0 where
  pub goes : (rest : List ℕ) → hint_fault clauses start (hints ++ rest) ≡ hint_fault clauses made rest

pub not_hinted : (clauses : List (List SatLit)) (start : List SatLit) → IsHinted clauses start start []
not_hinted clauses start = record { goes = λ rest. refl }

-- one hint more
pub hint_makes : (clauses : List (List SatLit)) (start made : List SatLit) (hints : List ℕ) (id : ℕ) (l : SatLit) → IsHinted clauses start made hints → id < length clauses → effect_of made (clause_at clauses id) ≡ Makes l → IsHinted clauses start (made ++ l ∷ []) (hints ++ id ∷ [])
hint_makes clauses start made hints id l is there makes = record {
  goes = λ rest.
      ap (hint_fault clauses start) (append_assoc hints (id ∷ []) rest)
      ∙ (is.goes (id ∷ rest)
      ∙ (ap (λ t. cond t (fault_after (effect_of made (clause_at clauses id)) rest (λ m. hint_fault clauses (made ++ m ∷ []) rest)) (Some fault.UnknownHint)) (lt-ltb id (length clauses) there)
      ∙ ap (λ e. fault_after e rest (λ m. hint_fault clauses (made ++ m ∷ []) rest)) makes));
}

-- the last one
pub hint_ends : (clauses : List (List SatLit)) (start made : List SatLit) (hints : List ℕ) (id : ℕ) → IsHinted clauses start made hints → id < length clauses → effect_of made (clause_at clauses id) ≡ Conflict → hint_fault clauses start (hints ++ id ∷ []) ≡ None
hint_ends clauses start made hints id is there conflict =
    is.goes (id ∷ [])
    ∙ (ap (λ t. cond t (fault_after (effect_of made (clause_at clauses id)) [] (λ m. hint_fault clauses (made ++ m ∷ []) [])) (Some fault.UnknownHint)) (lt-ltb id (length clauses) there)
    ∙ ap (λ e. fault_after e [] (λ m. hint_fault clauses (made ++ m ∷ []) [])) conflict)

-- Hints so far, which are some of the numbers, and clauses that lead on from there if all of them do from the start.
pub record IsOnTheWay (clauses : List (List SatLit)) (start made : List SatLit) (hints all ids : List ℕ) : Type 0 where
  pub hinted : IsHinted clauses start made hints
  pub leads : LeadOn clauses start all → LeadOn clauses made ids
  pub among : All (Contains all) hints

-- the next clause
next_leads : (clauses : List (List SatLit)) (start made : List SatLit) (hints ids : List ℕ) (i : ℕ) → i < length ids → IsOnTheWay clauses start made hints ids (drop i ids) → LeadOn clauses start ids → LeadOn clauses made (slice_index_or ids i 0 ∷ drop (i + 1) ids)
next_leads clauses start made hints ids i within way lead =
    let e : suc i ≡ i + 1 = omega arith in
    subst (λ k. LeadOn clauses made (slice_index_or ids i 0 ∷ drop k ids)) e (subst (LeadOn clauses made) (drop-cons ids i 0 within) (way.leads lead))

-- a number that none has isn't on the way
pub way_there : (clauses : List (List SatLit)) (start made : List SatLit) (hints ids : List ℕ) (i : ℕ) → i < length ids → IsOnTheWay clauses start made hints ids (drop i ids) → LeadOn clauses start ids → slice_index_or ids i 0 < length clauses
way_there clauses start made hints ids i within way lead =
    lead_there clauses made (slice_index_or ids i 0) (drop (i + 1) ids) (next_leads clauses start made hints ids i within way lead)

pub way_makes : (clauses : List (List SatLit)) (start made : List SatLit) (hints ids : List ℕ) (i : ℕ) (l : SatLit) → i < length ids → slice_index_or ids i 0 < length clauses → IsOnTheWay clauses start made hints ids (drop i ids) → effect_of made (clause_at clauses (slice_index_or ids i 0)) ≡ Makes l → IsOnTheWay clauses start (made ++ l ∷ []) (hints ++ slice_index_or ids i 0 ∷ []) ids (drop (i + 1) ids)
way_makes clauses start made hints ids i l within there way makes = record {
  hinted = hint_makes clauses start made hints (slice_index_or ids i 0) l way.hinted there makes;
  leads = λ lead. lead_makes clauses made (slice_index_or ids i 0) (drop (i + 1) ids) l (next_leads clauses start made hints ids i within way lead) makes;
  among = All-push (Contains ids) hints (slice_index_or ids i 0) way.among (Contains-get_or ids i 0 within);
}

pub way_neither : (clauses : List (List SatLit)) (start made : List SatLit) (hints ids : List ℕ) (i : ℕ) → i < length ids → IsOnTheWay clauses start made hints ids (drop i ids) → effect_of made (clause_at clauses (slice_index_or ids i 0)) ≡ Neither → IsOnTheWay clauses start made hints ids (drop (i + 1) ids)
way_neither clauses start made hints ids i within way neither = record {
  hinted = way.hinted;
  leads = λ lead. lead_neither clauses made (slice_index_or ids i 0) (drop (i + 1) ids) (next_leads clauses start made hints ids i within way lead) neither;
  among = way.among;
}

-- it doesn't come to its end
pub way_ends : (clauses : List (List SatLit)) (start made : List SatLit) (hints ids : List ℕ) (i : ℕ) → length ids ≤ i → IsOnTheWay clauses start made hints ids (drop i ids) → LeadOn clauses start ids → ⊥
way_ends clauses start made hints ids i past way lead =
    subst (LeadOn clauses made) (drop_of_length-le ids {i = i} past) (way.leads lead)
