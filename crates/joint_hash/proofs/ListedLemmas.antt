-- The numbers of the clauses by which a gate implies another are those of the cones, or of lemmas.
use Rattle.std.proofs.Common.{◌≡◌, ℕ, ◌+◌, ◌-◌, ◌<◌, ◌≤◌, cond, Bool, true, false, List, [], ◌∷◌, ◌++◌, length, slice_index_or, All, Contains, Option, None, Some, inl, inr, refl, sym, ap, subst, ◌∙◌, arith}
use Rattle.std.specs.Bool.{beq}
use Rattle.std.proofs.lemmas.List.{get_or-append-add, get_or-map}
use Rattle.std.proofs.lemmas.List.Elements.{All-append, All-cons, All-push}
use Rattle.cnf_core.specs.declared.literal.SatLit.{SatLit}
use Rattle.cnf_core.specs.declared.log.LogLine.{LogLine}
use Rattle.cnf_core.specs.Clauses.{clause_at, is_negated, variable_of}
use Rattle.cnf_core.specs.Derivations.{clauses_of}
use Rattle.net_core.specs.Sides.{Graphs}
use Rattle.claim_core.specs.declared.query.Query.{Query}
use Rattle.claim_core.specs.ConeClauses.{AreConeIds}
use Rattle.joint_hash.specs.declared.gates.ConeGate.{ConeGate}
use Rattle.joint_hash.specs.declared.twins.Twin.{Twin}
use Rattle.joint_hash.specs.Trees.{IsGateOf}
use Rattle.joint_hash.specs.Chains.{AddsLines, AreListed}
use Rattle.joint_hash.specs.Merging.{AreBetween}
use Rattle.joint_hash.specs.Classes.{AreLate, AreTwins, chain_ids, lemma_ids}

-- the clause of a number that isn't below the count is that of a line
pub later_clause : (front : List (List SatLit)) (lines : List LogLine) (count id : ℕ) (d : LogLine) (clause : List SatLit) → count ≡ length front → count ≤ id → id - count < length lines → clause ≡ (slice_index_or lines (id - count) d).clause → clause ≡ clause_at (front ++ clauses_of lines) id
later_clause front lines count id d clause count_is late within clause_is =
    let at : id ≡ length front + (id - count) = omega (arith, count_is, late) in
    clause_is ∙ (sym (get_or-map (λ (l : LogLine). l.clause) lines (id - count) d [] within) ∙ (sym (get_or-append-add front (clauses_of lines) (id - count) []) ∙ sym (ap (clause_at (front ++ clauses_of lines)) at)))

-- a gate's three clauses are those of the cones
pub gate_listed : (graphs : Graphs) (query : Query) (ids : List ℕ) (gate : ConeGate) (r : ℕ) → AreConeIds graphs query ids → IsGateOf graphs query gate → r < 3 → Contains ids (gate.id + r)
gate_listed graphs query ids gate r are (inl of) small =
    (are.cones (gate.id + r)).1 (inr (inl (record { gate = of.place; reached = of.reached; from = omega (arith, of.id_is); to = omega (arith, of.id_is, small) })))
gate_listed graphs query ids gate r are (inr of) small =
    (are.cones (gate.id + r)).1 (inr (inr (inl (record { gate = of.place; reached = of.reached; from = omega (arith, of.id_is); to = omega (arith, of.id_is, small) }))))

pub none_listed : (count : ℕ) (ids : List ℕ) → AreListed count ids []
none_listed count ids k d within = absurd (omega (arith, within))

pub twins_late : (count : ℕ) (clauses : List (List SatLit)) (twins : ℕ → Option Twin) → AreTwins count clauses twins → AreLate count twins
twins_late count clauses twins are = λ v twin is.
    let own = are v twin is in
    (own.late_to, own.late_from)

-- a lemma's number is not below that of the clauses
pub lemma_listed : (count : ℕ) (twins : ℕ → Option Twin) (ids : List ℕ) (l : SatLit) (onto : Bool) → AreLate count twins → AreListed count ids (lemma_ids (twins (variable_of l)) l onto)
lemma_listed count twins ids l onto are = by_twin (twins (variable_of l)) refl
  where
    by_twin : (twin : Option Twin) → twins (variable_of l) ≡ twin → AreListed count ids (lemma_ids twin l onto)
    by_twin None is = none_listed count ids
    by_twin (Some twin) is =
        let own = are (variable_of l) twin is in
        All-cons (λ id. id < count → Contains ids id) (later twin) [] (λ early. absurd (omega (arith, early, late twin own.0 own.1))) (none_listed count ids)
      where
        later : Twin → ℕ
        later twin = cond (beq (is_negated l) onto) twin.to_variable twin.from_variable

        late : (twin : Twin) → count ≤ twin.to_variable → count ≤ twin.from_variable → count ≤ later twin
        late twin to from = by_sign (beq (is_negated l) onto)
          where
            by_sign : (b : Bool) → count ≤ cond b twin.to_variable twin.from_variable
            by_sign true = to
            by_sign false = from

-- numbers of clauses by which a gate implies another one are those of the cones, or of lemmas
pub between_listed : (graphs : Graphs) (query : Query) (ids : List ℕ) (count : ℕ) (start end : ConeGate) (some : List ℕ) → AreConeIds graphs query ids → IsGateOf graphs query start → IsGateOf graphs query end → AreBetween count start end some → AreListed count ids some
between_listed graphs query ids count start end some are of_start of_end between k d within early =
    at (slice_index_or some k d) (between k d within early)
  where
    four : List ℕ
    four = 0 ∷ start.id ∷ (start.id + 1) ∷ (end.id + 2) ∷ []

    all : All (Contains ids) four
    all =
        let P : ℕ → Type 0 = Contains ids in
        let plain : start.id + 0 ≡ start.id = omega arith in
        All-cons P 0 (start.id ∷ (start.id + 1) ∷ (end.id + 2) ∷ []) ((are.cones 0).1 (inl refl)) (All-cons P start.id ((start.id + 1) ∷ (end.id + 2) ∷ []) (subst (Contains ids) plain (gate_listed graphs query ids start 0 are of_start (omega arith))) (All-cons P (start.id + 1) ((end.id + 2) ∷ []) (gate_listed graphs query ids start 1 are of_start (omega arith)) (All-cons P (end.id + 2) [] (gate_listed graphs query ids end 2 are of_end (omega arith)) (λ k d within. absurd (omega (arith, within))))))

    at : (id : ℕ) → Contains four id → Contains ids id
    at id (j, below, is) = subst (Contains ids) is (all j id below)

-- the four clauses
pub start_between : (start end : ConeGate) → Contains (0 ∷ start.id ∷ (start.id + 1) ∷ (end.id + 2) ∷ []) start.id
start_between start end = (1, omega arith, refl)

pub second_between : (start end : ConeGate) → Contains (0 ∷ start.id ∷ (start.id + 1) ∷ (end.id + 2) ∷ []) (start.id + 1)
second_between start end = (2, omega arith, refl)

pub end_between : (start end : ConeGate) → Contains (0 ∷ start.id ∷ (start.id + 1) ∷ (end.id + 2) ∷ []) (end.id + 2)
end_between start end = (3, omega arith, refl)

pub constant_between : (start end : ConeGate) → Contains (0 ∷ start.id ∷ (start.id + 1) ∷ (end.id + 2) ∷ []) 0
constant_between start end = (0, omega arith, refl)

pub chain_between : (count : ℕ) (clauses : List (List SatLit)) (twins : ℕ → Option Twin) (start end : ConeGate) → AreTwins count clauses twins → AreBetween count start end (chain_ids twins start end)
chain_between count clauses twins start end twins_are =
    let late = twins_late count clauses twins twins_are in
    let ids = 0 ∷ start.id ∷ (start.id + 1) ∷ (end.id + 2) ∷ [] in
    let P : ℕ → Type 0 = λ id. id < count → Contains ids id in
    let own : All P (start.id ∷ (start.id + 1) ∷ []) = All-cons P start.id ((start.id + 1) ∷ []) (λ early. start_between start end) (All-cons P (start.id + 1) [] (λ early. second_between start end) (none_listed count ids)) in
    let last : All P ((end.id + 2) ∷ []) = All-cons P (end.id + 2) [] (λ early. end_between start end) (none_listed count ids) in
    let a = lemma_listed count twins ids start.first true late in
    let b = lemma_listed count twins ids start.second true late in
    let c = lemma_listed count twins ids end.first false late in
    let d = lemma_listed count twins ids end.second false late in
    let o = lemma_ids (twins (variable_of start.first)) start.first true in
    let p = lemma_ids (twins (variable_of start.second)) start.second true in
    let q = lemma_ids (twins (variable_of end.first)) end.first false in
    let r = lemma_ids (twins (variable_of end.second)) end.second false in
    let front = start.id ∷ (start.id + 1) ∷ [] in
    All-append P (front ++ o ++ p ++ q ++ r) ((end.id + 2) ∷ []) (All-append P (front ++ o ++ p ++ q) r (All-append P (front ++ o ++ p) q (All-append P (front ++ o) p (All-append P front o own a) b) c) d) last

pub chain_listed : (graphs : Graphs) (query : Query) (ids : List ℕ) (count : ℕ) (clauses : List (List SatLit)) (twins : ℕ → Option Twin) (start end : ConeGate) → AreConeIds graphs query ids → AreTwins count clauses twins → IsGateOf graphs query start → IsGateOf graphs query end → AreListed count ids (chain_ids twins start end)
chain_listed graphs query ids count clauses twins start end are twins_are of_start of_end =
    between_listed graphs query ids count start end (chain_ids twins start end) are of_start of_end (chain_between count clauses twins start end twins_are)

-- ---- a number more

pub listed_more : (count : ℕ) (listed ids : List ℕ) (id : ℕ) → AreListed count listed ids → (id < count → Contains listed id) → AreListed count listed (ids ++ id ∷ [])
listed_more count listed ids id are here = All-push (λ k. k < count → Contains listed k) ids id are here

-- the numbers of a gate's clauses, those of lines after each, and then the last one of another gate
pub steps_between : (count : ℕ) (start end : ConeGate) (none one linked two both whole : List ℕ) → none ≡ [] → one ≡ none ++ start.id ∷ [] → AddsLines count one linked → two ≡ linked ++ (start.id + 1) ∷ [] → AddsLines count two both → whole ≡ both ++ (end.id + 2) ∷ [] → AreBetween count start end whole
steps_between count start end none one linked two both whole none_is one_is adds two_is adds_too whole_is =
    let ids = 0 ∷ start.id ∷ (start.id + 1) ∷ (end.id + 2) ∷ [] in
    let P : List ℕ → Type 0 = AreBetween count start end in
    let empty = subst P (sym none_is) (none_listed count ids) in
    let first = subst P (sym one_is) (listed_more count ids none start.id empty (λ early. start_between start end)) in
    let after_first = adds ids (constant_between start end) first in
    let second = subst P (sym two_is) (listed_more count ids linked (start.id + 1) after_first (λ early. second_between start end)) in
    let after_second = adds_too ids (constant_between start end) second in
    subst P (sym whole_is) (listed_more count ids both (end.id + 2) after_second (λ early. end_between start end))

pub listed_lemma : (count : ℕ) (twins : ℕ → Option Twin) (listed ids : List ℕ) (l : SatLit) (onto : Bool) → AreLate count twins → AreListed count listed ids → AreListed count listed (ids ++ lemma_ids (twins (variable_of l)) l onto)
listed_lemma count twins listed ids l onto late are =
    All-append (λ k. k < count → Contains listed k) ids (lemma_ids (twins (variable_of l)) l onto) are (lemma_listed count twins listed l onto late)
