-- Records are marked from the last to the first.
use Rattle.std.proofs.Common.{◌≡◌, ◌⊎◌, ℕ, ◌+◌, ◌<◌, ◌≤◌, inl, inr, Bool, true, false, cond, List, [], All, length, slice_index_or, slice_set, refl, sym, ap, subst, ◌∙◌, arith}
use Rattle.std.specs.Prelude.{Contains}
use Rattle.std.proofs.lemmas.Bool.{cases_lt, false≢true}
use Rattle.std.proofs.lemmas.Bool.Decides.{eqb_tells}
use Rattle.std.proofs.lemmas.List.{get_or-set_other, get_or-set_same, get_or_default, length-set}
use Rattle.std.proofs.lemmas.List.Elements.{All-contains, All-weaker}
use Rattle.circuits.specs.Literals.{bit}
use Rattle.refusal_core.specs.Marks.{Adds}
use Rattle.refusal_core.specs.Names.{AreAmong, AreMarked}
use Rattle.account_trim.specs.declared.links.Links.{Links}
use Rattle.account_trim.specs.Reached.{IsClosed, IsReached, NameBack}

-- The records from a place on have had their turn.
pub record IsMarking (links : List Links) (left : ℕ) (marks : List Bool) : Type 0 where
  pub as_many : length marks ≡ length links
  pub roots : (k : ℕ) (d : Links) → left ≤ k → k < length links → (slice_index_or links k d).is_root ≡ true → bit marks k ≡ true
  pub named : (k : ℕ) (d : Links) → left ≤ k → k < length links → bit marks k ≡ true → AreMarked marks (slice_index_or links k d).names
  pub least : (others : List Bool) → IsClosed links others → AreAmong marks others

-- The record at a place was marked, if it is a root.
pub record MarksRoot (root : Bool) (place : ℕ) (old new : List Bool) : Type 0 where
  pub as_many : length new ≡ length old
  pub stay : AreAmong old new
  pub marked : root ≡ true → bit new place ≡ true
  pub only : (k : ℕ) → bit new k ≡ true → (bit old k ≡ true) ⊎ ((k ≡ place) × (root ≡ true))

marks_root : (root : Bool) (place : ℕ) (old new : List Bool) → place < length old → new ≡ cond root (slice_set old place true) old → MarksRoot root place old new
marks_root true place old new below is = record {
  as_many = ap length is ∙ length-set old place true;
  stay = λ k was. elim (eqb_tells k place) [
    | inl (test, e) ↦ ap (λ m. bit m k) is ∙ (ap (bit (slice_set old place true)) e ∙ get_or-set_same old place true false below)
    | inr (test, other) ↦ ap (λ m. bit m k) is ∙ (get_or-set_other old place k true false other ∙ was)
  ];
  marked = λ root. ap (λ m. bit m place) is ∙ get_or-set_same old place true false below;
  only = λ k has. elim (eqb_tells k place) [
    | inl (test, e) ↦ inr (e, refl)
    | inr (test, other) ↦ inl (sym (get_or-set_other old place k true false other) ∙ (sym (ap (λ m. bit m k) is) ∙ has))
  ];
}
marks_root false place old new below is = record {
  as_many = ap length is;
  stay = λ k was. ap (λ m. bit m k) is ∙ was;
  marked = λ root. absurd (false≢true root);
  only = λ k has. inl (sym (ap (λ m. bit m k) is) ∙ has);
}

if_marked : (b : Bool) (names : List ℕ) (k : ℕ) → Contains (cond b names []) k → (b ≡ true) × Contains names k
if_marked true names k has = (refl, has)
if_marked false names k has = absurd (omega (arith, has.1))

-- the records that the record before names are there
pub names_within : (links : List Links) (left : ℕ) (one : Links) (root : Bool) (old mid : List Bool) → NameBack links → left < length links → length old ≡ length links → one ≡ slice_index_or links left one → mid ≡ cond root (slice_set old left true) old → All (λ k. k < length mid) one.names
names_within links left one root old mid back below same one_is is =
    let many = (marks_root root left old mid (omega (arith, below, same)) is).as_many in
    subst (λ (l : Links). All (λ k. k < length mid) l.names) (sym one_is)
    (All-weaker (λ k. k < left) (λ k. k < length mid) (λ k less. omega (arith, less, below, many, same)) (slice_index_or links left one).names (back left one below))

turned : (links : List Links) (left : ℕ) (e : Links) (old mid new : List Bool)
    → NameBack links
    → left < length links
    → IsMarking links (left + 1) old
    → mid ≡ cond (slice_index_or links left e).is_root (slice_set old left true) old
    → Adds (cond (bit mid left) (slice_index_or links left e).names []) mid new
    → IsMarking links left new
turned links left e old mid new back below was is adds = record {
  as_many = adds.as_many ∙ (root.as_many ∙ was.as_many);
  roots = roots;
  named = named;
  least = λ others closed k has. elim (adds.only k has) [
    | inl before ↦ among_mid others closed k before
    | inr in_names ↦
        let both = if_marked (bit mid left) link.names k in_names in
        All-contains (λ j. bit others j ≡ true) link.names k (closed.named left e below (among_mid others closed left both.0)) both.1
  ];
}
  where
    link : Links
    link = slice_index_or links left e

    root : MarksRoot link.is_root left old mid
    root = marks_root link.is_root left old mid (omega (arith, below, was.as_many)) is

    among_mid : (others : List Bool) → IsClosed links others → AreAmong mid others
    among_mid others closed k has = elim (root.only k has) [
      | inl before ↦ was.least others closed k before
      | inr (same, is_root) ↦ subst (λ n. bit others n ≡ true) (sym same) (closed.roots left e below is_root)
    ]

    -- records from the place on have the marks that they had
    had_mid : (k : ℕ) → left ≤ k → bit new k ≡ true → bit mid k ≡ true
    had_mid k later has = elim (adds.only k has) [
      | inl before ↦ before
      | inr in_names ↦
          let both = if_marked (bit mid left) link.names k in_names in
          let before = All-contains (λ j. j < left) link.names k (back left e below) both.1 in
          absurd (omega (arith, later, before))
    ]

    had : (k : ℕ) → left < k → bit new k ≡ true → bit old k ≡ true
    had k after has = elim (root.only k (had_mid k (omega (arith, after)) has)) [
      | inl before ↦ before
      | inr (same, is_root) ↦ absurd (omega (arith, same, after))
    ]

    stay : AreAmong old new
    stay k before = adds.stay k (root.stay k before)

    there : (k : ℕ) (d : Links) → k ≡ left → link ≡ slice_index_or links k d
    there k d same = get_or_default links left e d below ∙ ap (λ n. slice_index_or links n d) (sym same)

    roots : (k : ℕ) (d : Links) → left ≤ k → k < length links → (slice_index_or links k d).is_root ≡ true → bit new k ≡ true
    roots k d later under is_root = elim (cases_lt left k) [
      | inl after ↦ stay k (was.roots k d (omega (arith, after)) under is_root)
      | inr le ↦
          let same : k ≡ left = omega (arith, le, later) in
          adds.stay k (subst (λ n. bit mid n ≡ true) (sym same) (root.marked (ap (λ (l : Links). l.is_root) (there k d same) ∙ is_root)))
    ]

    named : (k : ℕ) (d : Links) → left ≤ k → k < length links → bit new k ≡ true → AreMarked new (slice_index_or links k d).names
    named k d later under has = elim (cases_lt left k) [
      | inl after ↦ λ j c low. stay (slice_index_or (slice_index_or links k d).names j c) (was.named k d (omega (arith, after)) under (had k after has) j c low)
      | inr le ↦
          let same : k ≡ left = omega (arith, le, later) in
          let marked : bit mid left ≡ true = subst (λ n. bit mid n ≡ true) same (had_mid k later has) in
          subst (λ (l : Links). AreMarked new l.names) (there k d same) (subst (λ b. AreMarked new (cond b link.names [])) marked adds.marked)
    ]

-- the record before had its turn
pub marking_more : (links : List Links) (left : ℕ) (one other : Links) (old mid new : List Bool)
    → NameBack links
    → left < length links
    → IsMarking links (left + 1) old
    → one ≡ slice_index_or links left one
    → other ≡ slice_index_or links left other
    → mid ≡ cond one.is_root (slice_set old left true) old
    → Adds (cond (bit mid left) other.names []) mid new
    → IsMarking links left new
marking_more links left one other old mid new back below was one_is other_is is adds =
    let same : other ≡ one = other_is ∙ (get_or_default links left other one below ∙ sym one_is) in
    turned links left one old mid new back below was
    (is ∙ ap (λ (l : Links). cond l.is_root (slice_set old left true) old) one_is)
    (subst (λ (l : Links). Adds (cond (bit mid left) l.names []) mid new) (same ∙ one_is) adds)

-- all had their turn
pub marking_all : (links : List Links) (left : ℕ) (marks : List Bool) → left ≡ 0 → IsMarking links left marks → IsReached links marks
marking_all links left marks none was = record {
  as_many = was.as_many;
  closed = record {
    roots = λ k d below is. was.roots k d (omega (arith, none)) below is;
    named = λ k d below is. was.named k d (omega (arith, none)) below is;
  };
  least = was.least;
}
