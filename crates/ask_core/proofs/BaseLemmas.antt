-- Clauses that are collected, their variables that are listed, and the places of these.
use Rattle.std.proofs.Common.{◌≡◌, ◌≢◌, if◌then◌else◌, ℕ, ◌+◌, ◌-◌, ◌<◌, ◌≤◌, ◌^◌, eqb, Bool, true, false, List, [], ◌∷◌, ◌++◌, length, map, take, replicate, All, Contains, slice_index_or, slice_set, inl, inr, refl, sym, ◌∙◌, ap, subst, arith}
use Rattle.std.specs.List.{IsDistinct, range_with_len}
use Rattle.std.specs.List.Sorted.{IsPermutation}
use Rattle.std.proofs.lemmas.Bool.{cases_eq, cases_lt, eq-eqb, false≢true}
use Rattle.std.proofs.lemmas.Bool.Decides.{eqb_tells}
use Rattle.std.proofs.lemmas.Cmp.{nat_eq_equiv}
use Rattle.std.proofs.lemmas.List.{append_assoc, get_or_append_left, get_or_at, get_or_default, get_or-append_right, get_or-map, get_or-set_same, get_or-set_other, length-append, length-map, length-replicate, length-set, map-append, take_more}
use Rattle.std.proofs.lemmas.List.FromFn.{fill_by_all, get_or-map-range_with_len, length-map-range_with_len, map-range_with_len_more}
use Rattle.std.proofs.lemmas.List.Elements.{All-map, All-push, Contains-append_left, Contains-push}
use Rattle.std.proofs.lemmas.List.Sorted.{All-permutation, Contains-permutation}
use Rattle.std.proofs.lemmas.Map.Keys.{IsDistinct-push, IsDistinct-IsPermutation, apart_from_distinct}
use Rattle.circuits.specs.Literals.{bit}
use Rattle.cnf_core.specs.declared.literal.SatLit.{SatLit}
use Rattle.cnf_core.specs.declared.clause.Clause3.{Clause3}
use Rattle.cnf_core.specs.declared.log.LogLine.{LogLine}
use Rattle.cnf_core.specs.Clauses.{Formula, clause_at, literals_of, variable_of, AreKnown}
use Rattle.cnf_core.specs.Derivations.{clauses_of}
use Rattle.ask_core.specs.Renamings.{AreListed, AreMarks, AreNames, AreOver, AreOverPlaces, IsNamed, IsOver, IsRenaming, numbers_of, renamed}
use Rattle.bit_list.proofs.MarkLemmas.{marked_where}
use Rattle.learn_solver.proofs.AnalysisLemmas.{unmarked_bit}
use Rattle.circuits.proofs.Lists.{not_among}

abbrev pub none : Clause3
none = record { lits = []; len = 0 }

-- the first variables that occur have their dense variables
pub record IsPlacing (variables : ℕ) (names places : List ℕ) (count : ℕ) : Type 0 where
  pub size : length places ≡ variables
  pub few : All (λ place. place < 2 ^ 63) places
  pub each : (k : ℕ) → k < count → slice_index_or places (slice_index_or names k 0) 0 ≡ k

-- the first variables that occur have their bits, and all else is false
pub record IsSpreading (variables : ℕ) (names : List ℕ) (values full : List Bool) (count : ℕ) : Type 0 where
  pub size : length full ≡ variables
  pub each : (k : ℕ) → k < count → bit full (slice_index_or names k 0) ≡ bit values k
  pub rest : (v : ℕ) → ((k : ℕ) → k < count → v ≢ slice_index_or names k 0) → bit full v ≡ false

-- The variables of a clause's first literals are listed.
pub record IsListing (variables : ℕ) (old names : List ℕ) (marked : List Bool) (clause : List SatLit) (count : ℕ) : Type 0 where
  pub marks : AreMarks variables names marked
  pub stay : (v : ℕ) → Contains old v → Contains names v
  pub named : (k : ℕ) (d : SatLit) → k < count → Contains names (variable_of (slice_index_or clause k d))

-- The variables of the first clauses are listed.
pub record AreListing (variables : ℕ) (names : List ℕ) (marked : List Bool) (clauses : List Clause3) (count : ℕ) : Type 0 where
  pub marks : AreMarks variables names marked
  pub named : (k : ℕ) (d : Clause3) → k < count → IsNamed names (literals_of (slice_index_or clauses k d))

-- one clause more
pub over_more : (n : ℕ) (clauses : List (List SatLit)) (listed : List Clause3) (c : Clause3) → AreOver n clauses listed → IsOver n c → AreOver n (clauses ++ literals_of c ∷ []) (listed ++ c ∷ [])
over_more n clauses listed c is own = record {
  are = map-append literals_of listed (c ∷ []) ∙ ap (λ cs. cs ++ literals_of c ∷ []) is.are;
  over = All-push (IsOver n) listed c is.over own;
}

pub cone_over_more : (n : ℕ) (clauses : List (List SatLit)) (ids : List ℕ) (i id : ℕ) (listed new : List Clause3) (c : Clause3) → AreOver n (map (clause_at clauses) (take i ids)) listed → i < length ids → id ≡ slice_index_or ids i id → literals_of c ≡ clause_at clauses id → IsOver n c → new ≡ listed ++ c ∷ [] → AreOver n (map (clause_at clauses) (take (i + 1) ids)) new
cone_over_more n clauses ids i id listed new c is within id_is c_is own new_is =
    let last = ap (λ x. map (clause_at clauses) (take i ids) ++ x ∷ []) (c_is ∙ ap (clause_at clauses) id_is) ∙ sym (ap (map (clause_at clauses)) (take_more ids i id within) ∙ map-append (clause_at clauses) (take i ids) (slice_index_or ids i id ∷ [])) in
    subst (AreOver n (map (clause_at clauses) (take (i + 1) ids))) (sym new_is) (subst (λ cs. AreOver n cs (listed ++ c ∷ [])) last (over_more n (map (clause_at clauses) (take i ids)) listed c is own))

pub lemma_over_more : (n : ℕ) (front : List (List SatLit)) (lemmas : List LogLine) (i : ℕ) (line : LogLine) (listed new : List Clause3) (c : Clause3) → AreOver n (front ++ clauses_of (take i lemmas)) listed → i < length lemmas → line ≡ slice_index_or lemmas i line → literals_of c ≡ line.clause → IsOver n c → new ≡ listed ++ c ∷ [] → AreOver n (front ++ clauses_of (take (i + 1) lemmas)) new
lemma_over_more n front lemmas i line listed new c is within line_is c_is own new_is =
    let last = ap (λ x. clauses_of (take i lemmas) ++ x ∷ []) (c_is ∙ ap (λ (l : LogLine). l.clause) line_is) ∙ sym (ap clauses_of (take_more lemmas i line within) ∙ map-append (λ (l : LogLine). l.clause) (take i lemmas) (slice_index_or lemmas i line ∷ [])) in
    let whole : (front ++ clauses_of (take i lemmas)) ++ literals_of c ∷ [] ≡ front ++ clauses_of (take (i + 1) lemmas) = append_assoc front (clauses_of (take i lemmas)) (literals_of c ∷ []) ∙ ap (λ (cs : List (List SatLit)). front ++ cs) last in
    subst (AreOver n (front ++ clauses_of (take (i + 1) lemmas))) (sym new_is) (subst (λ cs. AreOver n cs (listed ++ c ∷ [])) whole (over_more n (front ++ clauses_of (take i lemmas)) listed c is own))

-- one clause more over the places
pub over_places_more : (names : List ℕ) (clauses : List Clause3) (i : ℕ) (dense new : List Clause3) (t : Clause3) (clause : List SatLit) (d : Clause3) → AreOverPlaces names clauses dense i → i < length clauses → clause ≡ literals_of (slice_index_or clauses i d) → 1 ≤ length clause → map (renamed names) (literals_of t) ≡ clause → AreKnown (length names) (literals_of t) → 1 ≤ t.len → t.len ≤ 3 → new ≡ dense ++ t ∷ [] → AreOverPlaces names clauses new (i + 1)
over_places_more names clauses i dense new t clause d is within clause_is filled back known some short new_is = subst (λ ts. AreOverPlaces names clauses ts (i + 1)) (sym new_is) (record {
  size = length-append dense (t ∷ []) ∙ ap (λ n. n + 1) is.size;
  over = All-push (IsOver (length names)) dense t is.over (record {
    some = some;
    short = short;
    filled = omega (arith, filled, ap length back, length-map (literals_of t) (renamed names));
    known = known;
  });
  back = λ k c e below. elim (cases_lt k i) [
    | inl before ↦ ap (λ (x : Clause3). map (renamed names) (literals_of x)) (get_or_append_left dense (t ∷ []) c k (omega (arith, before, is.size))) ∙ is.back k c e before
    | inr late ↦
        let last : k ≡ i = omega (arith, late, below) in
        ap (λ (x : Clause3). map (renamed names) (literals_of x)) (get_or_at dense t [] c k (is.size ∙ sym last)) ∙ (back ∙ (clause_is ∙ (ap literals_of (get_or_default clauses i d e within) ∙ ap (λ j. literals_of (slice_index_or clauses j e)) (sym last))))
  ];
})

-- one variable more is listed and marked
pub marks_more : (n : ℕ) (names new : List ℕ) (marked : List Bool) (v : ℕ) → AreMarks n names marked → v < length marked → v < 2 ^ 63 → bit marked v ≡ false → new ≡ names ++ v ∷ [] → AreMarks n new (slice_set marked v true)
marks_more n names new marked v is below few unmarked new_is = subst (λ ns. AreMarks n ns (slice_set marked v true)) (sym new_is) (record {
  size = length-set marked v true ∙ is.size;
  listed = record {
    known = All-push (λ u. u < n) names v is.listed.known (omega (arith, below, is.size));
    few = All-push (λ u. u < 2 ^ 63) names v is.listed.few few;
    distinct = IsDistinct-push nat_eq_equiv names v is.listed.distinct (not_among marked v names unmarked is.marked_are);
  };
  marks = λ u at.
      elim (eqb_tells u v) [
        | inl (found, e) ↦ subst (Contains (names ++ v ∷ [])) (sym e) (Contains-push names v)
        | inr (found, apart) ↦ Contains-append_left names (v ∷ []) u (is.marks u (sym (get_or-set_other marked v u true false apart) ∙ at))
      ];
  marked_are = All-push (λ u. bit (slice_set marked v true) u ≡ true) names v (λ k d within. stays (slice_index_or names k d) (is.marked_are k d within)) (get_or-set_same marked v true false below);
})
  where
    stays : (u : ℕ) → bit marked u ≡ true → bit (slice_set marked v true) u ≡ true
    stays u at =
        elim (eqb_tells u v) [
          | inl (found, e) ↦ ap (bit (slice_set marked v true)) e ∙ get_or-set_same marked v true false below
          | inr (found, apart) ↦ get_or-set_other marked v u true false apart ∙ at
        ]

-- one literal more is looked at
pub listing_more : (n : ℕ) (old names new : List ℕ) (marked now : List Bool) (clause : List SatLit) (i v : ℕ) (d : SatLit) → IsListing n old names marked clause i → i < length clause → v ≡ variable_of (slice_index_or clause i d) → AreMarks n new now → Contains new v → ((u : ℕ) → Contains names u → Contains new u) → IsListing n old new now clause (i + 1)
listing_more n old names new marked now clause i v d is within v_is marks named stay = record {
  marks = marks;
  stay = λ u there. stay u (is.stay u there);
  named = λ k e below. elim (cases_lt k i) [
    | inl before ↦ stay (variable_of (slice_index_or clause k e)) (is.named k e before)
    | inr late ↦
        let last : k ≡ i = omega (arith, late, below) in
        subst (Contains new) (v_is ∙ (ap variable_of (get_or_default clause i d e within) ∙ ap (λ j. variable_of (slice_index_or clause j e)) (sym last))) named
  ];
}

pub clauses_listing_more : (n : ℕ) (names new : List ℕ) (marked now : List Bool) (clauses : List Clause3) (i : ℕ) (clause : List SatLit) (d : Clause3) → AreListing n names marked clauses i → i < length clauses → clause ≡ literals_of (slice_index_or clauses i d) → AreMarks n new now → IsNamed new clause → ((u : ℕ) → Contains names u → Contains new u) → AreListing n new now clauses (i + 1)
clauses_listing_more n names new marked now clauses i clause d is within clause_is marks named stay = record {
  marks = marks;
  named = λ k e below. elim (cases_lt k i) [
    | inl before ↦ (λ j f low. stay (variable_of (slice_index_or (literals_of (slice_index_or clauses k e)) j f)) (is.named k e before j f low))
    | inr late ↦
        let last : k ≡ i = omega (arith, late, below) in
        subst (IsNamed new) (clause_is ∙ (ap literals_of (get_or_default clauses i d e within) ∙ ap (λ j. literals_of (slice_index_or clauses j e)) (sym last))) named
  ];
}

-- nothing is listed at first
pub no_marks : (n : ℕ) → AreMarks n [] (replicate n false)
unfolding IsDistinct
no_marks n = record {
  size = length-replicate n false;
  listed = record { known = λ k d below. absurd (omega (arith, below)); few = λ k d below. absurd (omega (arith, below)); distinct = tt };
  marks = λ v at. absurd (false≢true (sym (unmarked_bit n v) ∙ at));
  marked_are = λ k d below. absurd (omega (arith, below));
}

-- different variables in another order
pub names_from : (n : ℕ) (listed names : List ℕ) → AreListed n listed → IsPermutation listed names → AreNames n names
names_from n listed names are moved = record {
  known = All-permutation (λ v. v < n) listed names moved are.known;
  few = All-permutation (λ v. v < 2 ^ 63) listed names moved are.few;
  apart = λ j k low within same.
      let distinct = IsDistinct-IsPermutation eqb (λ x y. nat_eq_equiv.symm x y) listed names moved are.distinct in
      elim (cases_lt j k) [
        | inl before ↦ absurd (false≢true (sym (apart_from_distinct eqb names j k 0 distinct before within) ∙ eq-eqb (slice_index_or names j 0) (slice_index_or names k 0) same))
        | inr late ↦ elim (cases_eq j k) [
          | inl here ↦ here
          | inr other ↦ absurd (false≢true (sym (apart_from_distinct eqb names k j 0 distinct (omega (arith, late, other)) low) ∙ eq-eqb (slice_index_or names k 0) (slice_index_or names j 0) (sym same)))
        ]
      ];
}

pub named_in_order : (clauses : List Clause3) (listed names : List ℕ) → IsPermutation listed names → All (λ c. IsNamed listed (literals_of c)) clauses → All (λ c. IsNamed names (literals_of c)) clauses
named_in_order clauses listed names moved all k d within j e below = Contains-permutation listed names (variable_of (slice_index_or (literals_of (slice_index_or clauses k d)) j e)) moved (all k d within j e below)

-- the number of one lemma more
pub numbers_more : (ids numbers new : List ℕ) (count i : ℕ) → numbers ≡ numbers_of ids count i → new ≡ numbers ++ (count + i) ∷ [] → new ≡ numbers_of ids count (i + 1)
numbers_more ids numbers new count i is new_is =
    let rest = map (λ j. count + j) (range_with_len 0 i) in
    new_is ∙ (ap (λ ns. ns ++ (count + i) ∷ []) is ∙ (append_assoc ids rest ((count + i) ∷ []) ∙ ap (λ ns. ids ++ ns) (sym (map-range_with_len_more (λ j. count + j) 0 i i (omega arith)))))

-- what was collected is over dense variables
pub renaming_made : (full : Formula) (ids names numbers : List ℕ) (lemmas : List LogLine) (listed dense : List Clause3) → All (λ id. id < length full.clauses) ids → AreOver full.variables (map (clause_at full.clauses) ids ++ clauses_of lemmas) listed → AreNames full.variables names → AreOverPlaces names listed dense (length listed) → numbers ≡ numbers_of ids (length full.clauses) (length lemmas) → IsRenaming (record { variables = length names; clauses = map literals_of dense }) names numbers full lemmas
renaming_made full ids names numbers lemmas listed dense low over are turned numbers_are = subst (λ ns. IsRenaming (record { variables = length names; clauses = map literals_of dense }) names ns full lemmas) (sym numbers_are) (record {
  names_are = are;
  variables = refl;
  known = All-map (AreKnown (length names)) literals_of dense (λ k d below. (turned.over k d below).known);
  count = omega (arith, sizes, listed_size, length-map dense literals_of, turned.size);
  there = λ k d below. elim (cases_lt k (length ids)) [
    | inl early ↦ omega (arith, get_or_append_left ids after d k early, low k d early)
    | inr late ↦
        let j = k - length ids in
        let at : slice_index_or (ids ++ after) k d ≡ length full.clauses + j = get_or-append_right ids after (length ids) k d refl late ∙ get_or-map-range_with_len (λ i. length full.clauses + i) 0 (length lemmas) j j d (omega (arith, late, below, sizes)) (omega arith) in
        omega (arith, at, late, below, sizes)
  ];
  each = λ k below.
      let low_k : k < length listed = omega (arith, below, sizes, listed_size) in
      let none : Clause3 = record { lits = []; len = 0 } in
      let own : map (renamed names) (clause_at (map literals_of dense) k) ≡ clause_at (front ++ clauses_of lemmas) k =
      ap (map (renamed names)) (get_or-map literals_of dense k none [] (omega (arith, low_k, turned.size))) ∙ (turned.back k none none low_k ∙ (sym (get_or-map literals_of listed k none [] low_k) ∙ ap (λ cs. clause_at cs k) over.are)) in
      sym (own ∙ sym (same_clause k (omega (arith, below, sizes))));
})
  where
    front : List (List SatLit)
    front = map (clause_at full.clauses) ids

    after : List ℕ
    after = map (λ j. length full.clauses + j) (range_with_len 0 (length lemmas))

    sizes : length (ids ++ after) ≡ length ids + length lemmas
    sizes = omega (arith, length-append ids after, length-map-range_with_len (λ j. length full.clauses + j) 0 (length lemmas))

    listed_size : length listed ≡ length ids + length lemmas
    listed_size = omega (arith, length-map listed literals_of, ap length over.are, length-append front (clauses_of lemmas), length-map ids (clause_at full.clauses), length-map lemmas (λ (l : LogLine). l.clause))

    same_clause : (k : ℕ) → k < length ids + length lemmas → clause_at (full.clauses ++ clauses_of lemmas) (slice_index_or (ids ++ after) k 0) ≡ clause_at (front ++ clauses_of lemmas) k
    same_clause k below =
        let front_size = length-map ids (clause_at full.clauses) in
        elim (cases_lt k (length ids)) [
          | inl early ↦
              let id = slice_index_or ids k 0 in
              ap (clause_at (full.clauses ++ clauses_of lemmas)) (get_or_append_left ids after 0 k early)
              ∙ (get_or_append_left full.clauses (clauses_of lemmas) [] id (low k 0 early)
              ∙ sym (get_or_append_left front (clauses_of lemmas) [] k (omega (arith, early, front_size)) ∙ get_or-map (clause_at full.clauses) ids k 0 [] early))
          | inr late ↦
              let j = k - length ids in
              let at : slice_index_or (ids ++ after) k 0 ≡ length full.clauses + j = get_or-append_right ids after (length ids) k 0 refl late ∙ get_or-map-range_with_len (λ i. length full.clauses + i) 0 (length lemmas) j j 0 (omega (arith, late, below)) (omega arith) in
              let index : length full.clauses + j - length full.clauses ≡ j = omega arith in
              ap (clause_at (full.clauses ++ clauses_of lemmas)) at
              ∙ (get_or-append_right full.clauses (clauses_of lemmas) (length full.clauses) (length full.clauses + j) [] refl (omega arith)
              ∙ (ap (λ n. clause_at (clauses_of lemmas) n) index ∙ sym (get_or-append_right front (clauses_of lemmas) (length ids) k [] front_size late)))
        ]

same_lists : (a b : List (List SatLit)) → length a ≡ length b → ((k : ℕ) → k < length a → clause_at a k ≡ clause_at b k) → a ≡ b
same_lists a b size each = fill_by_all (clause_at b) a (length a) [] refl each ∙ sym (fill_by_all (clause_at b) b (length a) [] (sym size) (λ k below. refl))

-- the clauses over dense variables are all that were collected
pub whole_made : (n : ℕ) (wanted : List (List SatLit)) (names : List ℕ) (listed dense : List Clause3) → AreOver n wanted listed → AreOverPlaces names listed dense (length listed) → wanted ≡ map (map (renamed names)) (map literals_of dense)
whole_made n wanted names listed dense over turned =
    let none : Clause3 = record { lits = []; len = 0 } in
    let size = length-map listed literals_of in
    let dense_size = length-map dense literals_of in
    let all_size = length-map (map literals_of dense) (map (renamed names)) in
    sym over.are ∙ same_lists (map literals_of listed) (map (map (renamed names)) (map literals_of dense)) (omega (arith, size, dense_size, all_size, turned.size)) (λ k below.
    let low : k < length listed = omega (arith, below, size) in
    sym (get_or-map (map (renamed names)) (map literals_of dense) k [] [] (omega (arith, low, turned.size, dense_size))
    ∙ (ap (map (renamed names)) (get_or-map literals_of dense k none [] (omega (arith, low, turned.size)))
    ∙ (turned.back k none none low ∙ sym (get_or-map literals_of listed k none [] low)))))

-- one bit more
pub spreading_more : (variables : ℕ) (names : List ℕ) (values full new : List Bool) (i v : ℕ) (b : Bool) → AreNames variables names → IsSpreading variables names values full i → i < length names → v ≡ slice_index_or names i v → b ≡ bit values i → new ≡ (if b then slice_set full v true else full) → IsSpreading variables names values new (i + 1)
spreading_more variables names values full new i v b are is within v_is b_is new_is =
    let v_at : v ≡ slice_index_or names i 0 = v_is ∙ get_or_default names i v 0 within in
    let low : v < length full = omega (arith, v_at, are.known i 0 within, is.size) in
    let others : (k : ℕ) → k < i → slice_index_or names k 0 ≢ v = λ k before e. omega (arith, are.apart k i (omega (arith, before, within)) within (e ∙ v_at), before) in
    subst (λ bs. IsSpreading variables names values bs (i + 1)) (sym (new_is ∙ marked_where full v b (is.rest v (λ k before e. others k before (sym e))))) (record {
      size = length-set full v b ∙ is.size;
      each = λ k below. elim (cases_lt k i) [
        | inl before ↦ get_or-set_other full v (slice_index_or names k 0) b false (others k before) ∙ is.each k before
        | inr late ↦
            let last : k ≡ i = omega (arith, late, below) in
            ap (bit (slice_set full v b)) (ap (λ j. slice_index_or names j 0) last ∙ sym v_at) ∙ (get_or-set_same full v b false low ∙ (b_is ∙ ap (bit values) (sym last)))
      ];
      rest = λ u apart. get_or-set_other full v u b false (λ e. apart i (omega arith) (e ∙ v_at)) ∙ is.rest u (λ k before. apart k (omega (arith, before)));
    })
