-- For `order_models`: which models have a depth, that each step of the search keeps what is known, and that a loop is one.
use Rattle.std.proofs.Common.{◌≡◌, ◌≢◌, ◌⊎◌, ℕ, zero, suc, ◌+◌, ◌-◌, ◌<◌, ◌≤◌, ◌&&◌, Bool, true, false, cond, List, [], ◌∷◌, ◌++◌, length, get_or, set, take, drop, All, Contains, refl, ap, sym, subst, ◌∙◌, inl, inr, arith, append_assoc, append-nil, take-append-drop, Some, Result, Ok, Err, IfErr}
use Rattle.std.specs.List.{flat_map, list_all}
use Rattle.std.proofs.lemmas.Bool.{cases_eq, cases_lt}
use Rattle.std.proofs.lemmas.List.{get_or_default, get_or-set_same, get_or-set_other, get_or_append_left, get_or_push, get_or-take, length_push, length-set, length-take-le, take_all, take_more, take-append-le, at_drop_more, nil_from_length}
use Rattle.std.proofs.lemmas.List.Elements.{All-nil, All-cons, All-head, All-append, All-push, All-take, All-weaker, All-contains, Contains-push, Contains-append_left, Contains-append_right}
use Rattle.std.proofs.lemmas.List.Folds.{list_all-append, list_all_at}
use Rattle.std.proofs.lemmas.List.Sums.{list_all-from_AllPass, sum_by-set}
use Rattle.std.proofs.lemmas.Grind.{flat_map-append}
use Rattle.std.proofs.lemmas.Option.{slice_get_read}
use Rattle.circuits.proofs.Lists.{All-front, All-back}
use Rattle.net_core.proofs.SearchLaws.{Contains-below}
use Rattle.hier_blif.specs.declared.fault.HierFault.{HierFault}
use Rattle.hier_blif.specs.declared.fault.HierKind.TheVariants as wrong
use Rattle.hier_blif.specs.declared.fault.HierStop.{HierStop}
use Rattle.hier_blif.specs.declared.fault.HierStop.TheVariants.{Fault}
use Rattle.hier_blif.specs.Stops.{IsStopBy}
use Rattle.hier_blif.proofs.StopLemmas.{stop_as}
use Rattle.hier_blif.proofs.ElementLemmas.{all_of_place, some_same}
use Rattle.hier_blif.specs.declared.model.InstanceLine.{InstanceLine}
use Rattle.hier_blif.specs.declared.model.ModelLine.{ModelLine}
use Rattle.hier_blif.specs.declared.model.ModelLine.TheVariants.{Instance}
use Rattle.hier_blif.specs.declared.model.BlifModel.{BlifModel}
use Rattle.hier_blif.specs.declared.order.Visit.{Visit}
use Rattle.hier_blif.specs.declared.order.Visit.TheVariants.{New, Open, Listed}
use Rattle.hier_blif.specs.declared.order.Call.{Call}
use Rattle.hier_blif.specs.declared.order.ModelSearch.{ModelSearch}
use Rattle.hier_blif.specs.Models.{no_name, empty_model}
use Rattle.hier_blif.specs.Names.{instances_on, instances_of, model_of}
use Rattle.hier_blif.specs.Depths.{is_within, HasDepth, HasNoDepth}
use Rattle.hier_blif.specs.Scopes.{model_at}
use Rattle.hier_blif.specs.Order.{place_of, callees_on, callees, callees_at, AreThere, IsListing, IsRecursionAt, IsRecursionAmong, visit_of, is_new, left, AreLooked, Knows, IsPath, IsUnderWay, IsReady, Grows, Explores, IsCall}

-- what is so of the models that lines have instances of is so by instance, and the other way round
on_line : (P : ℕ → Type 0) (models : List BlifModel) (says : ModelLine) → All P (callees_on models says) → All (λ line. P (place_of models line)) (instances_on says)
on_line P models (Instance line) all =
    All-cons (λ (l : InstanceLine). P (place_of models l)) line [] (All-head P (place_of models line) [] all) (All-nil (λ (l : InstanceLine). P (place_of models l)))
on_line P models other all = All-nil (λ (l : InstanceLine). P (place_of models l))

pub by_instance : (P : ℕ → Type 0) (models : List BlifModel) (lines : List ModelLine) → All P (callees models lines) → All (λ line. P (place_of models line)) (flat_map instances_on lines)
by_instance P models [] all = All-nil (λ (l : InstanceLine). P (place_of models l))
by_instance P models (says ∷ lines) all =
    All-append (λ (l : InstanceLine). P (place_of models l)) (instances_on says) (flat_map instances_on lines) (on_line P models says (All-front P (callees_on models says) (callees models lines) all)) (by_instance P models lines (All-back P (callees_on models says) (callees models lines) all))

on_callee : (P : ℕ → Type 0) (models : List BlifModel) (says : ModelLine) → All (λ line. P (place_of models line)) (instances_on says) → All P (callees_on models says)
on_callee P models (Instance line) all =
    All-cons P (place_of models line) [] (All-head (λ (l : InstanceLine). P (place_of models l)) line [] all) (All-nil P)
on_callee P models other all = All-nil P

pub by_callee : (P : ℕ → Type 0) (models : List BlifModel) (lines : List ModelLine) → All (λ line. P (place_of models line)) (flat_map instances_on lines) → All P (callees models lines)
by_callee P models [] all = All-nil P
by_callee P models (says ∷ lines) all =
    let Q = λ (l : InstanceLine). P (place_of models l) in
    All-append P (callees_on models says) (callees models lines) (on_callee P models says (All-front Q (instances_on says) (flat_map instances_on lines) all)) (by_callee P models lines (All-back Q (instances_on says) (flat_map instances_on lines) all))

-- a test of all models that lines have instances of
test_line : (p : BlifModel → Bool) (models : List BlifModel) (says : ModelLine) → list_all (λ line. p (model_of models line)) (instances_on says) ≡ list_all (λ place. p (model_at models place)) (callees_on models says)
test_line p models (Instance line) = refl
test_line p models other = refl

pub test_lines : (p : BlifModel → Bool) (models : List BlifModel) (lines : List ModelLine) → list_all (λ line. p (model_of models line)) (flat_map instances_on lines) ≡ list_all (λ place. p (model_at models place)) (callees models lines)
test_lines p models [] = refl
test_lines p models (says ∷ lines) =
    let q = λ (place : ℕ). p (model_at models place) in
    let r = λ (line : InstanceLine). p (model_of models line) in
    list_all-append r (instances_on says) (flat_map instances_on lines)
    ∙ (ap (λ t. t && list_all r (flat_map instances_on lines)) (test_line p models says)
    ∙ (ap (λ t. list_all q (callees_on models says) && t) (test_lines p models lines) ∙ sym (list_all-append q (callees_on models says) (callees models lines))))

-- models of which each has an instance of another one of them have no depth
record HasNext (models : List BlifModel) (places : List ℕ) (place : ℕ) : Type 0 where
  callee : ℕ
  called : Contains (callees_at models place) callee
  among : Contains places callee

no_depth : (l : ℕ) (models : List BlifModel) (places : List ℕ) → ((place : ℕ) → Contains places place → HasNext models places place) → (place : ℕ) → Contains places place → is_within models l (model_at models place) ≡ false
no_depth zero models places next place among = refl
no_depth (suc l) models places next place among =
    let on = next place among in
    let called = on.called in
    let deeper = λ (q : ℕ). is_within models l (model_at models q) in
    test_lines (is_within models l) models (model_at models place).lines
    ∙ list_all_at deeper (callees_at models place) called.0 on.callee called.1 (ap deeper called.2 ∙ no_depth l models places next on.callee on.among)

-- and models in the order have one
record StandsBefore (order : List ℕ) (j place : ℕ) : Type 0 where
  at : ℕ
  before : at < j
  is : get_or order at 0 ≡ place

stands_before : (order : List ℕ) (j place : ℕ) → j ≤ length order → Contains (take j order) place → StandsBefore order j place
stands_before order j place short held =
    let long : held.0 < j = omega (arith, held.1, length-take-le j order short) in
    record {
      at = held.0;
      before = long;
      is = get_or_default order held.0 0 place (omega (arith, long, short)) ∙ (sym (get_or-take j order held.0 place long) ∙ held.2);
    }

deep : (k : ℕ) (models : List BlifModel) (order : List ℕ) (j : ℕ) → IsListing models order → k ≤ length order → j < k → is_within models k (model_at models (get_or order j 0)) ≡ true
deep zero models order j is short below = absurd (omega (arith, below))
deep (suc k) models order j is short below =
    let place = get_or order j 0 in
    let deeper = λ (q : ℕ). is_within models k (model_at models q) in
    test_lines (is_within models k) models (model_at models place).lines
    ∙ list_all-from_AllPass deeper (callees_at models place) (All-weaker (Contains (take j order)) (λ q. deeper q ≡ true) (λ q held.
    let before = stands_before order j q (omega (arith, short, below)) held in
    subst (λ n. deeper n ≡ true) before.is (deep k models order before.at is (omega (arith, short)) (omega (arith, before.before, below)))) (callees_at models place) (is.after j 0 (omega (arith, short, below))))

pub within_order : (models : List BlifModel) (order : List ℕ) (place : ℕ) → IsListing models order → Contains order place → is_within models (length order) (model_at models place) ≡ true
within_order models order place is held =
    let whole = subst (λ ps. Contains ps place) (sym (take_all (length order) order (omega arith))) held in
    let before = stands_before order (length order) place (omega arith) whole in
    subst (λ n. is_within models (length order) (model_at models n) ≡ true) before.is (deep (length order) models order before.at is (omega arith) before.before)

pub has_depth : (models : List BlifModel) (order : List ℕ) (place : ℕ) → IsListing models order → Contains order place → HasDepth models (model_at models place)
has_depth models order place is held = (length order, within_order models order place is held)

pub lines_deep : (models : List BlifModel) (order : List ℕ) (lines : List ModelLine) → IsListing models order → All (Contains order) (callees models lines) → All (λ other. HasDepth models (model_of models other)) (flat_map instances_on lines)
lines_deep models order lines is all =
    by_instance (λ place. HasDepth models (model_at models place)) models lines (All-weaker (Contains order) (λ place. HasDepth models (model_at models place)) (λ place held. has_depth models order place is held) (callees models lines) all)

-- the first instance whose model has no depth, of lists that stand one after another
pub among_first : {X : Type 0} (models : List BlifModel) (f : X → List InstanceLine) (xs : List X) (k : ℕ) (x : X) (fault : HierFault) → k < length xs → x ≡ get_or xs k x → All (λ other. HasDepth models (model_of models other)) (flat_map f (take k xs)) → IsRecursionAmong models (f x) fault → IsRecursionAmong models (flat_map f xs) fault
among_first models f xs k x fault below is deeper first = record {
  line = first.line;
  before = flat_map f (take k xs) ++ first.before;
  after = first.after ++ flat_map f (drop (k + 1) xs);
  whole = parts;
  deep = All-append (λ other. HasDepth models (model_of models other)) (flat_map f (take k xs)) first.before deeper first.deep;
  at = first.at;
}
  where
    rest : List InstanceLine
    rest = flat_map f (drop (k + 1) xs)

    next : flat_map f (drop k xs) ≡ f x ++ flat_map f (drop (k + 1) xs)
    next =
        let e : flat_map f (drop k xs) ≡ f (get_or xs k x) ++ flat_map f (drop (k + 1) xs) = at_drop_more (flat_map f) xs k x below in
        e ∙ ap (λ y. f y ++ flat_map f (drop (k + 1) xs)) (sym is)

    parts : flat_map f xs ≡ (flat_map f (take k xs) ++ first.before) ++ first.line ∷ (first.after ++ flat_map f (drop (k + 1) xs))
    parts =
        ap (flat_map f) (sym (take-append-drop k xs))
        ∙ (flat_map-append f (take k xs) (drop k xs)
        ∙ (ap (λ ls. flat_map f (take k xs) ++ ls) (next
        ∙ (ap (λ ls. ls ++ flat_map f (drop (k + 1) xs)) first.whole ∙ append_assoc first.before (first.line ∷ first.after) (flat_map f (drop (k + 1) xs))))
        ∙ sym (append_assoc (flat_map f (take k xs)) first.before (first.line ∷ (first.after ++ flat_map f (drop (k + 1) xs))))))

-- one model more in the order
pub IsListing-push : (models : List BlifModel) (order : List ℕ) (place : ℕ) → place < length models → All (Contains order) (callees_at models place) → IsListing models order → IsListing models (order ++ place ∷ [])
IsListing-push models order place there all is = record {
  there = All-push (λ p. p < length models) order place is.there there;
  after = after;
}
  where
    after : (k d : ℕ) → k < length (order ++ place ∷ []) → All (Contains (take k (order ++ place ∷ []))) (callees_at models (get_or (order ++ place ∷ []) k d))
    after k d below =
        elim (cases_lt k (length order)) [
          | inl less ↦
              let same = get_or_append_left order (place ∷ []) d k less in
              let front = take-append-le k order (place ∷ []) (omega (arith, less)) in
              subst (λ n. All (Contains (take k (order ++ place ∷ []))) (callees_at models n)) (sym same) (subst (λ ps. All (Contains ps) (callees_at models (get_or order k d))) (sym front) (is.after k d less))
          | inr past ↦
              let e : length order ≡ k = omega (arith, below, past, length_push order place) in
              let same = get_or_push order place d k e in
              let front = take-append-le k order (place ∷ []) (omega (arith, e)) ∙ take_all k order (omega (arith, e)) in
              subst (λ n. All (Contains (take k (order ++ place ∷ []))) (callees_at models n)) (sym same) (subst (λ ps. All (Contains ps) (callees_at models place)) (sym front) all)
        ]

-- what is left to do
abbrev weight : Visit → ℕ
weight v = cond (is_new v) 1 0

left_close : (visits : List Visit) (stack : List ℕ) (place : ℕ) → place < length visits → 0 < length stack → left (set visits place Listed) (take (length stack - 1) stack) < left visits stack
left_close visits stack place below more =
    omega (arith, sum_by-set weight visits place Listed New below, length-take-le (length stack - 1) stack (omega arith), more)

-- a model is put on the stack
knows_enter : (models : List BlifModel) (visits : List Visit) (looked stack order : List ℕ) (place : ℕ) → place < length visits → Knows models visits looked stack order → Knows models (set visits place Open) looked (stack ++ place ∷ []) order
knows_enter models visits looked stack order place below knows = record {
  entries = length-set visits place Open ∙ knows.entries;
  looked_entries = knows.looked_entries;
  listing = knows.listing;
  listed = listed;
  opens = opens;
  lines = knows.lines;
}
  where
    here : (k : ℕ) → k ≡ place → visit_of (set visits place Open) k ≡ Open
    here k same = ap (λ n. visit_of (set visits place Open) n) same ∙ get_or-set_same visits place Open New below

    listed : (k : ℕ) → visit_of (set visits place Open) k ≡ Listed → Contains order k
    listed k is =
        elim (cases_eq k place) [
          | inl same ↦ let open_here = here k same in absurd cc
          | inr other ↦ knows.listed k (sym (get_or-set_other visits place k Open New other) ∙ is)
        ]

    opens : (k : ℕ) → visit_of (set visits place Open) k ≡ Open → Contains (stack ++ place ∷ []) k
    opens k is =
        elim (cases_eq k place) [
          | inl same ↦ subst (Contains (stack ++ place ∷ [])) (sym same) (Contains-push stack place)
          | inr other ↦ Contains-append_left stack (place ∷ []) k (knows.opens k (sym (get_or-set_other visits place k Open New other) ∙ is))
        ]

-- its lines were looked at
knows_looked : (models : List BlifModel) (visits : List Visit) (looked stack order : List ℕ) (place line : ℕ) → place < length looked → AreLooked models order place line → Knows models visits looked stack order → Knows models visits (set looked place line) stack order
knows_looked models visits looked stack order place line below are knows = record {
  entries = knows.entries;
  looked_entries = length-set looked place line ∙ knows.looked_entries;
  listing = knows.listing;
  listed = knows.listed;
  opens = knows.opens;
  lines = lines;
}
  where
    lines : (k : ℕ) → k < length models → AreLooked models order k (get_or (set looked place line) k 0)
    lines k there =
        elim (cases_eq k place) [
          | inl same ↦
              let at : get_or (set looked place line) k 0 ≡ line = ap (λ n. get_or (set looked place line) n 0) same ∙ get_or-set_same looked place line 0 below in
              subst (AreLooked models order k) (sym at) (subst (λ n. AreLooked models order n line) (sym same) are)
          | inr other ↦ subst (AreLooked models order k) (sym (get_or-set_other looked place k line 0 other)) (knows.lines k there)
        ]

-- it is listed
knows_list : (models : List BlifModel) (visits : List Visit) (looked stack order : List ℕ) (place : ℕ) → place < length visits → All (Contains order) (callees_at models place) → Knows models visits looked stack order → Knows models (set visits place Listed) looked stack (order ++ place ∷ [])
knows_list models visits looked stack order place below all knows = record {
  entries = length-set visits place Listed ∙ knows.entries;
  looked_entries = knows.looked_entries;
  listing = IsListing-push models order place (subst (λ n. place < n) knows.entries below) all knows.listing;
  listed = listed;
  opens = opens;
  lines = λ k there. All-weaker (Contains order) (Contains (order ++ place ∷ [])) (λ q held. Contains-append_left order (place ∷ []) q held) (callees models (take (get_or looked k 0) (model_at models k).lines)) (knows.lines k there);
}
  where
    here : (k : ℕ) → k ≡ place → visit_of (set visits place Listed) k ≡ Listed
    here k same = ap (λ n. visit_of (set visits place Listed) n) same ∙ get_or-set_same visits place Listed New below

    listed : (k : ℕ) → visit_of (set visits place Listed) k ≡ Listed → Contains (order ++ place ∷ []) k
    listed k is =
        elim (cases_eq k place) [
          | inl same ↦ subst (Contains (order ++ place ∷ [])) (sym same) (Contains-push order place)
          | inr other ↦ Contains-append_left order (place ∷ []) k (knows.listed k (sym (get_or-set_other visits place k Listed New other) ∙ is))
        ]

    opens : (k : ℕ) → visit_of (set visits place Listed) k ≡ Open → Contains stack k
    opens k is =
        elim (cases_eq k place) [
          | inl same ↦ let listed_here = here k same in absurd cc
          | inr other ↦ knows.opens k (sym (get_or-set_other visits place k Listed New other) ∙ is)
        ]

-- and taken off the stack
knows_pop : (models : List BlifModel) (visits : List Visit) (looked stack order : List ℕ) (place : ℕ) → 0 < length stack → place ≡ get_or stack (length stack - 1) place → visit_of visits place ≡ Listed → Knows models visits looked stack order → Knows models visits looked (take (length stack - 1) stack) order
knows_pop models visits looked stack order place more top is_listed knows = record {
  entries = knows.entries;
  looked_entries = knows.looked_entries;
  listing = knows.listing;
  listed = knows.listed;
  opens = opens;
  lines = knows.lines;
}
  where
    opens : (k : ℕ) → visit_of visits k ≡ Open → Contains (take (length stack - 1) stack) k
    opens k is =
        elim (cases_eq k place) [
          | inl same ↦ let listed_here : visit_of visits k ≡ Listed = ap (visit_of visits) same ∙ is_listed in absurd cc
          | inr other ↦ Contains-below stack place k more top other (knows.opens k is)
        ]

-- the way goes on to a model that the top has an instance of
path_enter : (models : List BlifModel) (root : ℕ) (stack : List ℕ) (place callee : ℕ) → 0 < length stack → place ≡ get_or stack (length stack - 1) place → callee < length models → Contains (callees_at models place) callee → IsPath models root stack → IsPath models root (stack ++ callee ∷ [])
path_enter models root stack place callee more top there called path = record {
  there = All-push (λ k. k < length models) stack callee path.there there;
  bottom = λ other l. get_or_append_left stack (callee ∷ []) other 0 more ∙ path.bottom other more;
  steps = steps;
}
  where
    steps : (j other : ℕ) → suc j < length (stack ++ callee ∷ []) → Contains (callees_at models (get_or (stack ++ callee ∷ []) j other)) (get_or (stack ++ callee ∷ []) (suc j) other)
    steps j other l =
        let within : j < length stack = omega (arith, l, length_push stack callee) in
        let first = get_or_append_left stack (callee ∷ []) other j within in
        elim (cases_lt (suc j) (length stack)) [
          | inl inside ↦
              let second = get_or_append_left stack (callee ∷ []) other (suc j) inside in
              subst (λ n. Contains (callees_at models n) (get_or (stack ++ callee ∷ []) (suc j) other)) (sym first) (subst (λ n. Contains (callees_at models (get_or stack j other)) n) (sym second) (path.steps j other inside))
          | inr outside ↦
              let last : suc j ≡ length stack = omega arith in
              let at : j ≡ length stack - 1 = omega arith in
              let second = get_or_push stack callee other (suc j) (sym last) in
              let is : get_or stack j other ≡ place = ap (λ n. get_or stack n other) at ∙ (get_or_default stack (length stack - 1) other place (omega arith) ∙ sym top) in
              subst (λ n. Contains (callees_at models n) (get_or (stack ++ callee ∷ []) (suc j) other)) (sym (first ∙ is)) (subst (λ n. Contains (callees_at models place) n) (sym second) called)
        ]

path_take : (models : List BlifModel) (root n : ℕ) (stack : List ℕ) → n ≤ length stack → IsPath models root stack → IsPath models root (take n stack)
path_take models root n stack le path = record {
  there = All-take (λ k. k < length models) n stack path.there;
  bottom = λ other l. get_or-take n stack 0 other (omega (arith, length-take-le n stack le)) ∙ path.bottom other (omega (arith, length-take-le n stack le));
  steps = λ j other l.
      let inside : suc j < n = omega (arith, length-take-le n stack le) in
      let before : j < n = omega arith in
      subst (λ k. Contains (callees_at models k) (get_or (take n stack) (suc j) other)) (sym (get_or-take n stack j other before)) (subst (λ k. Contains (callees_at models (get_or stack j other)) k) (sym (get_or-take n stack (suc j) other inside)) (path.steps j other (omega arith)));
}

path_start : (models : List BlifModel) (root : ℕ) → root < length models → IsPath models root (root ∷ [])
path_start models root there = record {
  there = All-cons (λ k. k < length models) root [] there (All-nil (λ k. k < length models));
  bottom = λ d l. refl;
  steps = λ j d l. absurd (omega arith);
}

-- where the top has an instance of a model on the stack, nothing on the stack has a depth
path_loop : (models : List BlifModel) (root : ℕ) (stack : List ℕ) (place callee : ℕ) → 0 < length stack → place ≡ get_or stack (length stack - 1) place → Contains stack callee → Contains (callees_at models place) callee → IsPath models root stack → HasNoDepth models (model_at models root)
path_loop models root stack place callee more top held called path =
    λ l. no_depth l models stack next root (0, more, path.bottom root more)
  where
    next : (k : ℕ) → Contains stack k → HasNext models stack k
    next k on =
        elim (cases_lt (suc on.0) (length stack)) [
          | inl inside ↦ record {
            callee = get_or stack (suc on.0) k;
            called = subst (λ n. Contains (callees_at models n) (get_or stack (suc on.0) k)) on.2 (path.steps on.0 k inside);
            among = (suc on.0, inside, get_or_default stack (suc on.0) (get_or stack (suc on.0) k) k inside);
          }
          | inr outside ↦
              let at : on.0 ≡ length stack - 1 = omega (arith, on.1) in
              let is : k ≡ place = sym on.2 ∙ (ap (λ n. get_or stack n k) at ∙ (get_or_default stack (length stack - 1) k place (omega arith) ∙ sym top)) in
              record { callee = callee; called = subst (λ n. Contains (callees_at models n) callee) (sym is) called; among = held }
        ]

visit_cases : (v : Visit) → (v ≡ New) ⊎ ((v ≡ Open) ⊎ (v ≡ Listed))
visit_cases New = inl refl
visit_cases Open = inr (inl refl)
visit_cases Listed = inr (inr refl)

-- a search begins
pub knows_as : (models : List BlifModel) (visits new_visits : List Visit) (looked new_looked stack new_stack order new_order : List ℕ) → new_visits ≡ visits → new_looked ≡ looked → new_stack ≡ stack → new_order ≡ order → Knows models visits looked stack order → Knows models new_visits new_looked new_stack new_order
knows_as models visits new_visits looked new_looked stack new_stack order new_order v l s o knows =
    subst (Knows models new_visits new_looked new_stack) (sym o) (subst (λ z. Knows models new_visits new_looked z order) (sym s) (subst (λ z. Knows models new_visits z stack order) (sym l) (subst (λ z. Knows models z looked stack order) (sym v) knows)))

not_new : (v : Visit) → v ≡ Open → v ≢ New
not_new v is new = cc

pub way_start : (models : List BlifModel) (root : ℕ) (old new : ModelSearch) → root < length models → new.visits.items ≡ set old.visits.items root Open → new.stack.items ≡ old.stack.items ++ root ∷ [] → new.looked.items ≡ old.looked.items → new.order.items ≡ old.order.items → IsReady models old → IsUnderWay models root new
way_start models root old new there v s l o ready =
    let below : root < length old.visits.items = omega (arith, there, ready.knows.entries) in
    let none : old.stack.items ≡ [] = nil_from_length old.stack.items ready.no_stack in
    let one : new.stack.items ≡ root ∷ [] = s ∙ ap (λ ps. ps ++ root ∷ []) none in
    record {
      knows = knows_as models (set old.visits.items root Open) new.visits.items old.looked.items new.looked.items (old.stack.items ++ root ∷ []) new.stack.items old.order.items new.order.items v l s o (knows_enter models old.visits.items old.looked.items old.stack.items old.order.items root below ready.knows);
      path = subst (IsPath models root) (sym one) (path_start models root there);
      met = not_new (visit_of new.visits.items root) (ap (λ vs. visit_of vs root) v ∙ get_or-set_same old.visits.items root Open New below);
    }

-- a visit that isn't new stays so
met_set : (visits : List Visit) (root place : ℕ) (v : Visit) → place < length visits → v ≢ New → visit_of visits root ≢ New → visit_of (set visits place v) root ≢ New
met_set visits root place v below met before =
    elim (cases_eq root place) [
      | inl same ↦ λ new. met (sym (ap (λ n. visit_of (set visits place v) n) same ∙ get_or-set_same visits place v New below) ∙ new)
      | inr other ↦ λ new. before (sym (get_or-set_other visits place root v New other) ∙ new)
    ]

open_new : Open ≢ New
open_new is = cc

listed_new : Listed ≢ New
listed_new is = cc

-- it goes on to a model that was not met
pub way_enter : (models : List BlifModel) (root : ℕ) (old new : ModelSearch) (place callee line : ℕ) → 0 < length old.stack.items → place ≡ get_or old.stack.items (length old.stack.items - 1) place → place < length models → callee < length models → AreLooked models old.order.items place line → Contains (callees_at models place) callee → new.visits.items ≡ set old.visits.items callee Open → new.stack.items ≡ old.stack.items ++ callee ∷ [] → new.looked.items ≡ set old.looked.items place line → new.order.items ≡ old.order.items → IsUnderWay models root old → IsUnderWay models root new
way_enter models root old new place callee line more top at there looked called v s l o way =
    let below : callee < length old.visits.items = omega (arith, there, way.knows.entries) in
    let row : place < length old.looked.items = omega (arith, at, way.knows.looked_entries) in
    record {
      knows = knows_as models (set old.visits.items callee Open) new.visits.items (set old.looked.items place line) new.looked.items (old.stack.items ++ callee ∷ []) new.stack.items old.order.items new.order.items v l s o (knows_enter models old.visits.items (set old.looked.items place line) old.stack.items old.order.items callee below (knows_looked models old.visits.items old.looked.items old.stack.items old.order.items place line row looked way.knows));
      path = subst (IsPath models root) (sym s) (path_enter models root old.stack.items place callee more top there called way.path);
      met = subst (λ vs. visit_of vs root ≢ New) (sym v) (met_set old.visits.items root callee Open below open_new way.met);
    }

-- and leaves one
pub way_close : (models : List BlifModel) (root : ℕ) (old new : ModelSearch) (place : ℕ) → 0 < length old.stack.items → place ≡ get_or old.stack.items (length old.stack.items - 1) place → place < length models → All (Contains old.order.items) (callees_at models place) → new.visits.items ≡ set old.visits.items place Listed → new.stack.items ≡ take (length old.stack.items - 1) old.stack.items → new.looked.items ≡ old.looked.items → new.order.items ≡ old.order.items ++ place ∷ [] → IsUnderWay models root old → IsUnderWay models root new
way_close models root old new place more top at all v s l o way =
    let visits = old.visits.items in
    let stack = old.stack.items in
    let below : place < length visits = omega (arith, at, way.knows.entries) in
    let closed = knows_pop models (set visits place Listed) old.looked.items stack (old.order.items ++ place ∷ []) place more top (get_or-set_same visits place Listed New below) (knows_list models visits old.looked.items stack old.order.items place below all way.knows) in
    record {
      knows = knows_as models (set visits place Listed) new.visits.items old.looked.items new.looked.items (take (length stack - 1) stack) new.stack.items (old.order.items ++ place ∷ []) new.order.items v l s o closed;
      path = subst (IsPath models root) (sym s) (path_take models root (length stack - 1) stack (omega arith) way.path);
      met = subst (λ vs. visit_of vs root ≢ New) (sym v) (met_set visits root place Listed below listed_new way.met);
    }

pub less_close : (old new : ModelSearch) (place : ℕ) → place < length old.visits.items → 0 < length old.stack.items → new.visits.items ≡ set old.visits.items place Listed → new.stack.items ≡ take (length old.stack.items - 1) old.stack.items → left new.visits.items new.stack.items < left old.visits.items old.stack.items
less_close old new place below more v s =
    subst (λ vs. left vs new.stack.items < left old.visits.items old.stack.items) (sym v) (subst (λ ps. left (set old.visits.items place Listed) ps < left old.visits.items old.stack.items) (sym s) (left_close old.visits.items old.stack.items place below more))

pub grows_same : (old new : List ℕ) → new ≡ old → Grows old new
grows_same old new e = λ place held. subst (λ ps. Contains ps place) (sym e) held

pub grows_push : (old new : List ℕ) (place : ℕ) → new ≡ old ++ place ∷ [] → Grows old new
grows_push old new place e =
    λ k held. subst (λ ps. Contains ps k) (sym e) (Contains-append_left old (place ∷ []) k held)

pub top_there : (models : List BlifModel) (root place : ℕ) (stack : List ℕ) → 0 < length stack → place ≡ get_or stack (length stack - 1) place → IsPath models root stack → place < length models
top_there models root place stack more top path =
    subst (λ n. n < length models) (sym top) (path.there (length stack - 1) place (omega arith))

-- a model on the stack is met again
pub way_loop : (models : List BlifModel) (root : ℕ) (search : ModelSearch) (place callee : ℕ) → 0 < length search.stack.items → place ≡ get_or search.stack.items (length search.stack.items - 1) place → Contains (callees_at models place) callee → visit_of search.visits.items callee ≢ Listed → visit_of search.visits.items callee ≢ New → IsUnderWay models root search → HasNoDepth models (model_at models root)
way_loop models root search place callee more top called unlisted met way =
    elim (visit_cases (visit_of search.visits.items callee)) [
      | inl new ↦ absurd (met new)
      | inr (inl open_one) ↦ path_loop models root search.stack.items place callee more top (way.knows.opens callee open_one) called way.path
      | inr (inr listed) ↦ absurd (unlisted listed)
    ]

one_listed : (order : List ℕ) (place : ℕ) → Contains order place → All (Contains order) (place ∷ [])
one_listed order place held = All-cons (Contains order) place [] held (All-nil (Contains order))

-- one that is listed at once
pub listed_now : (models : List BlifModel) (place : ℕ) (old new : ModelSearch) → place < length old.visits.items → new.visits.items ≡ set old.visits.items place Listed → new.stack.items ≡ old.stack.items → new.looked.items ≡ old.looked.items → new.order.items ≡ old.order.items ++ place ∷ [] → IsReady models old → All (Contains old.order.items) (callees_at models place) → Explores models (place ∷ []) old new
listed_now models place old new below v s l o ready all = record {
  ready = record {
    knows = knows_as models (set old.visits.items place Listed) new.visits.items old.looked.items new.looked.items old.stack.items new.stack.items (old.order.items ++ place ∷ []) new.order.items v l s o (knows_list models old.visits.items old.looked.items old.stack.items old.order.items place below all ready.knows);
    no_stack = ap length s ∙ ready.no_stack;
  };
  grows = grows_push old.order.items new.order.items place o;
  listed = one_listed new.order.items place (subst (λ ps. Contains ps place) (sym o) (Contains-push old.order.items place));
}

-- several searches, one after another
pub explores_more : (models : List BlifModel) (one other : List ℕ) (old mid new : ModelSearch) → Explores models one old mid → Explores models other mid new → Explores models (one ++ other) old new
explores_more models one other old mid new first second = record {
  ready = second.ready;
  grows = λ place held. second.grows place (first.grows place held);
  listed = All-append (Contains new.order.items) one other (All-weaker (Contains mid.order.items) (Contains new.order.items) second.grows one first.listed) second.listed;
}

-- one line more
next_line : (models : List BlifModel) (lines : List ModelLine) (k : ℕ) (line : ModelLine) → k < length lines → line ≡ get_or lines k line → callees models (take (k + 1) lines) ≡ callees models (take k lines) ++ callees_on models line
next_line models lines k line below is =
    ap (callees models) (take_more lines k line below ∙ ap (λ l. take k lines ++ l ∷ []) (sym is))
    ∙ (flat_map-append (callees_on models) (take k lines) (line ∷ []) ∙ ap (λ cs. callees models (take k lines) ++ cs) (append-nil (callees_on models line)))

pub explores_line : (models : List BlifModel) (lines : List ModelLine) (k : ℕ) (line : ModelLine) (old mid new : ModelSearch) → k < length lines → line ≡ get_or lines k line → Explores models (callees models (take k lines)) old mid → Explores models (callees_on models line) mid new → Explores models (callees models (take (k + 1) lines)) old new
explores_line models lines k line old mid new below is first second =
    subst (λ cs. Explores models cs old new) (sym (next_line models lines k line below is)) (explores_more models (callees models (take k lines)) (callees_on models line) old mid new first second)

-- The first models were searched: they are listed, and each of their instances is of a model with a depth.
pub record AreListed (models : List BlifModel) (count : ℕ) (search : ModelSearch) : Type 0 where
  pub ready : IsReady models search
  pub deep : All (λ other. HasDepth models (model_of models other)) (flat_map instances_of (take count models))
  pub listed : (place : ℕ) → place < count → Contains search.order.items place

-- one model more
pub listed_more : (models : List BlifModel) (k : ℕ) (model : BlifModel) (old mid new : ModelSearch) → k < length models → model ≡ get_or models k model → AreListed models k old → Explores models (callees models model.lines) old mid → Explores models (k ∷ []) mid new → AreListed models (k + 1) new
listed_more models k model old mid new below is so_far first second = record {
  ready = second.ready;
  deep = subst (All (λ other. HasDepth models (model_of models other))) (sym parts) (All-append (λ other. HasDepth models (model_of models other)) (flat_map instances_of (take k models)) (instances_of model) so_far.deep (lines_deep models mid.order.items model.lines first.ready.knows.listing first.listed));
  listed = λ place less. elim (cases_lt place k) [
    | inl before ↦ second.grows place (first.grows place (so_far.listed place before))
    | inr last ↦ let e : k ≡ place = omega (arith, less, last) in subst (Contains new.order.items) e (second.listed 0 k (omega arith))
  ];
}
  where
    parts : flat_map instances_of (take (k + 1) models) ≡ flat_map instances_of (take k models) ++ instances_of model
    parts =
        ap (flat_map instances_of) (take_more models k model below ∙ ap (λ m. take k models ++ m ∷ []) (sym is))
        ∙ (flat_map-append instances_of (take k models) (model ∷ []) ∙ ap (λ ls. flat_map instances_of (take k models) ++ ls) (append-nil (instances_of model)))

-- and all
pub all_deep : (models : List BlifModel) (count : ℕ) → length models ≤ count → All (λ other. HasDepth models (model_of models other)) (flat_map instances_of (take count models)) → All (λ other. HasDepth models (model_of models other)) (flat_map instances_of models)
all_deep models count past deeper =
    subst (λ ms. All (λ other. HasDepth models (model_of models other)) (flat_map instances_of ms)) (take_all count models past) deeper

-- the callees of the model at a place
pub callees_here : (models : List BlifModel) (k : ℕ) (model : BlifModel) → k < length models → model ≡ get_or models k model → callees_at models k ≡ callees models model.lines
callees_here models k model below is =
    ap (λ (m : BlifModel). callees models m.lines) (get_or_default models k (empty_model 0 no_name) model below ∙ sym is)

-- what a stop says of the whole
pub err_as : {X : Type 0} (call : Result X HierStop) (R S : HierFault → Type 0) → ((fault : HierFault) → R fault → S fault) → IfErr call (IsStopBy R) → IfErr call (IsStopBy S)
err_as (Ok x) R S turn is = tt
err_as (Err why) R S turn is = stop_as R S why turn is

pub among_one : (models : List BlifModel) (says : ModelLine) (line : InstanceLine) (fault : HierFault) → says ≡ Instance line → IsRecursionAt models line fault → IsRecursionAmong models (instances_on says) fault
among_one models says line fault is at = record {
  line = line;
  before = [];
  after = [];
  whole = ap instances_on is;
  deep = All-nil (λ other. HasDepth models (model_of models other));
  at = at;
}

pub recursion_stop : (models : List BlifModel) (line : InstanceLine) (stop : HierStop) → stop ≡ Fault (record { kind = wrong.Recursion; at = line.at }) → HasNoDepth models (model_of models line) → IsStopBy (IsRecursionAt models line) stop
recursion_stop models line stop is recursive =
    subst (IsStopBy (IsRecursionAt models line)) (sym is) (record { recursive = recursive; is = refl })

-- what is so of all lines' callees is so of one line's
pub line_there : (P : ℕ → Type 0) (models : List BlifModel) (lines : List ModelLine) (k : ℕ) (line : ModelLine) → k < length lines → line ≡ get_or lines k line → All P (callees models lines) → All P (callees_on models line)
line_there P models lines k line below is all =
    all_of_place P (callees_on models) lines k line (slice_get_read lines (length lines) k line refl below is) all

-- what is read of the model at a place, and of one of its lines
pub record IsLineOf (models : List BlifModel) (place : ℕ) (model : BlifModel) (k : ℕ) (line : ModelLine) : Type 0 where
  pub there : place < length models
  pub model_is : model ≡ get_or models place model
  pub within : k < length model.lines
  pub line_is : line ≡ get_or model.lines k line

pub bounds_on : (models : List BlifModel) (place : ℕ) (model : BlifModel) (k : ℕ) (line : ModelLine) (n : ℕ) → IsLineOf models place model k line → n ≡ length models → AreThere models → All (λ callee. callee < n) (callees_on models line)
bounds_on models place model k line n at is are =
    let P = λ (callee : ℕ). callee < length models in
    let all = subst (All P) (callees_here models place model at.there at.model_is) (are.each place at.there) in
    subst (λ m. All (λ (callee : ℕ). callee < m) (callees_on models line)) (sym is) (line_there P models model.lines k line at.within at.line_is all)

pub lines_at : (models : List BlifModel) (place : ℕ) (model : BlifModel) → place < length models → model ≡ get_or models place model → (model_at models place).lines ≡ model.lines
lines_at models place model there is =
    ap (λ (m : BlifModel). m.lines) (get_or_default models place (empty_model 0 no_name) model there ∙ sym is)

-- one line more was looked at
pub looked_more : (models : List BlifModel) (visits : List Visit) (looked stack order : List ℕ) (place : ℕ) (model : BlifModel) (k : ℕ) (line : ModelLine) → IsLineOf models place model k line → Knows models visits looked stack order → All (λ callee. visit_of visits callee ≡ Listed) (callees_on models line) → AreLooked models order place k → AreLooked models order place (k + 1)
looked_more models visits looked stack order place model k line at knows found so_far =
    let same = lines_at models place model at.there at.model_is in
    let before = subst (λ ls. All (Contains order) (callees models (take k ls))) same so_far in
    let here = All-weaker (λ callee. visit_of visits callee ≡ Listed) (Contains order) knows.listed (callees_on models line) found in
    let both = All-append (Contains order) (callees models (take k model.lines)) (callees_on models line) before here in
    subst (λ ls. All (Contains order) (callees models (take (k + 1) ls))) (sym same) (subst (All (Contains order)) (sym (next_line models model.lines k line at.within at.line_is)) both)

pub looked_all : (models : List BlifModel) (order : List ℕ) (place : ℕ) (model : BlifModel) (k : ℕ) → place < length models → model ≡ get_or models place model → length model.lines ≤ k → AreLooked models order place k → All (Contains order) (callees_at models place)
looked_all models order place model k there is past are =
    let same = lines_at models place model there is in
    let long : length (model_at models place).lines ≤ k = subst (λ ls. length ls ≤ k) (sym same) past in
    subst (λ ls. All (Contains order) (callees models ls)) (take_all k (model_at models place).lines long) are

-- a line with an instance of a model that isn't listed
within_place : {X Y : Type 0} (f : X → List Y) (xs : List X) (k : ℕ) (x : X) (y : Y) → k < length xs → x ≡ get_or xs k x → Contains (f x) y → Contains (flat_map f xs) y
within_place f xs k x y below is held =
    let next : flat_map f (drop k xs) ≡ f (get_or xs k x) ++ flat_map f (drop (k + 1) xs) = at_drop_more (flat_map f) xs k x below in
    let parts = flat_map-append f (take k xs) (drop k xs) in
    let here = Contains-append_left (f x) (flat_map f (drop (k + 1) xs)) y held in
    let rest = subst (λ ys. Contains ys y) (sym (next ∙ ap (λ z. f z ++ flat_map f (drop (k + 1) xs)) (sym is))) here in
    let whole = subst (λ ys. Contains ys y) (sym parts) (Contains-append_right (flat_map f (take k xs)) (flat_map f (drop k xs)) y rest) in
    subst (λ zs. Contains (flat_map f zs) y) (take-append-drop k xs) whole

pub call_found : (models : List BlifModel) (visits : List Visit) (looked stack order : List ℕ) (place : ℕ) (model : BlifModel) (k : ℕ) (line : ModelLine) (callee : ℕ) (call : Call) → IsLineOf models place model k line → AreThere models → AreLooked models order place k → Contains (callees_on models line) callee → visit_of visits callee ≢ Listed → Some (record { line = k; callee = callee }) ≡ Some call → IsCall models visits order place call
call_found models visits looked stack order place model k line callee call at are so_far held unlisted same =
    let all = bounds_on models place model k line (length models) at refl are in
    let here = within_place (callees_on models) model.lines k line callee at.within at.line_is held in
    subst (IsCall models visits order place) (some_same (record { line = k; callee = callee }) call same) (record {
      looked = so_far;
      callee = subst (λ cs. Contains cs callee) (sym (callees_here models place model at.there at.model_is)) here;
      there = All-contains (λ c. c < length models) (callees_on models line) callee all held;
      open_or_new = unlisted;
    })
