-- That each step of the search keeps what is known, and that a loop is one.
use Rattle.std.proofs.Common.{ℕ, suc, ◌+◌, ◌-◌, ◌*◌, ◌<◌, ◌≤◌, ◌≡◌, ◌≢◌, ◌⊎◌, max, cond, List, [], ◌∷◌, ◌++◌, length, get_or, set, take, Contains, refl, sym, ap, subst, ◌∙◌, inl, inr, arith}
use Rattle.std.proofs.Math.Seq.{map-set_same, take-suc}
use Rattle.std.proofs.lemmas.Bool.{cases_eq, cases_lt}
use Rattle.std.proofs.lemmas.List.{get_or_default, get_or-set_same, get_or-set_other, get_or_append_left, get_or_push, get_or-take, get_or-map, length_push, length-map, length-set, length-take-le, map_push, nil_from_length, take-map, take_all}
use Rattle.std.proofs.lemmas.List.Elements.{All-push, All-set, All-take, Contains-push, Contains-append_left}
use Rattle.std.proofs.lemmas.List.Sums.{sum_by-set}
use Rattle.circuits.specs.Circuits.{Circuit, names_of, signal_at}
use Rattle.circuits.specs.Levels.{HasLevel, HaveLevel, HasNoLevel, Names}
use Rattle.circuits.proofs.LevelLaws.{no_level, HasLevel-above, HaveLevel-none, HaveLevel-more}
use Rattle.net_core.specs.declared.levels.Frame.{Frame}
use Rattle.net_core.specs.declared.levels.Visit.{Visit}
use Rattle.net_core.specs.declared.levels.Visit.TheVariants.{New, Open, Level}
use Rattle.net_core.specs.declared.levels.SearchEvent.TheVariants.{Enter, Close, Loop}
use Rattle.net_core.specs.declared.order_fault.OrderFault.{OrderFault}
use Rattle.net_core.specs.declared.order_fault.OrderFault.TheVariants.{Cycle, TooManyGates, Memory}
use Rattle.net_core.specs.Search.{visit_of, is_new, left, positions, IsFound, IsLooked, Knows, AreMet, IsPath, IsUnderWay, IsReady, IsNextEvent, IsFaultAt, IsFaultOf}

abbrev pub weight : Visit → ℕ
weight v = cond (is_new v) 1 0

-- a definition that is entered was new, and stands on the stack
pub left-enter : (visits : List Visit) (stack : List ℕ) (e : ℕ) → e < length visits → visit_of visits e ≡ New → left (set visits e Open) (stack ++ e ∷ []) + 1 ≡ left visits stack
left-enter visits stack e h new =
    let was : weight (visit_of visits e) ≡ weight New = ap weight new in
    omega (arith, sum_by-set weight visits e Open New h, was, length_push stack e)

pub left-close : (visits : List Visit) (stack rest : List ℕ) (d level : ℕ) → d < length visits → length rest + 1 ≡ length stack → left (set visits d (Level level)) rest + 1 ≤ left visits stack
left-close visits stack rest d level h one =
    omega (arith, sum_by-set weight visits d (Level level) New h, one)

pub AreMet-set : (visits : List Visit) (count d : ℕ) (v : Visit) → d < length visits → v ≢ New → AreMet count visits → AreMet count (set visits d v)
AreMet-set visits count d v h met before k l =
    elim (cases_eq k d) [
      | inl same ↦ λ new. met (sym (ap (λ n. visit_of (set visits d v) n) same ∙ get_or-set_same visits d v New h) ∙ new)
      | inr other ↦ λ new. before k l (sym (get_or-set_other visits d k v New other) ∙ new)
    ]

pub Knows-enter : (circuit : Circuit) (visits : List Visit) (stack : List ℕ) (e : ℕ) → e < length visits → visit_of visits e ≡ New → Knows circuit visits stack → Knows circuit (set visits e Open) (stack ++ e ∷ [])
Knows-enter circuit visits stack e h new knows = record {
  entries = length-set visits e Open ∙ knows.entries;
  room = omega (arith, left-enter visits stack e h new, knows.room);
  levels = levels;
  opens = opens;
}
  where
    here : (k : ℕ) → k ≡ e → visit_of (set visits e Open) k ≡ Open
    here k same = ap (λ n. visit_of (set visits e Open) n) same ∙ get_or-set_same visits e Open New h

    levels : (k level : ℕ) → visit_of (set visits e Open) k ≡ Level level → IsFound circuit (left (set visits e Open) (stack ++ e ∷ [])) (signal_at circuit k) level
    levels k level is =
        elim (cases_eq k e) [
          | inl same ↦ let open_here = here k same in absurd cc
          | inr other ↦
              let found = knows.levels k level (sym (get_or-set_other visits e k Open New other) ∙ is) in
              record { has = found.has; few = omega (arith, found.few, left-enter visits stack e h new) }
        ]

    opens : (k : ℕ) → visit_of (set visits e Open) k ≡ Open → Contains (stack ++ e ∷ []) k
    opens k is =
        elim (cases_eq k e) [
          | inl same ↦ subst (Contains (stack ++ e ∷ [])) (sym same) (Contains-push stack e)
          | inr other ↦ Contains-append_left stack (e ∷ []) k (knows.opens k (sym (get_or-set_other visits e k Open New other) ∙ is))
        ]

-- what is on the stack, but for the top
pub Contains-below : (stack : List ℕ) (d k : ℕ) → 0 < length stack → d ≡ get_or stack (length stack - 1) d → k ≢ d → Contains stack k → Contains (take (length stack - 1) stack) k
Contains-below stack d k more top other has =
    let not_top : has.0 ≢ length stack - 1 = λ same. other (sym has.2 ∙ (ap (λ n. get_or stack n k) same ∙ (get_or_default stack (length stack - 1) k d (omega arith) ∙ sym top))) in
    let before : has.0 < length stack - 1 = omega (arith, has.1) in
    (has.0, omega (arith, length-take-le (length stack - 1) stack (omega arith)), get_or-take (length stack - 1) stack has.0 k before ∙ has.2)

pub Knows-close : (circuit : Circuit) (visits : List Visit) (stack : List ℕ) (d level : ℕ) → d < length visits → 0 < length stack → d ≡ get_or stack (length stack - 1) d → HasLevel circuit (signal_at circuit d) level → level + left visits stack ≤ 2 * length circuit.defs + 1 → Knows circuit visits stack → Knows circuit (set visits d (Level level)) (take (length stack - 1) stack)
Knows-close circuit visits stack d level h more top has few knows = record {
  entries = length-set visits d (Level level) ∙ knows.entries;
  room = omega (arith, less, knows.room);
  levels = levels;
  opens = opens;
}
  where
    less : left (set visits d (Level level)) (take (length stack - 1) stack) + 1 ≤ left visits stack
    less =
        let shorter : length (take (length stack - 1) stack) + 1 ≡ length stack = omega (arith, length-take-le (length stack - 1) stack (omega arith)) in
        left-close visits stack (take (length stack - 1) stack) d level h shorter

    here : (k : ℕ) → k ≡ d → visit_of (set visits d (Level level)) k ≡ Level level
    here k same = ap (λ n. visit_of (set visits d (Level level)) n) same ∙ get_or-set_same visits d (Level level) New h

    levels : (k l : ℕ) → visit_of (set visits d (Level level)) k ≡ Level l → IsFound circuit (left (set visits d (Level level)) (take (length stack - 1) stack)) (signal_at circuit k) l
    levels k l is =
        elim (cases_eq k d) [
          | inl same ↦
              let level_here = here k same in
              let e : level ≡ l = cc in
              let has' : HasLevel circuit (signal_at circuit k) l = subst (λ n. HasLevel circuit (signal_at circuit n) l) (sym same) (subst (HasLevel circuit (signal_at circuit d)) e has) in
              record { has = has'; few = omega (arith, few, less, e) }
          | inr other ↦
              let found = knows.levels k l (sym (get_or-set_other visits d k (Level level) New other) ∙ is) in
              record { has = found.has; few = omega (arith, found.few, less) }
        ]

    opens : (k : ℕ) → visit_of (set visits d (Level level)) k ≡ Open → Contains (take (length stack - 1) stack) k
    opens k is =
        elim (cases_eq k d) [
          | inl same ↦ let level_here = here k same in absurd cc
          | inr other ↦ Contains-below stack d k more top other (knows.opens k (sym (get_or-set_other visits d k (Level level) New other) ∙ is))
        ]

-- the way goes on to what the top names
pub IsPath-enter : (circuit : Circuit) (root : ℕ) (stack : List ℕ) (d e : ℕ) → 0 < length stack → d ≡ get_or stack (length stack - 1) d → e < length circuit.defs → Names circuit (signal_at circuit d) (signal_at circuit e) → IsPath circuit root stack → IsPath circuit root (stack ++ e ∷ [])
IsPath-enter circuit root stack d e more top h names path = record {
  there = All-push (λ k. k < length circuit.defs) stack e path.there h;
  bottom = λ other l. get_or_append_left stack (e ∷ []) other 0 more ∙ path.bottom other more;
  steps = steps;
}
  where
    steps : (j other : ℕ) → suc j < length (stack ++ e ∷ []) → Names circuit (signal_at circuit (get_or (stack ++ e ∷ []) j other)) (signal_at circuit (get_or (stack ++ e ∷ []) (suc j) other))
    steps j other l =
        let within : j < length stack = omega (arith, length_push stack e) in
        let first = get_or_append_left stack (e ∷ []) other j within in
        elim (cases_lt (suc j) (length stack)) [
          | inl inside ↦
              let second = get_or_append_left stack (e ∷ []) other (suc j) inside in
              subst (λ n. Names circuit (signal_at circuit n) (signal_at circuit (get_or (stack ++ e ∷ []) (suc j) other))) (sym first) (subst (λ n. Names circuit (signal_at circuit (get_or stack j other)) (signal_at circuit n)) (sym second) (path.steps j other inside))
          | inr outside ↦
              let last : suc j ≡ length stack = omega arith in
              let at : j ≡ length stack - 1 = omega arith in
              let second = get_or_push stack e other (suc j) (sym last) in
              let is : get_or stack j other ≡ d = ap (λ n. get_or stack n other) at ∙ (get_or_default stack (length stack - 1) other d (omega arith) ∙ sym top) in
              subst (λ n. Names circuit (signal_at circuit n) (signal_at circuit (get_or (stack ++ e ∷ []) (suc j) other))) (sym (first ∙ is)) (subst (λ n. Names circuit (signal_at circuit d) (signal_at circuit n)) (sym second) names)
        ]

pub IsPath-take : (circuit : Circuit) (root n : ℕ) (stack : List ℕ) → n ≤ length stack → IsPath circuit root stack → IsPath circuit root (take n stack)
IsPath-take circuit root n stack le path = record {
  there = All-take (λ k. k < length circuit.defs) n stack path.there;
  bottom = λ other l. get_or-take n stack 0 other (omega (arith, length-take-le n stack le)) ∙ path.bottom other (omega (arith, length-take-le n stack le));
  steps = λ j other l.
      let inside : suc j < n = omega (arith, length-take-le n stack le) in
      let before : j < n = omega arith in
      subst (λ k. Names circuit (signal_at circuit k) (signal_at circuit (get_or (take n stack) (suc j) other))) (sym (get_or-take n stack j other before)) (subst (λ k. Names circuit (signal_at circuit (get_or stack j other)) (signal_at circuit k)) (sym (get_or-take n stack (suc j) other inside)) (path.steps j other (omega arith)));
}

pub IsPath-start : (circuit : Circuit) (root : ℕ) → root < length circuit.defs → IsPath circuit root (root ∷ [])
IsPath-start circuit root h = record {
  there = All-push (λ k. k < length circuit.defs) [] root (λ k d l. absurd (omega arith)) h;
  bottom = λ d l. refl;
  steps = λ j d l. absurd (omega arith);
}

-- where the top names what is on the stack, nothing on the stack has a level
pub no_level-stack : (circuit : Circuit) (root : ℕ) (stack : List ℕ) (d e : ℕ) → 0 < length stack → d ≡ get_or stack (length stack - 1) d → Contains stack e → Names circuit (signal_at circuit d) (signal_at circuit e) → IsPath circuit root stack → HasNoLevel circuit (signal_at circuit root)
no_level-stack circuit root stack d e more top has names path =
    λ l. no_level circuit OnStack next l (signal_at circuit root) (0, more, ap (signal_at circuit) (sym (path.bottom 0 more)))
  where
    OnStack : ℕ → Type 0
    OnStack s = (j : ℕ) × (j < length stack) × (s ≡ signal_at circuit (get_or stack j 0))

    next : (s : ℕ) → OnStack s → (u : ℕ) × Names circuit s u × OnStack u
    next s on =
        elim (cases_lt (suc on.0) (length stack)) [
          | inl inside ↦
              (signal_at circuit (get_or stack (suc on.0) 0), subst (λ u. Names circuit u (signal_at circuit (get_or stack (suc on.0) 0))) (sym on.2) (path.steps on.0 0 inside), (suc on.0, inside, refl))
          | inr outside ↦
              let at : on.0 ≡ length stack - 1 = omega (arith, on.1) in
              let is : get_or stack on.0 0 ≡ d = ap (λ n. get_or stack n 0) at ∙ (get_or_default stack (length stack - 1) 0 d (omega arith) ∙ sym top) in
              (signal_at circuit e, subst (λ u. Names circuit u (signal_at circuit e)) (sym (on.2 ∙ ap (signal_at circuit) is)) names, (has.0, has.1, ap (signal_at circuit) (sym has.2 ∙ get_or_default stack has.0 e 0 has.1)))
        ]

-- the level that is known of a definition is that of its signal
pub seen_level : (circuit : Circuit) (visits : List Visit) (stack : List ℕ) (s k level : ℕ) (visit : Visit) → k < length visits → visit ≡ get_or visits k visit → visit ≡ Level level → s ≡ signal_at circuit k → Knows circuit visits stack → IsFound circuit (left visits stack) s level
seen_level circuit visits stack s k level visit h at is same knows =
    subst (λ u. IsFound circuit (left visits stack) u level) (sym same) (knows.levels k level (get_or_default visits k New visit h ∙ (sym at ∙ is)))

pub event_close : (circuit : Circuit) (visits : List Visit) (stack : List ℕ) (d n highest level : ℕ) → level ≡ highest + 1 → d < length circuit.defs → length (names_of circuit d) ≤ n → HaveLevel circuit (take n (names_of circuit d)) highest → highest + left visits stack ≤ 2 * length circuit.defs → IsNextEvent circuit visits stack d (Close level)
event_close circuit visits stack d n highest level is h past have few =
    let e : suc highest ≡ level = omega (arith, is) in
    let all = subst (λ xs. HaveLevel circuit xs highest) (take_all n (names_of circuit d) past) have in
    (subst (HasLevel circuit (signal_at circuit d)) e (HasLevel-above circuit d highest h all), omega (arith, few, is))

-- one name more was looked at
pub HaveLevel-next : (circuit : Circuit) (d n s l m : ℕ) → n < length (names_of circuit d) → s ≡ get_or (names_of circuit d) n s → HaveLevel circuit (take n (names_of circuit d)) l → HasLevel circuit s m → HaveLevel circuit (take (n + 1) (names_of circuit d)) (max l m)
HaveLevel-next circuit d n s l m h same have has =
    let next : suc n ≡ n + 1 = omega arith in
    let more = take-suc (names_of circuit d) n s h ∙ ap (λ u. take n (names_of circuit d) ++ u ∷ []) (sym same) in
    subst (λ k. HaveLevel circuit (take k (names_of circuit d)) (max l m)) next (subst (λ xs. HaveLevel circuit xs (max l m)) (sym more) (HaveLevel-more circuit (take n (names_of circuit d)) s l m have has))

pub IsLooked-later : (circuit : Circuit) (before after : ℕ) (frame : Frame) → after ≤ before → IsLooked circuit before frame → IsLooked circuit after frame
IsLooked-later circuit before after frame le is = record { within = is.within; have = is.have; few = omega (arith, is.few) }

-- a definition that was not looked at yet
abbrev pub fresh : ℕ → Frame
fresh e = record { position = e; next = 0; highest = 0 }

pub IsLooked-fresh : (circuit : Circuit) (steps e : ℕ) → steps ≤ 2 * length circuit.defs → IsLooked circuit steps (fresh e)
IsLooked-fresh circuit steps e few = record { within = omega arith; have = HaveLevel-none circuit; few = omega arith }

-- the position on top
pub top-position : (stack : List Frame) (frame : Frame) → 0 < length stack → frame ≡ get_or stack (length stack - 1) frame → frame.position ≡ get_or (positions stack) (length (positions stack) - 1) frame.position
top-position stack frame more top =
    let len : length (positions stack) ≡ length stack = length-map stack (λ (f : Frame). f.position) in
    let at = get_or-map (λ (f : Frame). f.position) stack (length stack - 1) frame frame.position (omega arith) in
    ap (λ (f : Frame). f.position) top ∙ (sym at ∙ ap (λ n. get_or (positions stack) (n - 1) frame.position) (sym len))

pub positions-set_top : (stack : List Frame) (i : ℕ) (frame looked : Frame) → frame ≡ get_or stack i frame → looked.position ≡ frame.position → positions (set stack i looked) ≡ positions stack
positions-set_top stack i frame looked top same =
    map-set_same (λ (f : Frame). f.position) stack i looked frame (same ∙ ap (λ (f : Frame). f.position) top)

pub IsUnderWay-enter : (circuit : Circuit) (root : ℕ) (visits : List Visit) (stack : List Frame) (frame looked : Frame) (e : ℕ) → 0 < length stack → frame ≡ get_or stack (length stack - 1) frame → IsNextEvent circuit visits (positions stack) frame.position (Enter e looked) → IsUnderWay circuit root visits stack → IsUnderWay circuit root (set visits e Open) (set stack (length stack - 1) looked ++ fresh e ∷ [])
IsUnderWay-enter circuit root visits stack frame looked e more top step way = record {
  knows = subst (Knows circuit (set visits e Open)) (sym same) (Knows-enter circuit visits (positions stack) e h step.1 way.knows);
  path = subst (IsPath circuit root) (sym same) (IsPath-enter circuit root (positions stack) frame.position e (omega (arith, length-map stack (λ (f : Frame). f.position))) (top-position stack frame more top) step.0 step.2 way.path);
  looked = All-push (IsLooked circuit steps) (set stack (length stack - 1) looked) (fresh e) (All-set (IsLooked circuit steps) stack (length stack - 1) looked (later looked step.3) (λ k f l. later (get_or stack k f) (way.looked k f l))) (IsLooked-fresh circuit steps e (omega (arith, less, way.knows.room)));
  met = AreMet-set visits (root + 1) e Open h (λ is. cc) way.met;
}
  where
    h : e < length visits
    h = omega (arith, step.0, way.knows.entries)

    same : positions (set stack (length stack - 1) looked ++ fresh e ∷ []) ≡ positions stack ++ e ∷ []
    same =
        map_push (λ (f : Frame). f.position) (set stack (length stack - 1) looked) (fresh e) ∙ ap (λ xs. xs ++ e ∷ []) (positions-set_top stack (length stack - 1) frame looked top step.4)

    steps : ℕ
    steps = left (set visits e Open) (positions (set stack (length stack - 1) looked ++ fresh e ∷ []))

    less : left (set visits e Open) (positions (set stack (length stack - 1) looked ++ fresh e ∷ [])) + 1 ≡ left visits (positions stack)
    less =
        ap (λ xs. left (set visits e Open) xs + 1) same ∙ left-enter visits (positions stack) e h step.1

    later : (f : Frame) → IsLooked circuit (left visits (positions stack)) f → IsLooked circuit (left (set visits e Open) (positions (set stack (length stack - 1) looked ++ fresh e ∷ []))) f
    later f is =
        IsLooked-later circuit (left visits (positions stack)) (left (set visits e Open) (positions (set stack (length stack - 1) looked ++ fresh e ∷ []))) f (omega (arith, less)) is

pub positions-pop : (stack : List Frame) → positions (take (length stack - 1) stack) ≡ take (length (positions stack) - 1) (positions stack)
positions-pop stack =
    sym (take-map (λ (f : Frame). f.position) (length stack - 1) stack) ∙ ap (λ n. take (n - 1) (positions stack)) (sym (length-map stack (λ (f : Frame). f.position)))

pub left-closed : (visits : List Visit) (stack : List Frame) (d level : ℕ) → d < length visits → 0 < length stack → left (set visits d (Level level)) (positions (take (length stack - 1) stack)) < left visits (positions stack)
left-closed visits stack d level h more =
    let shorter : length (positions (take (length stack - 1) stack)) + 1 ≡ length (positions stack) = omega (arith, length-map (take (length stack - 1) stack) (λ (f : Frame). f.position), length-map stack (λ (f : Frame). f.position), length-take-le (length stack - 1) stack (omega arith)) in
    omega (arith, left-close visits (positions stack) (positions (take (length stack - 1) stack)) d level h shorter)

pub IsUnderWay-close : (circuit : Circuit) (root : ℕ) (visits : List Visit) (stack : List Frame) (frame : Frame) (level : ℕ) → frame.position < length visits → 0 < length stack → frame ≡ get_or stack (length stack - 1) frame → IsNextEvent circuit visits (positions stack) frame.position (Close level) → IsUnderWay circuit root visits stack → IsUnderWay circuit root (set visits frame.position (Level level)) (take (length stack - 1) stack)
IsUnderWay-close circuit root visits stack frame level h more top step way = record {
  knows = subst (Knows circuit (set visits frame.position (Level level))) (sym same) (Knows-close circuit visits (positions stack) frame.position level h (omega (arith, len)) (top-position stack frame more top) step.0 step.1 way.knows);
  path = subst (IsPath circuit root) (sym same) (IsPath-take circuit root (length (positions stack) - 1) (positions stack) (omega arith) way.path);
  looked = All-take (IsLooked circuit (left (set visits frame.position (Level level)) (positions (take (length stack - 1) stack)))) (length stack - 1) stack (λ k f l. IsLooked-later circuit (left visits (positions stack)) (left (set visits frame.position (Level level)) (positions (take (length stack - 1) stack))) (get_or stack k f) (omega (arith, left-closed visits stack frame.position level h more)) (way.looked k f l));
  met = AreMet-set visits (root + 1) frame.position (Level level) h (λ is. cc) way.met;
}
  where
    len : length (positions stack) ≡ length stack
    len = length-map stack (λ (f : Frame). f.position)

    same : positions (take (length stack - 1) stack) ≡ take (length (positions stack) - 1) (positions stack)
    same = positions-pop stack

pub IsUnderWay-loop : (circuit : Circuit) (root : ℕ) (visits : List Visit) (stack : List Frame) (frame : Frame) → 0 < length stack → frame ≡ get_or stack (length stack - 1) frame → IsNextEvent circuit visits (positions stack) frame.position Loop → IsUnderWay circuit root visits stack → HasNoLevel circuit (signal_at circuit root)
IsUnderWay-loop circuit root visits stack frame more top step way =
    no_level-stack circuit root (positions stack) frame.position step.0 (omega (arith, length-map stack (λ (f : Frame). f.position))) (top-position stack frame more top) (way.knows.opens step.0 step.1) step.2 way.path

-- the definition on top is one of the netlist
pub top-there : (circuit : Circuit) (root : ℕ) (visits : List Visit) (stack : List Frame) (frame : Frame) → 0 < length stack → frame ≡ get_or stack (length stack - 1) frame → IsUnderWay circuit root visits stack → frame.position < length circuit.defs
top-there circuit root visits stack frame more top way =
    omega (arith, top-position stack frame more top, way.path.there (length (positions stack) - 1) frame.position (omega (arith, length-map stack (λ (f : Frame). f.position))))

pub top-looked : (circuit : Circuit) (root : ℕ) (visits : List Visit) (stack : List Frame) (frame : Frame) → 0 < length stack → frame ≡ get_or stack (length stack - 1) frame → IsUnderWay circuit root visits stack → IsLooked circuit (left visits (positions stack)) frame
top-looked circuit root visits stack frame more top way =
    subst (IsLooked circuit (left visits (positions stack))) (sym top) (way.looked (length stack - 1) frame (omega arith))

-- a search begins at a root that was new, and ends with an empty stack
pub AreMet-more : (visits : List Visit) (count : ℕ) → visit_of visits count ≢ New → AreMet count visits → AreMet (count + 1) visits
AreMet-more visits count here before k l =
    elim (cases_lt k count) [
      | inl less ↦ before k less
      | inr same ↦ let e : count ≡ k = omega arith in subst (λ n. visit_of visits n ≢ New) e here
    ]

pub IsUnderWay-start : (circuit : Circuit) (root : ℕ) (visits : List Visit) (stack : List Frame) → root < length circuit.defs → visit_of visits root ≡ New → IsReady circuit root visits stack → IsUnderWay circuit root (set visits root Open) (stack ++ fresh root ∷ [])
IsUnderWay-start circuit root visits stack h new ready =
    subst (λ xs. IsUnderWay circuit root (set visits root Open) (xs ++ fresh root ∷ [])) (sym none) start
  where
    none : stack ≡ []
    none = nil_from_length stack ready.no_stack

    there : root < length visits
    there = omega (arith, h, ready.knows.entries)

    knows : Knows circuit (set visits root Open) (root ∷ [])
    knows =
        Knows-enter circuit visits [] root there new (subst (λ (xs : List Frame). Knows circuit visits (positions xs)) none ready.knows)

    met : Open ≢ New
    met is = cc

    start : IsUnderWay circuit root (set visits root Open) (fresh root ∷ [])
    start = record {
      knows = knows;
      path = IsPath-start circuit root h;
      looked = All-push (IsLooked circuit (left (set visits root Open) (root ∷ []))) [] (fresh root) (λ k d l. absurd (omega arith)) (IsLooked-fresh circuit (left (set visits root Open) (root ∷ [])) root knows.room);
      met = AreMet-more (set visits root Open) root (λ is. met (sym (get_or-set_same visits root Open New there) ∙ is)) (AreMet-set visits root root Open there met ready.met);
    }

pub visit_cases : (v : Visit) → (v ≡ New) ⊎ ((v ≡ Open) ⊎ ((level : ℕ) × (v ≡ Level level)))
visit_cases New = inl refl
visit_cases Open = inr (inl refl)
visit_cases (Level level) = inr (inr (level, refl))

-- between two searches each definition that was met has its level
pub level_found : (circuit : Circuit) (count : ℕ) (visits : List Visit) (stack : List Frame) (k : ℕ) → IsReady circuit count visits stack → k < count → (level : ℕ) × (visit_of visits k ≡ Level level) × HasLevel circuit (signal_at circuit k) level
level_found circuit count visits stack k ready h =
    elim (visit_cases (visit_of visits k)) [
      | inl new ↦ absurd (ready.met k h new)
      | inr (inl open_one) ↦ let has = ready.knows.opens k open_one in absurd (omega (arith, has.1, ready.no_stack, length-map stack (λ (f : Frame). f.position)))
      | inr (inr found) ↦ (found.0, found.1, (ready.knows.levels k found.0 found.1).has)
    ]

-- a loop that the search from a root finds makes that root the first without a level
pub fault_at_root : (circuit : Circuit) (root : ℕ) (visits : List Visit) (stack : List Frame) (fault : OrderFault) → root < length circuit.defs → IsReady circuit root visits stack → IsFaultAt circuit root fault → IsFaultOf circuit fault
fault_at_root circuit root visits stack (Cycle d) h ready at = record {
  there = omega (arith, at.0, h);
  looped = subst (λ n. HasNoLevel circuit (signal_at circuit n)) (sym at.0) at.1;
  first = λ e l. let found = level_found circuit root visits stack e ready (omega (arith, at.0)) in (found.0, found.2);
}
fault_at_root circuit root visits stack TooManyGates h ready at = absurd at
fault_at_root circuit root visits stack Memory h ready at = tt
