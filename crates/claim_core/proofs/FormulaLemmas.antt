-- The clauses of a query by their numbers, and the variables that stand in them.
use Rattle.std.proofs.Common.{[], ◌≡◌, ◌≢◌, ℕ, zero, suc, ◌+◌, ◌-◌, ◌*◌, ◌<◌, ◌≤◌, Bool, true, false, ◌||◌, not, cond, List, ◌∷◌, ◌++◌, length, map, drop, All, slice_index_or, refl, sym, ◌∙◌, ap, subst, arith}
use Rattle.std.specs.List.{range_with_len, AllByRecursion}
use Rattle.std.proofs.lemmas.List.{get_or-map, get_or_append_left, get_or-append-add, length-append, length-map, length-drop}
use Rattle.std.proofs.lemmas.List.Elements.{All-from_recursion, recursion_from_All}
use Rattle.std.proofs.lemmas.List.FromFn.{length-range_with_len}
use Rattle.circuits.specs.declared.netlist.Lit.{Lit}
use Rattle.circuits.specs.declared.netlist.Gate.{Gate}
use Rattle.circuits.specs.Literals.{signal_of, is_negated as inverts, bit}
use Rattle.circuits.specs.Netlists.{Net}
use Rattle.cnf_core.specs.declared.literal.SatLit.{SatLit}
use Rattle.cnf_core.specs.Clauses.{variable_of, opposite, clause_at}
use Rattle.cnf_core.proofs.LiteralLemmas.{variable_of-literal, variable_of-opposite}
use Rattle.net_core.specs.Sides.{Graphs}
use Rattle.claim_core.specs.declared.query.Feed.{Feed}
use Rattle.claim_core.specs.declared.query.Feed.TheVariants.{Fixed, Wire}
use Rattle.claim_core.specs.declared.query.Query.{Query}
use Rattle.claim_core.specs.Queries.{circuit_of, bits_in, IsQuery, IsWired}
use Rattle.claim_core.specs.Formulas.{false_literal, feed_literal, plain, signal_literals, stand_in, stands_for, and_clauses, gate_clauses, half_clauses, clauses_by, feeds_differ, reaching, reaches, shared_from, same_side, left_variables, right_variables, left_literals, right_literals, output_literal, query_clauses, formula_of}

-- how many clauses there are
pub gate_clause_count : (literals : List SatLit) (first : ℕ) (gates : List Gate) → length (gate_clauses literals first gates) ≡ 3 * length gates
gate_clause_count literals first [] = refl
gate_clause_count literals first (gate ∷ gates) = omega (arith, gate_clause_count literals (first + 1) gates)

pub clause_count : (left right : List (List SatLit)) (a b : SatLit) → length (clauses_by left right a b) ≡ 3 + (length left + length right)
clause_count left right a b =
    omega (arith, length-append left (right ++ (a ∷ []) ∷ (b ∷ []) ∷ []), length-append right ((a ∷ []) ∷ (b ∷ []) ∷ []))

-- the clauses of one gate stand in front of those of the others
front_at : (v a b : SatLit) (rest : List (List SatLit)) (r : ℕ) → r < 3 → clause_at (and_clauses v a b ++ rest) r ≡ clause_at (and_clauses v a b) r
front_at v a b rest zero below = refl
front_at v a b rest (suc zero) below = refl
front_at v a b rest (suc (suc zero)) below = refl
front_at v a b rest (suc (suc (suc r))) below = absurd (omega (arith, below))

-- a gate's clauses, by its place and their part
abbrev at_gate : List SatLit → ℕ → List Gate → Gate → ℕ → ℕ → List SatLit
at_gate literals first gates d t r = clause_at (and_clauses (stand_in literals (first + t)) (stands_for literals (slice_index_or gates t d).a) (stands_for literals (slice_index_or gates t d).b)) r

pub gate_clause_at : (literals : List SatLit) (first : ℕ) (gates : List Gate) (d : Gate) (t r : ℕ) → t < length gates → r < 3 → clause_at (gate_clauses literals first gates) (3 * t + r) ≡ at_gate literals first gates d t r
gate_clause_at literals first [] d t r here below = absurd (omega (arith, here))
gate_clause_at literals first (gate ∷ gates) d zero r here below =
    let at : 3 * 0 + r ≡ r = omega arith in
    let same : first ≡ first + 0 = omega arith in
    let a = stands_for literals gate.a in
    let b = stands_for literals gate.b in
    ap (clause_at (gate_clauses literals first (gate ∷ gates))) at
    ∙ (front_at (stand_in literals first) a b (gate_clauses literals (first + 1) gates) r below ∙ ap (λ s. clause_at (and_clauses (stand_in literals s) a b) r) same)
gate_clause_at literals first (gate ∷ gates) d (suc t) r here below =
    let at : 3 * suc t + r ≡ suc (suc (suc (3 * t + r))) = omega arith in
    let same : first + 1 + t ≡ first + suc t = omega arith in
    let g = slice_index_or gates t d in
    ap (clause_at (gate_clauses literals first (gate ∷ gates))) at
    ∙ (gate_clause_at literals (first + 1) gates d t r (omega (arith, here)) below ∙ ap (λ s. clause_at (and_clauses (stand_in literals s) (stands_for literals g.a) (stands_for literals g.b)) r) same)

-- each clause of a query is one of its four kinds
pub clause_of_left : (left right : List (List SatLit)) (a b : SatLit) (id : ℕ) → id ≢ 0 → id - 1 < length left → clause_at left (id - 1) ≡ clause_at (clauses_by left right a b) id
clause_of_left left right a b zero some below = absurd (some refl)
clause_of_left left right a b (suc k) some below =
    let at : suc k - 1 ≡ k = omega arith in
    ap (clause_at left) at ∙ sym (get_or_append_left left (right ++ (a ∷ []) ∷ (b ∷ []) ∷ []) [] k (subst (λ n. n < length left) at below))

after_left : (left right : List (List SatLit)) (a b : SatLit) (id : ℕ) → id ≢ 0 → length left ≤ id - 1 → clause_at (clauses_by left right a b) id ≡ clause_at (right ++ (a ∷ []) ∷ (b ∷ []) ∷ []) (id - 1 - length left)
after_left left right a b zero some after = absurd (some refl)
after_left left right a b (suc k) some after =
    let at : k ≡ length left + (suc k - 1 - length left) = omega (arith, after) in
    ap (clause_at (left ++ (right ++ (a ∷ []) ∷ (b ∷ []) ∷ []))) at ∙ get_or-append-add left (right ++ (a ∷ []) ∷ (b ∷ []) ∷ []) (suc k - 1 - length left) []

pub clause_of_right : (left right : List (List SatLit)) (a b : SatLit) (id : ℕ) → id ≢ 0 → length left ≤ id - 1 → id - 1 - length left < length right → clause_at right (id - 1 - length left) ≡ clause_at (clauses_by left right a b) id
clause_of_right left right a b id some after below =
    sym (after_left left right a b id some after ∙ get_or_append_left right ((a ∷ []) ∷ (b ∷ []) ∷ []) [] (id - 1 - length left) below)

pub first_output : (left right : List (List SatLit)) (a b : SatLit) (id : ℕ) → id ≢ 0 → length left ≤ id - 1 → id - 1 - length left ≡ length right → a ∷ [] ≡ clause_at (clauses_by left right a b) id
first_output left right a b id some after here =
    let at : id - 1 - length left ≡ length right + 0 = omega (arith, here) in
    sym (after_left left right a b id some after ∙ (ap (clause_at (right ++ (a ∷ []) ∷ (b ∷ []) ∷ [])) at ∙ get_or-append-add right ((a ∷ []) ∷ (b ∷ []) ∷ []) 0 []))

pub second_output : (left right : List (List SatLit)) (a b : SatLit) (id : ℕ) → id ≢ 0 → length left ≤ id - 1 → id - 1 - length left ≡ length right + 1 → b ∷ [] ≡ clause_at (clauses_by left right a b) id
second_output left right a b id some after here =
    sym (after_left left right a b id some after ∙ (ap (clause_at (right ++ (a ∷ []) ∷ (b ∷ []) ∷ [])) here ∙ get_or-append-add right ((a ∷ []) ∷ (b ∷ []) ∷ []) 1 []))

-- the same, where it is given how far after the first clause a number is
pub at_left : (left right : List (List SatLit)) (a b : SatLit) (id k : ℕ) → id ≡ 1 + k → k < length left → clause_at (clauses_by left right a b) id ≡ clause_at left k
at_left left right a b id k is below =
    let at : id - 1 ≡ k = omega (arith, is) in
    sym (clause_of_left left right a b id (omega (arith, is)) (omega (arith, is, below))) ∙ ap (clause_at left) at

pub at_right : (left right : List (List SatLit)) (a b : SatLit) (id k : ℕ) → id ≡ 1 + length left + k → k < length right → clause_at (clauses_by left right a b) id ≡ clause_at right k
at_right left right a b id k is below =
    let at : id - 1 - length left ≡ k = omega (arith, is) in
    sym (clause_of_right left right a b id (omega (arith, is)) (omega (arith, is)) (omega (arith, is, below))) ∙ ap (clause_at right) at

pub at_outputs : (left right : List (List SatLit)) (a b : SatLit) (id : ℕ) → id ≡ 1 + length left + length right → (clause_at (clauses_by left right a b) id ≡ a ∷ []) × (clause_at (clauses_by left right a b) (id + 1) ≡ b ∷ [])
at_outputs left right a b id is = (
  sym (first_output left right a b id (omega (arith, is)) (omega (arith, is)) (omega (arith, is))),
  sym (second_output left right a b (id + 1) (omega (arith, is)) (omega (arith, is)) (omega (arith, is))),
)

-- how many literals stand for signals
pub signal_count : (feed : List Feed) (variables : List ℕ) → length (signal_literals feed variables) ≡ 1 + length feed + length variables
signal_count feed variables =
    omega (arith, length-append (map feed_literal feed) (map plain variables), length-map feed feed_literal, length-map variables plain)

-- what stands for an input, and for a gate
pub stand_in_input : (feed : List Feed) (variables : List ℕ) (i : ℕ) (f : Feed) → i < length feed → f ≡ slice_index_or feed i f → feed_literal f ≡ stand_in (signal_literals feed variables) (suc i)
stand_in_input feed variables i f within is =
    ap feed_literal is ∙ sym (get_or_append_left (map feed_literal feed) (map plain variables) false_literal i (omega (arith, within, length-map feed feed_literal)) ∙ get_or-map feed_literal feed i f false_literal within)

pub stand_in_gate : (feed : List Feed) (variables : List ℕ) (t : ℕ) → t < length variables → stand_in (signal_literals feed variables) (suc (length feed + t)) ≡ plain (slice_index_or variables t 0)
stand_in_gate feed variables t within =
    let at : length feed + t ≡ length (map feed_literal feed) + t = omega (arith, length-map feed feed_literal) in
    ap (λ n. slice_index_or (map feed_literal feed ++ map plain variables) n false_literal) at
    ∙ (get_or-append-add (map feed_literal feed) (map plain variables) t false_literal ∙ get_or-map plain variables t 0 false_literal within)

pub length-reaching : (so_far : List Bool) (gates : List Gate) → length (reaching so_far gates) ≡ length so_far + length gates
length-reaching so_far [] = omega arith
length-reaching so_far (gate ∷ gates) =
    let last = (bit so_far (signal_of gate.a) || bit so_far (signal_of gate.b)) ∷ [] in
    omega (arith, length-reaching (so_far ++ last) gates, length-append so_far last)

pub length-feeds_differ : (left right : List Feed) → length left ≡ length right → length (feeds_differ left right) ≡ length left
length-feeds_differ [] right same = refl
length-feeds_differ (feed ∷ left) [] same = absurd (omega (arith, same))
length-feeds_differ (feed ∷ left) (other ∷ right) same = ap suc (length-feeds_differ left right (omega (arith, same)))

pub length-shared_from : (first own : ℕ) (reaches : List Bool) → length (shared_from first own reaches) ≡ length reaches
length-shared_from first own [] = refl
length-shared_from first own (r ∷ reaches) = ap suc (length-shared_from (first + 1) (own + 1) reaches)

pub reached_count : (query : Query) (gates : List Gate) → length query.left.feed ≡ length query.right.feed → length (reaches query gates) ≡ length query.left.feed + 1 + length gates
reached_count query gates same =
    omega (arith, length-reaching (false ∷ feeds_differ query.left.feed query.right.feed) gates, length-feeds_differ query.left.feed query.right.feed same)

chosen_count : (s : Bool) (first own : ℕ) (reaches : List Bool) (count : ℕ) → length reaches ≡ first + count → length (cond s (shared_from first own (drop first reaches)) (range_with_len own count)) ≡ count
chosen_count true first own reaches count whole = omega (arith, length-shared_from first own (drop first reaches), length-drop first reaches, whole)
chosen_count false first own reaches count whole = length-range_with_len own count

pub right_variable_count : (graphs : Graphs) (query : Query) → IsQuery graphs query → length (right_variables graphs query) ≡ length (circuit_of graphs query.right).gates
right_variable_count graphs query fits =
    let gates = (circuit_of graphs query.right).gates in
    let first = bits_in graphs query + 1 in
    let same : length query.left.feed ≡ length query.right.feed = fits.left.feed ∙ sym fits.right.feed in
    chosen_count (same_side query.left.side query.right.side) first (first + length (circuit_of graphs query.left).gates) (reaches query gates) (length gates) (omega (arith, reached_count query gates same, fits.left.feed))

-- literals whose variables are below a number
abbrev pub AreBelow : ℕ → List SatLit → Type 0
AreBelow n literals = AllByRecursion (λ l. variable_of l < n) literals

-- what holds of each clause of two lists, or of each literal, holds of both together
pub recursion-append : {X : Type 0} (P : X → Type 0) (xs ys : List X) → AllByRecursion P xs → AllByRecursion P ys → AllByRecursion P (xs ++ ys)
recursion-append P [] ys first second = second
recursion-append P (x ∷ xs) ys first second = (first.0, recursion-append P xs ys first.1 second)

feeds_below : (n m : ℕ) (feed : List Feed) → n < m → AllByRecursion (IsWired n) feed → AreBelow m (map feed_literal feed)
feeds_below n m [] more wired = tt
feeds_below n m (Fixed b ∷ feed) more wired = (omega (arith, variable_of-literal 0 b, more), feeds_below n m feed more wired.1)
feeds_below n m (Wire place flip ∷ feed) more wired = (omega (arith, variable_of-literal (1 + place) (not flip), more, wired.0), feeds_below n m feed more wired.1)

range_below : (first count m : ℕ) → first + count ≤ m → AreBelow m (map plain (range_with_len first count))
range_below first zero m within = tt
range_below first (suc count) m within = (omega (arith, variable_of-literal first true, within), range_below (first + 1) count m (omega (arith, within)))

shared_below : (first own m : ℕ) (reaches : List Bool) → first ≤ own → own + length reaches ≤ m → AreBelow m (map plain (shared_from first own reaches))
shared_below first own m [] before within = tt
shared_below first own m (true ∷ reaches) before within = (omega (arith, variable_of-literal own true, within), shared_below (first + 1) (own + 1) m reaches (omega (arith, before)) (omega (arith, within)))
shared_below first own m (false ∷ reaches) before within = (omega (arith, variable_of-literal first true, before, within), shared_below (first + 1) (own + 1) m reaches (omega (arith, before)) (omega (arith, within)))

-- what stands in for a signal or a literal is below
pub stand_in_below : (m : ℕ) (literals : List SatLit) (s : ℕ) → 0 < m → AreBelow m literals → variable_of (stand_in literals s) < m
stand_in_below m [] s some below = omega (arith, variable_of-literal 0 false, some)
stand_in_below m (l ∷ literals) zero some below = below.0
stand_in_below m (l ∷ literals) (suc s) some below = stand_in_below m literals s some below.1

pub stands_for_below : (m : ℕ) (literals : List SatLit) (l : Lit) → 0 < m → AreBelow m literals → variable_of (stands_for literals l) < m
stands_for_below m literals l some below = by_sign (inverts l)
  where
    by_sign : (b : Bool) → variable_of (cond b (opposite (stand_in literals (signal_of l))) (stand_in literals (signal_of l))) < m
    by_sign true = omega (arith, variable_of-opposite (stand_in literals (signal_of l)), stand_in_below m literals (signal_of l) some below)
    by_sign false = stand_in_below m literals (signal_of l) some below

gates_below : (m : ℕ) (literals : List SatLit) (first : ℕ) (gates : List Gate) → 0 < m → AreBelow m literals → AllByRecursion (AreBelow m) (gate_clauses literals first gates)
gates_below m literals first [] some below = tt
gates_below m literals first (gate ∷ gates) some below =
    let v = stand_in_below m literals first some below in
    let a = stands_for_below m literals gate.a some below in
    let b = stands_for_below m literals gate.b some below in
    let not_v : variable_of (opposite (stand_in literals first)) < m = omega (arith, variable_of-opposite (stand_in literals first), v) in
    let not_a : variable_of (opposite (stands_for literals gate.a)) < m = omega (arith, variable_of-opposite (stands_for literals gate.a), a) in
    let not_b : variable_of (opposite (stands_for literals gate.b)) < m = omega (arith, variable_of-opposite (stands_for literals gate.b), b) in
    ((not_v, (a, tt)), ((not_v, (b, tt)), ((v, (not_a, (not_b, tt))), gates_below m literals (first + 1) gates some below)))

output_below : (m : ℕ) (net : Net) (literals : List SatLit) (output : ℕ) (value : Bool) → 0 < m → AreBelow m literals → variable_of (output_literal net literals output value) < m
output_below m net literals output true some below = stands_for_below m literals (slice_index_or net.outputs output (record { 0 = 0 })) some below
output_below m net literals output false some below =
    let l = stands_for literals (slice_index_or net.outputs output (record { 0 = 0 })) in
    omega (arith, variable_of-opposite l, stands_for_below m literals (slice_index_or net.outputs output (record { 0 = 0 })) some below)

chosen_below : (m : ℕ) (s : Bool) (first own : ℕ) (reaches : List Bool) (count : ℕ) → length reaches ≡ first + count → first ≤ own → own + count ≤ m → AreBelow m (map plain (cond s (shared_from first own (drop first reaches)) (range_with_len own count)))
chosen_below m true first own reaches count whole before within =
    shared_below first own m (drop first reaches) before (omega (arith, length-drop first reaches, whole, within))
chosen_below m false first own reaches count whole before within = range_below own count m within

left_below : (graphs : Graphs) (query : Query) → IsQuery graphs query → AreBelow (formula_of graphs query).variables (left_literals graphs query)
left_below graphs query fits =
    let m = (formula_of graphs query).variables in
    let n = bits_in graphs query in
    let gates = length (circuit_of graphs query.left).gates in
    (omega (arith, variable_of-literal 0 false), recursion-append (λ l. variable_of l < m) (map feed_literal query.left.feed) (map plain (left_variables graphs query)) (feeds_below n m query.left.feed (omega arith) (recursion_from_All (IsWired n) query.left.feed fits.left.wires)) (range_below (n + 1) gates m (omega arith)))

right_below : (graphs : Graphs) (query : Query) → IsQuery graphs query → AreBelow (formula_of graphs query).variables (right_literals graphs query)
right_below graphs query fits =
    let m = (formula_of graphs query).variables in
    let n = bits_in graphs query in
    let gates = (circuit_of graphs query.right).gates in
    let first = n + 1 in
    let own = first + length (circuit_of graphs query.left).gates in
    let same : length query.left.feed ≡ length query.right.feed = fits.left.feed ∙ sym fits.right.feed in
    let whole : length (reaches query gates) ≡ first + length gates = omega (arith, reached_count query gates same, fits.left.feed) in
    (omega (arith, variable_of-literal 0 false), recursion-append (λ l. variable_of l < m) (map feed_literal query.right.feed) (map plain (right_variables graphs query)) (feeds_below n m query.right.feed (omega arith) (recursion_from_All (IsWired n) query.right.feed fits.right.wires)) (chosen_below m (same_side query.left.side query.right.side) first own (reaches query gates) (length gates) whole (omega arith) (omega arith)))

-- each variable that stands in a clause is one of the formula's
formula_below : (graphs : Graphs) (query : Query) → IsQuery graphs query → AllByRecursion (AreBelow (formula_of graphs query).variables) (query_clauses graphs query)
formula_below graphs query fits =
    let m = (formula_of graphs query).variables in
    let some : 0 < m = omega arith in
    let left = circuit_of graphs query.left in
    let right = circuit_of graphs query.right in
    let ls = left_literals graphs query in
    let rs = right_literals graphs query in
    let l = left_below graphs query fits in
    let r = right_below graphs query fits in
    let outputs : AllByRecursion (AreBelow m) ((output_literal left ls query.left.output query.left_value ∷ []) ∷ (output_literal right rs query.right.output query.right_value ∷ []) ∷ []) = ((output_below m left ls query.left.output query.left_value some l, tt), ((output_below m right rs query.right.output query.right_value some r, tt), tt)) in
    ((omega (arith, variable_of-literal 0 true, some), tt), recursion-append (AreBelow m) (half_clauses left ls) _ (gates_below m ls (left.inputs + 1) left.gates some l) (recursion-append (AreBelow m) (half_clauses right rs) _ (gates_below m rs (right.inputs + 1) right.gates some r) outputs))

one_below : (m : ℕ) (clauses : List (List SatLit)) (id : ℕ) → AllByRecursion (AreBelow m) clauses → AreBelow m (clause_at clauses id)
one_below m [] id below = tt
one_below m (clause ∷ clauses) zero below = below.0
one_below m (clause ∷ clauses) (suc id) below = one_below m clauses id below.1

pub clause_below : (graphs : Graphs) (query : Query) (id : ℕ) → IsQuery graphs query → All (λ l. variable_of l < (formula_of graphs query).variables) (clause_at (query_clauses graphs query) id)
clause_below graphs query id fits =
    let m = (formula_of graphs query).variables in
    All-from_recursion (λ l. variable_of l < m) (clause_at (query_clauses graphs query) id) (one_below m (query_clauses graphs query) id (formula_below graphs query fits))

-- how many clauses a query has
pub count_of : (graphs : Graphs) (query : Query) → length (query_clauses graphs query) ≡ 3 + 3 * (length (circuit_of graphs query.left).gates + length (circuit_of graphs query.right).gates)
count_of graphs query =
    let left = circuit_of graphs query.left in
    let right = circuit_of graphs query.right in
    let ls = left_literals graphs query in
    let rs = right_literals graphs query in
    omega (arith, clause_count (half_clauses left ls) (half_clauses right rs) (output_literal left ls query.left.output query.left_value) (output_literal right rs query.right.output query.right_value), gate_clause_count ls (left.inputs + 1) left.gates, gate_clause_count rs (right.inputs + 1) right.gates)
