-- How many gates an expansion has.
use Rattle.std.proofs.Common.{ℕ, ◌+◌, ◌-◌, ◌≡◌, Bool, true, false, cond, List, [], ◌∷◌, length, get_or, map, count_by, All, refl, sym, ap, ◌∙◌, arith}
use Rattle.std.proofs.lemmas.List.{length_push, length-map}
use Rattle.std.proofs.lemmas.List.FromFn.{fill_by_all}
use Rattle.std.proofs.lemmas.List.Sorted.{IsPermutation-map, sum_by-IsPermutation}
use Rattle.std.proofs.lemmas.List.Sums.{sum_by-cons}
use Rattle.std.specs.List.{range_with_len, sum_by}
use Rattle.circuits.specs.declared.netlist.Lit.{Lit}
use Rattle.circuits.specs.declared.netlist.Gate.{Gate}
use Rattle.circuits.specs.declared.definition.Trit.{Trit}
use Rattle.circuits.specs.declared.definition.Trit.TheVariants.{Zero, One, Dash}
use Rattle.circuits.specs.declared.definition.Def.{Def}
use Rattle.circuits.specs.declared.definition.Def.TheVariants.{And, Cover}
use Rattle.circuits.specs.Netlists.{Net}
use Rattle.circuits.specs.Circuits.{Circuit, IsClosed, HasWideRows, def_at}
use Rattle.circuits.specs.Expansion.{Made, Making, made, gate_of, and_with, and_each, and_all, row_literals, row_made, or_with, or_each, cover_made, stand_in, stands_for, def_made, with_def, with_defs, no_gates, gives_literal, row_gates, def_gates, gates_in}
use Rattle.circuits.specs.Levels.{IsLevelOrder, IsOrderOf}
use Rattle.std.proofs.lemmas.List.Elements.{All-tail}
use Rattle.circuits.proofs.LevelOrders.{IsLevelOrder-in_range}

pub length-and_each : (first : ℕ) (p : Made) (ls : List Lit) → length (and_each first p ls).gates ≡ length p.gates + length ls
length-and_each first p [] = omega arith
length-and_each first p (l ∷ ls) =
    omega (arith, length-and_each first (and_with first p l) ls, length_push p.gates (gate_of p.value l))

pub length-and_all : (first : ℕ) (gates : List Gate) (ls : List Lit) → length (and_all first gates ls).gates ≡ length gates + (length ls - 1)
length-and_all first gates [] = omega arith
length-and_all first gates (l ∷ ls) = omega (arith, length-and_each first (made gates l) ls)

count_literal : (trit : Trit) (row : List Trit) → count_by gives_literal (trit ∷ row) ≡ cond (gives_literal trit) 1 0 + count_by gives_literal row
count_literal trit row = sum_by-cons (λ t. cond (gives_literal t) 1 0) trit row

-- a row is as wide as its names, so each position that is no dash gives a literal
pub length-row_literals : (names : List Lit) (row : List Trit) → length row ≡ length names → length (row_literals names row) ≡ count_by gives_literal row
length-row_literals [] [] wide = refl
length-row_literals [] (trit ∷ row) wide = absurd (omega arith)
length-row_literals (name ∷ names) [] wide = absurd (omega arith)
length-row_literals (name ∷ names) (Zero ∷ row) wide =
    omega (arith, length-row_literals names row (omega arith), count_literal Zero row)
length-row_literals (name ∷ names) (One ∷ row) wide =
    omega (arith, length-row_literals names row (omega arith), count_literal One row)
length-row_literals (name ∷ names) (Dash ∷ row) wide =
    omega (arith, length-row_literals names row (omega arith), count_literal Dash row)

pub length-row_made : (first : ℕ) (names : List Lit) (gates : List Gate) (row : List Trit) → length row ≡ length names → length (row_made first names gates row).gates ≡ length gates + row_gates row
length-row_made first names gates row wide =
    omega (arith, length-and_all first gates (row_literals names row), length-row_literals names row wide)

pub length-or_with : (first : ℕ) (s : Lit) (r : Made) → length (or_with first s r).gates ≡ length r.gates + 1
length-or_with first s r = length_push r.gates _

pub length-or_each : (first : ℕ) (names : List Lit) (s : Made) (rows : List (List Trit)) → All (λ (row : List Trit). length row ≡ length names) rows → length (or_each first names s rows).gates ≡ length s.gates + sum_by row_gates rows + length rows
length-or_each first names s [] wide = omega arith
length-or_each first names s (row ∷ rows) wide =
    let r = row_made first names s.gates row in
    omega (arith, length-or_each first names (or_with first s.value r) rows (All-tail (λ (row : List Trit). length row ≡ length names) row rows wide), length-or_with first s.value r, length-row_made first names s.gates row (wide 0 row (omega arith)), sum_by-cons row_gates row rows)

pub length-cover_made : (first : ℕ) (names : List Lit) (gates : List Gate) (rows : List (List Trit)) (on : Bool) → All (λ (row : List Trit). length row ≡ length names) rows → length (cover_made first names gates rows on).gates ≡ length gates + (sum_by row_gates rows + (length rows - 1))
length-cover_made first names gates [] on wide = omega arith
length-cover_made first names gates (row ∷ rows) true wide =
    omega (arith, length-or_each first names (row_made first names gates row) rows (All-tail (λ (row : List Trit). length row ≡ length names) row rows wide), length-row_made first names gates row (wide 0 row (omega arith)), sum_by-cons row_gates row rows)
length-cover_made first names gates (row ∷ rows) false wide =
    omega (arith, length-or_each first names (row_made first names gates row) rows (All-tail (λ (row : List Trit). length row ≡ length names) row rows wide), length-row_made first names gates row (wide 0 row (omega arith)), sum_by-cons row_gates row rows)

pub length-def_made : (first : ℕ) (literals : List Lit) (gates : List Gate) (def : Def) → HasWideRows def → length (def_made first literals gates def).gates ≡ length gates + def_gates def
length-def_made first literals gates (And a b) wide =
    length_push gates (gate_of (stands_for literals a) (stands_for literals b))
length-def_made first literals gates (Cover names rows on) wide =
    length-cover_made first (map (stand_in literals) names) gates rows on (λ k d h. wide k d h ∙ sym (length-map names (stand_in literals)))

pub length-with_defs : (circuit : Circuit) (so_far : Making) (order : List ℕ) → All (λ d. HasWideRows (def_at circuit d)) order → length (with_defs circuit so_far order).gates ≡ length so_far.gates + sum_by def_gates (map (def_at circuit) order)
length-with_defs circuit so_far [] wide = omega arith
length-with_defs circuit so_far (d ∷ order) wide =
    omega (arith, length-with_defs circuit (with_def circuit so_far d) order (All-tail (λ d. HasWideRows (def_at circuit d)) d order wide), length-def_made (1 + circuit.inputs) so_far.literals so_far.gates (def_at circuit d) (wide 0 d (omega arith)), sum_by-cons def_gates (def_at circuit d) (map (def_at circuit) order))

-- all the definitions, taken in an order, have as many gates as in the text
pub sum_by-order : (circuit : Circuit) (order : List ℕ) → IsLevelOrder circuit order → sum_by def_gates (map (def_at circuit) order) ≡ gates_in circuit
sum_by-order circuit order is =
    let listed = fill_by_all (def_at circuit) circuit.defs (length circuit.defs) (Cover [] [] true) refl (λ k h. refl) in
    sum_by-IsPermutation def_gates (map (def_at circuit) (range_with_len 0 (length circuit.defs))) (map (def_at circuit) order) (IsPermutation-map (def_at circuit) (range_with_len 0 (length circuit.defs)) order is.each_once) ∙ ap (sum_by def_gates) (sym listed)

pub wide-at : (circuit : Circuit) (order : List ℕ) → IsClosed circuit → IsLevelOrder circuit order → All (λ d. HasWideRows (def_at circuit d)) order
wide-at circuit order closed is k d h =
    closed.rows (get_or order k d) (Cover [] [] true) (IsLevelOrder-in_range circuit order is k d h)

pub length-all_made : (circuit : Circuit) (order : List ℕ) → IsClosed circuit → IsLevelOrder circuit order → length (with_defs circuit (no_gates circuit) order).gates ≡ gates_in circuit
length-all_made circuit order closed is =
    omega (arith, length-with_defs circuit (no_gates circuit) order (wide-at circuit order closed is), sum_by-order circuit order is)

pub gates_in_order : (circuit : Circuit) (net : Net) → IsClosed circuit → IsOrderOf circuit net → length net.gates ≡ gates_in circuit
gates_in_order circuit net closed is =
    ap (λ (n : Net). length n.gates) is.is ∙ length-all_made circuit is.order closed is.is_order
