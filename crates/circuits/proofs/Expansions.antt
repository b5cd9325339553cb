-- That what a definition is expanded to has its meaning.
use Rattle.std.proofs.Common.{ℕ, ◌+◌, ◌-◌, ◌*◌, ◌/◌, ◌%◌, ◌<◌, ◌≤◌, ◌≡◌, Bool, true, false, not, ◌&&◌, ◌||◌, cond, eqb, List, [], ◌∷◌, ◌++◌, length, get_or, map, All, refl, sym, ap, ap₂, subst, ◌∙◌, inl, inr, arith}
use Rattle.std.proofs.Math.Bool.{and_assoc}
use Rattle.std.proofs.lemmas.Bool.Decides.{eqb_tells}
use Rattle.std.proofs.lemmas.List.{length_push, get_or_append_left, get_or_push}
use Rattle.std.proofs.lemmas.List.Elements.{All-nil, All-cons, All-map, All-tail}
use Rattle.std.specs.List.{list_all, list_any}
use Rattle.std.proofs.Math.Bool.{and-true, or-false, or_assoc}
use Rattle.circuits.specs.declared.netlist.Lit.{Lit}
use Rattle.circuits.specs.declared.netlist.Gate.{Gate}
use Rattle.circuits.specs.declared.definition.Trit.{Trit}
use Rattle.circuits.specs.declared.definition.Trit.TheVariants.{Zero, One, Dash}
use Rattle.circuits.specs.declared.definition.Def.{Def}
use Rattle.circuits.specs.declared.definition.Def.TheVariants.{And, Cover}
use Rattle.circuits.specs.Literals.{bit, differ, signal_of, is_negated, literal_bit, plain_literal, inverse, signed_as}
use Rattle.circuits.specs.Netlists.{gate_bit, with_gates}
use Rattle.circuits.specs.Circuits.{named_by, row_fits, cover_bit, def_bit}
use Rattle.circuits.specs.Expansion.{Made, made, gate_of, and_with, and_each, and_all, row_literals, row_made, inverted, or_with, or_each, cover_made, stand_in, stands_for, def_made}
use Rattle.circuits.proofs.EachLemmas.{each_push}
use Rattle.circuits.proofs.Valuations.{ReadsBelow, first_operand, second_operand, length-with_gates, with_gates-before}

-- the bits of signs
pub differ_false : (a : Bool) → differ a false ≡ a
differ_false true = refl
differ_false false = refl

pub differ_true : (a : Bool) → differ a true ≡ not a
differ_true true = refl
differ_true false = refl

pub differ_not : (a b : Bool) → differ a (not b) ≡ not (differ a b)
differ_not true true = refl
differ_not true false = refl
differ_not false true = refl
differ_not false false = refl

-- a sign that comes twice
pub differ_both : (a b s : Bool) → differ (differ a s) (differ b s) ≡ differ a b
differ_both true true true = refl
differ_both true true false = refl
differ_both true false true = refl
differ_both true false false = refl
differ_both false true true = refl
differ_both false true false = refl
differ_both false false true = refl
differ_both false false false = refl

pub not_and_not : (a b : Bool) → not (not a && not b) ≡ (a || b)
not_and_not true b = refl
not_and_not false true = refl
not_and_not false false = refl

-- plain and inverted literals
pub signal_of-plain : (s : ℕ) → signal_of (plain_literal s) ≡ s
signal_of-plain s = omega arith

pub literal_bit-plain : (v : List Bool) (s : ℕ) → literal_bit v (plain_literal s) ≡ bit v s
literal_bit-plain v s =
    let even : 2 * s % 2 ≡ 0 = omega arith in
    ap (λ n. differ (bit v n) (eqb (2 * s % 2) 1)) (signal_of-plain s) ∙ (ap (λ n. differ (bit v s) (eqb n 1)) even ∙ differ_false (bit v s))

pub signal_of-inverse : (l : Lit) → signal_of (inverse l) ≡ signal_of l
signal_of-inverse l = omega arith

pub is_negated-inverse : (l : Lit) → is_negated (inverse l) ≡ not (is_negated l)
is_negated-inverse l = digit l.0
  where
    digit : (n : ℕ) → eqb ((2 * (n / 2) + (1 - n % 2)) % 2) 1 ≡ not (eqb (n % 2) 1)
    digit n =
        elim (eqb_tells (n % 2) 1) [
          | inl one ↦
              let e : (2 * (n / 2) + (1 - n % 2)) % 2 ≡ 0 = omega (arith, one.1) in
              ap (λ m. eqb m 1) e ∙ ap not (sym one.0)
          | inr one ↦
              let e : (2 * (n / 2) + (1 - n % 2)) % 2 ≡ 1 = omega (arith, one.1) in
              ap (λ m. eqb m 1) e ∙ ap not (sym one.0)
        ]

pub literal_bit-inverse : (v : List Bool) (l : Lit) → literal_bit v (inverse l) ≡ not (literal_bit v l)
literal_bit-inverse v l =
    ap (λ n. differ (bit v n) (is_negated (inverse l))) (signal_of-inverse l) ∙ (ap (differ (bit v (signal_of l))) (is_negated-inverse l) ∙ differ_not (bit v (signal_of l)) (is_negated l))

pub signal_of-signed : (l s : Lit) → signal_of (signed_as l s) ≡ signal_of s
signal_of-signed l s = by_sign (is_negated l)
  where
    by_sign : (b : Bool) → signal_of (cond b (inverse s) s) ≡ signal_of s
    by_sign true = signal_of-inverse s
    by_sign false = refl

pub literal_bit-signed : (v : List Bool) (l s : Lit) → literal_bit v (signed_as l s) ≡ differ (literal_bit v s) (is_negated l)
literal_bit-signed v l s = by_sign (is_negated l)
  where
    by_sign : (b : Bool) → literal_bit v (cond b (inverse s) s) ≡ differ (literal_bit v s) b
    by_sign true = literal_bit-inverse v s ∙ sym (differ_true (literal_bit v s))
    by_sign false = sym (differ_false (literal_bit v s))

-- each gate reads earlier signals, where gate 0 has the signal `first`
pub record AreEarlier (first : ℕ) (gates : List Gate) : Type 0 where
  pub firsts : ReadsBelow first first_operand gates
  pub seconds : ReadsBelow first second_operand gates

pub AreEarlier-push : (first : ℕ) (gates : List Gate) (gate : Gate) → AreEarlier first gates → signal_of gate.a < first + length gates → signal_of gate.b < first + length gates → AreEarlier first (gates ++ gate ∷ [])
AreEarlier-push first gates gate are a b = record {
  firsts = each_push (λ t g. first_operand g < first + t) gates gate are.firsts a;
  seconds = each_push (λ t g. second_operand g < first + t) gates gate are.seconds b;
}

-- the bits of the constant, the vector and the gates
abbrev pub bits : List Bool → List Gate → List Bool
bits x gates = with_gates (false ∷ x) gates

pub with_gates-push : (v : List Bool) (gates : List Gate) (gate : Gate) → with_gates v (gates ++ gate ∷ []) ≡ with_gates v gates ++ gate_bit (with_gates v gates) gate ∷ []
with_gates-push v [] gate = refl
with_gates-push v (g ∷ gates) gate = with_gates-push (v ++ gate_bit v g ∷ []) gates gate

pub bits-before : (x : List Bool) (gates : List Gate) (gate : Gate) (s : ℕ) → s < 1 + length x + length gates → bit (bits x (gates ++ gate ∷ [])) s ≡ bit (bits x gates) s
bits-before x gates gate s h =
    ap (λ w. bit w s) (with_gates-push (false ∷ x) gates gate) ∙ get_or_append_left (bits x gates) (gate_bit (bits x gates) gate ∷ []) false s (omega (arith, length-with_gates (false ∷ x) gates))

pub bits-at : (x : List Bool) (gates : List Gate) (gate : Gate) → bit (bits x (gates ++ gate ∷ [])) (1 + length x + length gates) ≡ gate_bit (bits x gates) gate
bits-at x gates gate =
    ap (λ w. bit w (1 + length x + length gates)) (with_gates-push (false ∷ x) gates gate) ∙ get_or_push (bits x gates) (gate_bit (bits x gates) gate) false (1 + length x + length gates) (omega (arith, length-with_gates (false ∷ x) gates))

-- a literal of the constant, an input or a gate
abbrev pub IsRead : List Bool → List Gate → Lit → Type 0
IsRead x gates l = signal_of l < 1 + length x + length gates

-- What is made after the gates g: the bits before stay, each gate reads earlier signals, and the value has the bit b.
pub record IsMade (x : List Bool) (g : List Gate) (p : Made) (b : Bool) : Type 0 where
  pub longer : length g ≤ length p.gates
  pub same : (s : ℕ) → s < 1 + length x + length g → bit (bits x p.gates) s ≡ bit (bits x g) s
  pub earlier : AreEarlier (1 + length x) p.gates
  pub there : IsRead x p.gates p.value
  pub is : literal_bit (bits x p.gates) p.value ≡ b

-- a literal from before keeps its bit
pub kept_bit : (x : List Bool) (g : List Gate) (p : Made) (b : Bool) (l : Lit) → IsMade x g p b → IsRead x g l → literal_bit (bits x p.gates) l ≡ literal_bit (bits x g) l
kept_bit x g p b l is h = ap (λ c. differ c (is_negated l)) (is.same (signal_of l) h)

pub IsMade-start : (x : List Bool) (g : List Gate) (l : Lit) (b : Bool) → AreEarlier (1 + length x) g → IsRead x g l → literal_bit (bits x g) l ≡ b → IsMade x g (made g l) b
IsMade-start x g l b earlier h is = record { longer = omega arith; same = λ s _. refl; earlier = earlier; there = h; is = is }

pub IsMade-inverted : (x : List Bool) (g : List Gate) (p : Made) (b : Bool) → IsMade x g p b → IsMade x g (inverted p) (not b)
IsMade-inverted x g p b is = record {
  longer = is.longer;
  same = is.same;
  earlier = is.earlier;
  there = omega (arith, is.there, signal_of-inverse p.value);
  is = literal_bit-inverse (bits x p.gates) p.value ∙ ap not is.is;
}

pub IsMade-and : (x : List Bool) (g : List Gate) (p : Made) (l : Lit) (b c : Bool) → IsMade x g p b → IsRead x p.gates l → literal_bit (bits x p.gates) l ≡ c → IsMade x g (and_with (1 + length x) p l) (b && c)
IsMade-and x g p l b c is h bit_l = record {
  longer = omega (arith, is.longer, length_push p.gates (gate_of p.value l));
  same = λ s low. bits-before x p.gates (gate_of p.value l) s (omega (arith, is.longer)) ∙ is.same s low;
  earlier = AreEarlier-push (1 + length x) p.gates (gate_of p.value l) is.earlier is.there h;
  there = omega (arith, signal_of-plain (1 + length x + length p.gates), length_push p.gates (gate_of p.value l));
  is = literal_bit-plain (bits x (p.gates ++ gate_of p.value l ∷ [])) (1 + length x + length p.gates) ∙ (bits-at x p.gates (gate_of p.value l) ∙ ap₂ (λ d e. d && e) is.is bit_l);
}

pub IsMade-each : (x : List Bool) (g : List Gate) (p : Made) (ls : List Lit) (b : Bool) → IsMade x g p b → All (IsRead x g) ls → IsMade x g (and_each (1 + length x) p ls) (b && list_all (literal_bit (bits x g)) ls)
IsMade-each x g p [] b is all = subst (IsMade x g p) (sym (and-true b)) is
IsMade-each x g p (l ∷ ls) b is all =
    let read = all 0 l (omega arith) in
    let more = IsMade-and x g p l b (literal_bit (bits x g) l) is (omega (arith, read, is.longer)) (kept_bit x g p b l is read) in
    subst (IsMade x g (and_each (1 + length x) (and_with (1 + length x) p l) ls)) (and_assoc b (literal_bit (bits x g) l) (list_all (literal_bit (bits x g)) ls)) (IsMade-each x g (and_with (1 + length x) p l) ls (b && literal_bit (bits x g) l) more (All-tail (IsRead x g) l ls all))

pub bit-constant : (x : List Bool) (g : List Gate) → bit (bits x g) 0 ≡ false
bit-constant x g = with_gates-before (false ∷ x) g 0 (omega arith)

pub IsMade-all : (x : List Bool) (g : List Gate) (ls : List Lit) → AreEarlier (1 + length x) g → All (IsRead x g) ls → IsMade x g (and_all (1 + length x) g ls) (list_all (literal_bit (bits x g)) ls)
IsMade-all x g [] earlier all =
    IsMade-start x g (record { 0 = 1 }) true earlier (omega arith) (ap (λ b. differ b true) (bit-constant x g))
IsMade-all x g (l ∷ ls) earlier all =
    IsMade-each x g (made g l) ls (literal_bit (bits x g) l) (IsMade-start x g l (literal_bit (bits x g) l) earlier (all 0 l (omega arith)) refl) (All-tail (IsRead x g) l ls all)

-- the literals of a row
pub row_literals-read : (x : List Bool) (g : List Gate) (names : List Lit) (row : List Trit) → All (IsRead x g) names → All (IsRead x g) (row_literals names row)
row_literals-read x g [] row all = All-nil (IsRead x g)
row_literals-read x g (name ∷ names) [] all = All-nil (IsRead x g)
row_literals-read x g (name ∷ names) (Zero ∷ row) all =
    All-cons (IsRead x g) (inverse name) (row_literals names row) (omega (arith, all 0 name (omega arith), signal_of-inverse name)) (row_literals-read x g names row (All-tail (IsRead x g) name names all))
row_literals-read x g (name ∷ names) (One ∷ row) all =
    All-cons (IsRead x g) name (row_literals names row) (all 0 name (omega arith)) (row_literals-read x g names row (All-tail (IsRead x g) name names all))
row_literals-read x g (name ∷ names) (Dash ∷ row) all =
    row_literals-read x g names row (All-tail (IsRead x g) name names all)

pub row_literals-bit : (w : List Bool) (names : List Lit) (row : List Trit) → list_all (literal_bit w) (row_literals names row) ≡ row_fits (map (literal_bit w) names) row
row_literals-bit w [] row = refl
row_literals-bit w (name ∷ names) [] = refl
row_literals-bit w (name ∷ names) (Zero ∷ row) =
    ap₂ (λ a b. a && b) (literal_bit-inverse w name) (row_literals-bit w names row)
row_literals-bit w (name ∷ names) (One ∷ row) =
    ap (λ b. literal_bit w name && b) (row_literals-bit w names row)
row_literals-bit w (name ∷ names) (Dash ∷ row) = row_literals-bit w names row

-- the bits of the names
abbrev pub bits_of : List Bool → List Gate → List Lit → List Bool
bits_of x g names = map (literal_bit (bits x g)) names

pub IsMade-row : (x : List Bool) (g : List Gate) (names : List Lit) (row : List Trit) → AreEarlier (1 + length x) g → All (IsRead x g) names → IsMade x g (row_made (1 + length x) names g row) (row_fits (bits_of x g names) row)
IsMade-row x g names row earlier all =
    subst (IsMade x g (row_made (1 + length x) names g row)) (row_literals-bit (bits x g) names row) (IsMade-all x g (row_literals names row) earlier (row_literals-read x g names row all))

-- a row's value is joined to what is made before it
pub IsMade-or : (x : List Bool) (g : List Gate) (s r : Made) (b c : Bool) → IsMade x g s b → IsMade x s.gates r c → IsMade x g (or_with (1 + length x) s.value r) (b || c)
IsMade-or x g s r b c before row =
    subst (IsMade x g (or_with (1 + length x) s.value r)) (not_and_not b c) (IsMade-inverted x g (and_with (1 + length x) (made r.gates (inverse s.value)) (inverse r.value)) (not b && not c) joined)
  where
    left : IsMade x g (made r.gates (inverse s.value)) (not b)
    left = record {
      longer = omega (arith, before.longer, row.longer);
      same = λ n h. row.same n (omega (arith, before.longer)) ∙ before.same n h;
      earlier = row.earlier;
      there = omega (arith, before.there, row.longer, signal_of-inverse s.value);
      is = literal_bit-inverse (bits x r.gates) s.value ∙ ap not (kept_bit x s.gates r c s.value row before.there ∙ before.is);
    }

    joined : IsMade x g (and_with (1 + length x) (made r.gates (inverse s.value)) (inverse r.value)) (not b && not c)
    joined =
        IsMade-and x g (made r.gates (inverse s.value)) (inverse r.value) (not b) (not c) left (omega (arith, row.there, signal_of-inverse r.value)) (literal_bit-inverse (bits x r.gates) r.value ∙ ap not row.is)

-- two functions that agree on each element
pub map-agree : {X Y : Type 0} (f h : X → Y) (xs : List X) → All (λ x. f x ≡ h x) xs → map f xs ≡ map h xs
map-agree f h [] same = refl
map-agree f h (x ∷ xs) same =
    ap₂ (λ a b. a ∷ b) (same 0 x (omega arith)) (map-agree f h xs (All-tail (λ x. f x ≡ h x) x xs same))

pub IsMade-or_each : (x : List Bool) (g : List Gate) (names : List Lit) (s : Made) (rows : List (List Trit)) (b : Bool) → IsMade x g s b → All (IsRead x g) names → IsMade x g (or_each (1 + length x) names s rows) (b || list_any (row_fits (bits_of x g names)) rows)
IsMade-or_each x g names s [] b is all = subst (IsMade x g s) (sym (or-false b)) is
IsMade-or_each x g names s (row ∷ rows) b is all =
    let fits = row_fits (bits_of x g names) row in
    let next = or_with (1 + length x) s.value (row_made (1 + length x) names s.gates row) in
    let rest = IsMade-or_each x g names next rows (b || fits) joined all in
    subst (IsMade x g (or_each (1 + length x) names next rows)) (or_assoc b fits (list_any (row_fits (bits_of x g names)) rows)) rest
  where
    same : bits_of x s.gates names ≡ bits_of x g names
    same =
        map-agree (literal_bit (bits x s.gates)) (literal_bit (bits x g)) names (λ k l h. kept_bit x g s b (get_or names k l) is (all k l h))

    joined : IsMade x g (or_with (1 + length x) s.value (row_made (1 + length x) names s.gates row)) (b || row_fits (bits_of x g names) row)
    joined =
        IsMade-or x g s (row_made (1 + length x) names s.gates row) b (row_fits (bits_of x g names) row) is (subst (λ values. IsMade x s.gates (row_made (1 + length x) names s.gates row) (row_fits values row)) same (IsMade-row x s.gates names row is.earlier (λ k l h. omega (arith, all k l h, is.longer))))

pub IsMade-cover : (x : List Bool) (g : List Gate) (names : List Lit) (rows : List (List Trit)) (on : Bool) → AreEarlier (1 + length x) g → All (IsRead x g) names → IsMade x g (cover_made (1 + length x) names g rows on) (cover_bit (bits_of x g names) rows on)
IsMade-cover x g names [] on earlier all =
    IsMade-start x g (record { 0 = 0 }) false earlier (omega arith) (ap (λ b. differ b false) (bit-constant x g))
IsMade-cover x g names (row ∷ rows) true earlier all =
    IsMade-or_each x g names (row_made (1 + length x) names g row) rows (row_fits (bits_of x g names) row) (IsMade-row x g names row earlier all) all
IsMade-cover x g names (row ∷ rows) false earlier all =
    IsMade-inverted x g (or_each (1 + length x) names (row_made (1 + length x) names g row) rows) (list_any (row_fits (bits_of x g names)) (row ∷ rows)) (IsMade-or_each x g names (row_made (1 + length x) names g row) rows (row_fits (bits_of x g names) row) (IsMade-row x g names row earlier all) all)

-- the literal that stands for a signal is there, and has the signal's bit under v
pub record IsStoodFor (x v : List Bool) (g : List Gate) (literals : List Lit) (s : ℕ) : Type 0 where
  pub there : IsRead x g (stand_in literals s)
  pub is : literal_bit (bits x g) (stand_in literals s) ≡ bit v s

pub stands_for-read : (x v : List Bool) (g : List Gate) (literals : List Lit) (l : Lit) → IsStoodFor x v g literals (signal_of l) → IsRead x g (stands_for literals l)
stands_for-read x v g literals l stood =
    omega (arith, stood.there, signal_of-signed l (stand_in literals (signal_of l)))

pub stands_for-bit : (x v : List Bool) (g : List Gate) (literals : List Lit) (l : Lit) → IsStoodFor x v g literals (signal_of l) → literal_bit (bits x g) (stands_for literals l) ≡ literal_bit v l
stands_for-bit x v g literals l stood =
    literal_bit-signed (bits x g) l (stand_in literals (signal_of l)) ∙ ap (λ b. differ b (is_negated l)) stood.is

-- a definition's expansion has its bit
pub IsMade-def : (x v : List Bool) (g : List Gate) (literals : List Lit) (def : Def) → AreEarlier (1 + length x) g → All (IsStoodFor x v g literals) (named_by def) → IsMade x g (def_made (1 + length x) literals g def) (def_bit v def)
IsMade-def x v g literals (And a b) earlier all =
    let one = all 0 0 (omega arith) in
    let other = all 1 0 (omega arith) in
    IsMade-and x g (made g (stands_for literals a)) (stands_for literals b) (literal_bit v a) (literal_bit v b) (IsMade-start x g (stands_for literals a) (literal_bit v a) earlier (stands_for-read x v g literals a one) (stands_for-bit x v g literals a one)) (stands_for-read x v g literals b other) (stands_for-bit x v g literals b other)
IsMade-def x v g literals (Cover names rows on) earlier all =
    subst (λ values. IsMade x g (cover_made (1 + length x) (map (stand_in literals) names) g rows on) (cover_bit values rows on)) (values names all) (IsMade-cover x g (map (stand_in literals) names) rows on earlier (All-map (IsRead x g) (stand_in literals) names (λ k s h. (all k s h).there)))
  where
    values : (names : List ℕ) → All (IsStoodFor x v g literals) names → map (literal_bit (bits x g)) (map (stand_in literals) names) ≡ map (bit v) names
    values [] all = refl
    values (name ∷ names) all =
        ap₂ (λ a b. a ∷ b) (all 0 name (omega arith)).is (values names (All-tail (IsStoodFor x v g literals) name names all))
