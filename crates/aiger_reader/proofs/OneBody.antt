-- A file's header and lines are determined, and so is their first fault.
use Rattle.std.proofs.Common.{◌≡◌, ◌≢◌, ℕ, suc, ◌+◌, ◌/◌, ◌<◌, ◌⊎◌, Bool, IsTrue, List, [], ◌∷◌, ◌++◌, length, length-append, drop, get_or, AllPairs, Contains, refl, inl, inr, sym, ap, ap₂, subst, ◌∙◌, arith, append_assoc}
use Rattle.std.proofs.lemmas.List.{ext_get_or, get_or_append_left}
use Rattle.std.proofs.lemmas.Bool.Decides.{eqb_tells, leb_tells}
use Rattle.std.proofs.Math.Seq.{get_or-append_seam}
use Rattle.net_file.specs.declared.fault.NetKind.{NetKind}
use Rattle.net_file.specs.declared.fault.NetKind.TheVariants as kind
use Rattle.aiger_reader.specs.Headers.{AigerHeader, header_numbers, HasHeader}
use Rattle.aiger_reader.specs.Bodies.{Role, Input, Output, Gate, roles_of, role_at, defines, defined, body_lines, line_offset, first_of, Writes, IsGoodRow, AreGood, IsBadLine, IsBadLiteral, IsRedefined, IsLineFault, IsBodyFault, IsBody, bare}
use Rattle.aiger_reader.proofs.HeaderLemmas.{map_same, keyword_same}
use Rattle.aiger_reader.proofs.GoodLemmas.{defined_by, defined_more}

abbrev pub header_from_row : Bool → List ℕ → AigerHeader
header_from_row binary row = record {
  binary = binary;
  variables = get_or row 0 0;
  inputs = get_or row 1 0;
  latches = get_or row 2 0;
  outputs = get_or row 3 0;
  gates = get_or row 4 0;
  properties = drop 5 row;
}

pub one_header : (bytes : List ℕ) (h g : AigerHeader) → HasHeader bytes h → HasHeader bytes g → h ≡ g
one_header bytes h g one other =
    ap₂ header_from_row (keyword_same h.binary g.binary (sym one.begins ∙ other.begins)) (map_same (header_numbers h) (header_numbers g) (sym one.numbers.written ∙ other.numbers.written))

pub one_row : (line : List ℕ) (role : Role) (a b : List ℕ) → Writes line role a → Writes line role b → a ≡ b
one_row line role a b one other = map_same a b (sym one.numbers ∙ other.numbers)

pub rows_agree : (h : AigerHeader) (body xs ys : List (List ℕ)) → AreGood h body xs → AreGood h body ys → (k : ℕ) → k < length xs → k < length ys → get_or xs k [] ≡ get_or ys k []
rows_agree h body xs ys one other k a b =
    one_row (get_or body k []) (role_at h k) (get_or xs k []) (get_or ys k []) (one.written k a) (other.written k b)

-- as many good lines have the same numbers
pub one_front : (h : AigerHeader) (body xs ys : List (List ℕ)) → AreGood h body xs → AreGood h body ys → length xs ≡ length ys → xs ≡ ys
one_front h body xs ys one other count =
    ext_get_or [] xs ys count (λ k below. rows_agree h body xs ys one other k below (omega (arith, count)))

pub one_body : (bytes : List ℕ) (h : AigerHeader) (xs ys : List (List ℕ)) → IsBody bytes h xs → IsBody bytes h ys → xs ≡ ys
one_body bytes h xs ys one other =
    one_front (bare h) (body_lines bytes) xs ys one.good other.good (one.whole ∙ sym other.whole)

-- fewer rows define a front of what more rows define
defined_front : (roles : List Role) (ys zs : List (List ℕ)) → (rest : List ℕ) × (defined roles (ys ++ zs) ≡ defined roles ys ++ rest)
defined_front [] ys zs = ([], refl)
defined_front (role ∷ roles) [] zs = (defined (role ∷ roles) zs, refl)
defined_front (role ∷ roles) (y ∷ ys) zs =
    let more = defined_front roles ys zs in
    (more.0, ap (λ vs. defined_by role y ++ vs) more.1 ∙ sym (append_assoc (defined_by role y) (defined roles ys) more.0))

pub defines_one : (role : Role) (row : List ℕ) → IsTrue (defines role) → defined_by role row ≡ first_of row / 2 ∷ []
defines_one Input row t = refl
defines_one Output row t = cc
defines_one Gate row t = refl

-- a number that stands before isn't distinct from those before it
not_before : (vs rest : List ℕ) (v : ℕ) → AllPairs (λ one other. one ≢ other) (vs ++ v ∷ rest) → Contains vs v → ⊥
not_before vs rest v distinct before =
    distinct before.0 (length vs) v before.1 (omega (arith, length-append vs (v ∷ rest))) (get_or_append_left vs (v ∷ rest) v before.0 before.1 ∙ (before.2 ∙ sym (get_or-append_seam vs v rest v)))

-- the row after the good ones, where more are good
abbrev next_row : List (List ℕ) → List (List ℕ) → List ℕ
next_row xs ys = get_or xs (length ys) []

-- more rows are the fewer ones that agree with them, the next one, and others
split_at : (xs ys : List (List ℕ)) → length ys < length xs → ((k : ℕ) → k < length ys → get_or xs k [] ≡ get_or ys k []) → (rest : List (List ℕ)) × (xs ≡ ys ++ next_row xs ys ∷ rest)
split_at [] ys below same = absurd (omega arith)
split_at (x ∷ xs) [] below same = (xs, refl)
split_at (x ∷ xs) (y ∷ ys) below same =
    let more = split_at xs ys (omega arith) (λ k b. same (suc k) (omega arith)) in
    (more.0, ap₂ (λ (a : List ℕ) (rows : List (List ℕ)). a ∷ rows) (same 0 (omega arith)) more.1)

-- what the next row defines isn't defined before
not_redefined : (bytes : List ℕ) (h : AigerHeader) (xs ys : List (List ℕ)) → AreGood h (body_lines bytes) xs → AreGood h (body_lines bytes) ys → length ys < length xs → IsRedefined h (body_lines bytes) ys → ⊥
not_redefined bytes h xs ys more fewer below again =
    let n = length ys in
    let x = next_row xs ys in
    let roles = roles_of h in
    let same : x ≡ again.row = one_row (get_or (body_lines bytes) n []) (role_at h n) x again.row (more.written n below) again.written in
    let split = split_at xs ys below (λ k b. rows_agree h (body_lines bytes) xs ys more fewer k (omega arith) b) in
    let front = defined_front roles (ys ++ x ∷ []) split.0 in
    let parts : xs ≡ (ys ++ x ∷ []) ++ split.0 = split.1 ∙ sym (append_assoc ys (x ∷ []) split.0) in
    let here : defined_by (role_at h n) x ≡ first_of x / 2 ∷ [] = defines_one (role_at h n) x again.defining in
    let one : defined roles (ys ++ x ∷ []) ≡ defined roles ys ++ first_of x / 2 ∷ [] = defined_more roles ys x (omega (arith, more.announced)) ∙ ap (λ vs. defined roles ys ++ vs) here in
    let all : defined roles xs ≡ defined roles ys ++ first_of x / 2 ∷ front.0 =
    ap (defined roles) parts ∙ (front.1 ∙ (ap (λ vs. vs ++ front.0) one ∙ append_assoc (defined roles ys) (first_of x / 2 ∷ []) front.0)) in
    not_before (defined roles ys) front.0 (first_of x / 2) (subst (AllPairs (λ one other. one ≢ other)) all more.distinct) (subst (λ row. Contains (defined roles ys) (first_of row / 2)) (sym same) again.before)

-- What is said of the line after fewer good lines is not so where more lines are good.
pub not_after : (bytes : List ℕ) (h : AigerHeader) (xs ys : List (List ℕ)) (fault : NetKind) (at : ℕ) → AreGood h (body_lines bytes) xs → AreGood h (body_lines bytes) ys → length ys < length xs → IsLineFault bytes h ys fault at → ⊥
not_after bytes h xs ys kind.Truncated at more fewer below why =
    omega (arith, why.0, more.there)
not_after bytes h xs ys kind.BadLine at more fewer below why =
    why.0.unwritten (next_row xs ys) (more.written (length ys) below)
not_after bytes h xs ys kind.BadLiteral at more fewer below why =
    let same = one_row (get_or (body_lines bytes) (length ys) []) (role_at h (length ys)) (next_row xs ys) why.0.row (more.written (length ys) below) why.0.written in
    why.0.bad (subst (IsGoodRow h (role_at h (length ys))) same (more.good (length ys) below))
not_after bytes h xs ys kind.Redefined at more fewer below why = not_redefined bytes h xs ys more fewer below why.0
not_after bytes h xs ys other at more fewer below why = absurd why

pub body_or_fault : (bytes : List ℕ) (h : AigerHeader) (rows : List (List ℕ)) (fault : NetKind) (at : ℕ) → IsBody bytes h rows → IsBodyFault bytes h fault at → ⊥
body_or_fault bytes h rows fault at body bad =
    not_after bytes (bare h) rows bad.rows fault at body.good bad.good (omega (arith, body.whole, bad.line_announced)) bad.why

-- the four faults of a line
abbrev Four : List ℕ → AigerHeader → List (List ℕ) → NetKind → ℕ → Type 0
Four bytes h rows fault at =
    ((fault ≡ kind.Truncated) × (length (body_lines bytes) ≡ length rows) × (at ≡ length bytes))
    ⊎ ((fault ≡ kind.BadLine) × IsBadLine h (body_lines bytes) rows × (at ≡ line_offset bytes (length rows + 1)))
    ⊎ ((fault ≡ kind.BadLiteral) × IsBadLiteral h (body_lines bytes) rows × (at ≡ line_offset bytes (length rows + 1)))
    ⊎ ((fault ≡ kind.Redefined) × IsRedefined h (body_lines bytes) rows × (at ≡ line_offset bytes (length rows + 1)))

four : (bytes : List ℕ) (h : AigerHeader) (rows : List (List ℕ)) (fault : NetKind) (at : ℕ) → IsLineFault bytes h rows fault at → Four bytes h rows fault at
four bytes h rows kind.Truncated at why = inl (refl, why.0, why.1)
four bytes h rows kind.BadLine at why = inr (inl (refl, why.0, why.1))
four bytes h rows kind.BadLiteral at why = inr (inr (inl (refl, why.0, why.1)))
four bytes h rows kind.Redefined at why = inr (inr (inr (refl, why.0, why.1)))
four bytes h rows other at why = absurd why

-- a line of bad literals doesn't define again
bad_or_again : (h : AigerHeader) (body rows : List (List ℕ)) → IsBadLiteral h body rows → IsRedefined h body rows → ⊥
bad_or_again h body rows bad again =
    let same = one_row (get_or body (length rows) []) (role_at h (length rows)) again.row bad.row again.written bad.written in
    bad.bad (subst (IsGoodRow h (role_at h (length rows))) same again.good)

same_four : (bytes : List ℕ) (h : AigerHeader) (rows : List (List ℕ)) (one other : NetKind) (at place : ℕ) → Four bytes h rows one at → Four bytes h rows other place → (one ≡ other) × (at ≡ place)
same_four bytes h rows one other at place (inl a) (inl b) = (a.0 ∙ sym b.0, a.2 ∙ sym b.2)
same_four bytes h rows one other at place (inl a) (inr (inl b)) = absurd (omega (arith, a.1, b.1.there))
same_four bytes h rows one other at place (inl a) (inr (inr (inl b))) = absurd (omega (arith, a.1, b.1.there))
same_four bytes h rows one other at place (inl a) (inr (inr (inr b))) = absurd (omega (arith, a.1, b.1.there))
same_four bytes h rows one other at place (inr (inl a)) (inl b) = absurd (omega (arith, a.1.there, b.1))
same_four bytes h rows one other at place (inr (inl a)) (inr (inl b)) = (a.0 ∙ sym b.0, a.2 ∙ sym b.2)
same_four bytes h rows one other at place (inr (inl a)) (inr (inr (inl b))) = absurd (a.1.unwritten b.1.row b.1.written)
same_four bytes h rows one other at place (inr (inl a)) (inr (inr (inr b))) = absurd (a.1.unwritten b.1.row b.1.written)
same_four bytes h rows one other at place (inr (inr (inl a))) (inl b) = absurd (omega (arith, a.1.there, b.1))
same_four bytes h rows one other at place (inr (inr (inl a))) (inr (inl b)) = absurd (b.1.unwritten a.1.row a.1.written)
same_four bytes h rows one other at place (inr (inr (inl a))) (inr (inr (inl b))) = (a.0 ∙ sym b.0, a.2 ∙ sym b.2)
same_four bytes h rows one other at place (inr (inr (inl a))) (inr (inr (inr b))) = absurd (bad_or_again h (body_lines bytes) rows a.1 b.1)
same_four bytes h rows one other at place (inr (inr (inr a))) (inl b) = absurd (omega (arith, a.1.there, b.1))
same_four bytes h rows one other at place (inr (inr (inr a))) (inr (inl b)) = absurd (b.1.unwritten a.1.row a.1.written)
same_four bytes h rows one other at place (inr (inr (inr a))) (inr (inr (inl b))) = absurd (bad_or_again h (body_lines bytes) rows b.1 a.1)
same_four bytes h rows one other at place (inr (inr (inr a))) (inr (inr (inr b))) = (a.0 ∙ sym b.0, a.2 ∙ sym b.2)

-- one list of numbers is shorter than another, as long, or longer
pub compared : (m n : ℕ) → (m < n) ⊎ (m ≡ n) ⊎ (n < m)
compared m n = elim (leb_tells n m) [
  | inl (t, most) ↦ elim (eqb_tells m n) [ inl (e, same) ↦ inr (inl same) | inr (f, other) ↦ inr (inr (omega arith)) ]
  | inr (f, less) ↦ inl less
]

pub one_body_fault : (bytes : List ℕ) (h : AigerHeader) (one other : NetKind) (at place : ℕ) → IsBodyFault bytes h one at → IsBodyFault bytes h other place → (one ≡ other) × (at ≡ place)
one_body_fault bytes h one other at place this that =
    elim (compared (length this.rows) (length that.rows)) [
      | inl less ↦ absurd (not_after bytes (bare h) that.rows this.rows one at that.good this.good less this.why)
      | inr (inl same) ↦
          let rows = one_front (bare h) (body_lines bytes) this.rows that.rows this.good that.good same in
          same_four bytes (bare h) that.rows one other at place (four bytes (bare h) that.rows one at (subst (λ rows. IsLineFault bytes (bare h) rows one at) rows this.why)) (four bytes (bare h) that.rows other place that.why)
      | inr (inr more) ↦ absurd (not_after bytes (bare h) this.rows that.rows other place this.good that.good more that.why)
    ]
