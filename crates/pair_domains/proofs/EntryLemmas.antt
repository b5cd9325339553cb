-- One entry more at the end of a list, and one less.
use Rattle.std.proofs.Common.{◌≡◌, ◌≢◌, ℕ, ◌+◌, ◌<◌, ◌&&◌, Bool, true, false, not, cond, eqb, List, [], ◌∷◌, ◌++◌, length, map, filter, get_or, All, AllPairs, Contains, refl, sym, ap, subst, ◌∙◌, inl, inr, arith}
use Rattle.std.proofs.lemmas.Bool.{and_parts, cases_eq, cases_lt, eq-eqb, eqb-true, false≢true, and_from}
use Rattle.std.proofs.lemmas.List.{append-nil, get_or_append_left, get_or_default, get_or_at, length_push, map-append}
use Rattle.std.proofs.lemmas.List.Elements.{filter-append}
use Rattle.std.proofs.lemmas.List.Sums.{sum_by_push}
use Rattle.circuits.specs.declared.port.Pair.{Pair}
use Rattle.circuits.specs.declared.port.PortKind.{PortKind}
use Rattle.net_core.specs.declared.graphs.Side.{Side}
use Rattle.claim_core.specs.Images.{same_kind}
use Rattle.account_core.specs.Tallies.{port_on}
use Rattle.pair_domains.specs.declared.entry.Entry.{Entry}
use Rattle.pair_domains.specs.declared.entry.Fate.TheVariants.{Assigned, Deleted}
use Rattle.pair_domains.specs.declared.entry.Cause.{Cause}
use Rattle.pair_domains.specs.Trails.{IsDeleted, gone_in, assigned_in, is_at, is_assigned}
use Rattle.claim_core.proofs.ImageLemmas.{kind_same, kind_is}

-- what a list without its last element is
pub All-front : {X : Type 0} (P : X → Type 0) (xs : List X) (x : X) → All P (xs ++ x ∷ []) → All P xs
All-front P xs x all k d below = subst P (get_or_append_left xs (x ∷ []) d k below) (all k d (omega (arith, below, length_push xs x)))

pub All-last : {X : Type 0} (P : X → Type 0) (xs : List X) (x : X) → All P (xs ++ x ∷ []) → P x
All-last P xs x all = subst P (get_or_at xs x [] x (length xs) refl) (all (length xs) x (omega (arith, length_push xs x)))

pub AllPairs-front : {X : Type 0} (R : X → X → Type 0) (xs : List X) (x : X) → AllPairs R (xs ++ x ∷ []) → AllPairs R xs
AllPairs-front {X} R xs x all i j d order below =
    let one = get_or_append_left xs (x ∷ []) d i (omega (arith, order, below)) in
    let other = get_or_append_left xs (x ∷ []) d j below in
    subst (λ (y : X). R y (get_or xs j d)) one (subst (λ (y : X). R (get_or (xs ++ x ∷ []) i d) y) other (all i j d order (omega (arith, below, length_push xs x))))

pub AllPairs-last : {X : Type 0} (R : X → X → Type 0) (xs : List X) (x : X) → AllPairs R (xs ++ x ∷ []) → All (λ y. R y x) xs
AllPairs-last {X} R xs x all k d below =
    let one = get_or_append_left xs (x ∷ []) d k below in
    let other = get_or_at xs x [] d (length xs) refl in
    subst (λ (y : X). R y x) one (subst (λ (y : X). R (get_or (xs ++ x ∷ []) k d) y) other (all k (length xs) d below (omega (arith, length_push xs x))))

pub at_of : (side : Side) (kind : PortKind) (port : ℕ) (pair : Pair) → pair.kind ≡ kind → port_on side pair ≡ port → is_at side kind port pair ≡ true
at_of side kind port pair k p = and_from (same_kind pair.kind kind) (eqb (port_on side pair) port) (kind_same pair.kind kind k) (eq-eqb (port_on side pair) port p)

pub of_at : (side : Side) (kind : PortKind) (port : ℕ) (pair : Pair) → is_at side kind port pair ≡ true → (pair.kind ≡ kind) × (port_on side pair ≡ port)
of_at side kind port pair e =
    let parts = and_parts (same_kind pair.kind kind) (eqb (port_on side pair) port) e in
    (kind_is pair.kind kind parts.0, eqb-true (port_on side pair) port parts.1)

-- the assigned pairs with one entry more
one_kept : (es : List Entry) (e : Entry) → assigned_in (es ++ e ∷ []) ≡ assigned_in es ++ map (λ (x : Entry). x.pair) (cond (is_assigned e.fate) (e ∷ []) [])
one_kept es e =
    ap (map (λ (x : Entry). x.pair)) (filter-append (λ (x : Entry). is_assigned x.fate) es (e ∷ []))
    ∙ map-append (λ (x : Entry). x.pair) (filter (λ (x : Entry). is_assigned x.fate) es) (cond (is_assigned e.fate) (e ∷ []) [])

pub assigned_more : (es : List Entry) (e : Entry) → is_assigned e.fate ≡ true → assigned_in (es ++ e ∷ []) ≡ assigned_in es ++ e.pair ∷ []
assigned_more es e is = one_kept es e ∙ ap (λ b. assigned_in es ++ map (λ (x : Entry). x.pair) (cond b (e ∷ []) [])) is

pub assigned_same : (es : List Entry) (e : Entry) → is_assigned e.fate ≡ false → assigned_in (es ++ e ∷ []) ≡ assigned_in es
assigned_same es e is = one_kept es e ∙ (ap (λ b. assigned_in es ++ map (λ (x : Entry). x.pair) (cond b (e ∷ []) [])) is ∙ append-nil (assigned_in es))

-- one where a test passes
abbrev pub one_if : Bool → ℕ
one_if b = cond b 1 0

pub one_of_true : (b : Bool) → b ≡ true → one_if b ≡ 1
one_of_true true is = refl
one_of_true false is = absurd (false≢true is)

pub none_of_false : (b : Bool) → b ≡ false → one_if b ≡ 0
none_of_false true is = absurd (false≢true (sym is))
none_of_false false is = refl

not_both : (a b : Bool) → a ≡ true → (not a && b) ≡ false
not_both true b is = refl
not_both false b is = absurd (false≢true is)

other_only : (a b : Bool) → a ≡ false → (not a && b) ≡ b
other_only true b is = absurd (false≢true (sym is))
other_only false b is = refl

-- the deleted pairs of a port with one entry more
gone_push : (es : List Entry) (e : Entry) (side : Side) (kind : PortKind) (port : ℕ) → gone_in (es ++ e ∷ []) side kind port ≡ gone_in es side kind port + one_if (not (is_assigned e.fate) && is_at side kind port e.pair)
gone_push es e side kind port = sum_by_push (λ (x : Entry). cond (not (is_assigned x.fate) && is_at side kind port x.pair) 1 0) es e

pub gone_assigned : (es : List Entry) (e : Entry) (side : Side) (kind : PortKind) (port : ℕ) → is_assigned e.fate ≡ true → gone_in (es ++ e ∷ []) side kind port ≡ gone_in es side kind port
gone_assigned es e side kind port is =
    omega (arith, gone_push es e side kind port, none_of_false (not (is_assigned e.fate) && is_at side kind port e.pair) (not_both (is_assigned e.fate) (is_at side kind port e.pair) is))

pub gone_deleted : (es : List Entry) (e : Entry) (side : Side) (kind : PortKind) (port : ℕ) → is_assigned e.fate ≡ false → gone_in (es ++ e ∷ []) side kind port ≡ gone_in es side kind port + one_if (is_at side kind port e.pair)
gone_deleted es e side kind port is =
    gone_push es e side kind port ∙ ap (λ b. gone_in es side kind port + one_if b) (other_only (is_assigned e.fate) (is_at side kind port e.pair) is)

-- a pair has one entry at most
pub one_entry : (es : List Entry) (e f : Entry) → AllPairs (λ (x y : Entry). x.pair ≢ y.pair) es → Contains es e → Contains es f → e.pair ≡ f.pair → e ≡ f
one_entry es e f distinct one other same = elim (cases_eq one.0 other.0) [
  | inl at ↦ sym one.2 ∙ (default es one.0 e f one.1 ∙ (ap (λ k. get_or es k f) at ∙ other.2))
  | inr apart ↦ absurd (by_order apart)
]
  where
    default : (es : List Entry) (k : ℕ) (e f : Entry) → k < length es → get_or es k e ≡ get_or es k f
    default es k e f below = get_or_default es k e f below

    by_order : one.0 ≢ other.0 → ⊥
    by_order apart = elim (cases_lt one.0 other.0) [
      | inl before ↦ distinct one.0 other.0 e before other.1 (ap (λ (x : Entry). x.pair) one.2 ∙ (same ∙ ap (λ (x : Entry). x.pair) (sym (get_or_default es other.0 e f other.1 ∙ other.2))))
      | inr after ↦ distinct other.0 one.0 e (omega (arith, after, apart)) one.1 (ap (λ (x : Entry). x.pair) (get_or_default es other.0 e f other.1 ∙ other.2) ∙ (sym same ∙ ap (λ (x : Entry). x.pair) (sym one.2)))
    ]

assigned_is_not_deleted : (c : Cause) (e f : Entry) → e.fate ≡ Assigned c → e ≡ f → is_assigned f.fate ≡ true
assigned_is_not_deleted c e f is same = ap (λ (x : Entry). is_assigned x.fate) (sym same) ∙ ap is_assigned is

pub assigned_undeleted : (es : List Entry) (p : Pair) (c : Cause) → AllPairs (λ (x y : Entry). x.pair ≢ y.pair) es → Contains es (record { pair = p; fate = Assigned c }) → IsDeleted es p → ⊥
assigned_undeleted es p c distinct assigned deleted =
    let e : Entry = record { pair = p; fate = Assigned c } in
    let f : Entry = record { pair = p; fate = Deleted deleted.0 } in
    false≢true (assigned_is_not_deleted c e f refl (one_entry es e f distinct assigned deleted.1 refl))
