-- Queries and claims are the same where the derived comparisons say so.
use Rattle.std.proofs.Common.{◌≡◌, ◌&&◌, eqb, List, true, refl, ap, ◌∙◌}
use Rattle.std.specs.Bool.{Decides, beq}
pub use Rattle.std.specs.Cmp.{booleans_Decides as bool_decides}
use Rattle.std.proofs.lemmas.Bool.Decides.{Decides-eqb, Decides-and, Decides-like}
use Rattle.std.specs.Cmp.Lexicographic.{pointwise}
use Rattle.std.proofs.lemmas.Slice.Eq.{slice_eq-Decides}
use Rattle.net_core.specs.declared.graphs.Side.{Side}
use Rattle.net_core.specs.declared.graphs.Side.TheVariants.{First, Second}
use Rattle.net_core.specs.contracts.graphs.SidePartialEq.TheImpl.{eq-value as side_eq}
use Rattle.claim_core.specs.declared.claims.Claim.{Claim}
use Rattle.claim_core.specs.declared.claims.Shape.{Shape}
use Rattle.claim_core.specs.declared.claims.Shape.TheVariants.{Up, Down, Swap}
use Rattle.claim_core.specs.declared.query.Feed.{Feed}
use Rattle.claim_core.specs.declared.query.Feed.TheVariants.{Fixed, Wire}
use Rattle.claim_core.specs.declared.query.Cone.{Cone}
use Rattle.claim_core.specs.declared.query.Query.{Query}
use Rattle.claim_core.specs.Formulas.{same_feed}
use Rattle.claim_core.specs.contracts.query.FeedPartialEq.TheImpl.{eq-value as feed_eq}
use Rattle.claim_core.specs.contracts.query.ConePartialEq.TheImpl.{eq-value as cone_eq}
use Rattle.claim_core.specs.contracts.query.QueryPartialEq.TheImpl.{eq-value as query_eq}
use Rattle.claim_core.specs.contracts.claims.ShapePartialEq.TheImpl.{eq-value as shape_eq}
use Rattle.claim_core.specs.contracts.claims.ClaimPartialEq.TheImpl.{eq-value as claim_eq}

pub side_decides : (x y : Side) → Decides (side_eq.it x y) (x ≡ y)
side_decides First First = (λ e. refl, λ e. refl)
side_decides First Second = (λ e. cc, λ e. cc)
side_decides Second First = (λ e. cc, λ e. cc)
side_decides Second Second = (λ e. refl, λ e. refl)

feed_decides : (x y : Feed) → Decides (feed_eq.it x y) (x ≡ y)
feed_decides (Fixed b) (Fixed c) = Decides-like (beq b c) (λ e. ap Fixed e) (λ e. cc) (bool_decides b c)
feed_decides (Fixed b) (Wire place flip) = (λ e. cc, λ e. cc)
feed_decides (Wire place flip) (Fixed b) = (λ e. cc, λ e. cc)
feed_decides (Wire place flip) (Wire other sign) =
    Decides-like (eqb place other && beq flip sign) (λ e. let p = e.0 in let q = e.1 in cc) (λ e. (cc, cc)) (Decides-and (eqb place other) (beq flip sign) (Decides-eqb place other) (bool_decides flip sign))

-- the comparison is that of the clauses
pub feed_same : (x y : Feed) → feed_eq.it x y ≡ same_feed x y
feed_same (Fixed b) (Fixed c) = refl
feed_same (Fixed b) (Wire place flip) = refl
feed_same (Wire place flip) (Fixed b) = refl
feed_same (Wire place flip) (Wire other sign) = refl

pub same_feeds : (x y : Feed) → same_feed x y ≡ true → x ≡ y
same_feeds x y same = (feed_decides x y).0 (feed_same x y ∙ same)

pub feeds_decide : (xs ys : List Feed) → Decides (pointwise feed_eq.it xs ys) (xs ≡ ys)
feeds_decide xs ys = slice_eq-Decides feed_decides xs ys (pointwise feed_eq.it xs ys) refl

shape_decides : (x y : Shape) → Decides (shape_eq.it x y) (x ≡ y)
shape_decides (Up i) (Up j) = Decides-like (eqb i j) (λ e. ap Up e) (λ e. cc) (Decides-eqb i j)
shape_decides (Up i) (Down j) = (λ e. cc, λ e. cc)
shape_decides (Up i) (Swap j k a b) = (λ e. cc, λ e. cc)
shape_decides (Down i) (Up j) = (λ e. cc, λ e. cc)
shape_decides (Down i) (Down j) = Decides-like (eqb i j) (λ e. ap Down e) (λ e. cc) (Decides-eqb i j)
shape_decides (Down i) (Swap j k a b) = (λ e. cc, λ e. cc)
shape_decides (Swap j k a b) (Up i) = (λ e. cc, λ e. cc)
shape_decides (Swap j k a b) (Down i) = (λ e. cc, λ e. cc)
shape_decides (Swap i j a b) (Swap k l c d) =
    Decides-like (eqb i k && (eqb j l && (beq a c && beq b d))) (λ e. let i_is = e.0 in let j_is = e.1.0 in let a_is = e.1.1.0 in let b_is = e.1.1.1 in cc) (λ e. (cc, (cc, (cc, cc)))) (Decides-and (eqb i k) (eqb j l && (beq a c && beq b d)) (Decides-eqb i k) (Decides-and (eqb j l) (beq a c && beq b d) (Decides-eqb j l) (Decides-and (beq a c) (beq b d) (bool_decides a c) (bool_decides b d))))

pub claim_decides : (x y : Claim) → Decides (claim_eq.it x y) (x ≡ y)
claim_decides x y =
    Decides-like (claim_eq.it x y) (λ e i. record { side = e.0 i; output = e.1.0 i; shape = e.1.1 i }) (λ e. (ap (λ (c : Claim). c.side) e, (ap (λ (c : Claim). c.output) e, ap (λ (c : Claim). c.shape) e))) (Decides-and (side_eq.it x.side y.side) (eqb x.output y.output && shape_eq.it x.shape y.shape) (side_decides x.side y.side) (Decides-and (eqb x.output y.output) (shape_eq.it x.shape y.shape) (Decides-eqb x.output y.output) (shape_decides x.shape y.shape)))

cone_decides : (x y : Cone) → Decides (cone_eq.it x y) (x ≡ y)
cone_decides x y =
    Decides-like (cone_eq.it x y) (λ e i. record { side = e.0 i; output = e.1.0 i; feed = e.1.1 i }) (λ e. (ap (λ (c : Cone). c.side) e, (ap (λ (c : Cone). c.output) e, ap (λ (c : Cone). c.feed) e))) (Decides-and (side_eq.it x.side y.side) (eqb x.output y.output && pointwise feed_eq.it x.feed y.feed) (side_decides x.side y.side) (Decides-and (eqb x.output y.output) (pointwise feed_eq.it x.feed y.feed) (Decides-eqb x.output y.output) (feeds_decide x.feed y.feed)))

pub query_decides : (x y : Query) → Decides (query_eq.it x y) (x ≡ y)
query_decides x y =
    Decides-like (query_eq.it x y) (λ e i. record { left = e.0 i; left_value = e.1.0 i; right = e.1.1.0 i; right_value = e.1.1.1 i }) (λ e. (ap (λ (q : Query). q.left) e, (ap (λ (q : Query). q.left_value) e, (ap (λ (q : Query). q.right) e, ap (λ (q : Query). q.right_value) e)))) (Decides-and (cone_eq.it x.left y.left) (beq x.left_value y.left_value && (cone_eq.it x.right y.right && beq x.right_value y.right_value)) (cone_decides x.left y.left) (Decides-and (beq x.left_value y.left_value) (cone_eq.it x.right y.right && beq x.right_value y.right_value) (bool_decides x.left_value y.left_value) (Decides-and (cone_eq.it x.right y.right) (beq x.right_value y.right_value) (cone_decides x.right y.right) (bool_decides x.right_value y.right_value))))
