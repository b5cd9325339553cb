-- Facts that were decided, and lists of their numbers.
use Rattle.std.proofs.Common.{◌≡◌, ℕ, ◌+◌, Bool, true, false, List, [], ◌∷◌, ◌++◌, length, map, refl, sym, ap, subst, ◌∙◌, arith}
use Rattle.std.proofs.lemmas.List.{length-append, map-append}
use Rattle.net_core.specs.declared.graphs.Side.{Side}
use Rattle.claim_core.specs.declared.claims.Claim.{Claim}
use Rattle.claim_core.specs.declared.claims.Shape.TheVariants.{Up, Down}
use Rattle.claim_core.specs.Images.{one_input}
use Rattle.account_core.specs.Given.{Decided, decided_by}
use Rattle.std.specs.Prelude.{IfOk, IsTrue, Result}
use Rattle.cnf_core.specs.declared.stop.Stop.{Stop}
use Rattle.query_core.specs.Ledgers.{Ledgered}
use Rattle.oracle_core.specs.Oracles.{Grows, Known, Suits}
use Rattle.account_core.specs.Facts.{AreFacts}
use Rattle.std.proofs.lemmas.Result.{IfOk-weaker}
use Rattle.ban_book.specs.declared.input_claims.InputClaims.{InputClaims}
use Rattle.ban_book.specs.Rows.{IsRow, AreClaimsOf}
use Rattle.ban_book.specs.DecidedClaims.{AddsFact, IsDecidedAs}
use Rattle.ban_book.specs.Listed.{ListsOf}
use Rattle.ban_book.proofs.ListedLemmas.{lists_both, lists_none, lists_one, lists_stay, decided_stays}
use Rattle.ban_book.proofs.RowLemmas.{row_none, row_push, row_stays}
use Rattle.fact_bans.specs.declared.lists.FactRequest.{FactRequest}
use Rattle.fact_bans.specs.Serving.{HasServed}
use Rattle.fact_bans.specs.Requests.{ListsRequested, shaped_by}
use Rattle.fact_bans.proofs.ServeLemmas.{served_same, served_then}

grown : (old new : Known) → Grows old new → (P : List Decided → Type 0) → ((added : List Decided) → P (map decided_by old.facts ++ added)) → P (map decided_by new.facts)
grown old new grows P is = subst P (sym (ap (map decided_by) grows.facts ∙ map-append decided_by old.facts grows.added)) (is (map decided_by grows.added))

pub requested_grow : (old new : Known) (request : FactRequest) (below : ℕ) (numbers : List ℕ) → Grows old new → ListsRequested old request below numbers → ListsRequested new request below numbers
requested_grow old new request below numbers grows is =
    grown old new grows (λ facts. ListsOf (shaped_by request.both) facts request.holds request.side request.output below numbers) (λ added. lists_stay (map decided_by old.facts) added (shaped_by request.both) request.holds request.side request.output below numbers is)

pub decided_grows : (old new : Known) (claim : Claim) (holds : Bool) (number : ℕ) → Grows old new → IsDecidedAs (map decided_by old.facts) claim holds number → IsDecidedAs (map decided_by new.facts) claim holds number
decided_grows old new claim holds number grows is =
    grown old new grows (λ facts. IsDecidedAs facts claim holds number) (λ added. decided_stays (map decided_by old.facts) added claim holds number is)

pub row_grows : (old new : Known) (side : Side) (output : ℕ) (row : List InputClaims) → Grows old new → IsRow (map decided_by old.facts) side output row → IsRow (map decided_by new.facts) side output row
row_grows old new side output row grows is =
    grown old new grows (λ facts. IsRow facts side output row) (λ added. row_stays (map decided_by old.facts) added side output row is)

-- one fact of an input was added, if it is said so, or both
pub one_added : (known : Known) (request : FactRequest) (input : ℕ) (value : Bool) (claim : Claim) (before after : List ℕ) (result : Result Bool Stop) → request.both ≡ false → claim ≡ record { side = request.side; output = request.output; shape = one_input input value } → ListsRequested known request input before → IfOk result (λ added. IsTrue added → AddsFact (map decided_by known.facts) claim request.holds before after) → IfOk result (λ added. IsTrue added → ListsRequested known request (input + 1) after)
one_added known request input value claim before after result one is lists added =
    let facts = map decided_by known.facts in
    IfOk-weaker result (λ a. IsTrue a → AddsFact facts claim request.holds before after) (λ a. IsTrue a → ListsRequested known request (input + 1) after) (λ a then truth.
    subst (λ b. ListsOf (shaped_by b) facts request.holds request.side request.output (input + 1) after) (sym one) (lists_one facts request.holds request.side request.output input value before after (subst (λ b. ListsOf (shaped_by b) facts request.holds request.side request.output input before) one lists) (subst (λ (c : Claim). AddsFact facts c request.holds before after) is (then truth)))) added

pub both_added : (known : Known) (request : FactRequest) (input : ℕ) (up down : Claim) (before mid after : List ℕ) (result : Result Bool Stop) → request.both ≡ true → up ≡ record { side = request.side; output = request.output; shape = Up input } → down ≡ record { side = request.side; output = request.output; shape = Down input } → ListsRequested known request input before → AddsFact (map decided_by known.facts) up request.holds before mid → IfOk result (λ added. IsTrue added → AddsFact (map decided_by known.facts) down request.holds mid after) → IfOk result (λ added. IsTrue added → ListsRequested known request (input + 1) after)
both_added known request input up down before mid after result both up_is down_is lists one added =
    let facts = map decided_by known.facts in
    IfOk-weaker result (λ a. IsTrue a → AddsFact facts down request.holds mid after) (λ a. IsTrue a → ListsRequested known request (input + 1) after) (λ a then truth.
    subst (λ b. ListsOf (shaped_by b) facts request.holds request.side request.output (input + 1) after) (sym both) (lists_both facts request.holds request.side request.output input before mid after (subst (λ b. ListsOf (shaped_by b) facts request.holds request.side request.output input before) both lists) (subst (λ (c : Claim). AddsFact facts c request.holds before mid) up_is one) (subst (λ (c : Claim). AddsFact facts c request.holds mid after) down_is (then truth)))) added

pub adds_grow : (old new : Known) (claim : Claim) (holds : Bool) (before after : List ℕ) → Grows old new → AddsFact (map decided_by old.facts) claim holds before after → AddsFact (map decided_by new.facts) claim holds before after
adds_grow old new claim holds before after grows adds = record {
  number = adds.number;
  decided = decided_grows old new claim holds adds.number grows adds.decided;
  more = adds.more;
}

-- The calls so far were answered, and the facts of the inputs before the next one are listed.
pub record IsListing (old now : Known) (before after : Ledgered) (request : FactRequest) (input : ℕ) (numbers : List ℕ) : Type 0 where
  pub served : HasServed old now before after
  pub lists : ListsRequested now request input numbers

shaped_none : (both : Bool) → shaped_by both [] []
shaped_none true = refl
shaped_none false = tt

pub listing_start : (known : Known) (ledger : Ledgered) (request : FactRequest) (numbers : List ℕ) → AreFacts known.graphs known.facts → Suits known ledger → numbers ≡ [] → IsListing known known ledger ledger request 0 numbers
listing_start known ledger request numbers lawful suits none = record {
  served = served_same known ledger lawful suits;
  lists = lists_none (shaped_by request.both) (map decided_by known.facts) request.holds request.side request.output numbers none (shaped_none request.both);
}

-- The calls so far were answered, and the claims of the inputs before the next one are decided.
pub record IsTelling (old now : Known) (before after : Ledgered) (side : Side) (output input : ℕ) (row : List InputClaims) : Type 0 where
  pub served : HasServed old now before after
  pub claims : IsRow (map decided_by now.facts) side output row
  pub size : length row ≡ input

pub telling_start : (known : Known) (ledger : Ledgered) (side : Side) (output : ℕ) (row : List InputClaims) → AreFacts known.graphs known.facts → Suits known ledger → row ≡ [] → IsTelling known known ledger ledger side output 0 row
telling_start known ledger side output row lawful suits none = record {
  served = served_same known ledger lawful suits;
  claims = subst (IsRow (map decided_by known.facts) side output) (sym none) (row_none (map decided_by known.facts) side output);
  size = ap length none;
}

pub telling_more : (old mid new : Known) (a b c : Ledgered) (side : Side) (output input : ℕ) (row after : List InputClaims) (claims : InputClaims) → IsTelling old mid a b side output input row → HasServed mid new b c → AreClaimsOf (map decided_by new.facts) side output input claims → after ≡ row ++ claims ∷ [] → IsTelling old new a c side output (input + 1) after
telling_more old mid new a b c side output input row after claims telling served is after_is = record {
  served = served_then old mid new a b c telling.served served;
  claims = subst (IsRow (map decided_by new.facts) side output) (sym after_is) (row_push (map decided_by new.facts) side output row claims (row_grows mid new side output row served.grows telling.claims) (subst (λ (i : ℕ). AreClaimsOf (map decided_by new.facts) side output i claims) (sym telling.size) is));
  size = omega (arith, ap length after_is, length-append row (claims ∷ []), telling.size);
}
