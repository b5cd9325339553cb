-- Deletions that facts show, and bans that are made of them.
use Rattle.std.proofs.Common.{◌≡◌, ℕ, zero, suc, ◌<◌, List, [], ◌∷◌, ◌++◌, length, get_or, take, All, Contains, Option, None, Some, IfSome, refl, sym, ap, subst, ◌∙◌, inl, inr, append_assoc, append-nil, arith}
use Rattle.std.proofs.lemmas.List.{get_or_append_left, length-append}
use Rattle.std.proofs.lemmas.List.Elements.{All-contains, All-contains_itself, All-cons, All-nil, All-push, All-take}
use Rattle.std.specs.List.{AllZip}
use Rattle.circuits.specs.declared.port.Pair.{Pair}
use Rattle.circuits.specs.declared.port.PortKind.{PortKind}
use Rattle.circuits.specs.declared.port.PortKind.TheVariants.{Input, Output}
use Rattle.net_core.specs.Sides.{Graphs}
use Rattle.account_core.specs.declared.step.Ban.{Ban}
use Rattle.account_core.specs.declared.step.Step.TheVariants as step
use Rattle.account_core.specs.Given.{Decided, ban_at, given_of, pairs_of}
use Rattle.account_core.specs.Steps.{AreValidBans, IsValidBan}
use Rattle.account_core.proofs.Growing.{ban_stays_valid}
use Rattle.ban_book.specs.Covering.{Covers}
use Rattle.ban_book.proofs.BookLemmas.{covers_last, covers_later, valid_push}
use Rattle.ban_book.proofs.ListLemmas.{zip_map}
use Rattle.ban_book.proofs.VectorLemmas.{no_vector_more, no_vector_none, no_vector_one}
use Rattle.ban_book.specs.Ways.{AreClosed, AddsBans, IsClosed}
use Rattle.ban_book.proofs.ClosedLemmas.{ban_pairs}
use Rattle.pair_domains.specs.declared.entry.Entry.{Entry}
use Rattle.pair_domains.specs.declared.entry.Fate.{Fate}
use Rattle.pair_domains.specs.declared.entry.Fate.TheVariants.{Assigned, Deleted}
use Rattle.pair_domains.specs.declared.entry.Reason.TheVariants as reason
use Rattle.pair_domains.specs.Trails.{Domained}
use Rattle.pair_search.specs.declared.resolved.Resolved.{Resolved}
use Rattle.pair_search.specs.Named.{IsGathered, IsLeftOutOr, deleted}
use Rattle.pair_search.specs.Justified.{IsTrail}
use Rattle.pair_search.specs.Grounded.{AreGrounded, IsGrounded, LearnsMore, MayAdd, StayGrounded, in_order, mismatch_ban}
use Rattle.pair_search.proofs.ConflictLemmas.{covers_among}
use Rattle.pair_search.proofs.JustifiedLemmas.{justified_later, named_later}

pub learns_none : (graphs : Graphs) (es : List Entry) (bans : List Ban) → LearnsMore graphs es bans bans
learns_none graphs es bans = record { added = []; more = sym (append-nil bans); no_vector = no_vector_none; valid = λ facts grounded valid. valid }

pub learns_twice : (graphs : Graphs) (es : List Entry) (first second third : List Ban) → LearnsMore graphs es first second → LearnsMore graphs es second third → LearnsMore graphs es first third
learns_twice graphs es first second third one other = record {
  added = one.added ++ other.added;
  more = other.more ∙ (ap (λ l. l ++ other.added) one.more ∙ append_assoc first one.added other.added);
  no_vector = no_vector_more one.added other.added one.no_vector other.no_vector;
  valid = λ facts grounded valid. other.valid facts grounded (one.valid facts grounded valid);
}

-- bans that are valid whatever was deleted
pub learns_added : (graphs : Graphs) (es : List Entry) (before after : List Ban) → AddsBans graphs before after → LearnsMore graphs es before after
learns_added graphs es before after more = record {
  added = more.added;
  more = more.more;
  no_vector = more.no_vector;
  valid = λ facts grounded valid. more.valid facts valid;
}

-- more bans change nothing of what follows
pub trail_later : (graphs : Graphs) (before after : List Ban) (d : Domained) → LearnsMore graphs d.entries before after → IsTrail graphs before d → IsTrail graphs after d
trail_later graphs before after d more is = record {
  fit = is.fit;
  justified = justified_later d.inputs d.outputs before more.added after d.entries more.more is.justified;
}

-- the ban of a pair that was deleted by a mismatch
shown_at : (graphs : Graphs) (facts : List Decided) (es : List Entry) (way with : Pair) (fails holds : ℕ) → Contains es (deleted way (reason.Mismatch with fails holds)) → AreGrounded graphs facts es → (bans : List Ban) → IsValidBan graphs (given_of facts bans) (mismatch_ban way with fails holds)
shown_at graphs facts es way with fails holds there grounded =
    All-contains (λ (e : Entry). IsGrounded graphs facts e.pair e.fate) es (deleted way (reason.Mismatch with fails holds)) grounded.each there

pub learns_mismatch : (graphs : Graphs) (es : List Entry) (before after : List Ban) (way with : Pair) (fails holds : ℕ) → Contains es (deleted way (reason.Mismatch with fails holds)) → MayAdd before (mismatch_ban way with fails holds) after → LearnsMore graphs es before after
learns_mismatch graphs es before after way with fails holds there (inl same) =
    subst (LearnsMore graphs es before) (sym same) (learns_none graphs es before)
learns_mismatch graphs es before after way with fails holds there (inr more) = record {
  added = mismatch_ban way with fails holds ∷ [];
  more = more;
  no_vector = no_vector_one (mismatch_ban way with fails holds) (λ vector. vector);
  valid = λ facts grounded valid. subst (AreValidBans graphs facts) (sym more) (valid_push graphs facts before (mismatch_ban way with fails holds) valid (shown_at graphs facts es way with fails holds there grounded before));
}

-- what stands for a way stands for it beside more bans
any_ban : Ban
any_ban = record { pairs = []; step = step.Mismatch 0 0 }

ban_later : (before added : List Ban) (b : ℕ) → b < length before → ban_at (given_of [] (before ++ added)) b ≡ ban_at (given_of [] before) b
ban_later before added b below =
    ban_pairs (before ++ added) b any_ban (omega (arith, below, length-append before added))
    ∙ (ap (λ (x : Ban). x.pairs) (get_or_append_left before added any_ban b below) ∙ sym (ban_pairs before b any_ban below))

closed_beside : (before added : List Ban) (pairs : List Pair) (way : Pair) (ref : Option ℕ) → IsClosed before pairs way ref → IsClosed (before ++ added) pairs way ref
closed_beside before added pairs way None is = record {
  refers = is.refers;
  kept = λ ban same. omega (arith, is.kept ban same, length-append before added);
}
closed_beside before added pairs way (Some b) is = record {
  refers = (is.refers.0, subst (All (Contains (way ∷ pairs))) (sym (ban_later before added b (is.kept b refl))) is.refers.1);
  kept = λ ban same. omega (arith, is.kept ban same, length-append before added);
}

pub closed_later : (before added after : List Ban) (pairs ways : List Pair) (refs : List (Option ℕ)) → after ≡ before ++ added → AreClosed before pairs ways refs → AreClosed after pairs ways refs
closed_later before added after pairs ways refs more are =
    subst (λ bs. AreClosed bs pairs ways refs) (sym more) (zip_map (IsClosed before pairs) (IsClosed (before ++ added) pairs) ways refs (λ way ref is. closed_beside before added pairs way ref is) are)

-- what is so of all of two lists is so at a place
pub zip_at : {A B : Type 0} (R : A → B → Type 0) (xs : List A) (ys : List B) (i : ℕ) (d : A) (e : B) → AllZip R xs ys → i < length xs → R (get_or xs i d) (get_or ys i e)
zip_at R [] ys i d e are below = let no : ⊥ = omega arith in absurd no
zip_at R (x ∷ xs) [] i d e are below = absurd are
zip_at R (x ∷ xs) (y ∷ ys) zero d e are below = are.0
zip_at R (x ∷ xs) (y ∷ ys) (suc i) d e are below = zip_at R xs ys i d e are.1 (omega arith)

-- what is gathered is so beside more bans
pub gathered_later : (before added after : List Ban) (es : List Entry) (pairs : List Pair) (skipped : Option Pair) (way : Pair) (noted : Option ℕ) → after ≡ before ++ added → IsLeftOutOr skipped way (IsGathered before es pairs way noted) → IsLeftOutOr skipped way (IsGathered after es pairs way noted)
gathered_later before added after es pairs skipped way noted more (inl same) = inl same
gathered_later before added after es pairs skipped way None more (inr (inl impossible)) = inr (inl impossible)
gathered_later before added after es pairs skipped way None more (inr (inr is)) =
    inr (inr (is.0, is.1, named_later before added after pairs way is.0 more is.2))
gathered_later before added after es pairs skipped way (Some number) more (inr is) =
    inr (covers_later before added after (way ∷ pairs) number more is)

pub resolved_later : (before added after : List Ban) (pairs : List Pair) (resolved : Option Resolved) → after ≡ before ++ added → IfSome resolved (λ it. Covers before (it.way ∷ pairs) it.ban) → IfSome resolved (λ it. Covers after (it.way ∷ pairs) it.ban)
resolved_later before added after pairs None more is = is
resolved_later before added after pairs (Some it) more is = covers_later before added after (it.way ∷ pairs) it.ban more is

-- one more entry, and the first ones
pub grounded_push : (graphs : Graphs) (facts : List Decided) (es : List Entry) (e : Entry) → AreGrounded graphs facts es → IsGrounded graphs facts e.pair e.fate → AreGrounded graphs facts (es ++ e ∷ [])
grounded_push graphs facts es e are is = record {
  each = All-push (λ (x : Entry). IsGrounded graphs facts x.pair x.fate) es e are.each is;
}

pub grounded_front : (graphs : Graphs) (facts : List Decided) (es : List Entry) (place : ℕ) → AreGrounded graphs facts es → AreGrounded graphs facts (take place es)
grounded_front graphs facts es place are = record {
  each = All-take (λ (x : Entry). IsGrounded graphs facts x.pair x.fate) place es are.each;
}

pub grounded_none : (graphs : Graphs) (facts : List Decided) (es : List Entry) → es ≡ [] → AreGrounded graphs facts es
grounded_none graphs facts es none = subst (AreGrounded graphs facts) (sym none) (record {
  each = All-nil (λ (x : Entry). IsGrounded graphs facts x.pair x.fate);
})

-- entries that stay grounded
pub stay_none : (es : List Entry) → StayGrounded es es
stay_none es = record { stay = λ graphs facts are. are }

pub stay_twice : (first second third : List Entry) → StayGrounded first second → StayGrounded second third → StayGrounded first third
stay_twice first second third one other = record { stay = λ graphs facts are. other.stay graphs facts (one.stay graphs facts are) }

pub stay_push : (es after : List Entry) (e : Entry) → after ≡ es ++ e ∷ [] → ((graphs : Graphs) (facts : List Decided) → IsGrounded graphs facts e.pair e.fate) → StayGrounded es after
stay_push es after e is shown = record {
  stay = λ graphs facts are. subst (AreGrounded graphs facts) (sym is) (grounded_push graphs facts es e are (shown graphs facts));
}

pub stay_front : (es after : List Entry) (place : ℕ) (e : Entry) → after ≡ take place es ++ e ∷ [] → ((graphs : Graphs) (facts : List Decided) → IsGrounded graphs facts e.pair e.fate) → StayGrounded es after
stay_front es after place e is shown = record {
  stay = λ graphs facts are. subst (AreGrounded graphs facts) (sym is) (grounded_push graphs facts (take place es) e (grounded_front graphs facts es place are) (shown graphs facts));
}

-- facts that come after leave what was shown
ban_valid_later : (graphs : Graphs) (facts added : List Decided) (bans : List Ban) (ban : Ban) → IsValidBan graphs (given_of facts bans) ban → IsValidBan graphs (given_of (facts ++ added) bans) ban
ban_valid_later graphs facts added bans ban valid =
    subst (λ (l : List (List Pair)). IsValidBan graphs (record { facts = facts ++ added; bans = l }) ban) (append-nil (pairs_of bans)) (ban_stays_valid (given_of facts bans) added [] graphs ban valid)

fate_later : (graphs : Graphs) (facts added : List Decided) (pair : Pair) (fate : Fate) → IsGrounded graphs facts pair fate → IsGrounded graphs (facts ++ added) pair fate
fate_later graphs facts added pair (Assigned cause) is = tt
fate_later graphs facts added pair (Deleted (reason.Clash with)) is = tt
fate_later graphs facts added pair (Deleted (reason.Ban number)) is = tt
fate_later graphs facts added pair (Deleted (reason.Mismatch with fails holds)) is =
    λ bans. ban_valid_later graphs facts added bans (mismatch_ban pair with fails holds) (is bans)

pub grounded_later : (graphs : Graphs) (facts added after : List Decided) (es : List Entry) → after ≡ facts ++ added → AreGrounded graphs facts es → AreGrounded graphs after es
grounded_later graphs facts added after es more are =
    subst (λ fs. AreGrounded graphs fs es) (sym more) (record {
      each = λ k d below. fate_later graphs facts added (get_or es k d).pair (get_or es k d).fate (are.each k d below);
    })

-- a ban of a way and one of some pairs leads into them
pub covers_two : (bans : List Ban) (way with : Pair) (pairs : List Pair) (number : ℕ) → Contains pairs with → Covers bans (way ∷ with ∷ []) number → Covers bans (way ∷ pairs) number
covers_two bans way with pairs number there covers =
    covers_among bans way (with ∷ []) pairs number (All-cons (Contains pairs) with [] there (All-nil (Contains pairs))) covers

-- the ban of a mismatch has no other pairs than these two
order_within : (kind : PortKind) (way with : Pair) → All (Contains (way ∷ with ∷ [])) (in_order kind way with)
order_within Input way with = All-contains_itself (way ∷ with ∷ [])
order_within Output way with =
    All-cons (Contains (way ∷ with ∷ [])) with (way ∷ []) (1, omega arith, refl) (All-cons (Contains (way ∷ with ∷ [])) way [] (0, omega arith, refl) (All-nil (Contains (way ∷ with ∷ []))))

pub covers_mismatch : (bans after : List Ban) (ban : Ban) (way with : Pair) (fails holds number : ℕ) → ban ≡ mismatch_ban way with fails holds → after ≡ bans ++ ban ∷ [] → number ≡ length bans → Covers after (way ∷ with ∷ []) number
covers_mismatch bans after ban way with fails holds number same more last =
    covers_last bans after ban (way ∷ with ∷ []) number more last (record {
      among = subst (All (Contains (way ∷ with ∷ []))) (sym (ap (λ (b : Ban). b.pairs) same)) (order_within way.kind way with);
    })
