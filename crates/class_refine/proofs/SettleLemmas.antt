-- Pairs that are settled one after the other.
use Rattle.std.proofs.Common.{◌≡◌, ◌≢◌, ◌⊎◌, ℕ, ◌+◌, ◌*◌, ◌%◌, ◌<◌, eqb, Bool, true, false, List, [], ◌∷◌, ◌++◌, AllPairs, get_or, Option, None, Some, Result, Ok, Err, refl, sym, ap, subst, ◌∙◌, inl, inr, arith}
use Rattle.std.specs.Prelude.{Contains, IsErr}
use Rattle.std.proofs.lemmas.Bool.{cases_eq, cases_lt, false≢true}
use Rattle.std.proofs.lemmas.List.Elements.{All-cons, All-contains, All-contains_itself, All-push, Contains-append_left, Contains-push}
use Rattle.circuits.specs.declared.port.Pair.{Pair}
use Rattle.circuits.specs.declared.port.PortKind.{PortKind}
use Rattle.circuits.specs.declared.port.PortKind.TheVariants.{Input, Output}
use Rattle.net_core.specs.declared.graphs.Side.TheVariants.{First}
use Rattle.account_core.specs.Covers.{IsImpossible}
use Rattle.account_core.specs.Ports.{Clash}
use Rattle.account_core.specs.declared.step.Ban.{Ban}
use Rattle.ban_book.specs.Covering.{IsWithin}
use Rattle.ban_book.specs.Vectors.{HaveNoFacts}
use Rattle.pair_domains.specs.declared.entry.Entry.{Entry}
use Rattle.pair_domains.specs.declared.entry.Fate.{Fate}
use Rattle.pair_domains.specs.declared.entry.Fate.TheVariants.{Assigned, Deleted}
use Rattle.pair_domains.specs.declared.entry.Reason.{Reason}
use Rattle.pair_domains.specs.Trails.{Domained, IsDeleted, IsPairOf, assigned_in, is_assigned}
use Rattle.pair_domains.proofs.EntryLemmas.{one_if}
use Rattle.pair_domains.proofs.NumberLemmas.{same_pair}
use Rattle.pair_search.specs.Named.{deleted}
use Rattle.account_core.specs.Assigned.{AreApart}
use Rattle.ban_book.specs.Ways.{nth_way}
use Rattle.ban_book.proofs.BlockListLemmas.{among_more, contained_of_any}
use Rattle.ban_book.proofs.OrderLemmas.{assigned_apart}
use Rattle.pair_search.proofs.PortLemmas.{assigned_by}
use Rattle.class_refine.specs.declared.grounds.Grounds.{Grounds}
use Rattle.class_refine.specs.Refining.{OnlyDeletes, Refines}
use Rattle.class_refine.specs.Rows.{decided}
use Rattle.class_refine.specs.Settling.{IsClear, IsSettled, Settled, Settles}
use Rattle.class_refine.specs.Stable.{HaveNoBan, HaveNoSwapMismatch}
use Rattle.class_refine.proofs.SwapLemmas.{no_swap_beside}
use Rattle.class_refine.proofs.TrailLemmas.{refines_none, refines_then}
use Rattle.circuits.proofs.Lists.{cons_cases}

-- whether two pairs are one
kind_or_not : (a b : PortKind) → (a ≡ b) ⊎ (a ≢ b)
kind_or_not Input Input = inl refl
kind_or_not Input Output = inr (λ e. cc)
kind_or_not Output Input = inr (λ e. cc)
kind_or_not Output Output = inl refl

flip_or_not : (a b : Bool) → (a ≡ b) ⊎ (a ≢ b)
flip_or_not true true = inl refl
flip_or_not true false = inr (λ e. cc)
flip_or_not false true = inr (λ e. cc)
flip_or_not false false = inl refl

pair_or_not : (one other : Pair) → (one ≡ other) ⊎ (one ≢ other)
pair_or_not one other =
    elim (kind_or_not one.kind other.kind) [
      | inr differ ↦ inr (λ e. differ (ap (λ (p : Pair). p.kind) e))
      | inl kind ↦
          elim (cases_eq one.from other.from) [
            | inr differ ↦ inr (λ e. differ (ap (λ (p : Pair). p.from) e))
            | inl from ↦
                elim (cases_eq one.to other.to) [
                  | inr differ ↦ inr (λ e. differ (ap (λ (p : Pair). p.to) e))
                  | inl to ↦
                      elim (flip_or_not one.flip other.flip) [
                        | inr differ ↦ inr (λ e. differ (ap (λ (p : Pair). p.flip) e))
                        | inl flip ↦ inl (same_pair one other kind from to flip)
                      ]
                ]
          ]
    ]

-- assigned pairs stay so, and what was deleted stays deleted
deleted_later : (before after : Domained) (pair : Pair) → OnlyDeletes before after → IsDeleted before.entries pair → IsDeleted after.entries pair
deleted_later before after pair deletes gone =
    (gone.0, subst (λ (l : List Entry). Contains l (deleted pair gone.0)) (sym deletes.more) (Contains-append_left before.entries deletes.added (deleted pair gone.0) gone.1))

clear_later : (g : Grounds) (bans : List Ban) (before after : Domained) (pair : Pair) → OnlyDeletes before after → IsClear g bans (assigned_in before.entries) pair → IsClear g bans (assigned_in after.entries) pair
clear_later g bans before after pair deletes clear = subst (λ l. IsClear g bans l pair) (sym deletes.assigned) clear

-- a ban that isn't within pairs isn't within them and one of them
pub no_ban_beside : (bans : List Ban) (assigned : List Pair) (pair : Pair) → Contains assigned pair → HaveNoBan bans assigned → HaveNoBan bans (pair ∷ assigned)
no_ban_beside bans assigned pair there no_ban k d below within =
    no_ban k d below (record { among = among_more (get_or bans k d).pairs (pair ∷ assigned) assigned within.among (All-cons (Contains assigned) pair assigned there (All-contains_itself assigned)) })

-- an assigned pair clashes with none
no_clash : (one other : Pair) → (one ≡ other) ⊎ AreApart one other → Clash one other → ⊥
no_clash one other (inl same) clash = clash.differ same
no_clash one other (inr apart) clash = elim clash.share [ inl from ↦ apart.from clash.same_kind from | inr to ↦ apart.to clash.same_kind to ]

pub assigned_possible : (assigned : List Pair) (pair : Pair) → AllPairs AreApart assigned → Contains assigned pair → IsImpossible assigned pair → ⊥
assigned_possible assigned pair apart there impossible =
    no_clash impossible.1 pair (assigned_apart assigned impossible.1 pair apart (contained_of_any (λ (p : Pair). Clash p pair) assigned impossible) there) impossible.4

-- Some pairs were settled.
pub record IsUnderWay (g : Grounds) (bans more : List Ban) (before after : Domained) (these : Pair → Type 0) : Type 0 where
  pub refines : Refines g.graphs.now (decided g) bans more before after
  pub settled : Settled g bans more before after these

pub under_way : {E : Type 0} (g : Grounds) (bans more : List Ban) (before after : Domained) (these : Pair → Type 0) → Settles {E = E} g bans more before after these (Ok None) → IsUnderWay g bans more before after these
under_way g bans more before after these step = record { refines = step.refines; settled = step.settled }

-- those that were settled first and those that are settled then
both : (g : Grounds) (bans mid more : List Ban) (one two three : Domained) (these those all : Pair → Type 0) → Settled g bans mid one two these → Settled g mid more two three those → ((pair : Pair) → all pair → these pair ⊎ those pair) → Settled g bans more one three all
both g bans mid more one two three these those all first later cases = record {
  no_ban = later.no_ban;
  kept = λ pair is. later.kept pair (first.kept pair is);
  settled = λ pair is. elim (cases pair is) [ inl before ↦ later.kept pair (first.settled pair before) | inr now ↦ later.settled pair now ];
}

module _ {E : Type 0} (g : Grounds) (bans mid more : List Ban) (one two three : Domained) (these those all : Pair → Type 0) (way : IsUnderWay g bans mid one two these) where
  pub settles_dead : (dead : ℕ) → Settles {E = E} g mid more two three those (Ok (Some dead)) → Settles {E = E} g bans more one three all (Ok (Some dead))
  settles_dead dead step = record { refines = refines_then g.graphs.now (decided g) bans mid more one two three way.refines step.refines; settled = tt; dead = step.dead }

  pub way_then : Settles {E = E} g mid more two three those (Ok None) → ((pair : Pair) → all pair → these pair ⊎ those pair) → IsUnderWay g bans more one three all
  way_then step cases = record {
    refines = refines_then g.graphs.now (decided g) bans mid more one two three way.refines step.refines;
    settled = both g bans mid more one two three these those all way.settled step.settled cases;
  }

  pub settles_err : (result : Result (Option ℕ) E) → IsErr result → Refines g.graphs.now (decided g) mid more two three → Settles g bans more one three all result
  settles_err (Ok x) is refines = absurd (false≢true is)
  settles_err (Err stop) is refines = record { refines = refines_then g.graphs.now (decided g) bans mid more one two three way.refines refines; settled = tt; dead = tt }

  pub settles_last : (result : Result (Option ℕ) E) → Settles g mid more two three those result → ((pair : Pair) → all pair → these pair ⊎ those pair) → Settles g bans more one three all result
  settles_last (Ok None) step cases =
      let now = way_then step cases in
      record { refines = now.refines; settled = now.settled; dead = tt }
  settles_last (Ok (Some dead)) step cases = settles_dead dead step
  settles_last (Err e) step cases = settles_err (Err e) refl step.refines

-- all pairs were settled that were to be
pub settles_ok : {E : Type 0} (g : Grounds) (bans more : List Ban) (before after : Domained) (these all : Pair → Type 0) → IsUnderWay g bans more before after these → ((pair : Pair) → all pair → these pair) → Settles {E = E} g bans more before after all (Ok None)
settles_ok g bans more before after these all way cases = record {
  refines = way.refines;
  settled = record { no_ban = way.settled.no_ban; kept = way.settled.kept; settled = λ pair is. way.settled.settled pair (cases pair is) };
  dead = tt;
}

-- no answer, whatever was deleted and assigned
pub stops : {E : Type 0} (g : Grounds) (bans more : List Ban) (before after : Domained) (these : Pair → Type 0) (result : Result (Option ℕ) E) → IsErr result → Refines g.graphs.now (decided g) bans more before after → Settles g bans more before after these result
stops g bans more before after these (Ok x) is refines = absurd (false≢true is)
stops g bans more before after these (Err stop) is refines = record { refines = refines; settled = tt; dead = tt }

-- a pair that is settled as it is
pub settles_now : {E : Type 0} (g : Grounds) (bans : List Ban) (d : Domained) (way : Pair) → HaveNoBan bans (assigned_in d.entries) → IsSettled g bans d way → Settles {E = E} g bans bans d d (λ pair. pair ≡ way) (Ok None)
settles_now g bans d way no_ban is = record {
  refines = refines_none g.graphs.now (decided g) bans d;
  settled = record { no_ban = no_ban; kept = λ pair before. before; settled = λ pair same. subst (IsSettled g bans d) (sym same) is };
  dead = tt;
}

-- a pair that is deleted
deleted_now : (before after : Domained) (way : Pair) (why : Reason) → after ≡ record before { entries = before.entries ++ deleted way why ∷ [] } → (pair : Pair) → pair ≡ way → IsDeleted after.entries pair
deleted_now before after way why is pair same =
    subst (IsDeleted after.entries) (sym same) (why, subst (λ (l : List Entry). Contains l (deleted way why)) (sym (ap (λ (d : Domained). d.entries) is)) (Contains-push before.entries (deleted way why)))

pub settles_deleted : {E : Type 0} (g : Grounds) (bans : List Ban) (before after : Domained) (way : Pair) (why : Reason) → after ≡ record before { entries = before.entries ++ deleted way why ∷ [] } → Refines g.graphs.now (decided g) bans bans before after → HaveNoBan bans (assigned_in before.entries) → Settles {E = E} g bans bans before after (λ pair. pair ≡ way) (Ok None)
settles_deleted g bans before after way why after_is refines no_ban = record {
  refines = refines;
  settled = record {
    no_ban = subst (HaveNoBan bans) (sym refines.deletes.assigned) no_ban;
    kept = λ pair is. elim is [
      | inl gone ↦ inl (deleted_later before after pair refines.deletes gone)
      | inr clear ↦ inr (clear_later g bans before after pair refines.deletes clear)
    ];
    settled = λ pair same. inl (deleted_now before after way why after_is pair same);
  };
  dead = tt;
}

-- a ban within one pair and the assigned ones, and not within these, isn't within them and another one
not_within : (assigned : List Pair) (way pair : Pair) (ban : Ban) → pair ≢ way → IsWithin (way ∷ assigned) ban → (IsWithin assigned ban → ⊥) → IsWithin (pair ∷ assigned) ban → ⊥
not_within assigned way pair ban differ within alone other =
    alone (record { among = λ k d below. in_both (get_or ban.pairs k d) (cons_cases assigned way (get_or ban.pairs k d) (within.among k d below)) (cons_cases assigned pair (get_or ban.pairs k d) (other.among k d below)) })
  where
    in_both : (x : Pair) → (way ≡ x) ⊎ Contains assigned x → (pair ≡ x) ⊎ Contains assigned x → Contains assigned x
    in_both x (inr there) second = there
    in_both x (inl same) (inr there) = there
    in_both x (inl same) (inl also) = absurd (differ (also ∙ sym same))

-- a pair that is deleted by a ban that is kept for it
pub settles_banned : {E : Type 0} (g : Grounds) (bans more : List Ban) (before after : Domained) (way : Pair) (ban : Ban) (number : Reason) → more ≡ bans ++ ban ∷ [] → after ≡ record before { entries = before.entries ++ deleted way number ∷ [] } → Refines g.graphs.now (decided g) bans more before after → IsWithin (way ∷ assigned_in before.entries) ban → HaveNoBan more (assigned_in before.entries) → Settles {E = E} g bans more before after (λ pair. pair ≡ way) (Ok None)
settles_banned g bans more before after way ban number more_is after_is refines within no_ban = record {
  refines = refines;
  settled = record {
    no_ban = subst (HaveNoBan more) (sym refines.deletes.assigned) no_ban;
    kept = λ pair is. elim is [
      | inl gone ↦ inl (deleted_later before after pair refines.deletes gone)
      | inr clear ↦ by_pair pair clear (pair_or_not pair way)
    ];
    settled = λ pair same. inl (deleted_now before after way number after_is pair same);
  };
  dead = tt;
}
  where
    assigned : List Pair
    assigned = assigned_in before.entries

    last_no : IsWithin assigned ban → ⊥
    last_no = All-contains (λ (b : Ban). IsWithin assigned b → ⊥) (bans ++ ban ∷ []) ban (subst (λ l. HaveNoBan l assigned) more_is no_ban) (Contains-push bans ban)

    by_pair : (pair : Pair) → IsClear g bans assigned pair → (pair ≡ way) ⊎ (pair ≢ way) → IsSettled g more after pair
    by_pair pair clear (inl same) = inl (deleted_now before after way number after_is pair same)
    by_pair pair clear (inr differ) = inr (clear_later g more before after pair refines.deletes (record {
      possible = clear.possible;
      clean = record {
        no_ban = subst (λ l. HaveNoBan l (pair ∷ assigned)) (sym more_is) (All-push (λ (b : Ban). IsWithin (pair ∷ assigned) b → ⊥) bans ban clear.clean.no_ban (not_within assigned way pair ban differ within last_no));
        no_facts = clear.clean.no_facts;
        no_swap = clear.clean.no_swap;
      };
    }))

-- a pair that is assigned is settled
assigned_entry : (es : List Entry) (pair : Pair) (fate : Fate) → Contains es (record { pair = pair; fate = fate }) → is_assigned fate ≡ true → Contains (assigned_in es) pair
assigned_entry es pair fate there assigned =
    let e : Entry = record { pair = pair; fate = fate } in
    subst (Contains (assigned_in es)) (ap (λ (x : Entry). x.pair) there.2) (assigned_by es there.0 e there.1 (ap (λ (x : Entry). is_assigned x.fate) there.2 ∙ assigned))

pub assigned_clear : (g : Grounds) (bans : List Ban) (assigned : List Pair) (pair : Pair) → AllPairs AreApart assigned → Contains assigned pair → HaveNoBan bans assigned → HaveNoSwapMismatch g.graphs.now (decided g) assigned → HaveNoFacts g.graphs.now (decided g) (pair ∷ assigned) → IsClear g bans assigned pair
assigned_clear g bans assigned pair apart there no_ban no_swap nothing = record {
  possible = assigned_possible assigned pair apart there;
  clean = record { no_ban = no_ban_beside bans assigned pair there no_ban; no_facts = nothing; no_swap = no_swap_beside g.graphs.now (decided g) assigned pair apart there no_swap };
}

-- and so is one that is deleted
pub entry_settled : (g : Grounds) (bans : List Ban) (d : Domained) (pair : Pair) (fate : Fate) → AllPairs AreApart (assigned_in d.entries) → HaveNoBan bans (assigned_in d.entries) → HaveNoSwapMismatch g.graphs.now (decided g) (assigned_in d.entries) → (Contains (assigned_in d.entries) pair → HaveNoFacts g.graphs.now (decided g) (pair ∷ assigned_in d.entries)) → Contains d.entries (record { pair = pair; fate = fate }) → IsSettled g bans d pair
entry_settled g bans d pair (Assigned cause) apart no_ban no_swap nothing there =
    let assigned = assigned_entry d.entries pair (Assigned cause) there refl in
    inr (assigned_clear g bans (assigned_in d.entries) pair apart assigned no_ban no_swap (nothing assigned))
entry_settled g bans d pair (Deleted why) apart no_ban no_swap nothing there = inl (why, there)

-- the first ways of a port of the first circuit, and the pairs of the first ports of a kind
abbrev way_number : Pair → ℕ
way_number pair = 2 * pair.to + one_if pair.flip

abbrev pub IsWayBefore : PortKind → ℕ → ℕ → Pair → Type 0
IsWayBefore kind from number pair = (pair.kind ≡ kind) × (pair.from ≡ from) × (way_number pair < number)

abbrev pub IsFromBefore : ℕ → ℕ → PortKind → ℕ → Pair → Type 0
IsFromBefore n m kind from pair = (pair.kind ≡ kind) × IsPairOf n m pair × (pair.from < from)

way_by_number : (kind : PortKind) (from number : ℕ) (pair : Pair) → pair.kind ≡ kind → pair.from ≡ from → way_number pair ≡ number → pair ≡ nth_way First kind from number
way_by_number kind from number pair kind_is from_is number_is = by_flip pair.flip refl
  where
    by_flip : (flip : Bool) → pair.flip ≡ flip → pair ≡ nth_way First kind from number
    by_flip false flip =
        let twice : 2 * pair.to ≡ number = omega (arith, number_is, ap one_if flip) in
        let odd : 0 ≡ number % 2 = omega (arith, twice) in
        same_pair pair (nth_way First kind from number) kind_is from_is (omega (arith, twice)) (flip ∙ ap (λ n. eqb n 1) odd)
    by_flip true flip =
        let twice : 2 * pair.to + 1 ≡ number = omega (arith, number_is, ap one_if flip) in
        let odd : 1 ≡ number % 2 = omega (arith, twice) in
        same_pair pair (nth_way First kind from number) kind_is from_is (omega (arith, twice)) (flip ∙ ap (λ n. eqb n 1) odd)

pub way_more : (kind : PortKind) (from number : ℕ) (pair : Pair) → IsWayBefore kind from (number + 1) pair → IsWayBefore kind from number pair ⊎ (pair ≡ nth_way First kind from number)
way_more kind from number pair is =
    elim (cases_lt (way_number pair) number) [
      | inl less ↦ inl (is.0, is.1, less)
      | inr past ↦ inr (way_by_number kind from number pair is.0 is.1 (omega (arith, past, is.2)))
    ]

pub way_below : (pair : Pair) (count : ℕ) → pair.to < count → way_number pair < 2 * count
way_below pair count below = omega (arith, below, few pair.flip)
  where
    few : (b : Bool) → one_if b < 2
    few false = omega arith
    few true = omega arith

pub from_more : (n m : ℕ) (kind : PortKind) (from : ℕ) (pair : Pair) → IsFromBefore n m kind (from + 1) pair → IsFromBefore n m kind from pair ⊎ ((pair.kind ≡ kind) × (pair.from ≡ from) × IsPairOf n m pair)
from_more n m kind from pair is =
    elim (cases_lt pair.from from) [
      | inl less ↦ inl (is.0, is.1, less)
      | inr past ↦ inr (is.0, omega (arith, past, is.2), is.1)
    ]

-- each pair is of one kind or the other
pub either_kind : (pair : Pair) → (pair.kind ≡ Output) ⊎ (pair.kind ≡ Input)
either_kind pair = by_kind pair.kind
  where
    by_kind : (kind : PortKind) → (kind ≡ Output) ⊎ (kind ≡ Input)
    by_kind Input = inr refl
    by_kind Output = inl refl
