-- A sweep goes over one signal more.
use Rattle.std.proofs.Common.{◌≡◌, ◌≢◌, ℕ, ◌+◌, ◌<◌, ◌≤◌, List, Option, None, Some, length, map, set, slice_index_or, inl, inr, sym, ap, subst, ◌∙◌, arith}
use Rattle.std.specs.List.{range_with_len}
use Rattle.std.proofs.lemmas.Bool.{cases_lt}
use Rattle.std.proofs.lemmas.Bool.Decides.{eqb_tells}
use Rattle.std.proofs.lemmas.List.{get_or-set_other, get_or-set_same, get_or_default, length-set}
use Rattle.std.proofs.lemmas.List.FromFn.{get_or-map-range_with_len, length-map-range_with_len}
use Rattle.circuits.specs.declared.netlist.Lit.{Lit}
use Rattle.circuits.specs.Literals.{false_literal, plain_literal, signal_of}
use Rattle.circuits.specs.Netlists.{Net, signals_of}
use Rattle.circuits.proofs.Expansions.{signal_of-plain}
use Rattle.query_core.specs.Ledgers.{Ledgered}
use Rattle.claim_core.specs.declared.query.Query.{Query}
use Rattle.sweep.specs.declared.leaders.Leaders.{Leaders}
use Rattle.sweep.specs.declared.sweeping.Sweep.{Sweep}
use Rattle.sweep.specs.Classes.{AreClasses, member_at}
use Rattle.sweep.specs.Comparing.{HasCompared, IsEarlier}
use Rattle.sweep.specs.Leaders.{AreChained, IsLast, Leads, LeadsIn, some_at}
use Rattle.sweep.specs.Merging.{AreRepresentatives, IsReplacement, IsRepresentative}
use Rattle.sweep.specs.Signals.{AreUnlike}
use Rattle.sweep.specs.Sweeping.{AreSettled, IsBetween, IsEqualTo, IsSweeping, replacement_at}
use Rattle.sweep.proofs.LeaderLemmas.{chained_add, chained_same, chained_skip}
use Rattle.sweep.proofs.SignalLemmas.{computes_itself, unlike_back, unlike_through}

-- an earlier query comes before those with a still earlier signal
pub compared_down : (net : Net) (other one less : ℕ) (ledger : Ledgered) → less ≤ one → HasCompared net other one ledger → HasCompared net other less ledger
compared_down net other one less ledger few is = record {
  work = is.work;
  queries = is.queries;
  earlier = λ k d below. weaker (slice_index_or ledger.asked k d).query (is.earlier k d below);
  unspent = is.unspent;
}
  where
    weaker : (query : Query) → IsEarlier other one query → IsEarlier other less query
    weaker query (inl before) = inl before
    weaker query (inr (at, later)) = inr (at, omega (arith, later, few))

-- and before those about the next signal
pub compared_on : (net : Net) (other one : ℕ) (ledger : Ledgered) → HasCompared net other one ledger → HasCompared net (other + 1) (other + 1) ledger
compared_on net other one ledger is = record {
  work = is.work;
  queries = is.queries;
  earlier = λ k d below. weaker (slice_index_or ledger.asked k d).query (is.earlier k d below);
  unspent = is.unspent;
}
  where
    weaker : (query : Query) → IsEarlier other one query → IsEarlier (other + 1) (other + 1) query
    weaker query (inl before) = inl (omega (arith, before))
    weaker query (inr (at, later)) = inl (omega (arith, at))

-- Signal s is going to be compared with the last of its class that isn't replaced.
pub between_first : (net : Net) (sweep : Sweep) (s : ℕ) (ledger : Ledgered) (next : Option ℕ) → HasCompared net s s ledger → IsLast (LeadsIn sweep.members.items sweep.replacements.items (member_at sweep.members.items s).class) s next → IsBetween net sweep s ledger next
between_first net sweep s ledger None compared is =
    (compared_down net s s 0 ledger (omega arith) compared, λ u below p. absurd (is u below p))
between_first net sweep s ledger (Some p) compared is =
    (is.0, is.1, compared_down net s s (p + 1) ledger (omega (arith, is.0)) compared, λ u later below q. absurd (is.2 u later below q))

-- It was found to be unlike one, and the one before that comes next.
pub between_next : (net : Net) (sweep : Sweep) (s p : ℕ) (before after : Ledgered) (next : Option ℕ) → IsBetween net sweep s before (Some p) → AreUnlike net s p → HasCompared net s p after → IsLast (LeadsIn sweep.members.items sweep.replacements.items (member_at sweep.members.items s).class) p next → IsBetween net sweep s after next
between_next net sweep s p before after None between unlike compared is = (
  compared_down net s p 0 after (omega arith) compared,
  λ u below q. elim (cases_lt u p) [
    | inl less ↦ absurd (is u less q)
    | inr from ↦ elim (cases_lt p u) [
      | inl later ↦ between.3 u later below q
      | inr same ↦ subst (AreUnlike net s) (omega (arith, from, same)) unlike
    ]
  ],
)
between_next net sweep s p before after (Some r) between unlike compared is = (
  omega (arith, is.0, between.0),
  is.1,
  compared_down net s p (r + 1) after (omega (arith, is.0)) compared,
  λ u after_r below q. elim (cases_lt u p) [
    | inl less ↦ absurd (is.2 u after_r less q)
    | inr from ↦ elim (cases_lt p u) [
      | inl later ↦ between.3 u later below q
      | inr same ↦ subst (AreUnlike net s) (omega (arith, from, same)) unlike
    ]
  ],
)

-- It is unlike all of its class, and so unlike all.
pub between_end : (net : Net) (sweep : Sweep) (s : ℕ) (ledger : Ledgered) → s < signals_of net → AreClasses net sweep.members.items → IsBetween net sweep s ledger None → IsEqualTo net sweep.replacements.items s None
between_end net sweep s ledger there classes between u below leads =
    let members = sweep.members.items in
    elim (eqb_tells (member_at members u).class (member_at members s).class) [
      | inl (found, same) ↦ between.1 u below (same, leads)
      | inr (found, apart) ↦ classes.unlike s u there (omega (arith, below, there)) (λ e. apart (sym e))
    ]

-- a signal of a literal that leads is the literal's
leads_signal : (replacements : List Lit) (s : ℕ) → Leads replacements s → signal_of (replacement_at replacements s) ≡ s
leads_signal replacements s leads = ap signal_of leads ∙ signal_of-plain s

-- a signal is settled by a literal that it computes
pub settled_merged : (net : Net) (replacements new : List Lit) (n : ℕ) (literal : Lit) → n < signals_of net → IsEqualTo net replacements n (Some literal) → new ≡ set replacements n literal → AreSettled net replacements n → AreSettled net new (n + 1)
settled_merged net replacements new n literal there equal is settled =
    subst (λ rs. AreSettled net rs (n + 1)) (sym is) (record {
      replaced = record {
        count = length-set replacements n literal ∙ settled.replaced.count;
        each = λ s d below. elim (eqb_tells s n) [
          | inl (found, e) ↦
              let at : slice_index_or now s d ≡ literal = ap (λ k. slice_index_or now k d) e ∙ get_or-set_same replacements n literal d here in
              subst (IsReplacement net s) (sym at) (subst (λ k. IsReplacement net k literal) (sym e) replaces)
          | inr (found, apart) ↦
              subst (IsReplacement net s) (sym (get_or-set_other replacements n s literal d apart)) (settled.replaced.each s d (omega (arith, below, length-set replacements n literal)))
        ];
      };
      settled = λ s below. elim (eqb_tells s n) [
        | inl (found, e) ↦ subst (λ k. IsRepresentative net k (replacement_at now k)) (sym e) (subst (IsRepresentative net n) (sym same_at) represents)
        | inr (found, apart) ↦ subst (IsRepresentative net s) (sym (other_at s apart)) (settled.settled s (omega (arith, below, apart)))
      ];
      leading = λ s below. elim (eqb_tells s n) [
        | inl (found, e) ↦
            let at : signal_of (replacement_at now s) ≡ signal_of literal = ap (λ k. signal_of (replacement_at now k)) e ∙ ap signal_of same_at in
            subst (Leads now) (sym at) (still (signal_of literal) (omega (arith, equal.0)) equal.1)
        | inr (found, apart) ↦
            let less : s < n = omega (arith, below, apart) in
            let within = (settled.settled s less).replaces.within in
            subst (Leads now) (sym (ap signal_of (other_at s apart))) (still (signal_of (replacement_at replacements s)) (omega (arith, within, less)) (settled.leading s less))
      ];
      later = λ s from below. still s (omega (arith, from)) (settled.later s (omega (arith, from)) below);
    })
  where
    now : List Lit
    now = set replacements n literal

    here : n < length replacements
    here = omega (arith, there, settled.replaced.count)

    same_at : replacement_at (set replacements n literal) n ≡ literal
    same_at = get_or-set_same replacements n literal false_literal here

    other_at : (s : ℕ) → s ≢ n → replacement_at (set replacements n literal) s ≡ replacement_at replacements s
    other_at s apart = get_or-set_other replacements n s literal false_literal apart

    still : (s : ℕ) → s ≢ n → Leads replacements s → Leads (set replacements n literal) s
    still s apart leads = other_at s apart ∙ leads

    replaces : IsReplacement net n literal
    replaces = record { within = omega (arith, equal.0); computes = equal.2 }

    represents : IsRepresentative net n literal
    represents = record {
      replaces = replaces;
      first = λ t before.
          let u = signal_of literal in
          let own = settled.settled u equal.0 in
          unlike_back net n t literal equal.2 (own.first t (omega (arith, before, leads_signal replacements u equal.1)));
    }

-- or by itself, where it is unlike all that lead
pub settled_leading : (net : Net) (replacements : List Lit) (n : ℕ) → n < signals_of net → IsEqualTo net replacements n None → AreSettled net replacements n → AreSettled net replacements (n + 1)
settled_leading net replacements n there unlike settled = record {
  replaced = settled.replaced;
  settled = λ s below. elim (eqb_tells s n) [
    | inl (found, e) ↦ subst (λ k. IsRepresentative net k (replacement_at replacements k)) (sym e) (subst (IsRepresentative net n) (sym itself) represents)
    | inr (found, apart) ↦ settled.settled s (omega (arith, below, apart))
  ];
  leading = λ s below. elim (eqb_tells s n) [
    | inl (found, e) ↦ subst (λ k. Leads replacements (signal_of (replacement_at replacements k))) (sym e) (subst (Leads replacements) (sym (leads_signal replacements n itself)) itself)
    | inr (found, apart) ↦ settled.leading s (omega (arith, below, apart))
  ];
  later = λ s from below. settled.later s (omega (arith, from)) below;
}
  where
    itself : Leads replacements n
    itself = settled.later n (omega arith) there

    represents : IsRepresentative net n (plain_literal n)
    represents = record {
      replaces = record {
        within = omega (arith, signal_of-plain n);
        computes = computes_itself net n;
      };
      first = λ t before.
          let less : t < n = omega (arith, before, signal_of-plain n) in
          let rep = settled.settled t less in
          unlike_through net n t (replacement_at replacements t) rep.replaces.computes (unlike (signal_of (replacement_at replacements t)) (omega (arith, rep.replaces.within, less)) (settled.leading t less));
    }

-- the whole state
pub sweeping_merged : (net : Net) (old new : Sweep) (n : ℕ) (literal : Lit) → n < signals_of net → IsEqualTo net old.replacements.items n (Some literal) → new.members.items ≡ old.members.items → new.leaders ≡ old.leaders → new.replacements.items ≡ set old.replacements.items n literal → IsSweeping net old n → IsSweeping net new (n + 1)
sweeping_merged net old new n literal there equal members leaders is sweeping =
    let settled = settled_merged net old.replacements.items new.replacements.items n literal there equal is sweeping.settled in
    record {
      classes = subst (AreClasses net) (sym members) sweeping.classes;
      settled = settled;
      chained = subst (λ ms. AreChained ms new.replacements.items (n + 1) new.leaders.last.items new.leaders.before.items) (sym members)
          (subst (λ (l : Leaders). AreChained old.members.items new.replacements.items (n + 1) l.last.items l.before.items) (sym leaders)
          (chained_skip old.members.items new.replacements.items n old.leaders.last.items old.leaders.before.items never
          (chained_same old.members.items old.replacements.items new.replacements.items n old.leaders.last.items old.leaders.before.items to from sweeping.chained)));
    }
  where
    at : (u : ℕ) → u < n → replacement_at new.replacements.items u ≡ replacement_at old.replacements.items u
    at u less = ap (λ rs. replacement_at rs u) is ∙ get_or-set_other old.replacements.items n u literal false_literal (omega (arith, less))

    to : (u : ℕ) → u < n → Leads old.replacements.items u → Leads new.replacements.items u
    to u less leads = at u less ∙ leads

    from : (u : ℕ) → u < n → Leads new.replacements.items u → Leads old.replacements.items u
    from u less leads = sym (at u less) ∙ leads

    never : Leads new.replacements.items n → ⊥
    never leads =
        let here : replacement_at new.replacements.items n ≡ literal = ap (λ rs. replacement_at rs n) is ∙ get_or-set_same old.replacements.items n literal false_literal (omega (arith, there, sweeping.settled.replaced.count)) in
        omega (arith, equal.0, ap signal_of (sym here ∙ leads), signal_of-plain n)

pub sweeping_leading : (net : Net) (old new : Sweep) (n : ℕ) → n < signals_of net → IsEqualTo net old.replacements.items n None → new.members.items ≡ old.members.items → new.replacements.items ≡ old.replacements.items → new.leaders.before.items ≡ set old.leaders.before.items n (some_at old.leaders.last.items (member_at old.members.items n).class) → new.leaders.last.items ≡ set old.leaders.last.items (member_at old.members.items n).class (Some n) → IsSweeping net old n → IsSweeping net new (n + 1)
sweeping_leading net old new n there unlike members replacements before_is last_is sweeping = record {
  classes = subst (AreClasses net) (sym members) sweeping.classes;
  settled = subst (λ rs. AreSettled net rs (n + 1)) (sym replacements) (settled_leading net old.replacements.items n there unlike sweeping.settled);
  chained = subst (λ ms. AreChained ms new.replacements.items (n + 1) new.leaders.last.items new.leaders.before.items) (sym members)
      (subst (λ rs. AreChained old.members.items rs (n + 1) new.leaders.last.items new.leaders.before.items) (sym replacements)
      (chained_add old.members.items old.replacements.items n old.leaders.last.items old.leaders.before.items new.leaders.last.items new.leaders.before.items (omega (arith, there, sweeping.classes.count)) (omega (arith, sweeping.classes.few n there, sweeping.classes.count)) (sweeping.settled.later n (omega arith) there) before_is last_is sweeping.chained));
}

-- all signals were gone over
pub represented : (net : Net) (replacements : List Lit) → AreSettled net replacements (signals_of net) → AreRepresentatives net replacements
represented net replacements settled = record {
  count = settled.replaced.count;
  each = λ s d below. subst (IsRepresentative net s) (sym (get_or_default replacements s d false_literal below)) (settled.settled s (omega (arith, below, settled.replaced.count)));
}

-- at first each signal is replaced by itself
pub settled_first : (net : Net) (replacements : List Lit) → replacements ≡ map plain_literal (range_with_len 0 (signals_of net)) → AreSettled net replacements 0
settled_first net replacements is = record {
  replaced = record {
    count = count;
    each = λ s d below.
        let at = leads s (omega (arith, below, count)) in
        subst (IsReplacement net s) (sym (get_or_default replacements s d false_literal below ∙ at)) (record {
          within = omega (arith, signal_of-plain s);
          computes = computes_itself net s;
        });
  };
  settled = λ s below. absurd (omega (arith, below));
  leading = λ s below. absurd (omega (arith, below));
  later = λ s from below. leads s below;
}
  where
    count : length replacements ≡ signals_of net
    count = ap length is ∙ length-map-range_with_len plain_literal 0 (signals_of net)

    leads : (s : ℕ) → s < signals_of net → Leads replacements s
    leads s below = ap (λ rs. replacement_at rs s) is ∙ get_or-map-range_with_len plain_literal 0 (signals_of net) s s false_literal below (omega arith)
