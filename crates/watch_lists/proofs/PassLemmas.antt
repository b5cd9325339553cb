-- The list of a literal is walked from its last watch to its first, and one literal after the other.
use Rattle.std.proofs.Common.{◌≡◌, ℕ, ◌+◌, ◌-◌, ◌*◌, ◌/◌, ◌%◌, ◌<◌, true, List, length, slice_index_or, Option, None, Some, IfNone, inl, inr, refl, sym, ◌∙◌, ap, subst, arith}
use Rattle.std.proofs.lemmas.Bool.{cases_Bool, cases_eq}
use Rattle.cnf_core.specs.declared.literal.SatLit.{SatLit}
use Rattle.cnf_core.specs.declared.effect.Effect.TheVariants.{Neither}
use Rattle.cnf_core.specs.Clauses.{clause_at, opposite}
use Rattle.cnf_core.specs.Derivations.{effect_of, is_false, is_true}
use Rattle.trail_core.specs.Trails.{IsTrail, Trailing, entry_at, literals}
use Rattle.trail_core.proofs.TrailLemmas.{place_of_true}
use Rattle.watch_lists.specs.Lists.{IsAttached, Listed, list_of, literal_at, partner}
use Rattle.watch_lists.specs.Propagations.{AreImplied, IsGrown}
use Rattle.watch_lists.specs.Watched.{AreKept, AreQuiet, Fits, IsTrueBy, IsPresent, IsReady, IsWalking, StayAttached, Watching}
use Rattle.watch_lists.proofs.EffectLemmas.{neither_true, neither_two}
use Rattle.watch_lists.proofs.FitLemmas.{true_by_true, true_not_false}
use Rattle.watch_lists.proofs.GrowLemmas.{grown_none, grown_twice, implied_none, implied_twice}
use Rattle.watch_lists.proofs.ListLemmas.{attached_partner, partner_twice}

-- a list is walked: its first watches are left
pub record IsOnTheWay (clauses : List (List SatLit)) (old now : List SatLit) (lists : List Listed) (before trail : Trailing) (literal : SatLit) (left : ℕ) : Type 0 where
  pub walking : IsWalking clauses now lists trail literal left
  pub grown : IsGrown before trail
  pub implied : AreImplied clauses before trail
  pub walked : trail.walked ≡ before.walked
  pub attached : StayAttached old now
  pub size : length old ≡ 2 * length clauses

-- literals are walked
pub record IsUnderWay (clauses : List (List SatLit)) (old now : List SatLit) (lists : List Listed) (before trail : Trailing) : Type 0 where
  pub ready : IsReady clauses now lists trail
  pub grown : IsGrown before trail
  pub implied : AreImplied clauses before trail
  pub attached : StayAttached old now
  pub size : length old ≡ 2 * length clauses

pub stay_twice : (clauses : List (List SatLit)) (one two three : List SatLit) → length one ≡ 2 * length clauses → length two ≡ 2 * length clauses → StayAttached one two → StayAttached two three → StayAttached one three
stay_twice clauses one two three first second before after s within attached =
    after s (omega (arith, within, first, second)) (before s within attached)

-- all watches of the list are left
pub way_start : (clauses : List (List SatLit)) (ws : List SatLit) (lists : List Listed) (t : Trailing) (literal : SatLit) → IsReady clauses ws lists t → t.walked < length t.entries → (entry_at t.entries t.walked).literal.0 ≡ (opposite literal).0 → literal.0 < length lists → (left : ℕ) → left ≡ length (list_of lists literal.0) → IsOnTheWay clauses ws ws lists t t literal left
way_start clauses ws lists t literal ready there falsity low left all = record {
  walking = record {
    lists_are = ready.kept.lists_are;
    known = ready.kept.known;
    of_clauses = ready.kept.of_clauses;
    listed = ready.kept.listed;
    room = ready.kept.room;
    is_trail = ready.is_trail;
    present = ready.present;
    there = there;
    falsity = falsity;
    literal_known = low;
    few = omega (arith, all);
    watched = ready.watched;
    seen = λ s within attached mine.
        let found = ready.kept.listed.all s within attached in
        let here = ap (λ (l : SatLit). list_of lists l.0) mine in
        inl (record {
          place = found.0;
          early = omega (arith, found.1.within, ap length here, all);
          there = record { within = omega (arith, found.1.within, ap length here); is = ap (λ xs. slice_index_or xs found.0 0) (sym here) ∙ found.1.is };
        });
  };
  grown = grown_none t;
  implied = implied_none clauses t t refl;
  walked = refl;
  attached = λ s within attached. attached;
  size = ready.kept.of_clauses.size;
}

-- all watches of the list were looked at
pub way_end : (clauses : List (List SatLit)) (old now : List SatLit) (lists : List Listed) (before t : Trailing) (literal : SatLit) (left : ℕ) → IsOnTheWay clauses old now lists before t literal left → left ≡ 0 → IsReady clauses now lists (record t { walked = t.walked + 1 })
way_end clauses old now lists before t literal left is none = record {
  kept = record { lists_are = w.lists_are; known = w.known; of_clauses = w.of_clauses; listed = w.listed; room = w.room };
  is_trail = record { known = w.is_trail.known; distinct = w.is_trail.distinct; levels = w.is_trail.levels; level = w.is_trail.level; walked = omega (arith, w.there) };
  present = record { present = λ k late within. w.present.present k (omega (arith, late)) within };
  watched = λ s within attached j early inside at. elim (cases_eq j t.walked) [
    | inr before_it ↦ w.watched s within attached j (omega (arith, early, before_it)) inside at
    | inl here ↦
        let mine : literal_at now s ≡ literal = ap (λ n. record { 0 = n }) (same_number (literal_at now s).0 literal.0 (sym at ∙ (ap (λ k. (entry_at t.entries k).literal.0) here ∙ w.falsity))) in
        elim (w.seen s within attached mine) [
          | inl still ↦ absurd (omega (arith, still.early, none))
          | inr true_by ↦ subst (λ n. IsTrueBy t.entries (literal_at now (partner s)) n) (sym (w.present.present j (omega (arith, here)) inside)) true_by
        ]
  ];
}
  where
    w : IsWalking clauses now lists t literal left
    w = is.walking

    same_number : (a b : ℕ) → 2 * (a / 2) + (1 - a % 2) ≡ 2 * (b / 2) + (1 - b % 2) → a ≡ b
    same_number a b e = omega (arith, e)

-- or a conflict was met, and nothing had changed
pub walk_stopped : (clauses : List (List SatLit)) (old now : List SatLit) (lists : List Listed) (before t : Trailing) (literal : SatLit) (left : ℕ) → IsOnTheWay clauses old now lists before t literal left → IsReady clauses now lists t
walk_stopped clauses old now lists before t literal left is = record {
  kept = record { lists_are = is.walking.lists_are; known = is.walking.known; of_clauses = is.walking.of_clauses; listed = is.walking.listed; room = is.walking.room };
  is_trail = is.walking.is_trail;
  present = is.walking.present;
  watched = is.walking.watched;
}

-- one literal more was walked
pub under_way_step : (clauses : List (List SatLit)) (old mid now : List SatLit) (hs lists : List Listed) (before between walked trail : Trailing) → IsUnderWay clauses old mid hs before between → IsReady clauses now lists trail → IsGrown between walked → AreImplied clauses between walked → trail ≡ record walked { walked = walked.walked + 1 } → StayAttached mid now → IsUnderWay clauses old now lists before trail
under_way_step clauses old mid now hs lists before between walked trail is ready grown implied step attached =
    let further : IsGrown between trail = subst (IsGrown between) (sym step) (record { variables = grown.variables; level = grown.level; longer = grown.longer; kept = grown.kept }) in
    let also : AreImplied clauses between trail = subst (AreImplied clauses between) (sym step) (record { implied = implied.implied }) in
    record {
      ready = ready;
      grown = grown_twice before between trail is.grown further;
      implied = implied_twice clauses before between trail is.implied further also;
      attached = stay_twice clauses old mid now is.size is.ready.kept.of_clauses.size is.attached attached;
      size = is.size;
    }

-- where all is walked, no attached clause is a conflict or leaves a single literal
pub quiet_end : (clauses : List (List SatLit)) (ws : List SatLit) (lists : List Listed) (t : Trailing) → IsReady clauses ws lists t → t.walked ≡ length t.entries → AreQuiet (record { variables = t.variables; clauses = clauses; watches = ws }) (literals t.entries)
quiet_end clauses ws lists t ready all = record {
  quiet = λ id within attached.
      let s = 2 * id in
      let other = partner s in
      let a = literal_at ws s in
      let b = literal_at ws other in
      let s_in : s < length ws = omega (arith, within, ready.kept.of_clauses.size) in
      let o_in : other < length ws = omega (arith, within, ready.kept.of_clauses.size) in
      let back : IsAttached ws other = attached_partner ws s attached in
      let s_id : s / 2 ≡ id = omega arith in
      let o_id : other / 2 ≡ id = omega arith in
      let a_there = ap (λ k. is_true (clause_at clauses k) a) (sym s_id) ∙ ready.kept.of_clauses.of s s_in attached in
      let b_there = ap (λ k. is_true (clause_at clauses k) b) (sym o_id) ∙ ready.kept.of_clauses.of other o_in back in
      elim (cases_Bool (is_false (literals t.entries) a)) [
        | inl a_false ↦ holds id b b_there (partner_true s s_in attached a_false)
        | inr a_open ↦ elim (cases_Bool (is_false (literals t.entries) b)) [
          | inl b_false ↦ holds id a a_there (ap (λ k. is_true (literals t.entries) (literal_at ws k)) (sym (partner_twice s)) ∙ partner_true other o_in back b_false)
          | inr b_open ↦ neither_two (literals t.entries) (clause_at clauses id) a b attached a_open b_open a_there b_there
        ]
      ];
}
  where
    partner_true : (s : ℕ) → s < length ws → IsAttached ws s → is_false (literals t.entries) (literal_at ws s) ≡ true → is_true (literals t.entries) (literal_at ws (partner s)) ≡ true
    partner_true s within attached fails =
        let j = place_of_true t.entries (opposite (literal_at ws s)) fails in
        true_by_true t.entries (literal_at ws (partner s)) (entry_at t.entries j.0).level (ready.watched s within attached j.0 (omega (arith, j.1, all)) j.1 j.2)

    holds : (id : ℕ) (l : SatLit) → is_true (clause_at clauses id) l ≡ true → is_true (literals t.entries) l ≡ true → effect_of (literals t.entries) (clause_at clauses id) ≡ Neither
    holds id l there is_so = neither_true (literals t.entries) (clause_at clauses id) l is_so (true_not_false t ready.is_trail l is_so) there

-- what fits is ready to be walked
pub ready_from : (w : Watching) (lists : List Listed) (t : Trailing) → AreKept w.variables w.clauses w.watches lists → IsTrail t → Fits w t → IsPresent t → IsReady w.clauses w.watches lists t
ready_from w lists t kept trail fits present = record {
  kept = subst (λ n. AreKept n w.clauses w.watches lists) (sym fits.variables) kept;
  is_trail = trail;
  present = present;
  watched = fits.watched;
}

pub quiet_if : (w : Watching) (lists : List Listed) (t : Trailing) (r : Option ℕ) → IsReady w.clauses w.watches lists t → w.variables ≡ t.variables → IfNone r (t.walked ≡ length t.entries) → IfNone r (AreQuiet w (literals t.entries))
quiet_if w lists t None ready same all = subst (λ n. AreQuiet (record w { variables = n }) (literals t.entries)) (sym same) (quiet_end w.clauses w.watches lists t ready all)
quiet_if w lists t (Some x) ready same all = tt
