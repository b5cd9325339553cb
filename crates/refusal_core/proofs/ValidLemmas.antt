-- Facts and bans that are kept for a conclusion stay valid under their new numbers.
use Rattle.std.proofs.Common.{◌≡◌, ◌≢◌, ℕ, ◌<◌, inl, inr, Bool, true, false, List, [], ◌∷◌, length, map, take, All, Option, None, Some, slice_index_or, refl, sym, ap, subst, ◌∙◌, arith}
use Rattle.std.specs.Prelude.{Contains, option_to_list}
use Rattle.std.specs.List.{AllZip, flat_map}
use Rattle.std.specs.Option.{option_map}
use Rattle.std.proofs.lemmas.List.{get_or-map, get_or-take, length-map, length-take-le, take-map}
use Rattle.std.proofs.lemmas.List.Elements.{All-append, All-cons, All-head, All-map, All-nil, All-tail, Contains-append_right}
use Rattle.circuits.specs.Literals.{EachAt, bit}
use Rattle.circuits.specs.declared.port.Pair.{Pair}
use Rattle.net_core.specs.Sides.{Graphs}
use Rattle.net_core.specs.declared.graphs.Side.{Side}
use Rattle.account_core.specs.declared.fact.Fact.{Fact}
use Rattle.account_core.specs.declared.step.Ban.{Ban}
use Rattle.account_core.specs.declared.step.Step.{Step}
use Rattle.account_core.specs.declared.step.Step.TheVariants.{Vector, Mismatch, Tally, Cover}
use Rattle.account_core.specs.Covers.{IsReference, ways}
use Rattle.account_core.specs.Facts.{AreFacts, IsFact}
use Rattle.account_core.specs.Given.{Decided, Given, ban_at, decided_by, fact_at, given_of, no_fact, pairs_of}
use Rattle.account_core.specs.Mismatches.{IsImage, IsMismatch}
use Rattle.account_core.specs.Shown.{IsEmptyBan}
use Rattle.account_core.specs.Steps.{AreNamesKnown, AreValidBans, HasShown, IsValidBan, KeepsRule}
use Rattle.account_core.specs.Tallies.{HaveShapes, LackShapes, SayOf, shapes_of}
use Rattle.refusal_core.specs.declared.trimming.Core.{Core}
use Rattle.refusal_core.specs.Names.{HasMarked, ReferBack, bans_named, facts_named}
use Rattle.refusal_core.specs.Trims.{IsTrimmed, kept, number_of, renumbered, renumbered_ban}
use Rattle.refusal_core.proofs.KeptLemmas.{All-kept, AllPairs-kept, kept_at, kept_below, kept_is, kept_take, number_of-take, place_of, IsPlace}
use Rattle.circuits.proofs.Lists.{All-front, All-back}

-- what was given under a number is given under the new one
abbrev pub CarriesFact : Given → Given → List Bool → ℕ → Type 0
CarriesFact old new marks k = (number_of marks k < length new.facts) × (fact_at new (number_of marks k) ≡ fact_at old k)

abbrev pub CarriesBan : Given → Given → List Bool → ℕ → Type 0
CarriesBan old new marks k = (number_of marks k < length new.bans) × (ban_at new (number_of marks k) ≡ ban_at old k)

-- What a step names is given under the new numbers.
pub record Carries (old new : Given) (facts bans : List Bool) (step : Step) : Type 0 where
  pub facts_are : All (CarriesFact old new facts) (facts_named step)
  pub bans_are : All (CarriesBan old new bans) (bans_named step)

module _ (graphs : Graphs) (old new : Given) (facts bans : List Bool) where
  mismatch : (pairs : List Pair) (fails holds : ℕ) → CarriesFact old new facts fails → CarriesFact old new facts holds → IsMismatch old pairs fails holds → IsMismatch new pairs (number_of facts fails) (number_of facts holds)
  mismatch pairs fails holds one other is = record {
    one_fails = ap (λ (d : Decided). d.holds) one.1 ∙ is.one_fails;
    other_holds = ap (λ (d : Decided). d.holds) other.1 ∙ is.other_holds;
    image = elim is.image [
      | inl image ↦ inl (subst (λ (d : Decided). IsImage pairs d.claim (fact_at new (number_of facts holds)).claim) (sym one.1) (subst (λ (d : Decided). IsImage pairs (fact_at old fails).claim d.claim) (sym other.1) image))
      | inr image ↦ inr (subst (λ (d : Decided). IsImage pairs d.claim (fact_at new (number_of facts fails)).claim) (sym other.1) (subst (λ (d : Decided). IsImage pairs (fact_at old holds).claim d.claim) (sym one.1) image))
    ];
  }

  shapes_same : (numbers : List ℕ) → All (CarriesFact old new facts) numbers → shapes_of new (map (number_of facts) numbers) ≡ shapes_of old numbers
  shapes_same [] each = refl
  shapes_same (k ∷ numbers) each =
      let one = All-head (CarriesFact old new facts) k numbers each in
      ap (λ (d : Decided). d.claim.shape ∷ shapes_of new (map (number_of facts) numbers)) one.1
      ∙ ap (λ l. (fact_at old k).claim.shape ∷ l) (shapes_same numbers (All-tail (CarriesFact old new facts) k numbers each))

  -- what holds of facts holds of them under the new numbers
  of_facts : (P : Decided → Type 0) (numbers : List ℕ) → All (CarriesFact old new facts) numbers → All (λ k. P (fact_at old k)) numbers → All (λ k. P (fact_at new k)) (map (number_of facts) numbers)
  of_facts P numbers carried each = All-map (λ k. P (fact_at new k)) (number_of facts) numbers (λ i d below. subst P (sym (carried i d below).1) (each i d below))

  says : (numbers : List ℕ) (holds : Bool) (side : Side) (output : ℕ) → All (CarriesFact old new facts) numbers → SayOf old numbers holds side output → SayOf new (map (number_of facts) numbers) holds side output
  says numbers holds side output carried is = record {
    says = of_facts (λ d. d.holds ≡ holds) numbers carried is.says;
    of_side = of_facts (λ d. d.claim.side ≡ side) numbers carried is.of_side;
    of_output = of_facts (λ d. d.claim.output ≡ output) numbers carried is.of_output;
  }

  facts_there : (numbers : List ℕ) → All (CarriesFact old new facts) numbers → All (λ k. k < length new.facts) (map (number_of facts) numbers)
  facts_there numbers each = All-map (λ k. k < length new.facts) (number_of facts) numbers (λ i d below. (each i d below).0)

  -- references

  refers : (pairs : List Pair) (pair : Pair) (reference : Option ℕ) → All (CarriesBan old new bans) (option_to_list reference) → IsReference old pairs pair reference → IsReference new pairs pair (option_map (number_of bans) reference)
  refers pairs pair None carried is = is
  refers pairs pair (Some k) carried is = (is.0, subst (All (Contains (pair ∷ pairs))) (sym (All-head (CarriesBan old new bans) k [] carried).1) is.1)

  all_refer : (pairs : List Pair) (places : List Pair) (references : List (Option ℕ)) → All (CarriesBan old new bans) (flat_map option_to_list references) → AllZip (IsReference old pairs) places references → AllZip (IsReference new pairs) places (map (option_map (number_of bans)) references)
  all_refer pairs [] [] carried each = each
  all_refer pairs [] (r ∷ references) carried each = absurd each
  all_refer pairs (place ∷ places) [] carried each = absurd each
  all_refer pairs (place ∷ places) (r ∷ references) carried each = (
    refers pairs place r (All-front (CarriesBan old new bans) (option_to_list r) (flat_map option_to_list references) carried) each.0,
    all_refer pairs places references (All-back (CarriesBan old new bans) (option_to_list r) (flat_map option_to_list references) carried) each.1,
  )

  bans_there : (references : List (Option ℕ)) → All (CarriesBan old new bans) (flat_map option_to_list references) → All (λ (r : Option ℕ). (k : ℕ) → r ≡ Some k → k < length new.bans) (map (option_map (number_of bans)) references)
  bans_there [] carried = All-nil (λ (r : Option ℕ). (k : ℕ) → r ≡ Some k → k < length new.bans)
  bans_there (r ∷ references) carried =
      All-cons (λ (r : Option ℕ). (k : ℕ) → r ≡ Some k → k < length new.bans) (option_map (number_of bans) r) (map (option_map (number_of bans)) references)
      (first r (All-front (CarriesBan old new bans) (option_to_list r) (flat_map option_to_list references) carried))
      (bans_there references (All-back (CarriesBan old new bans) (option_to_list r) (flat_map option_to_list references) carried))
    where
      some_same : (n m : ℕ) → Some n ≡ Some m → n ≡ m
      some_same n m e = cc

      first : (r : Option ℕ) → All (CarriesBan old new bans) (option_to_list r) → (k : ℕ) → option_map (number_of bans) r ≡ Some k → k < length new.bans
      first None each k is = cc
      first (Some j) each k is = subst (λ n. n < length new.bans) (some_same (number_of bans j) k is) (All-head (CarriesBan old new bans) j [] each).0

  contained_there : (references : List (Option ℕ)) → All (λ (r : Option ℕ). (k : ℕ) → r ≡ Some k → k < length new.bans) references → (k : ℕ) → Contains references (Some k) → k < length new.bans
  contained_there references each k (place, below, is) = each place (Some k) below k is

  pub valid_carried : (ban : Ban) → Carries old new facts bans ban.step → IsValidBan graphs old ban → IsValidBan graphs new (renumbered_ban facts bans ban)
  valid_carried ban carried is = record {
    known = is.known;
    ordered = is.ordered;
    names = names ban.step carried is.names;
    rule = rule ban.step carried is.rule;
    shown = shown ban.step is.shown;
  }
    where
      names : (step : Step) → Carries old new facts bans step → AreNamesKnown graphs old step → AreNamesKnown graphs new (renumbered facts bans step)
      names (Vector output values) carries known = known
      names (Mismatch fails holds) carries known = (
        (All-head (CarriesFact old new facts) fails (holds ∷ []) carries.facts_are).0,
        (All-head (CarriesFact old new facts) holds [] (All-tail (CarriesFact old new facts) fails (holds ∷ []) carries.facts_are)).0,
      )
      names (Tally kind have lack) carries known = (
        facts_there have (All-front (CarriesFact old new facts) have lack carries.facts_are),
        facts_there lack (All-back (CarriesFact old new facts) have lack carries.facts_are),
      )
      names (Cover kind from to refs) carries known = record {
        first_ports = known.first_ports;
        second_ports = known.second_ports;
        given_bans = contained_there (map (option_map (number_of bans)) refs) (bans_there refs carries.bans_are);
      }

      rule : (step : Step) → Carries old new facts bans step → KeepsRule graphs old ban.pairs step → KeepsRule graphs new ban.pairs (renumbered facts bans step)
      rule (Vector output values) carries keeps = keeps
      rule (Mismatch fails holds) carries keeps =
          mismatch ban.pairs fails holds (All-head (CarriesFact old new facts) fails (holds ∷ []) carries.facts_are)
          (All-head (CarriesFact old new facts) holds [] (All-tail (CarriesFact old new facts) fails (holds ∷ []) carries.facts_are)) keeps
      rule (Tally kind have lack) carries keeps =
          let of_have = All-front (CarriesFact old new facts) have lack carries.facts_are in
          let of_lack = All-back (CarriesFact old new facts) have lack carries.facts_are in
          record {
            side = keeps.side;
            pair = keeps.pair;
            having = keeps.having;
            lacking = keeps.lacking;
            paired = keeps.paired;
            of_outputs = keeps.of_outputs;
            fail = says have false keeps.side _ of_have keeps.fail;
            hold = says lack true _ _ of_lack keeps.hold;
            have_shapes = subst (HaveShapes kind keeps.having) (sym (shapes_same have of_have)) keeps.have_shapes;
            lack_shapes = subst (LackShapes kind keeps.lacking) (sym (shapes_same lack of_lack)) keeps.lack_shapes;
            having_ascends = keeps.having_ascends;
            lacking_ascends = keeps.lacking_ascends;
            some_have = keeps.some_have;
            some_lack = keeps.some_lack;
            too_many = keeps.too_many;
          }
      rule (Cover kind from to refs) carries keeps = record {
        from_ascends = keeps.from_ascends;
        to_ascends = keeps.to_ascends;
        too_many = keeps.too_many;
        referred = all_refer ban.pairs (ways kind from to) refs carries.bans_are keeps.referred;
      }

      shown : (step : Step) → HasShown graphs ban.pairs step → HasShown graphs ban.pairs (renumbered facts bans step)
      shown (Vector output values) has = has
      shown step has = has

-- facts stay facts
pub facts_kept : (graphs : Graphs) (facts : List Fact) (bans : List Ban) (number : ℕ) (core : Core) → IsTrimmed facts bans number core → AreFacts graphs facts → AreFacts graphs core.facts
facts_kept graphs facts bans number core trimmed are =
    subst (λ (list : List Fact). AreFacts graphs list) (sym trimmed.facts_are) (record {
      each = All-kept (IsFact graphs) trimmed.fact_marks facts trimmed.as_many_facts are.each;
      distinct = AllPairs-kept (λ (one other : Fact). one.claim ≢ other.claim) trimmed.fact_marks facts trimmed.as_many_facts are.distinct;
    })

-- what was given before a ban, and is given now
abbrev given_before : List Fact → List Ban → ℕ → Given
given_before facts bans k = given_of (map decided_by facts) (take k bans)

abbrev given_now : List Fact → List Ban → List Bool → List Bool → ℕ → Given
given_now facts bans fact_marks ban_marks k = given_of (map decided_by (kept fact_marks facts)) (take (number_of ban_marks k) (map (renumbered_ban fact_marks ban_marks) (kept ban_marks bans)))

module _ (graphs : Graphs) (facts : List Fact) (bans : List Ban) (fact_marks ban_marks : List Bool)
    (as_many_facts : length fact_marks ≡ length facts) (as_many_bans : length ban_marks ≡ length bans) where
  fact_carried : (k f : ℕ) (d : Fact) → f < length facts → bit fact_marks f ≡ true → CarriesFact (given_before facts bans k) (given_now facts bans fact_marks ban_marks k) fact_marks f
  fact_carried k f d below marked = (
    omega (arith, kept_below fact_marks facts f as_many_facts below marked, length-map (kept fact_marks facts) decided_by),
    get_or-map decided_by (kept fact_marks facts) (number_of fact_marks f) d no_fact (kept_below fact_marks facts f as_many_facts below marked)
        ∙ (ap decided_by (kept_at fact_marks facts f d as_many_facts below marked)
        ∙ sym (get_or-map decided_by facts f d no_fact below)),
  )

  -- the bans before the k-th, by their pairs
  pairs_now : (k : ℕ) → pairs_of (take (number_of ban_marks k) (map (renumbered_ban fact_marks ban_marks) (kept ban_marks bans))) ≡ pairs_of (kept (take k ban_marks) (take k bans))
  pairs_now k =
      ap pairs_of (take-map (renumbered_ban fact_marks ban_marks) (number_of ban_marks k) (kept ban_marks bans))
      ∙ (pairs_stay (take (number_of ban_marks k) (kept ban_marks bans))
      ∙ ap pairs_of (kept_take ban_marks bans k as_many_bans))
    where
      pairs_stay : (list : List Ban) → pairs_of (map (renumbered_ban fact_marks ban_marks) list) ≡ pairs_of list
      pairs_stay [] = refl
      pairs_stay (ban ∷ list) = ap (λ ps. ban.pairs ∷ ps) (pairs_stay list)

  ban_carried : (k b : ℕ) (d : Ban) → k < length bans → b < k → bit ban_marks b ≡ true → CarriesBan (given_before facts bans k) (given_now facts bans fact_marks ban_marks k) ban_marks b
  ban_carried k b d within below marked = (there, same)
    where
      as_many : length (take k ban_marks) ≡ length (take k bans)
      as_many = length-take-le k ban_marks (omega (arith, within, as_many_bans)) ∙ sym (length-take-le k bans (omega (arith, within)))

      under : b < length (take k bans)
      under = omega (arith, below, length-take-le k bans (omega (arith, within)))

      is_marked : bit (take k ban_marks) b ≡ true
      is_marked = get_or-take k ban_marks b false below ∙ marked

      number_is : number_of (take k ban_marks) b ≡ number_of ban_marks b
      number_is = number_of-take ban_marks k b (omega (arith, below))

      list : List Ban
      list = kept (take k ban_marks) (take k bans)

      in_list : number_of ban_marks b < length (kept (take k ban_marks) (take k bans))
      in_list = omega (arith, number_is, kept_below (take k ban_marks) (take k bans) b as_many under is_marked)

      there : number_of ban_marks b < length (given_now facts bans fact_marks ban_marks k).bans
      there = omega (arith, ap length (pairs_now k), length-map (kept (take k ban_marks) (take k bans)) (λ (ban : Ban). ban.pairs), in_list)

      same : ban_at (given_now facts bans fact_marks ban_marks k) (number_of ban_marks b) ≡ ban_at (given_before facts bans k) b
      same =
          ap (λ ps. slice_index_or ps (number_of ban_marks b) []) (pairs_now k)
          ∙ (get_or-map (λ (ban : Ban). ban.pairs) (kept (take k ban_marks) (take k bans)) (number_of ban_marks b) d [] in_list
          ∙ (ap (λ n. (slice_index_or (kept (take k ban_marks) (take k bans)) n d).pairs) (sym number_is)
          ∙ (ap (λ (ban : Ban). ban.pairs) (kept_at (take k ban_marks) (take k bans) b d as_many under is_marked)
          ∙ sym (get_or-map (λ (ban : Ban). ban.pairs) (take k bans) b d [] under))))

  bans_valid : ReferBack (length facts) bans → EachAt (λ k (ban : Ban). bit ban_marks k ≡ true → HasMarked fact_marks ban_marks ban.step) bans → AreValidBans graphs (map decided_by facts) bans
      → AreValidBans graphs (map decided_by (kept fact_marks facts)) (map (renumbered_ban fact_marks ban_marks) (kept ban_marks bans))
  bans_valid refer closed valid j e below =
      subst (λ (ban : Ban). IsValidBan graphs (given_of (map decided_by (kept fact_marks facts)) (take j (map (renumbered_ban fact_marks ban_marks) (kept ban_marks bans)))) ban) (sym ban_is)
      (subst (λ n. IsValidBan graphs (given_of (map decided_by (kept fact_marks facts)) (take n (map (renumbered_ban fact_marks ban_marks) (kept ban_marks bans)))) (renumbered_ban fact_marks ban_marks (slice_index_or bans was.place e))) was.number_is
      (valid_carried graphs (given_before facts bans was.place) (given_now facts bans fact_marks ban_marks was.place) fact_marks ban_marks (slice_index_or bans was.place e) carried (valid was.place e was.below)))
    where
      in_kept : j < length (kept ban_marks bans)
      in_kept = omega (arith, below, length-map (kept ban_marks bans) (renumbered_ban fact_marks ban_marks))

      was : IsPlace ban_marks (length bans) j
      was = place_of ban_marks bans j as_many_bans in_kept

      ban_is : slice_index_or (map (renumbered_ban fact_marks ban_marks) (kept ban_marks bans)) j e ≡ renumbered_ban fact_marks ban_marks (slice_index_or bans was.place e)
      ban_is = get_or-map (renumbered_ban fact_marks ban_marks) (kept ban_marks bans) j e e in_kept ∙ ap (renumbered_ban fact_marks ban_marks) (kept_is ban_marks bans j e as_many_bans was)

      first : (list : List Fact) → 0 < length list → Fact
      first [] some = absurd (omega (arith, some))
      first (fact ∷ list) some = fact

      some_fact : (f : ℕ) → f < length facts → Fact
      some_fact f there = first facts (omega (arith, there))

      facts_are : All (CarriesFact (given_before facts bans was.place) (given_now facts bans fact_marks ban_marks was.place) fact_marks) (facts_named (slice_index_or bans was.place e).step)
      facts_are i d under =
          let f = slice_index_or (facts_named (slice_index_or bans was.place e).step) i d in
          let there = (refer was.place e was.below).facts i d under in
          fact_carried was.place f (some_fact f there) there ((closed was.place e was.below was.marked).facts_are i d under)

      bans_are : All (CarriesBan (given_before facts bans was.place) (given_now facts bans fact_marks ban_marks was.place) ban_marks) (bans_named (slice_index_or bans was.place e).step)
      bans_are i d under =
          let b = slice_index_or (bans_named (slice_index_or bans was.place e).step) i d in
          ban_carried was.place b e was.below ((refer was.place e was.below).bans i d under) ((closed was.place e was.below was.marked).bans_are i d under)

      carried : Carries (given_before facts bans was.place) (given_now facts bans fact_marks ban_marks was.place) fact_marks ban_marks (slice_index_or bans was.place e).step
      carried = record { facts_are = facts_are; bans_are = bans_are }

-- references name what there is

pub all_referred : (references : List (Option ℕ)) (n : ℕ) → ((b : ℕ) → Contains references (Some b) → b < n) → All (λ b. b < n) (flat_map option_to_list references)
all_referred [] n each = All-nil (λ b. b < n)
all_referred (r ∷ references) n each =
    All-append (λ b. b < n) (option_to_list r) (flat_map option_to_list references) (first r (λ b is. each b (0, omega arith, is)))
    (all_referred references n (λ b in_rest. each b (Contains-append_right (r ∷ []) references (Some b) in_rest)))
  where
    first : (r : Option ℕ) → ((b : ℕ) → r ≡ Some b → b < n) → All (λ b. b < n) (option_to_list r)
    first None it = All-nil (λ b. b < n)
    first (Some b) it = All-cons (λ c. c < n) b [] (it b refl) (All-nil (λ c. c < n))

pub refer_back : (graphs : Graphs) (facts : List Decided) (bans : List Ban) → AreValidBans graphs facts bans → ReferBack (length facts) bans
refer_back graphs facts bans valid k d below =
    let given = given_of facts (take k bans) in
    let few : length (pairs_of (take k bans)) ≡ k = length-map (take k bans) (λ (ban : Ban). ban.pairs) ∙ length-take-le k bans (omega (arith, below)) in
    record {
      facts = of_facts_named (slice_index_or bans k d).step (valid k d below).names;
      bans = subst (λ n. All (λ b. b < n) (bans_named (slice_index_or bans k d).step)) few (of_bans_named (slice_index_or bans k d).step (valid k d below).names);
    }
  where
    of_facts_named : (step : Step) → AreNamesKnown graphs (given_of facts (take k bans)) step → All (λ f. f < length facts) (facts_named step)
    of_facts_named (Vector output values) known = All-nil (λ f. f < length facts)
    of_facts_named (Mismatch fails holds) known = All-cons (λ f. f < length facts) fails (holds ∷ []) known.0 (All-cons (λ f. f < length facts) holds [] known.1 (All-nil (λ f. f < length facts)))
    of_facts_named (Tally kind have lack) known = All-append (λ f. f < length facts) have lack known.0 known.1
    of_facts_named (Cover kind from to refs) known = All-nil (λ f. f < length facts)

    of_bans_named : (step : Step) → AreNamesKnown graphs (given_of facts (take k bans)) step → All (λ b. b < length (pairs_of (take k bans))) (bans_named step)
    of_bans_named (Vector output values) known = All-nil (λ b. b < length (pairs_of (take k bans)))
    of_bans_named (Mismatch fails holds) known = All-nil (λ b. b < length (pairs_of (take k bans)))
    of_bans_named (Tally kind have lack) known = All-nil (λ b. b < length (pairs_of (take k bans)))
    of_bans_named (Cover kind from to refs) known = all_referred refs (length (pairs_of (take k bans))) known.given_bans

-- and so they do for all of a conclusion
pub bans_kept : (graphs : Graphs) (facts : List Fact) (bans : List Ban) (number : ℕ) (core : Core) → IsTrimmed facts bans number core → AreValidBans graphs (map decided_by facts) bans → AreValidBans graphs (map decided_by core.facts) core.bans
bans_kept graphs facts bans number core trimmed valid =
    subst (λ (list : List Fact). AreValidBans graphs (map decided_by list) core.bans) (sym trimmed.facts_are)
    (subst (λ (list : List Ban). AreValidBans graphs (map decided_by (kept trimmed.fact_marks facts)) list) (sym trimmed.bans_are)
    (bans_valid graphs facts bans trimmed.fact_marks trimmed.ban_marks trimmed.as_many_facts trimmed.as_many_bans (subst (λ n. ReferBack n bans) (length-map facts decided_by) (refer_back graphs (map decided_by facts) bans valid)) trimmed.needed.closed.named valid))

-- the conclusion's ban has no pairs
pub conclusion_kept : (facts : List Fact) (bans : List Ban) (number : ℕ) (core : Core) → IsTrimmed facts bans number core → IsEmptyBan bans number → IsEmptyBan core.bans core.number
conclusion_kept facts bans number core trimmed empty =
    subst (λ (list : List Ban). IsEmptyBan list core.number) (sym trimmed.bans_are)
    (subst (λ n. IsEmptyBan (map (renumbered_ban trimmed.fact_marks trimmed.ban_marks) (kept trimmed.ban_marks bans)) n) (sym trimmed.number_is) (record {
      kept = omega (arith, there, length-map (kept trimmed.ban_marks bans) (renumbered_ban trimmed.fact_marks trimmed.ban_marks));
      pairs = λ d.
          ap (λ (ban : Ban). ban.pairs) (get_or-map (renumbered_ban trimmed.fact_marks trimmed.ban_marks) (kept trimmed.ban_marks bans) (number_of trimmed.ban_marks number) d d there)
          ∙ (ap (λ (ban : Ban). ban.pairs) (kept_at trimmed.ban_marks bans number d trimmed.as_many_bans empty.kept trimmed.needed.closed.concluded)
          ∙ empty.pairs d);
    }))
  where
    there : number_of trimmed.ban_marks number < length (kept trimmed.ban_marks bans)
    there = kept_below trimmed.ban_marks bans number trimmed.as_many_bans empty.kept trimmed.needed.closed.concluded
