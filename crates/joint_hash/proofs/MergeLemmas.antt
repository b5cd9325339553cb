-- One gate more: it is kept as the first with its operands, is joined to that already, or is made one with it.
use Rattle.std.proofs.Common.{◌≡◌, ◌≢◌, ◌⊎◌, ℕ, suc, ◌+◌, ◌<◌, ◌≤◌, ◌==◌, ◌||◌, cond, Bool, true, false, List, [], ◌∷◌, ◌++◌, length, Option, None, Some, is_some, inl, inr, refl, sym, ◌∙◌, ap, subst, arith, eqb-true, eq-eqb, ne_eqb, length-append}
use Rattle.std.proofs.lemmas.Bool.{false≢true, cases_Bool, cases_eq, or_cases, or_parts, false_from_ne_true}
use Rattle.std.proofs.lemmas.List.{get_or_append_left}
use Rattle.cnf_core.specs.declared.literal.SatLit.{SatLit}
use Rattle.cnf_core.specs.Clauses.{clause_at, is_negated, opposite, variable_of}
use Rattle.claim_core.specs.Formulas.{plain}
use Rattle.joint_hash.specs.declared.gates.ConeGate.{ConeGate}
use Rattle.joint_hash.specs.declared.twins.Twin.{Twin}
use Rattle.joint_hash.specs.Trees.{IsCongruence}
use Rattle.joint_hash.specs.Classes.{AreMerged, HasGate, IsFound, IsKept, IsTwin, IsVisited, in_order, operands_of, representative, same_operands, twin_literal}
use Rattle.joint_hash.proofs.ChainLemmas.{twin_later}
use Rattle.joint_hash.proofs.LiteralLemmas.{in_order_same, operands_from, operands_same, plain_is, negated_is}
use Rattle.std.proofs.lemmas.Option.{same_Some}

-- Gates whose operands come first, each once under its number, and with the same operands where two have one variable.
pub record AreNested (IsGate : ConeGate → Type 0) : Type 0 where
  pub positive : (g : ConeGate) → IsGate g → is_negated g.output ≡ false
  pub numbered : (g h : ConeGate) → IsGate g → IsGate h → g.id ≡ h.id → g ≡ h
  pub same_first : (g h : ConeGate) → IsGate g → IsGate h → variable_of g.output ≡ variable_of h.output → g.first ≡ h.first
  pub same_second : (g h : ConeGate) → IsGate g → IsGate h → variable_of g.output ≡ variable_of h.output → g.second ≡ h.second
  pub first_early : (g h : ConeGate) → IsGate g → IsGate h → variable_of g.first ≡ variable_of h.output → HasGate IsGate (g.id + 2) (variable_of h.output)
  pub second_early : (g h : ConeGate) → IsGate g → IsGate h → variable_of g.second ≡ variable_of h.output → HasGate IsGate (g.id + 2) (variable_of h.output)

pub none_or_some : {X : Type 0} → (o : Option X) → (o ≡ None) ⊎ ((x : X) × (o ≡ Some x))
none_or_some None = inl refl
none_or_some (Some x) = inr (x, refl)

no_some : {X : Type 0} → (o : Option X) → is_some o ≡ false → o ≡ None
no_some None e = refl
no_some (Some x) e = absurd (false≢true (sym e))

module _ (IsGate : ConeGate → Type 0) (nested : AreNested IsGate) where
  -- gates of one variable have one output, and the same operands by any twins
  same_output : (g h : ConeGate) → IsGate g → IsGate h → variable_of g.output ≡ variable_of h.output → g.output ≡ h.output
  same_output g h is there same =
      sym (plain_is g.output (nested.positive g is)) ∙ (ap plain same ∙ plain_is h.output (nested.positive h there))

  pub one_variable : (twins : ℕ → Option Twin) (g h : ConeGate) → IsGate g → IsGate h → variable_of g.output ≡ variable_of h.output → operands_of twins g ≡ operands_of twins h
  one_variable twins g h is there same =
      ap (λ (l : SatLit). in_order (representative twins l) (representative twins g.second)) (nested.same_first g h is there same)
      ∙ ap (λ (l : SatLit). in_order (representative twins h.first) (representative twins l)) (nested.same_second g h is there same)

  module _ (limit count : ℕ) (gate : ConeGate) (is_gate : IsGate gate) (next : gate.id + 2 ≡ limit) where
    -- a gate below the next limit is this one or was gone over
    this_or_early : (g : ConeGate) → IsVisited IsGate (limit + 1) g → (g ≡ gate) ⊎ IsVisited IsGate limit g
    this_or_early g visited =
        elim (cases_eq g.id gate.id) [
          | inl same ↦ inl (nested.numbered g gate visited.is_gate is_gate same)
          | inr other ↦ inr (record { is_gate = visited.is_gate; early = omega (arith, visited.early, other, next) })
        ]

    later : (g : ConeGate) → IsVisited IsGate limit g → IsVisited IsGate (limit + 1) g
    later g visited = record { is_gate = visited.is_gate; early = omega (arith, visited.early) }

    later_gate : (v : ℕ) → HasGate IsGate limit v → HasGate IsGate (limit + 1) v
    later_gate v has = record { gate = has.gate; visited = later has.gate has.visited; variable_is = has.variable_is }

    this_visited : IsVisited IsGate (limit + 1) gate
    this_visited = record { is_gate = is_gate; early = omega (arith, next) }

    -- a gate of its variable was gone over, so the first with its operands was found then
    again : (clauses : List (List SatLit)) (firsts : SatLit × SatLit → Option ConeGate) (twins : ℕ → Option Twin) → AreMerged IsGate limit count clauses firsts twins → HasGate IsGate limit (variable_of gate.output) → IsFound firsts twins gate
    again clauses firsts twins merged has =
        let found = merged.found has.gate has.visited in
        let same = one_variable twins has.gate gate has.visited.is_gate is_gate has.variable_is in
        let output = same_output has.gate gate has.visited.is_gate is_gate has.variable_is in
        record {
          first = found.first;
          found = ap firsts (sym same) ∙ found.found;
          stands = ap (representative twins) (sym output) ∙ found.stands;
          before = omega (arith, found.before, has.visited.early, next);
        }

    -- ---- the gate is the first with its operands

    pub kept_more : (clauses : List (List SatLit)) (firsts new : SatLit × SatLit → Option ConeGate) (twins : ℕ → Option Twin) → AreMerged IsGate limit count clauses firsts twins → firsts (operands_of twins gate) ≡ None → ((p : SatLit × SatLit) → new p ≡ cond (same_operands (operands_of twins gate) p) (Some gate) (firsts p)) → AreMerged IsGate (limit + 1) count clauses new twins
    kept_more clauses firsts new twins merged absent grown = record {
      are_twins = merged.are_twins;
      have_gates = λ v twin is. later_gate v (merged.have_gates v twin is);
      kept = λ p g is. kept_at p g (cases_Bool (same_operands own p)) (sym (grown p) ∙ is);
      found = λ g visited. elim (this_or_early g visited) [ inl same ↦ subst (IsFound new twins) (sym same) found_here | inr early ↦ found_before g early ];
      sound = merged.sound;
    }
      where
        own : SatLit × SatLit
        own = operands_of twins gate

        itself : twins (variable_of gate.output) ≡ None
        itself =
            elim (none_or_some (twins (variable_of gate.output))) [
              | inl none ↦ none
              | inr (twin, is) ↦
                  let found = again clauses firsts twins merged (merged.have_gates (variable_of gate.output) twin is) in
                  let clash : None ≡ Some found.first = sym absent ∙ found.found in
                  cc
            ]

        kept_at : (p : SatLit × SatLit) (g : ConeGate) → (same_operands own p ≡ true) ⊎ (same_operands own p ≡ false) → cond (same_operands own p) (Some gate) (firsts p) ≡ Some g → IsKept IsGate (limit + 1) twins p g
        kept_at p g (inl same) is =
            let this : gate ≡ g = same_Some gate g (sym (ap (λ b. cond b (Some gate) (firsts p)) same) ∙ is) in
            subst (IsKept IsGate (limit + 1) twins p) this (record { visited = this_visited; operands_are = sym (operands_same own p same); itself = itself })
        kept_at p g (inr other) is =
            let old = merged.kept p g (sym (ap (λ b. cond b (Some gate) (firsts p)) other) ∙ is) in
            record { visited = later g old.visited; operands_are = old.operands_are; itself = old.itself }

        found_here : IsFound new twins gate
        found_here = record {
          first = gate;
          found = grown own ∙ ap (λ b. cond b (Some gate) (firsts own)) (operands_from own own refl);
          stands = ap (λ o. twin_literal o gate.output) itself;
          before = omega arith;
        }

        found_before : (g : ConeGate) → IsVisited IsGate limit g → IsFound new twins g
        found_before g early =
            let old = merged.found g early in
            let p = operands_of twins g in
            let apart : same_operands own p ≡ false = false_from_ne_true (same_operands own p) (λ same.
            let clash : None ≡ Some old.first = sym absent ∙ (ap firsts (operands_same own p same) ∙ old.found) in
            cc) in
            record {
              first = old.first;
              found = grown p ∙ (ap (λ b. cond b (Some gate) (firsts p)) apart ∙ old.found);
              stands = old.stands;
              before = old.before;
            }

    -- ---- the gate has the first one's variable, or was joined to it

    pub joined_more : (clauses : List (List SatLit)) (firsts : SatLit × SatLit → Option ConeGate) (twins : ℕ → Option Twin) (first : ConeGate) → AreMerged IsGate limit count clauses firsts twins → firsts (operands_of twins gate) ≡ Some first → ((variable_of gate.output == variable_of first.output) || is_some (twins (variable_of gate.output))) ≡ true → AreMerged IsGate (limit + 1) count clauses firsts twins
    joined_more clauses firsts twins first merged there joined = record {
      are_twins = merged.are_twins;
      have_gates = λ v twin is. later_gate v (merged.have_gates v twin is);
      kept = λ p g is.
          let old = merged.kept p g is in
          record { visited = later g old.visited; operands_are = old.operands_are; itself = old.itself };
      found = λ g visited. elim (this_or_early g visited) [ inl same ↦ subst (IsFound firsts twins) (sym same) found_here | inr early ↦ merged.found g early ];
      sound = merged.sound;
    }
      where
        old : IsKept IsGate limit twins (operands_of twins gate) first
        old = merged.kept (operands_of twins gate) first there

        found_here : IsFound firsts twins gate
        found_here =
            elim (or_cases (variable_of gate.output == variable_of first.output) (is_some (twins (variable_of gate.output))) joined) [
              | inl same ↦
                  let v = eqb-true (variable_of gate.output) (variable_of first.output) same in
                  let output = same_output gate first is_gate old.visited.is_gate v in
                  record {
                    first = first;
                    found = there;
                    stands = ap (representative twins) output ∙ ap (λ o. twin_literal o first.output) old.itself;
                    before = omega (arith, old.visited.early, next);
                  }
              | inr some ↦
                  elim (none_or_some (twins (variable_of gate.output))) [
                    | inl none ↦ absurd (false≢true (ap is_some (sym none) ∙ some))
                    | inr (twin, is) ↦ again clauses firsts twins merged (merged.have_gates (variable_of gate.output) twin is)
                  ]
            ]

    -- ---- the gate is made one with the first

    pub equated_more : (clauses more : List (List SatLit)) (firsts : SatLit × SatLit → Option ConeGate) (twins new : ℕ → Option Twin) (first : ConeGate) → AreMerged IsGate limit count clauses firsts twins → firsts (operands_of twins gate) ≡ Some first → ((variable_of gate.output == variable_of first.output) || is_some (twins (variable_of gate.output))) ≡ false → count ≤ length clauses → more ≡ clauses ++ (opposite first.output ∷ gate.output ∷ []) ∷ (first.output ∷ opposite gate.output ∷ []) ∷ [] → ((v : ℕ) → new v ≡ cond (variable_of gate.output == v) (Some (record { first = first.output; to_variable = length clauses; from_variable = length clauses + 1 })) (twins v)) → AreMerged IsGate (limit + 1) count more firsts new
    equated_more clauses more firsts twins new first merged there unjoined enough grown twinned = record {
      are_twins = λ v twin is. twin_at v twin (cases_Bool (w == v)) (sym (twinned v) ∙ is);
      have_gates = λ v twin is. gate_at v twin (cases_Bool (w == v)) (sym (twinned v) ∙ is);
      kept = kept_still;
      found = λ g visited. elim (this_or_early g visited) [ inl same ↦ subst (IsFound firsts new) (sym same) found_here | inr early ↦ found_before g early ];
      sound = sound_still;
    }
      where
        w : ℕ
        w = variable_of gate.output

        own : Twin
        own = record { first = first.output; to_variable = length clauses; from_variable = length clauses + 1 }

        old : IsKept IsGate limit twins (operands_of twins gate) first
        old = merged.kept (operands_of twins gate) first there

        apart : w ≢ variable_of first.output
        apart e = false≢true (sym (or_parts (w == variable_of first.output) (is_some (twins w)) unjoined).0 ∙ eq-eqb w (variable_of first.output) e)

        none : twins w ≡ None
        none = no_some (twins w) (or_parts (w == variable_of first.output) (is_some (twins w)) unjoined).1

        -- no gate of its variable was gone over
        fresh : HasGate IsGate limit w → ⊥
        fresh has =
            let found = again clauses firsts twins merged has in
            let same : found.first ≡ first = same_Some found.first first (sym found.found ∙ there) in
            let stands : gate.output ≡ first.output = ap (λ o. twin_literal o gate.output) (sym none) ∙ (found.stands ∙ ap (λ (g : ConeGate). g.output) same) in
            apart (ap variable_of stands)

        -- so what stands for another variable stays
        stays : (l : SatLit) → w ≢ variable_of l → representative new l ≡ representative twins l
        stays l other =
            ap (λ o. twin_literal o l) (twinned (variable_of l) ∙ ap (λ b. cond b (Some own) (twins (variable_of l))) (ne_eqb w (variable_of l) other))

        first_stays : (g : ConeGate) → IsGate g → g.id + 2 ≤ limit → representative new g.first ≡ representative twins g.first
        first_stays g is early =
            stays g.first (λ e.
            let has = nested.first_early g gate is is_gate (sym e) in
            fresh (record { gate = has.gate; visited = record { is_gate = has.visited.is_gate; early = omega (arith, has.visited.early, early) }; variable_is = has.variable_is }))

        second_stays : (g : ConeGate) → IsGate g → g.id + 2 ≤ limit → representative new g.second ≡ representative twins g.second
        second_stays g is early =
            stays g.second (λ e.
            let has = nested.second_early g gate is is_gate (sym e) in
            fresh (record { gate = has.gate; visited = record { is_gate = has.visited.is_gate; early = omega (arith, has.visited.early, early) }; variable_is = has.variable_is }))

        operands_stay : (g : ConeGate) → IsGate g → g.id + 2 ≤ limit → operands_of new g ≡ operands_of twins g
        operands_stay g is early =
            ap (λ (l : SatLit). in_order l (representative new g.second)) (first_stays g is early)
            ∙ ap (λ (l : SatLit). in_order (representative twins g.first) l) (second_stays g is early)

        output_apart : (g : ConeGate) → IsVisited IsGate limit g → w ≢ variable_of g.output
        output_apart g visited e = fresh (record { gate = g; visited = visited; variable_is = sym e })

        -- the lemmas are there
        lemmas : List (List SatLit)
        lemmas = (opposite first.output ∷ gate.output ∷ []) ∷ (first.output ∷ opposite gate.output ∷ []) ∷ []

        longer : length more ≡ length clauses + 2
        longer = ap length grown ∙ length-append clauses lemmas

        before : (k : ℕ) → k < length clauses → clause_at more k ≡ clause_at clauses k
        before k within = ap (λ (cs : List (List SatLit)). clause_at cs k) grown ∙ get_or_append_left clauses lemmas [] k within

        this_plain : plain w ≡ gate.output
        this_plain = plain_is gate.output (nested.positive gate is_gate)

        own_twin : IsTwin count more w own
        own_twin = record {
          late_to = enough;
          late_from = omega (arith, enough);
          there_to = omega (arith, longer);
          there_from = omega (arith, longer);
          to_variable = ap (λ (cs : List (List SatLit)). clause_at cs (length clauses)) grown ∙ (first_after clauses ∙ ap (λ (l : SatLit). opposite first.output ∷ l ∷ []) (sym this_plain));
          from_variable = ap (λ (cs : List (List SatLit)). clause_at cs (length clauses + 1)) grown ∙ (second_after clauses ∙ ap (λ (l : SatLit). first.output ∷ opposite l ∷ []) (sym this_plain));
        }
          where
            first_after : (cs : List (List SatLit)) → clause_at (cs ++ lemmas) (length cs) ≡ opposite first.output ∷ gate.output ∷ []
            first_after [] = refl
            first_after (c ∷ cs) = first_after cs

            second_after : (cs : List (List SatLit)) → clause_at (cs ++ lemmas) (length cs + 1) ≡ first.output ∷ opposite gate.output ∷ []
            second_after [] = refl
            second_after (c ∷ cs) =
                let e : suc (length cs) + 1 ≡ suc (length cs + 1) = omega arith in
                ap (clause_at (c ∷ (cs ++ lemmas))) e ∙ second_after cs

        twin_at : (v : ℕ) (twin : Twin) → ((w == v) ≡ true) ⊎ ((w == v) ≡ false) → cond (w == v) (Some own) (twins v) ≡ Some twin → IsTwin count more v twin
        twin_at v twin (inl same) is =
            let this : own ≡ twin = same_Some own twin (sym (ap (λ b. cond b (Some own) (twins v)) same) ∙ is) in
            subst (λ (u : ℕ). IsTwin count more u twin) (eqb-true w v same) (subst (IsTwin count more w) this own_twin)
        twin_at v twin (inr other) is =
            twin_later count clauses more v twin (omega (arith, longer)) before (merged.are_twins v twin (sym (ap (λ b. cond b (Some own) (twins v)) other) ∙ is))

        gate_at : (v : ℕ) (twin : Twin) → ((w == v) ≡ true) ⊎ ((w == v) ≡ false) → cond (w == v) (Some own) (twins v) ≡ Some twin → HasGate IsGate (limit + 1) v
        gate_at v twin (inl same) is =
            record { gate = gate; visited = this_visited; variable_is = eqb-true w v same }
        gate_at v twin (inr other) is =
            later_gate v (merged.have_gates v twin (sym (ap (λ b. cond b (Some own) (twins v)) other) ∙ is))

        kept_still : (p : SatLit × SatLit) (g : ConeGate) → firsts p ≡ Some g → IsKept IsGate (limit + 1) new p g
        kept_still p g is =
            let was = merged.kept p g is in
            record {
              visited = later g was.visited;
              operands_are = was.operands_are ∙ sym (operands_stay g was.visited.is_gate (omega (arith, was.visited.early)));
              itself = twinned (variable_of g.output) ∙ (ap (λ b. cond b (Some own) (twins (variable_of g.output))) (ne_eqb w (variable_of g.output) (output_apart g was.visited)) ∙ was.itself);
            }

        found_before : (g : ConeGate) → IsVisited IsGate limit g → IsFound firsts new g
        found_before g early =
            let was = merged.found g early in
            record {
              first = was.first;
              found = ap firsts (operands_stay g early.is_gate (omega (arith, early.early))) ∙ was.found;
              stands = stays g.output (output_apart g early) ∙ was.stands;
              before = was.before;
            }

        own_there : new w ≡ Some own
        own_there = twinned w ∙ ap (λ b. cond b (Some own) (twins w)) (eq-eqb w w refl)

        found_here : IsFound firsts new gate
        found_here = record {
          first = first;
          found = ap firsts (operands_stay gate is_gate (omega (arith, next))) ∙ there;
          stands = ap (λ o. twin_literal o gate.output) own_there ∙ ap (λ b. cond b (opposite first.output) first.output) (nested.positive gate is_gate);
          before = omega (arith, old.visited.early, next);
        }

        -- the two have one tree
        sound_still : (same : SatLit → SatLit → Bool) → IsCongruence IsGate same → (l : SatLit) → same l (representative new l) ≡ true
        sound_still same is l =
            elim (cases_eq w (variable_of l)) [
              | inl this ↦ by_sign this (cases_Bool (is_negated l))
              | inr other ↦ ap (same l) (stays l other) ∙ merged.sound same is l
            ]
          where
            -- two literals with one representative are the same
            meet : (a b : SatLit) → representative twins a ≡ representative twins b → same a b ≡ true
            meet a b e =
                is.transitive a (representative twins a) b (merged.sound same is a) (ap (λ (x : SatLit). same x b) e ∙ is.symmetric b (representative twins b) (merged.sound same is b))

            outputs : same gate.output first.output ≡ true
            outputs =
                elim (in_order_same (representative twins gate.first) (representative twins gate.second) (representative twins first.first) (representative twins first.second) old.operands_are) [
                  | inl (e, f) ↦ is.gates gate first is_gate old.visited.is_gate (meet gate.first first.first e) (meet gate.second first.second f)
                  | inr (e, f) ↦ is.exchanged gate first is_gate old.visited.is_gate (meet gate.first first.second e) (meet gate.second first.first f)
                ]

            here : w ≡ variable_of l → representative new l ≡ cond (is_negated l) (opposite first.output) first.output
            here this = ap (λ o. twin_literal o l) (ap new (sym this) ∙ own_there)

            by_sign : w ≡ variable_of l → (is_negated l ≡ true) ⊎ (is_negated l ≡ false) → same l (representative new l) ≡ true
            by_sign this (inl negated) =
                let it : opposite gate.output ≡ l = ap opposite (sym this_plain) ∙ (ap (λ v. opposite (plain v)) this ∙ negated_is l negated) in
                let to : representative new l ≡ opposite first.output = here this ∙ ap (λ b. cond b (opposite first.output) first.output) negated in
                ap (same l) to ∙ (ap (λ (x : SatLit). same x (opposite first.output)) (sym it) ∙ is.opposites gate.output first.output outputs)
            by_sign this (inr free) =
                let it : gate.output ≡ l = sym this_plain ∙ (ap plain this ∙ plain_is l free) in
                let to : representative new l ≡ first.output = here this ∙ ap (λ b. cond b (opposite first.output) first.output) free in
                ap (same l) to ∙ (ap (λ (x : SatLit). same x first.output) (sym it) ∙ outputs)
