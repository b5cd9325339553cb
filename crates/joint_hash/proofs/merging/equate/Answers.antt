-- Both lemmas are derived by the chain of clauses from the one gate to the other.
use Rattle.std.proofs.Common.{◌≡◌, ◌==◌, ℕ, ◌+◌, cond, Some, List, [], ◌∷◌, ◌++◌, length, inl, inr, sym, subst, ap, ◌∙◌, arith, append_assoc, length-append}
use Rattle.std.proofs.lemmas.List.{length-map}
use Rattle.std.proofs.lemmas.Result.{on_ok_weaker}
use Rattle.cnf_core.specs.declared.literal.SatLit.{SatLit}
use Rattle.cnf_core.specs.declared.log.LogLine.{LogLine}
use Rattle.cnf_core.specs.Clauses.{opposite, variable_of}
use Rattle.cnf_core.specs.Derivations.{clauses_of}
use Rattle.claim_core.specs.Formulas.{query_clauses}
use Rattle.joint_hash.specs.declared.twins.Twin.{Twin}
use Rattle.joint_hash.specs.Chains.{AreListed, LeadOn}
use Rattle.joint_hash.specs.Merging.{AreBetween}
use Rattle.joint_hash.specs.Classes.{twin_of}
use Rattle.joint_hash.proofs.ChainLemmas.{lemma_leads, lemma_leads_back, twins_after}
use Rattle.joint_hash.proofs.GateLemmas.{gate_has, gate_inner, gate_known, gate_there}
use Rattle.joint_hash.proofs.ListedLemmas.{chain_between, chain_listed}
use Rattle.cnf_core.proofs.LiteralLemmas.{variable_of-opposite}
use Rattle.joint_hash.proofs.merging.equate.Goals as goal

pub chain-requires : goal.chain-requires
chain-requires c =
    let cones = c.args.cones.now in
    record {
      start = omega (arith, gate_there cones.graphs cones.query c.args.first.now c.requires.first, c.count.ensures.value, c.count.ensures.few);
      end = omega (arith, gate_there cones.graphs cones.query c.args.gate.now c.requires.gate, c.count.ensures.value, c.count.ensures.few);
    }

pub chain-requires-2 : goal.chain-requires-2
chain-requires-2 c =
    let cones = c.args.cones.now in
    record {
      start = omega (arith, gate_there cones.graphs cones.query c.args.gate.now c.requires.gate, c.count.ensures.value, c.count.ensures.few);
      end = omega (arith, gate_there cones.graphs cones.query c.args.first.now c.requires.first, c.count.ensures.value, c.count.ensures.few);
    }

pub add_lemma-requires-clause-one : goal.add_lemma-requires-clause-one
add_lemma-requires-clause-one c =
    let cones = c.args.cones.now in
    let known = gate_known cones.graphs cones.query c.args.first.now c.requires.fits c.requires.first in
    omega (arith, ap variable_of c.opposite.ensures, variable_of-opposite c.args.first.now.output, known)

pub add_lemma-requires-clause-other : goal.add_lemma-requires-clause-other
add_lemma-requires-clause-other c = gate_known c.args.cones.now.graphs c.args.cones.now.query c.args.gate.now c.requires.fits c.requires.gate

pub add_lemma-requires-clause-leads : goal.add_lemma-requires-clause-leads
add_lemma-requires-clause-leads c =
    let cones = c.args.cones.now in
    let first = c.args.first.now in
    let gate = c.args.gate.now in
    let front = query_clauses cones.graphs cones.query in
    let lines = clauses_of c.args.lines.now.items in
    let twins = twin_of c.args.twins.now.entries in
    let leads = lemma_leads (length front) (front ++ lines) twins c.requires.twins first gate (gate_has cones.graphs cones.query lines first c.requires.first) (gate_has cones.graphs cones.query lines gate c.requires.gate) c.requires.operands in
    subst (λ (l : SatLit). LeadOn (front ++ lines) (opposite l ∷ opposite gate.output ∷ []) c.deref.result.now) (sym c.opposite.ensures) (subst (LeadOn (front ++ lines) (opposite (opposite first.output) ∷ opposite gate.output ∷ [])) (sym (c.deref.ensures.value ∙ c.in_ok-there.ensures)) leads)

pub add_lemma-requires-clause-listed : goal.add_lemma-requires-clause-listed
add_lemma-requires-clause-listed c =
    let cones = c.args.cones.now in
    let front = query_clauses cones.graphs cones.query in
    let lines = clauses_of c.args.lines.now.items in
    let twins = twin_of c.args.twins.now.entries in
    subst (AreListed (length front) cones.ids) (sym (c.deref.ensures.value ∙ c.in_ok-there.ensures)) (chain_listed cones.graphs cones.query cones.ids (length front) (front ++ lines) twins c.args.first.now c.args.gate.now c.ids-ids.ensures.are c.requires.twins c.requires.first c.requires.gate)

pub add_lemma-requires-2-clause-listed : goal.add_lemma-requires-2-clause-listed
add_lemma-requires-2-clause-listed c =
    let cones = c.args.cones.now in
    let front = query_clauses cones.graphs cones.query in
    let lines = clauses_of c.args.lines.now.items in
    let twins = twin_of c.args.twins.now.entries in
    subst (AreListed (length front) cones.ids) (sym (c.deref-2.ensures.value ∙ c.in_ok-back.ensures)) (chain_listed cones.graphs cones.query cones.ids (length front) (front ++ lines) twins c.args.gate.now c.args.first.now c.ids-ids.ensures.are c.requires.twins c.requires.gate c.requires.first)

pub add_lemma-requires-2-clause-one : goal.add_lemma-requires-2-clause-one
add_lemma-requires-2-clause-one c = gate_known c.args.cones.now.graphs c.args.cones.now.query c.args.first.now c.requires.fits c.requires.first

pub add_lemma-requires-2-clause-other : goal.add_lemma-requires-2-clause-other
add_lemma-requires-2-clause-other c =
    let cones = c.args.cones.now in
    let known = gate_known cones.graphs cones.query c.args.gate.now c.requires.fits c.requires.gate in
    omega (arith, ap variable_of c.opposite-2.ensures, variable_of-opposite c.args.gate.now.output, known)

pub add_lemma-requires-2-clause-leads : goal.add_lemma-requires-2-clause-leads
add_lemma-requires-2-clause-leads c =
    let cones = c.args.cones.now in
    let first = c.args.first.now in
    let gate = c.args.gate.now in
    let front = query_clauses cones.graphs cones.query in
    let old = clauses_of c.args.lines.now.items in
    let lines = clauses_of c.add_lemma.new.lines.items in
    let twins = twin_of c.args.twins.now.entries in
    let are = twins_after (length front) front old ((c.opposite.result ∷ gate.output ∷ []) ∷ []) lines twins c.in_ok-add_lemma.ensures.clauses c.requires.twins in
    let leads = lemma_leads_back (length front) (front ++ lines) twins are gate first (gate_has cones.graphs cones.query lines gate c.requires.gate) (gate_has cones.graphs cones.query lines first c.requires.first) (sym c.requires.operands) in
    subst (λ (l : SatLit). LeadOn (front ++ lines) (opposite first.output ∷ opposite l ∷ []) c.deref-2.result.now) (sym c.opposite-2.ensures) (subst (LeadOn (front ++ lines) (opposite first.output ∷ opposite (opposite gate.output) ∷ [])) (sym (c.deref-2.ensures.value ∙ c.in_ok-back.ensures)) leads)

pub returns : goal.returns
returns c =
    let cones = c.args.cones.now in
    let first = c.args.first.now in
    let gate = c.args.gate.now in
    let front = query_clauses cones.graphs cones.query in
    let old = clauses_of c.args.lines.now.items in
    let one = c.in_ok-add_lemma.ensures.clauses in
    let two = c.in_ok-add_lemma-2.ensures.clauses in
    let count : c.count.result + c.len.result ≡ length (front ++ old) = omega (arith, c.count.ensures.value, c.len.ensures, length-append front old, length-map c.args.lines.now.items (λ (l : LogLine). l.clause)) in
    let twins = twin_of c.args.twins.now.entries in
    let made : ℕ → Twin = λ n. record { first = first.output; to_variable = n; from_variable = n + 1 } in
    on_ok_weaker c.put_twin.result (λ put. record {
      lemmas = c.in_ok-add_lemma-2.ensures.lemmas;
      clauses =
          two
          ∙ (ap (λ (cs : List (List SatLit)). cs ++ (first.output ∷ c.opposite-2.result ∷ []) ∷ []) one
          ∙ (append_assoc old ((c.opposite.result ∷ gate.output ∷ []) ∷ []) ((first.output ∷ c.opposite-2.result ∷ []) ∷ [])
          ∙ (ap (λ (l : SatLit). old ++ (l ∷ gate.output ∷ []) ∷ (first.output ∷ c.opposite-2.result ∷ []) ∷ []) c.opposite.ensures ∙ ap (λ (l : SatLit). old ++ (opposite first.output ∷ gate.output ∷ []) ∷ (first.output ∷ l ∷ []) ∷ []) c.opposite-2.ensures)));
      twins = λ v. put v ∙ (ap (λ (w : ℕ). cond (w == v) (Some (made (c.count.result + c.len.result))) (twins v)) c.variable.ensures ∙ ap (λ (n : ℕ). cond (variable_of gate.output == v) (Some (made n)) (twins v)) count);
    }) c.put_twin.ensures

pub add_lemma-requires-clause-implies : goal.add_lemma-requires-clause-implies
add_lemma-requires-clause-implies c =
    let cones = c.args.cones.now in
    let first = c.args.first.now in
    let gate = c.args.gate.now in
    let front = query_clauses cones.graphs cones.query in
    let twins = twin_of c.args.twins.now.entries in
    record {
      start = first;
      end = gate;
      is_start = gate_inner cones.graphs cones.query first c.requires.first;
      is_end = gate_inner cones.graphs cones.query gate c.requires.gate;
      clause = inl (ap (λ (l : SatLit). l ∷ gate.output ∷ []) c.opposite.ensures);
      between = subst (AreBetween (length front) first gate) (sym (c.deref.ensures.value ∙ c.in_ok-there.ensures)) (chain_between (length front) (front ++ clauses_of c.args.lines.now.items) twins first gate c.requires.twins);
    }

pub add_lemma-requires-2-clause-implies : goal.add_lemma-requires-2-clause-implies
add_lemma-requires-2-clause-implies c =
    let cones = c.args.cones.now in
    let first = c.args.first.now in
    let gate = c.args.gate.now in
    let front = query_clauses cones.graphs cones.query in
    let twins = twin_of c.args.twins.now.entries in
    record {
      start = gate;
      end = first;
      is_start = gate_inner cones.graphs cones.query gate c.requires.gate;
      is_end = gate_inner cones.graphs cones.query first c.requires.first;
      clause = inr (ap (λ (l : SatLit). first.output ∷ l ∷ []) c.opposite-2.ensures);
      between = subst (AreBetween (length front) gate first) (sym (c.deref-2.ensures.value ∙ c.in_ok-back.ensures)) (chain_between (length front) (front ++ clauses_of c.args.lines.now.items) twins gate first c.requires.twins);
    }
