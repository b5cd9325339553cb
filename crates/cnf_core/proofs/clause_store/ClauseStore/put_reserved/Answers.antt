-- The clause is one piece more.
use Rattle.std.proofs.Common.{◌≡◌, ◌+◌, [], ◌∷◌, ◌++◌, None, length, sym, ap, subst, ◌∙◌, arith}
use Rattle.std.proofs.lemmas.List.{length-append}
use Rattle.cnf_core.specs.Stores.{Stored, AreEnds, pieces}
use Rattle.cnf_core.proofs.StoreLemmas.{ends_more, pieces_more}
use Rattle.cnf_core.proofs.clause_store.ClauseStore.put_reserved.Goals as goal

pub invariant_of-self : goal.invariant_of-self
invariant_of-self c =
    let old = c.self.inside in
    let new = c.append_reserved.new.literals in
    let last : c.len.result ≡ length old.literals.items + length c.args.clause.now = omega (arith, c.len.ensures, c.append_reserved.ensures.len, old.literals.ok.0) in
    let total : length new.items ≡ length old.literals.items + length c.args.clause.now = ap length c.append_reserved.ensures.items ∙ length-append old.literals.items c.args.clause.now in
    let ends = c.push_reserved.ensures.items ∙ ap (λ n. old.ends.items ++ n ∷ []) last in
    record {
      ends_are = subst (λ es. AreEnds 0 es (length new.items)) (sym ends) (subst (AreEnds 0 (old.ends.items ++ (length old.literals.items + length c.args.clause.now) ∷ [])) (sym total) (ends_more 0 (length old.literals.items) (length c.args.clause.now) old.ends.items c.self.invariant.ends_are));
      room_is = tt;
    }

pub returns : goal.returns
returns c =
    let old = c.self.inside in
    let new = c.append_reserved.new.literals in
    let last : c.len.result ≡ length old.literals.items + length c.args.clause.now = omega (arith, c.len.ensures, c.append_reserved.ensures.len, old.literals.ok.0) in
    let ends = c.push_reserved.ensures.items ∙ ap (λ n. old.ends.items ++ n ∷ []) last in
    let more : pieces 0 c.push_reserved.new.self.items new.items ≡ c.args.self.now.clauses ++ c.args.clause.now ∷ [] =
    ap (λ es. pieces 0 es new.items) ends
    ∙ (ap (pieces 0 (old.ends.items ++ (length old.literals.items + length c.args.clause.now) ∷ [])) c.append_reserved.ensures.items
    ∙ (pieces_more 0 old.ends.items old.literals.items c.args.clause.now c.self.invariant.ends_are ∙ ap (λ (s : Stored). s.clauses ++ c.args.clause.now ∷ []) c.self.view_is)) in
    ap (λ cs. record { clauses = cs; room = None }) more
