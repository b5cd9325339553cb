use Rattle.std.proofs.Common.{map, sym, ap, ◌∙◌}
use Rattle.hier_blif.proofs.EntryLemmas.{kept_of, number_kept, number_put}
use Rattle.hier_blif.proofs.numbers.NameNumbers.put.Goals as goal

pub returns-then-contains_key-clause-ok : goal.returns-then-contains_key-clause-ok
returns-then-contains_key-clause-ok c =
    number_kept c.self.inside.inside.entries c.args.self.now c.args.name c.args.number c.self.view_is (sym c.contains_key.ensures ∙ c.if-contains_key.true)

pub returns-clause-ok : goal.returns-clause-ok
returns-clause-ok c =
    ap (map kept_of) c.in_ok-insert.ensures.entries
    ∙ number_put c.self.inside.inside.entries c.args.self.now c.args.name c.args.number c.self.view_is (sym c.contains_key.ensures ∙ c.if-contains_key.false)
