use Rattle.match_search.proofs.FreeLemmas.{taken_of}
use Rattle.match_search.proofs.choosing.is_free.Goals as goal

pub returns-in-Some-clause-taken : goal.returns-in-Some-clause-taken
returns-in-Some-clause-taken c = λ f below. taken_of c.args.domains.now.entries c.args.port.side c.args.port.kind c.args.port.number c.in-Some.field-0 c.in-Some.ensures.found
