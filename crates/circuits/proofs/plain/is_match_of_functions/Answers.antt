-- The ports and the agreement are the match.
use Rattle.circuits.proofs.MatchLaws.{IfOk-like, match_from_all}
use Rattle.circuits.proofs.plain.is_match_of_functions.Goals as goal

pub returns : goal.returns
returns c =
    let first = c.args.first.now in
    let second = c.args.second.now in
    let p = c.args.p.now in
    let q = c.args.q.now in
    IfOk-like c.agree_on_all.result (match_from_all first second p q (c.have_ports.ensures.0 c.if-not-have_ports.false)) (λ matches. matches.agree) c.agree_on_all.ensures
