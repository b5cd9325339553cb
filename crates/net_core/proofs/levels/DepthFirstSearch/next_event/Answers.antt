-- The first name that is not below decides the step; where there is none, the level is found.
use Rattle.std.proofs.Common.{ℕ, ◌≡◌, ◌+◌, ◌<◌, ◌∙◌, max, sym, ap, subst, length, get_or, take, arith}
use Rattle.circuits.specs.declared.definition.Def.{Def}
use Rattle.circuits.specs.Circuits.{Circuit, def_at, names_of, named_by}
use Rattle.circuits.specs.Levels.{HaveLevel}
use Rattle.net_core.proofs.SearchLaws.{event_close, HaveLevel-next}
use Rattle.net_core.specs.Search.{IsFound, left, positions}
use Rattle.net_core.proofs.levels.DepthFirstSearch.next_event.Goals as goal

-- what was looked at, with the name at the next place
looked_more : (circuit : Circuit) (def : Def) (steps d n s l m level : ℕ) → def ≡ def_at circuit d → n < length (named_by def) → s ≡ get_or (named_by def) n s → HaveLevel circuit (take n (names_of circuit d)) l → IsFound circuit steps s m → level ≡ max l m → HaveLevel circuit (take (n + 1) (names_of circuit d)) level
looked_more circuit def steps d n s l m level is h same have found e =
    subst (HaveLevel circuit (take (n + 1) (names_of circuit d))) (sym e) (HaveLevel-next circuit d n s l m (omega (arith, ap (λ (x : Def). length (named_by x)) is)) (same ∙ ap (λ (x : Def). get_or (named_by x) n s) is) have found.has)

pub loop-next-preserved : goal.loop-next-preserved
loop-next-preserved c =
    let steps = left c.args.self.now.visits.items (positions c.args.self.now.stack.items) in
    record {
      have = looked_more c.args.net.now c.def_at-def.result.now steps c.args.frame.position c.loop-next.next c.name.result c.loop-next.highest c.in-Finished.level c.max-highest.result c.def_at-def.ensures.value (omega arith) c.name.ensures c.loop-next.invariant.have c.in-Finished.ensures c.max-highest.ensures;
      few = omega (arith, c.in-Finished.ensures.few);
    }

pub returns : goal.returns
returns c =
    event_close c.args.net.now c.args.self.now.visits.items (positions c.args.self.now.stack.items) c.args.frame.position c.loop-next.next c.loop-next.highest (c.loop-next.highest + 1) (omega arith) c.requires.there (omega (arith, ap (λ (x : Def). length (named_by x)) c.def_at-def.ensures.value)) c.loop-next.invariant.have c.loop-next.invariant.few
