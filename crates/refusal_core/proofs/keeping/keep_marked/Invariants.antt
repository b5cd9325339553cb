use Rattle.refusal_core.proofs.KeptLemmas.{AreFirst}
use Rattle.refusal_core.proofs.keeping.keep_marked.Given as goal

-- the marked ones up to a place stand first
abbrev pub invariant-loop-place : goal.invariant-loop-place
invariant-loop-place g l = AreFirst l.marks l.fn.list.items l.list.items l.count l.place
