use Rattle.std.proofs.Common.{◌≡◌, ◌++◌, take}
use Rattle.std.specs.List.{flat_map}
use Rattle.hier_blif.specs.Names.{actual, binds_port}
use Rattle.hier_blif.proofs.PushLemmas.{those}
use Rattle.hier_blif.proofs.names.Scope.add_bound.Given as goal

abbrev pub invariant-loop-word : goal.invariant-loop-word
invariant-loop-word l =
    l.words.items ≡ l.initial.words.items ++ flat_map (those actual (binds_port l.kind l.self.models.now l.line)) (take l.word-index l.line.bindings)
