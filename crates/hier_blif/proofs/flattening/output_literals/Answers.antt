use Rattle.std.proofs.Common.{All, List, Bor, ℕ, sym, subst}
use Rattle.hier_blif.specs.Frames.{models_in, IsNameOf}
use Rattle.hier_blif.proofs.flattening.output_literals.Goals as goal

pub signal_of-requires-clause-name : goal.signal_of-requires-clause-name
signal_of-requires-clause-name c =
    let known = subst (λ (keys : List (Bor (List ℕ))). All (λ key. IsNameOf (models_in c.args.blocks.now) c.args.top.now key.now) keys) (sym c.as_slice-name-items.ensures.keys) c.requires.names in
    known c.loop-name.name-index _ c.loop-name-test.true
