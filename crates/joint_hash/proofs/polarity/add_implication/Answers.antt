-- The gates that lines join stay joined.
use Rattle.joint_hash.proofs.JoiningLemmas.{joining_kept}
use Rattle.joint_hash.proofs.polarity.add_implication.Goals as goal

pub add_implied-requires-clause-lemmas : goal.add_implied-requires-clause-lemmas
add_implied-requires-clause-lemmas c = c.requires.joining.lemmas

pub returns-then-not-branch : goal.returns-then-not-branch
returns-then-not-branch c =
    let cones = c.args.cones.now in
    joining_kept cones.graphs cones.query c.args.lines.now.items c.add_implied.new.lines.items c.requires.joining c.in_ok-add_implied.ensures.lemmas c.in_ok-add_implied.ensures.kept

pub returns : goal.returns
returns c =
    let cones = c.args.cones.now in
    joining_kept cones.graphs cones.query c.args.lines.now.items c.add_implied.new.lines.items c.requires.joining c.in_ok-add_implied.ensures.lemmas c.in_ok-add_implied.ensures.kept
