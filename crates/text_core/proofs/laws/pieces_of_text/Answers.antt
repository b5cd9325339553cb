-- What stands before and after a part of a piece.
use Rattle.text_core.proofs.PieceLemmas.{StandsIn-front, StandsIn-past}
use Rattle.text_core.proofs.laws.pieces_of_text.Goals as goal

pub returns-clause-front : goal.returns-clause-front
returns-clause-front c = StandsIn-front

pub returns-clause-past : goal.returns-clause-past
returns-clause-past c = StandsIn-past
