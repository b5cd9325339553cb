use Rattle.match_search.proofs.StepLemmas.{goes_ok, gone_none}
use Rattle.match_search.proofs.asking.ask_alone.Goals as goal

pub returns-in-Input : goal.returns-in-Input
returns-in-Input g c = goes_ok (gone_none c.requires.may)
