-- No list has a watch.
use Rattle.std.proofs.Common.{map, ◌∙◌, ap}
use Rattle.watch_lists.specs.Spans.{listed_in}
use Rattle.watch_lists.proofs.SpanLemmas.{none_view}
use Rattle.watch_lists.proofs.list_store.ListStore.new.Goals as goal

pub returns : goal.returns
returns c = ap (map (listed_in _)) c.in_ok-spans.ensures ∙ none_view c.args.count _
