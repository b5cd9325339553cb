use Rattle.std.proofs.Common.{◌+◌, ◌++◌, length, drop, sym, ap, subst, ◌∙◌}
use Rattle.std.proofs.lemmas.List.{drop-append-le}
use Rattle.account_file.specs.Reading.{Reading, IsReader, HasRead}
use Rattle.account_file.proofs.StepLemmas.{read_feed}
use Rattle.account_file.proofs.NextLemmas.{reader_fed}
use Rattle.account_file.proofs.reader.Reader.feed.Goals as goal

pub invariant_of-self-2 : goal.invariant_of-self-2
invariant_of-self-2 c =
    let inside = c.self.inside in
    let fed = reader_fed inside.bytes.items c.args.piece.now inside.start inside.looked inside.line inside.fault inside.total c.self.invariant in
    subst (λ items. IsReader items inside.start inside.looked inside.line inside.fault (inside.total + length c.args.piece.now)) (sym c.in_ok-extend_from_slice.ensures.items) fed

pub returns-clause-reads : goal.returns-clause-reads
returns-clause-reads c = λ bytes records has.
    let inside = c.self.inside in
    let piece = c.args.piece.now in
    let seen = c.self.view_is ∙ c.drop_read.ensures in
    let old = subst (λ r. HasRead r bytes records) (sym seen) has in
    let reading : Reading = record {
      left = drop inside.start inside.bytes.items;
      finished = inside.finished;
      line = inside.line;
      place = inside.place;
      binary = inside.binary;
      fault = inside.fault;
      total = inside.total;
    } in
    let fed = read_feed reading bytes piece records (ap (λ (r : Reading). r.finished) seen ∙ c.requires.more) old in
    let left = ap (drop inside.start) c.in_ok-extend_from_slice.ensures.items ∙ drop-append-le inside.start inside.bytes.items piece c.self.invariant.within in
    subst (λ l. HasRead (record reading { left = l; total = inside.total + length piece }) (bytes ++ piece) records) (sym left) fed
