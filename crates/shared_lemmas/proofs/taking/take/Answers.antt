-- A line is written, and has its number there.
use Rattle.std.proofs.Common.{rules, vec_len, ◌≡◌, ◌+◌, ◌<◌, length, Option, Some, [], ◌∷◌, ◌++◌, IfSome, slice_set, sym, ◌∙◌, ap, subst, arith}
use Rattle.cnf_core.specs.declared.log.LogLine.{LogLine}
use Rattle.cnf_core.specs.Derivations.{is_empty}
use Rattle.shared_lemmas.specs.Parts.{ArePlaced, AreWritten, IsRenumbered, MayGoOn}
use Rattle.shared_lemmas.proofs.PartLemmas.{filled_by, line_carried, one_more, one_written, written_as}
use Rattle.shared_lemmas.proofs.PlaceLemmas.{written_more}
use Rattle.shared_lemmas.proofs.taking.take.Goals as goal

pub returns-clause-placed : goal.returns-clause-placed
returns-clause-placed c =
    let count = c.args.common.count in
    let source = c.args.source.now in
    let target = c.args.target.now.items in
    let numbers = c.args.numbers.now.items in
    let place = c.args.place in
    let line = c.index-source-place.result in
    let own = c.in-Some.own in
    let found = subst (λ (o : Option LogLine). IfSome o (IsRenumbered c.args.common c.deref.result.now line)) c.in-Some.is c.in_ok-own.ensures in
    let is = subst (λ ns. IsRenumbered c.args.common ns line own) c.deref.ensures.value found in
    let low : place < length numbers = omega (arith, c.requires.there, c.requires.size) in
    let size : vec_len c.args.target.now ≡ length target = search rules in
    let placed = written_more count source target numbers own line place c.requires.placed c.requires.there low (is.clause ∙ ap (λ (l : LogLine). l.clause) c.index-source-place.is) in
    subst (λ ts. ArePlaced count source ts (slice_set numbers place (Some (count + c.len.result)))) (sym c.in_ok-push.ensures.items) (subst (λ n. ArePlaced count source (target ++ own ∷ []) (slice_set numbers place (Some (count + n)))) (sym (c.len.ensures ∙ size)) placed)

pub returns-clause-goes_on : goal.returns-clause-goes_on
returns-clause-goes_on c one other have derived goes =
    let source = c.args.source.now in
    let target = c.args.target.now.items in
    let numbers = c.args.numbers.now.items in
    let line = c.index-source-place.result in
    let own = c.in-Some.own in
    let found = subst (λ (o : Option LogLine). IfSome o (IsRenumbered c.args.common c.deref.result.now line)) c.in-Some.is c.in_ok-own.ensures in
    let is = subst (λ ns. IsRenumbered c.args.common ns line own) c.deref.ensures.value found in
    let good = line_carried c.args.common one other source target numbers have c.requires.placed c.args.place line line own derived goes c.requires.there (sym c.index-source-place.is) is in
    let filled = ap is_empty is.clause ∙ filled_by line.clause c.is_empty.result c.is_empty.ensures c.if-is_empty.false in
    subst (MayGoOn other) (sym c.in_ok-push.ensures.items) (one_more other target own goes good filled)

pub returns-clause-written : goal.returns-clause-written
returns-clause-written c =
    let count = c.args.common.count in
    let source = c.args.source.now in
    let target = c.args.target.now.items in
    let numbers = c.args.numbers.now.items in
    let line = c.index-source-place.result in
    let own = c.in-Some.own in
    let found = subst (λ (o : Option LogLine). IfSome o (IsRenumbered c.args.common c.deref.result.now line)) c.in-Some.is c.in_ok-own.ensures in
    let is = subst (λ ns. IsRenumbered c.args.common ns line own) c.deref.ensures.value found in
    subst (AreWritten count source target) (sym c.in_ok-push.ensures.items) (one_written count source target own (record {
      line = line;
      there = (c.args.place, c.requires.there, sym c.index-source-place.is);
      is = written_as c.args.common numbers source target line own c.requires.placed is;
    }))
