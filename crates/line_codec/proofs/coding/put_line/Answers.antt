-- The numbers of both lists have 64 bits.
use Rattle.std.proofs.Common.{OnOk, subst}
use Rattle.line_codec.specs.LineBytes.{AreWords, literal_numbers}
use Rattle.line_codec.proofs.LineLemmas.{line_words}
use Rattle.line_codec.proofs.coding.put_line.Goals as goal

pub returns-clause-words : goal.returns-clause-words
returns-clause-words c =
    line_words c.put_hints.result c.args.line.now
    (subst (λ clause. AreWords (literal_numbers clause)) c.deref.ensures.value c.in_ok-put_clause.ensures.words)
    (subst (λ hints. OnOk c.put_hints.result (AreWords hints)) c.deref-2.ensures.value c.put_hints.ensures.words)
