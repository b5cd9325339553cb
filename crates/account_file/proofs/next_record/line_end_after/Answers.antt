use Rattle.std.proofs.Common.{◌≡◌, ◌+◌, ◌-◌, ℕ, length, take, drop, arith, sym, ap, ◌∙◌, length-drop, not}
use Rattle.std.specs.List.{position_or_len}
use Rattle.std.proofs.Math.Seq.{take-length}
use Rattle.std.proofs.lemmas.List.Sums.{prefix_len-le-length}
use Rattle.text_core.specs.Bytes.{is_line_feed}
use Rattle.account_file.proofs.NextLemmas as next
use Rattle.account_file.proofs.next_record.line_end_after.Goals as goal

module _ (c : goal.After-line_length) where
  whole : c.args.looked + c.line_length.result ≡ position_or_len is_line_feed c.args.bytes.now
  whole =
      let bytes = c.args.bytes.now in
      let rest : take (length bytes - c.args.looked) (drop c.args.looked bytes) ≡ drop c.args.looked bytes =
      ap (λ n. take n (drop c.args.looked bytes)) (sym (length-drop c.args.looked bytes)) ∙ take-length (drop c.args.looked bytes) in
      let found = c.line_length.ensures.count ∙ ap (position_or_len is_line_feed) rest in
      ap (λ n. c.args.looked + n) found ∙ next.line_end_after bytes c.args.looked c.requires

pub overflow_add-result : goal.overflow_add-result
overflow_add-result c =
    let e = whole c in
    let bound = prefix_len-le-length (λ (byte : ℕ). not (is_line_feed byte)) c.args.bytes.now in
    omega (arith, e, bound)

pub returns : goal.returns
returns c = whole c

pub returns-then-looked-count : goal.returns-then-looked-count
returns-then-looked-count c =
    let bound = prefix_len-le-length (λ (byte : ℕ). not (is_line_feed byte)) c.args.bytes.now in
    omega (arith, bound, c.requires, c.if-looked-count.true)
