-- The vectors with the codes so far agree.
use Rattle.std.proofs.Common.{ℕ, ◌<◌, ◌≡◌, vec_len}
use Rattle.circuits.specs.Literals.{vector_of}
use Rattle.circuits.specs.Matches.{AgreeOn}
use Rattle.circuits.proofs.plain.agree_on_all.Given as goal

abbrev pub invariant-loop-code : goal.invariant-loop-code
invariant-loop-code l = record {
  same_length : vec_len l.vector ≡ l.inputs;
  agreed : (c : ℕ) → c < l.code → AgreeOn l.first l.second l.p l.q (vector_of l.inputs c);
}
