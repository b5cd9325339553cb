-- Faults of several sorts exclude one another, and flat circuits are the same by any numbering.
use Rattle.std.proofs.Common.{length}
use Rattle.blif_reader.specs.Blif.{blif_lines}
use Rattle.hier_blif.proofs.OneHierLemmas.{one_fault_of_lines, lines_or_fault, one_hierarchy}
use Rattle.hier_blif.proofs.laws.hier_blif_is_a_format.Goals as goal

pub returns : goal.returns
returns c = record {
  one = λ bytes. one_hierarchy (length bytes) (blif_lines bytes);
  apart = λ bytes. lines_or_fault (length bytes) (blif_lines bytes);
  one_fault = λ bytes. one_fault_of_lines (length bytes) (blif_lines bytes);
}
