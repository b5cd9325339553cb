-- No bytes begin with two values: the laws that each kind of value states. Proofs are in `PrefixProofs`.
use Rattle.byte_form.specs.Codes.{IsPrefixCode}
use Rattle.account_bytes.specs.Bodies.{Always, ClaimHasPorts, HasPorts, IsLiteral, IsReference, LineFits, ShapeHasPorts}
use Rattle.account_bytes.specs.Bodies.{bit_bytes, claim_bytes, kind_bytes, line_bytes, literal_bytes, pair_bytes}
use Rattle.account_bytes.specs.Bodies.{BanFits, StepFits, ban_bytes, step_bytes}
use Rattle.account_bytes.specs.Bodies.{reference_bytes, shape_bytes}
use Rattle.account_bytes.specs.Bodies.{side_bytes, tri_bytes}
use Rattle.account_bytes.specs.PrefixProofs as proof

-- a bit is told by its byte, whatever follows
pub bit_code : IsPrefixCode bit_bytes Always
bit_code = proof.bit_code

-- inputs and outputs are told apart by their byte, whatever follows
pub kind_code : IsPrefixCode kind_bytes Always
kind_code = proof.kind_code

-- the two circuits are told apart by their byte, whatever follows
pub side_code : IsPrefixCode side_bytes Always
side_code = proof.side_code

-- the values 0, 1 and either are told apart by their byte, whatever follows
pub tri_code : IsPrefixCode tri_bytes Always
tri_code = proof.tri_code

-- a literal of 64 bits is told by its eight bytes
pub literal_code : IsPrefixCode literal_bytes IsLiteral
literal_code = proof.literal_code

-- a pair is told by its bytes, whatever follows
pub pair_code : IsPrefixCode pair_bytes HasPorts
pair_code = proof.pair_code

-- the ban that a cover names for a way is told by its bytes, and also that it names none
pub reference_code : IsPrefixCode reference_bytes IsReference
reference_code = proof.reference_code

-- how a claim's inputs change is told by its bytes, which show where they end
pub shape_code : IsPrefixCode shape_bytes ShapeHasPorts
shape_code = proof.shape_code

-- a claim is told by its bytes, whatever follows
pub claim_code : IsPrefixCode claim_bytes ClaimHasPorts
claim_code = proof.claim_code

-- a line of a log is told by its bytes, whatever follows
pub line_code : IsPrefixCode line_bytes LineFits
line_code = proof.line_code

-- the step of a ban is told by its bytes, of whichever kind it is
pub step_code : IsPrefixCode step_bytes StepFits
step_code = proof.step_code

-- a ban is told by its bytes, whatever follows
pub ban_code : IsPrefixCode ban_bytes BanFits
ban_code = proof.ban_code
