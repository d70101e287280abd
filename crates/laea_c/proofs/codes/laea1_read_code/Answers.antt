-- The call returns and writes what the answer tells. Assumes nothing.
use Rattle.laea_c.proofs.CallLaws.{code_read_answered}
use Rattle.laea_c.proofs.codes.laea1_read_code.Goals as goal

pub returns : goal.returns
returns c = code_read_answered _ c.read_code.ensures.1 c.answer.ensures.value c.answer.ensures.out_after
