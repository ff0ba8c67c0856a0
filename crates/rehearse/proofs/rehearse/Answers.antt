-- `rehearse::rehearse`: the record is in its buffer.
use Rattle.rehearsal.proofs.ResultSizes.{result_small}
use Rattle.rehearse.proofs.rehearse.Goals as goal

pub shared_ref_as_front-write_all : goal.shared_ref_as_front-write_all
shared_ref_as_front-write_all g c = (result_small _ _ _ _ _ _ _ _ c.in-Ok.ensures.rehearses).length
