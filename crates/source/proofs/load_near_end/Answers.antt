-- Written out, so that a wrong count of fields is refused here.
use Rattle.source.proofs.load_near_end.Goals as goal

pub returns : goal.returns
returns c = (c.padded.ensures, c.whole.ensures)
