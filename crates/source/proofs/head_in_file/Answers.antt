use Rattle.source.proofs.Fetch.{file-head}
use Rattle.source.proofs.head_in_file.Goals as goal

pub returns : goal.returns
returns c = file-head _ _ _ _ c.load-x.ensures.1 (c.head_parts.ensures _ _ c.load-x.ensures.0)
