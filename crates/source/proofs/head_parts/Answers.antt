use Rattle.source.proofs.Fetch.{head-cut}
use Rattle.source.proofs.head_parts.Goals as goal

pub returns : goal.returns
returns c = head-cut c.args.x
