use Rattle.source.proofs.Fetch.{file-top}
use Rattle.source.proofs.top_in_file.Goals as goal

pub returns : goal.returns
returns c = file-top _ _ _ c.whole.ensures c.padded-x.ensures
