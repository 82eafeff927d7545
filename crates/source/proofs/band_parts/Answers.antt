use Rattle.source.proofs.Fetch.{band-cut}
use Rattle.source.proofs.band_parts.Goals as goal

pub returns : goal.returns
returns c = band-cut c.args.x
