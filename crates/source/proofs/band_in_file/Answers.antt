use Rattle.source.proofs.Fetch.{file-band}
use Rattle.source.proofs.band_in_file.Goals as goal

pub returns : goal.returns
returns c = file-band _ _ _ _ c.load-x.ensures.1 (c.band_parts.ensures _ _ c.load-x.ensures.0)
