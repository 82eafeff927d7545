use Prim.Native.Nat.{◌+◌, ◌*◌, ◌≤◌}
use Rattle.network.specs.Network.{edition1}
use Rattle.network.proofs.Legs.{Passed}
use Rattle.network.proofs.body_from.Given as goal

abbrev pub invariant-loop-k : goal.invariant-loop-k
invariant-loop-k g l =
    (l.legs ≤ 512) × (l.at ≤ 1000) × (l.place ≤ l.at + 252 * l.k) × (l.bands ≤ 8 * l.k) × Passed edition1 l.places l.legs l.k (g.S.Origin.source l.source) l.at l.place l.bands
