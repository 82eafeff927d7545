use Prim.Native.Nat.{◌+◌, ◌-◌, ◌*◌, ◌≤◌}
use mathlib.Core.Path.{◌≡◌}
use Rattle.network.specs.Network.{edition1, bare, bands as bandsFrom}
use Rattle.network.proofs.Legs.{part_leg}
use Rattle.network.proofs.bands_from.Given as goal

abbrev pub invariant-loop-k : goal.invariant-loop-k
invariant-loop-k g l =
    (l.count ≤ 8) × (l.at ≤ 900000) × (l.place ≤ l.at + 28 * l.k)
    × (bandsFrom l.count 0 (bare edition1 l.head) (g.S.Origin.source l.source) l.at ≡ bandsFrom (l.count - l.k) l.least (part_leg l.head l.bands l.k) (g.S.Origin.source l.source) l.place)
