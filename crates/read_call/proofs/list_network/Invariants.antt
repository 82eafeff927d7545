-- `read_call::list_network`: the legs passed are listed, and the next stands just behind the last one's bands.
use Prim.Native.Nat.{◌+◌, ◌*◌, ◌≤◌}
use mathlib.Core.Path.{◌≡◌}
use lib.ListN.{length}
use Rattle.read_call.proofs.Listing.{Listing}
use Rattle.read_call.proofs.list_network.Given as goal

abbrev pub invariant-loop-k : goal.invariant-loop-k
invariant-loop-k l =
    (l.legs ≤ 512) × (l.place ≤ 25 + 252 * l.k) × (length l.list ≡ length l.initial.list) × Listing l.file.net.now l.places l.legs l.k l.place l.at l.initial.list l.list
