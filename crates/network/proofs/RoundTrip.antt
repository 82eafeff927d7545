-- A network goes into a file and into a list of numbers and comes back; its file and its list are the only ones.
use Prim.Native.Nat.{ℕ, ◌-◌, ◌*◌, ◌<◌}
use mathlib.Core.Path.{◌≡◌, refl, ◌∙◌}
use mathlib.Core.Bool.{true}
use mathlib.Core.List.{List, append-nil}
use native.Mathlib.Omega.{arith}
use borrow.Author.Tests.{eqb-true, eq-eqb}
use lib.Dec.{eqb}
use lib.ListN.{length, get_or}
use lib.Seq.{drop-length}
use Rattle.bits.specs.Field.{field}
use Rattle.bits.specs.Packed.{bits_of, bytes_for, Packed}
use Rattle.bits.proofs.Packing.{packed-of-read, packed-fill, packed-unique}
use Rattle.source.specs.Source.{Source, file_of, list_of}
use Rattle.network.specs.Reading.{found}
use Rattle.network.specs.Network.{Network, edition1, network, of_file, of_list}
use Rattle.network.specs.Fields.{fields_of, numbers_of}
use Rattle.source.proofs.Laws.{both_true}
use Rattle.network.proofs.Carries.{holds-of-carried, carried-of-holds, values-of-carried, carried-of-values}
use Rattle.network.proofs.Traces.{network-trace}

-- a file that stands for a network is the file of the network's fields
pub accepted-packed : (s : List ℕ) (net : Network) (end : ℕ) → of_file s ≡ found net end → ((i : ℕ) → get_or s i 0 < 256) → Packed (fields_of edition1 net) s
accepted-packed s net end e bytes =
    let fs = fields_of edition1 net in
    let t = network-trace (file_of s) net end e in
    let h = holds-of-carried s 0 fs end t.carried in
    let place : end ≡ bits_of fs = omega (arith, h.1) in
    let last = both_true (eqb (length s) (bytes_for end)) (eqb (field s end (8 * length s - end)) 0) t.ends in
    packed-of-read fs s
    (rw place at (eqb-true (length s) (bytes_for end) last.0))
    h.0
    (rw place at (eqb-true (field s end (8 * length s - end)) 0 last.1))
    bytes

-- a list that stands for a network is the list of the network's numbers
pub accepted-listed : (l : List ℕ) (net : Network) (end : ℕ) → of_list l ≡ found net end → l ≡ numbers_of edition1 net
accepted-listed l net end e =
    let t = network-trace (list_of l) net end e in
    let last : end ≡ length l = eqb-true end (length l) t.ends in
    values-of-carried l 0 (fields_of edition1 net) end t.carried ∙ rw (last, drop-length) (append-nil (numbers_of edition1 net))

module _ (src : Source) (net : Network) (end : ℕ) (e : network edition1 src 0 ≡ found net end) where
  -- the file of a network that was found, in a file or in a list, stands for that network
  pub file-reads-back : (f : List ℕ) → Packed (fields_of edition1 net) f → of_file f ≡ found net (bits_of (fields_of edition1 net))
  file-reads-back f p =
      let fs = fields_of edition1 net in
      let n = bits_of fs in
      let size : eqb (length f) (bytes_for n) ≡ true = eq-eqb (length f) (bytes_for n) p.size in
      let fill : eqb (field f n (8 * length f - n)) 0 ≡ true = eq-eqb (field f n (8 * length f - n)) 0 (packed-fill p (8 * length f - n)) in
      (network-trace src net end e).replays (file_of f) n
      (carried-of-holds f 0 fs n p.written.holds (omega arith) (omega (arith, p.size)))
      (simp (size, fill))

  -- and so does the list of its numbers
  pub list-reads-back : of_list (numbers_of edition1 net) ≡ found net (length (numbers_of edition1 net))
  list-reads-back =
      let l = numbers_of edition1 net in
      (network-trace src net end e).replays (list_of l) (length l)
      (carried-of-values l 0 (fields_of edition1 net) (omega arith) refl)
      (eq-eqb (length l) (length l) refl)

-- two files that stand for one network are the same bytes
pub one-file : (net : Network) (a b : List ℕ) (m n : ℕ) → of_file a ≡ found net m → of_file b ≡ found net n
    → ((i : ℕ) → get_or a i 0 < 256) → ((i : ℕ) → get_or b i 0 < 256) → a ≡ b
one-file net a b m n p q small slight =
    packed-unique (fields_of edition1 net) a b (accepted-packed a net m p small) (accepted-packed b net n q slight)
