-- The round trip through the read call and the write call, both ways.
use Prim.Native.Nat.{ℕ, ◌≤◌}
use mathlib.Core.Path.{◌≡◌, refl, sym, ◌∙◌, ap, subst}
use mathlib.Core.Bool.{Bool, true, false}
use mathlib.Core.List.{List, ◌++◌}
use native.Mathlib.Omega.{arith}
use borrow.Author.Tests.{le-leb}
use lib.Dec.{leb}
use lib.ListN.{length, take, drop}
use lib.Seq.{take_at}
use Rattle.answer.specs.Numbers.{Answer}
use Rattle.std.specs.Prelude.{Ok, Err}
use Rattle.answer.specs.declared.Refusal.TheVariants.{Room}
use Rattle.bits.specs.Packed.{bits_of, Packed}
use Rattle.bits.proofs.Packing.{packed-unique}
use Rattle.source.specs.Source.{file_of, list_of}
use Rattle.network.specs.Reading.{Found, refused, found, pick}
use Rattle.network.specs.Network.{Network, edition1, of_file, of_list}
use Rattle.network.specs.Fields.{fields_of, numbers_of}
use Rattle.network.proofs.RoundTrip.{accepted-packed, accepted-listed, file-reads-back, list-reads-back}
use Rattle.read_call.specs.Read.{read_answer, listed, Reads}
use Rattle.write_call.specs.Write.{file_length, if_room, write_answer, Writes}
use Rattle.round_trip.specs.RoundTrip.{Leaves, FileRoundTrip, ListRoundTrip}

-- a read call that is done: the network of its file, whose numbers it listed
record Listing (file list after : List ℕ) (n : ℕ) : Type 0 where
  net : Network
  end : ℕ
  stands : of_file file ≡ found net end
  front : take n after ≡ numbers_of edition1 net

listing : (file list after : List ℕ) (n : ℕ) → Reads file list after (Ok n) → Listing file list after n
listing file list after n r = go (of_file file) refl r.answer_is r.list_is
  where
    done : (net : Network) (t : Bool)
        → Ok n ≡ pick t (Ok (length (numbers_of edition1 net))) (Err Room)
        → after ≡ pick t (numbers_of edition1 net ++ drop (length (numbers_of edition1 net)) list) list
        → take n after ≡ numbers_of edition1 net
    done net true a l =
        let ns = numbers_of edition1 net in
        let count : n ≡ length ns = cc in
        rw l (take_at ns (drop (length ns) list) n (sym count))
    done net false a l = cc

    go : (x : Found Network) → of_file file ≡ x → Ok n ≡ read_answer x (length list) → after ≡ listed x list → Listing file list after n
    go (refused why) e a l = let z : ◌≡◌ {A = ℕ} 0 1 = cc in absurd (omega arith)
    go (found net end) e a l =
        record { net = net; end = end; stands = e; front = done net (leb (length (numbers_of edition1 net)) (length list)) a l }

-- a write call that is done: the network of its list, whose file it wrote
record Filing (list out after : List ℕ) (n : ℕ) : Type 0 where
  net : Network
  end : ℕ
  stands : of_list list ≡ found net end
  packed : Packed (fields_of edition1 net) (take n after)

filing : (list out after : List ℕ) (n : ℕ) → Writes list out after (Ok n) → Filing list out after n
filing list out after n w = go (of_list list) refl w.answered
  where
    size : (k : ℕ) (t : Bool) → Ok n ≡ if_room t k → n ≡ k
    size k true a = cc
    size k false a = cc

    go : (x : Found Network) → of_list list ≡ x → Ok n ≡ write_answer x (length out) → Filing list out after n
    go (refused why) e a = let z : ◌≡◌ {A = ℕ} 0 1 = cc in absurd (omega arith)
    go (found net end) e a =
        let f = w.written net end n e refl in
        let k : n ≡ length f.file = size (file_length net) (leb (file_length net) (length out)) a ∙ sym f.packed.size in
        let front : take n after ≡ f.file = ap (λ (l : List ℕ). take n l) f.front ∙ take_at f.file (drop (length f.file) out) n (sym k) in
        record { net = net; end = end; stands = e; packed = rw front f.packed }

-- a read call with room lists a network's numbers
reads-leaves : (file lent after : List ℕ) (answer : Answer) (net : Network) (end : ℕ) → of_file file ≡ found net end → length (numbers_of edition1 net) ≤ length lent
    → Reads file lent after answer → Leaves (numbers_of edition1 net) lent after answer
reads-leaves file lent after answer net end e room r =
    let ns = numbers_of edition1 net in
    let fits = le-leb (length ns) (length lent) room in
    record {
      done = r.answer_is ∙ ap (λ (x : Found Network). read_answer x (length lent)) e ∙ ap (λ (t : Bool). pick t (Ok (length ns)) (Err Room)) fits;
      left = r.list_is ∙ ap (λ (x : Found Network). listed x lent) e ∙ ap (λ (t : Bool). pick t (ns ++ drop (length ns) lent) lent) fits;
    }

-- a write call with room leaves a network's file
writes-leaves : (list out after file : List ℕ) (answer : Answer) (net : Network) (end : ℕ) → of_list list ≡ found net end → Packed (fields_of edition1 net) file
    → length file ≤ length out → Writes list out after answer → Leaves file out after answer
writes-leaves list out after file answer net end e packed room w =
    let whole : file_length net ≡ length file = sym packed.size in
    let fits : leb (file_length net) (length out) ≡ true = rw whole (le-leb (length file) (length out) room) in
    let done : answer ≡ Ok (length file) =
    w.answered ∙ ap (λ (x : Found Network). write_answer x (length out)) e ∙ ap (λ (t : Bool). if_room t (file_length net)) fits ∙ ap Ok whole in
    let f = w.written net end (length file) e done in
    let same : f.file ≡ file = packed-unique (fields_of edition1 net) f.file file f.packed packed in
    record { done = done; left = f.front ∙ ap (λ (s : List ℕ). s ++ drop (length s) out) same }

-- a file that is read and written again is the same file
pub file-round-trip : FileRoundTrip
file-round-trip file list after n small r out again answer room w =
    let d = listing file list after n r in
    let net = d.net in
    writes-leaves (take n after) out again file answer net (length (numbers_of edition1 net))
    (rw d.front (list-reads-back (file_of file) net d.end d.stands))
    (accepted-packed file net d.end d.stands small) room w

-- a list that is written and read again is the same list
pub list-round-trip : ListRoundTrip
list-round-trip list out after n w lent again answer room r =
    let d = filing list out after n w in
    let net = d.net in
    let same : numbers_of edition1 net ≡ list = sym (accepted-listed list net d.end d.stands) in
    let stands = file-reads-back (list_of list) net d.end d.stands (take n after) d.packed in
    subst (λ (l : List ℕ). Leaves l lent again answer) same
    (reads-leaves (take n after) lent again answer net (bits_of (fields_of edition1 net)) stands (omega (arith, ap length same)) r)
