-- The read call's promise at each of its answers, and that it leaves nothing open.
use Prim.Native.Nat.{ℕ, ◌+◌, ◌*◌, ◌≤◌, ◌<◌}
use mathlib.Core.Path.{◌≡◌, sym, ◌∙◌, ap}
use mathlib.Core.Bool.{Bool}
use mathlib.Core.List.{List, ◌++◌}
use native.Mathlib.Omega.{arith}
use borrow.Author.Tests.{le-leb, lt-leb}
use lib.ListN.{length, drop}
use Rattle.answer.specs.Numbers.{Answer}
use Rattle.std.specs.Prelude.{Ok, Err}
use Rattle.answer.specs.declared.Refusal.{Refusal}
use Rattle.answer.specs.declared.Refusal.TheVariants.{Room}
use Rattle.std.specs.Prelude.{Ok, Err}
use Rattle.network.specs.declared.Size.{Size}
use Rattle.network.specs.Reading.{Found, refused, found, pick}
use Rattle.network.specs.Network.{Network, edition1, of_file}
use Rattle.network.specs.Fields.{numbers_of}
use Rattle.network.specs.Answers.{network_found}
use Rattle.network.proofs.Fields.{network-count}
use Rattle.network.proofs.Files.{SoundFile, sound-file}
use Rattle.read_call.specs.Read.{read_answer, listed, Reads}

of-refused : (x : Found Network) (why : Refusal) → network_found x ≡ Err why → x ≡ refused why
of-refused (refused w) why e = cc
of-refused (found n at) why e = cc

module _ (net list : List ℕ) (size : Size) (e : network_found (of_file net) ≡ Ok size) where
  file : SoundFile net size
  file = sound-file net size e

  -- how many numbers the network has
  count_is : 3 + 4 * size.legs + 2 * size.bands ≡ length (numbers_of edition1 file.net)
  count_is = omega (arith, network-count file.net, ap (λ (z : Size). z.legs) file.size_is, ap (λ (z : Size). z.bands) file.size_is)

  pub reads_short : length list < 3 + 4 * size.legs + 2 * size.bands → Reads net list list (Err Room)
  reads_short h =
      let ns = numbers_of edition1 file.net in
      let short = lt-leb (length ns) (length list) (omega (arith, count_is)) in
      record {
        answer_is =
            sym (ap (λ (x : Found Network). read_answer x (length list)) file.stands
            ∙ ap (λ (t : Bool). pick t (Ok (length ns)) (Err Room)) short);
        list_is =
            sym (ap (λ (x : Found Network). listed x list) file.stands
            ∙ ap (λ (t : Bool). pick t (ns ++ drop (length ns) list) list) short);
      }

  pub reads-done : (after : List ℕ) (n : ℕ) → n ≡ 3 + 4 * size.legs + 2 * size.bands → n ≤ length list → after ≡ listed (of_file net) list
      → Reads net list after (Ok n)
  reads-done after n count h l =
      let ns = numbers_of edition1 file.net in
      let room = le-leb (length ns) (length list) (omega (arith, count_is)) in
      let same : n ≡ length ns = count ∙ count_is in
      record {
        answer_is =
            ap Ok same
            ∙ sym (ap (λ (x : Found Network). read_answer x (length list)) file.stands
            ∙ ap (λ (t : Bool). pick t (Ok (length ns)) (Err Room)) room);
        list_is = l;
      }

-- two results that keep the promise on one input are equal
pub read-determined : (net list a b : List ℕ) (x y : Answer) → Reads net list a x → Reads net list b y → (x ≡ y) × (a ≡ b)
read-determined net list a b x y p q = (p.answer_is ∙ sym q.answer_is, p.list_is ∙ sym q.list_is)
