-- The whole promise, from what the parts of the call leave; and that it determines the result.
use Prim.Native.Nat.{ℕ, ◌≤◌, ◌<◌}
use mathlib.Core.Path.{◌≡◌, refl, sym, ap, ◌∙◌}
use mathlib.Core.List.{List, ◌++◌}
use native.Mathlib.Omega.{arith}
use borrow.Author.Tests.{le-leb, lt-leb}
use mathlib.Core.Bool.{true}
use lib.Dec.{leb}
use lib.ListN.{length, drop}
use Rattle.answer.specs.declared.Refusal.{Refusal}
use Rattle.answer.specs.declared.Refusal.TheVariants.{Room}
use Rattle.answer.specs.Numbers.{Answer}
use Rattle.std.specs.Prelude.{Ok, Err}
use Rattle.bits.proofs.Packing.{packed-unique}
use Rattle.network.specs.declared.Size.{Size}
use Rattle.network.specs.Reading.{Found, refused, found}
use Rattle.network.specs.Network.{Network, edition1, of_list}
use Rattle.network.specs.Answers.{size_of, network_found}
use Rattle.network.specs.Fields.{fields_of}
use Rattle.write_call.specs.Write.{file_length, write_answer, Writes}
use Rattle.write_call.specs.Steps.{FileOf}

-- what the judging function's answer tells of the list
pub network-of-refused : (x : Found Network) (why : Refusal) → network_found x ≡ Err why → x ≡ refused why
network-of-refused (refused w) why e = cc
network-of-refused (found net at) why e = cc

pub network-of-sound : (x : Found Network) (size : Size) → network_found x ≡ Ok size
    → (net : Network) × (end : ℕ) × (x ≡ found net end) × (size ≡ size_of net)
network-of-sound (refused w) size e = let z : ◌≡◌ {A = ℕ} 0 1 = cc in absurd (omega arith)
network-of-sound (found net at) size e = (net, at, refl, cc)

never : {B : Type 0} (why : Refusal) (n : ℕ) → ◌≡◌ {A = Answer} (Err why) (Ok n) → B
never why n e = let z : ◌≡◌ {A = ℕ} 0 1 = cc in absurd (omega arith)

pub writes-refused : (list out : List ℕ) (why : Refusal) → of_list list ≡ refused why → Writes list out out (Err why)
writes-refused list out why e =
    record {
      answered = sym (ap (λ (f : Found Network). write_answer f (length out)) e);
      kept = λ w q. refl;
      written = λ net end n f q. never why n q;
    }

module _ (list out : List ℕ) (net : Network) (end : ℕ) (e : of_list list ≡ found net end) where
  pub writes-room : length out < file_length net → Writes list out out (Err Room)
  writes-room short =
      record {
        answered = sym (ap (λ (f : Found Network). write_answer f (length out)) e ∙ simp (lt-leb (file_length net) (length out) short));
        kept = λ w q. refl;
        written = λ m f n g q. never Room n q;
      }

  pub writes-done : (n : ℕ) (file : List ℕ) → n ≡ file_length net → n ≤ length out → FileOf list file → Writes list out (file ++ drop n out) (Ok n)
  writes-done n file whole room is =
      let within : leb (file_length net) (length out) ≡ true = rw (← whole) (le-leb n (length out) room) in
      record {
        answered = ap Ok whole ∙ sym (ap (λ (f : Found Network). write_answer f (length out)) e ∙ simp within);
        kept = λ w q. never w n (sym q);
        written = λ m f k g q. record { file = file; packed = is m f g; front = rw ((is net end e).size, whole) };
      }

-- two results that keep the promise on one input are one
same_after : (list out a b : List ℕ) (answer : Answer) (x : Found Network) → of_list list ≡ x → answer ≡ write_answer x (length out)
    → Writes list out a answer → Writes list out b answer → a ≡ b
same_after list out a b (Err why) x e q v w = v.kept why refl ∙ sym (w.kept why refl)
same_after list out a b (Ok n) (refused why) e q v w = never why n (sym q)
same_after list out a b (Ok n) (found net end) e q v w =
    let f = v.written net end n e refl in
    let g = w.written net end n e refl in
    let same : f.file ≡ g.file = packed-unique (fields_of edition1 net) f.file g.file f.packed g.packed in
    f.front ∙ ap (λ (s : List ℕ). s ++ drop (length s) out) same ∙ sym g.front

pub write-determined : (list out a b : List ℕ) (x y : Answer) → Writes list out a x → Writes list out b y → (x ≡ y) × (a ≡ b)
write-determined list out a b x y v w =
    let same : x ≡ y = v.answered ∙ sym w.answered in
    (same, same_after list out a b x (of_list list) refl v.answered v (rw (← same) at w))
