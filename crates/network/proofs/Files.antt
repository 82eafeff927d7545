-- A file that was judged sound: the network that it stands for, and its legs from bit 25 on.
use Prim.Native.Nat.{ℕ, ◌≤◌}
use mathlib.Core.Path.{◌≡◌, sym, ◌∙◌, subst}
use mathlib.Core.List.{List, []}
use native.Mathlib.Omega.{arith}
use Rattle.source.specs.Source.{file_of}
use Rattle.std.specs.Prelude.{Ok}
use Rattle.network.specs.declared.Size.{Size}
use Rattle.network.specs.Reading.{found}
use Rattle.network.specs.Network.{Network, edition1, legs, of_file}
use Rattle.network.specs.Answers.{size_of, network_found}
use Rattle.network.proofs.Accepted.{accepted, size-of-sound}
use Rattle.network.proofs.Sound.{SoundNetwork, network-sound, bands_few}

pub record SoundFile (s : List ℕ) (size : Size) : Type 0 where
  pub net : Network
  pub end : ℕ
  pub stands : of_file s ≡ found net end
  pub size_is : size ≡ size_of net
  pub legs_read : legs edition1 size.places size.legs [] (file_of s) 25 ≡ found net.legs end
  pub sound : SoundNetwork net

pub sound-file : (s : List ℕ) (size : Size) → network_found (of_file s) ≡ Ok size → SoundFile s size
sound-file s size e =
    let f = size-of-sound (of_file s) size e in
    let a = accepted edition1 (file_of s) f.0 f.1 f.2 in
    record {
      net = f.0;
      end = f.1;
      stands = f.2;
      size_is = f.3;
      legs_read =
          subst (λ (z : Size). legs edition1 z.places z.legs [] (file_of s) 25 ≡ found f.0.legs f.1) (sym f.3)
          (rw a.top_read.end_is at a.legs_read);
      sound = network-sound (file_of s) f.0 f.1 f.2;
    }

-- a file stands for one network only
pub one-network : (s : List ℕ) (size : Size) (f : SoundFile s size) (net : Network) (end : ℕ) → of_file s ≡ found net end → net ≡ f.net
one-network s size f net end e = let both : found net end ≡ found f.net f.end = sym e ∙ f.stands in cc

-- how large a sound network can be
pub sound-size : (s : List ℕ) (size : Size) → SoundFile s size → (size.places ≤ 64) × (size.legs ≤ 512) × (size.bands ≤ 4096)
sound-size s size f =
    let few = bands_few f.net.places f.net.legs f.sound.each_leg in
    rw f.size_is (f.sound.few_places, f.sound.few_legs, omega (arith, few, f.sound.few_legs))
