use Prim.Native.Nat.{ℕ, ◌≤◌}
use native.Mathlib.Omega.{arith}
use mathlib.Core.Path.{◌≡◌, refl, ap, subst, ◌∙◌}
use mathlib.Core.List.{List}
use Rattle.std.specs.Prelude.{Ok}
use Rattle.network.specs.declared.sound_file.SoundFile.{SoundFile}
use Rattle.network.specs.Network.{of_file}
use Rattle.network.specs.Answers.{network_found}
use Rattle.network.proofs.Files.{sound-file, sound-size}
use Rattle.read_call.specs.Read.{listed}
use Rattle.read_call.proofs.Results.{reads_short, reads-done}
use Rattle.read_call.proofs.read.Goals.{In_ok-file}
use Rattle.read_call.proofs.read.Goals as goal

-- the file that was judged is the one that was lent
sound : (c : In_ok-file) → network_found (of_file c.args.net.now) ≡ Ok c.in_ok-file.file.size
sound c = let file = c.in_ok-file.file in subst (λ (s : List ℕ). network_found (of_file s) ≡ Ok file.size) c.in_ok-file.ensures file.sound

pub returns-then-room-count : goal.returns-then-room-count
returns-then-room-count c = reads_short _ _ _ (sound (goal.at.returns-then-room-count c).In_ok-file) c.if-room-count.true

pub returns : goal.returns
returns c =
    reads-done _ _ _ (sound (goal.at.returns c).In_ok-file) _ _ refl c.if-room-count.false
    (c.list_network.ensures ∙ ap (λ (s : List ℕ). listed (of_file s) c.args.list.now) c.in_ok-file.ensures)

-- how large the network can be
small : (file : SoundFile) → (file.size.places ≤ 64) × (file.size.legs ≤ 512) × (file.size.bands ≤ 4096)
small file = sound-size file.net.now file.size (sound-file file.net.now file.size file.sound)

pub overflow_mul-count : goal.overflow_mul-count
overflow_mul-count c = omega (arith, small c.in_ok-file.file)

pub overflow_add-count : goal.overflow_add-count
overflow_add-count c = omega (arith, small c.in_ok-file.file)

pub overflow_mul-count-2 : goal.overflow_mul-count-2
overflow_mul-count-2 c = omega (arith, small c.in_ok-file.file)

pub overflow_add-count-2 : goal.overflow_add-count-2
overflow_add-count-2 c = omega (arith, small c.in_ok-file.file)

pub overflow_cast-result : goal.overflow_cast-result
overflow_cast-result c = omega (arith, small c.in_ok-file.file)
