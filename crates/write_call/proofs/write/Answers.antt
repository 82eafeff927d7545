-- `write_call::write`: judged first, then the room, then the file into the front of the output.
use Prim.Native.Nat.{ℕ, ◌+◌, ◌*◌, ◌/◌}
use native.Mathlib.Omega.{arith}
use mathlib.Core.Path.{◌≡◌, sym, ◌∙◌}
use lib.Seq.{length-take-le}
use Rattle.network.specs.Reading.{found}
use Rattle.network.specs.Network.{Network, of_list}
use Rattle.network.specs.Answers.{size_of}
use Rattle.write_call.specs.Write.{file_length}
use Rattle.write_call.proofs.Whole.{Sizes, sizes}
use Rattle.write_call.proofs.Results.{network-of-sound, writes-room, writes-done}
use Rattle.write_call.proofs.write.Goals.{In_ok-size}
use Rattle.write_call.proofs.write.Goals as goal

-- the network that the list stands for
judged : (c : In_ok-size)
    → (net : Network) × (end : ℕ) × (of_list c.args.list.now ≡ found net end) × (c.in_ok-size.size ≡ size_of net)
judged c = network-of-sound (of_list c.args.list.now) c.in_ok-size.size (sym c.network_from.ensures ∙ c.in_ok-size.was)

few : (c : In_ok-size) → Sizes c.in_ok-size.size (file_length (judged c).0)
few c =
    let j = judged c in
    sizes c.args.list.now j.0 j.1 c.in_ok-size.size j.2 j.3

pub returns : goal.returns
returns c =
    let told = (goal.at.returns c).In_ok-size in
    let j = judged told in
    let a = c.args in
    writes-done a.list.now a.out.now j.0 j.1 j.2 _ c.put_file.new.out (omega (arith, (few told).bytes_are, c.div_ceil-bytes.ensures)) (omega arith) c.put_file.ensures

pub returns-then-out-bytes : goal.returns-then-out-bytes
returns-then-out-bytes c =
    let told = (goal.at.returns-then-out-bytes c).In_ok-size in
    let j = judged told in
    let a = c.args in
    writes-room a.list.now a.out.now j.0 j.1 j.2 (omega (arith, (few told).bytes_are, c.div_ceil-bytes.ensures))

pub overflow_mul-size : goal.overflow_mul-size
overflow_mul-size c = let f = few (goal.at.overflow_mul-size c).In_ok-size in omega (arith, f.legs_few, f.bands_few)

pub overflow_add-size : goal.overflow_add-size
overflow_add-size c = let f = few (goal.at.overflow_add-size c).In_ok-size in omega (arith, f.legs_few, f.bands_few)

pub overflow_mul-size-2 : goal.overflow_mul-size-2
overflow_mul-size-2 c = let f = few (goal.at.overflow_mul-size-2 c).In_ok-size in omega (arith, f.legs_few, f.bands_few)

pub overflow_add-size-2 : goal.overflow_add-size-2
overflow_add-size-2 c = let f = few (goal.at.overflow_add-size-2 c).In_ok-size in omega (arith, f.legs_few, f.bands_few)

pub overflow_cast-result : goal.overflow_cast-result
overflow_cast-result c = let f = few (goal.at.overflow_cast-result c).In_ok-size in omega (arith, f.legs_few, f.bands_few)

pub put_file-requires : goal.put_file-requires
put_file-requires c =
    let told = (goal.at.put_file-requires c).In_ok-size in
    let j = judged told in
    let size = c.in_ok-size.size in
    let long = length-take-le c.div_ceil-bytes.result c.args.out.now (omega arith) in
    record { net = j.0; end = j.1; read = j.2; sized = j.3; exact = omega (arith, long, (few told).bytes_are, c.div_ceil-bytes.ensures) }
