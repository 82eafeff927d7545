use native.Mathlib.Omega.{arith}
use borrow.Rule.Slice.PartMut.{same_len_mid}
use Rattle.std.proofs.lemmas.List.{places}
use Rattle.bits.proofs.Stores.{low_bytes}
use Rattle.bits.proofs.scatter.Goals as goal

pub returns : goal.returns
returns c =
    let a = c.args in
    let part = c.copy_from_slice.ensures.after in
    let bytes = c.to_be_bytes.ensures in
    record {
      same_length = same_len_mid _ _ _ _ c.copy_from_slice.ensures.len;
      bytes_before = λ j h. grind (arith, places);
      bytes_after = λ j h. grind (arith, places);
      holds = low_bytes _ a.i a.count a.word c.requires.0 c.requires.2 (omega (arith, c.ranges.word)) (λ k h. grind (arith, places));
    }
