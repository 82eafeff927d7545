-- Laws of several puts: one, two parts in either order, and what they leave of a zeroed file.
use Prim.Native.Nat.{ℕ, zero, suc, ◌+◌}
use native.Mathlib.Omega.{arith}
use mathlib.Core.Path.{◌≡◌, refl, ◌∙◌}
use mathlib.Core.List.{List, [], ◌∷◌, ◌++◌}
use lib.ListN.{length, get_or, replicate}
use Rattle.bits.specs.Field.{Put}
use Rattle.bits.specs.Packed.{Entry, item, bits_of, bytes_for, Packed}
use Rattle.bits.proofs.Bytes.{bit-of-zero}
use Rattle.bits.proofs.Packing.{bits-append, holds-none, holds-cons, holds-append, holds_same}
use Rattle.plan_file.specs.Puts.{Puts}

-- one field
pub puts_one : {s t : List ℕ} {at w v : ℕ} → Put s t at w v → Puts s t at (item w v ∷ [])
puts_one {s} {t} {at} {w} {v} h =
    record {
      same_length = h.same_length;
      holds = holds-cons t at (item w v) [] h.holds (holds-none t (at + w));
      bits_before = h.bits_before;
      bits_after = λ p from. h.bits_after p (omega arith);
      byte = h.byte;
    }

-- fields, and then those behind them
pub puts_then : {s t u : List ℕ} {at : ℕ} {fs gs : List Entry} → Puts s t at fs → Puts t u (at + bits_of fs) gs → Puts s u at (fs ++ gs)
puts_then {s} {t} {u} {at} {fs} {gs} h k =
    let total : bits_of (fs ++ gs) ≡ bits_of fs + bits_of gs = bits-append fs gs in
    record {
      same_length = k.same_length ∙ h.same_length;
      holds = holds-append u at fs gs (holds_same u t at fs (λ p from to. k.bits_before p to) h.holds) k.holds;
      bits_before = λ p to. k.bits_before p (omega arith) ∙ h.bits_before p to;
      bits_after = λ p from. k.bits_after p (omega arith) ∙ h.bits_after p (omega arith);
      byte = k.byte;
    }

-- fields, and then those in front of them
pub puts-front : {s t u : List ℕ} {at : ℕ} {fs gs : List Entry} → Puts s t (at + bits_of fs) gs → Puts t u at fs → Puts s u at (fs ++ gs)
puts-front {s} {t} {u} {at} {fs} {gs} h k =
    let total : bits_of (fs ++ gs) ≡ bits_of fs + bits_of gs = bits-append fs gs in
    record {
      same_length = k.same_length ∙ h.same_length;
      holds = holds-append u at fs gs k.holds (holds_same u t (at + bits_of fs) gs (λ p from to. k.bits_after p from) h.holds);
      bits_before = λ p to. k.bits_before p to ∙ h.bits_before p (omega arith);
      bits_after = λ p from. k.bits_after p (omega arith) ∙ h.bits_after p (omega arith);
      byte = k.byte;
    }

-- into zeros, as many bytes as the fields need: the file
pub puts-packed : {s t : List ℕ} {fs : List Entry} → ((i : ℕ) → get_or s i 0 ≡ 0) → length s ≡ bytes_for (bits_of fs) → Puts s t 0 fs → Packed fs t
puts-packed {s} {t} {fs} zeros size h =
    record {
      size = h.same_length ∙ size;
      written =
          record {
            holds = h.holds;
            fill = λ p from. h.bits_after p (omega arith) ∙ bit-of-zero s p (zeros _);
            byte = h.byte;
          };
    }

-- zeros
pub zeros-are : (n i : ℕ) → get_or {A = ℕ} (replicate n 0) i 0 ≡ 0
zeros-are zero i = refl
zeros-are (suc n) zero = refl
zeros-are (suc n) (suc i) = zeros-are n i
