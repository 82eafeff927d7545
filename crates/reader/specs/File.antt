-- Where the fields of a file of bytes end.
use Rattle.std.specs.Prelude.{ℕ, ◌-◌, ◌*◌, Bool, ◌&&◌, List, eqb, length}
use Rattle.bits.specs.Field.{field}
use Rattle.bits.specs.Packed.{bytes_for}

-- from this bit on there is nothing but fill: the last byte is filled with zero bits, and nothing follows
abbrev pub ends_at : List ℕ → ℕ → Bool
ends_at s at = eqb (length s) (bytes_for at) && eqb (field s at (8 * length s - at)) 0
