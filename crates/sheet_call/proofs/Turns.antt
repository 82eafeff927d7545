-- What the loops keep, and one turn of each.
use Prim.Native.Nat.{ℕ, suc, ◌+◌, ◌-◌, ◌*◌, ◌/◌, ◌≤◌, ◌<◌}
use native.Mathlib.Omega.{arith}
use mathlib.Core.Path.{◌≡◌, refl, sym, ap, ◌∙◌, subst}
use mathlib.Core.List.{List, [], ◌∷◌, ◌++◌}
use lib.ListN.{length, get_or, drop}
use Rattle.bits.specs.Field.{Put}
use Rattle.bits.specs.Packed.{Entry, item, bits_of}
use Rattle.plan.specs.Network.{Minute, Cents}
use Rattle.plan.specs.Sheet.{Step}
use Rattle.plan_file.specs.Puts.{Puts}
use Rattle.plan_file.proofs.Puts.{puts_one, puts-front}
use Rattle.rows.specs.Whole.{row_of}
use Rattle.rows.proofs.Wholes.{row-length}
use Rattle.walk.proofs.Nets.{row_room}
use Rattle.sheet_call.specs.Rows.{step_to, steps_from, steps_of, places_from, sheet_in}
use Rattle.sheet_file.specs.Fields.{step_fields, steps_fields, place_fields, places_fields}
use Rattle.sheet_call.specs.Parts.{Counted, RoomAt, Table, Weighed}
use Rattle.sheet_call.proofs.Stepping.{from_end, from-lower, from-same, fields-none, fields-more, steps-bits, place-bits, places-none, places-more, places-bits, Left, left-done, left-more}
use Rattle.sheet_call.proofs.Rows.{places-end, places-next}

-- ---- the steps of a row are counted

pub record Counting (row : List ℕ) (was : Cents) (count k : ℕ) : Type 0 where
  pub within : k ≤ length row
  pub few : count ≤ k
  pub rest : (t : Minute) → count + length (steps_from (t + k) was (drop k row)) ≡ length (steps_of t row)

module _ (row : List ℕ) (was : Cents) (count k : ℕ) (c : Counting row was count k) where
  pub counting-done : length row ≤ k → Counted row count
  counting-done h =
      record { few = omega (arith, c.few, c.within); count = λ t. omega (arith, c.rest t, ap (λ (ss : List Step). length ss) (from_end row t was k h)) }

  module _ (h : k < length row) where
    pub counting-lower : (cost : Cents) → cost ≡ get_or row k 0 / 64 → cost < was → Counting row cost (count + 1) (k + 1)
    counting-lower cost is l =
        subst (λ (x : Cents). Counting row x (count + 1) (k + 1)) (sym is)
        (record {
          within = omega arith;
          few = omega (arith, c.few);
          rest = λ t. omega (arith, c.rest t, ap (λ (ss : List Step). length ss) (from-lower row t was k h (omega (arith, is, l))));
        })

    pub counting-same : (cost : Cents) → cost ≡ get_or row k 0 / 64 → was ≤ cost → Counting row was count (k + 1)
    counting-same cost is l =
        record {
          within = omega arith;
          few = omega (arith, c.few);
          rest = λ t. omega (arith, c.rest t, ap (λ (ss : List Step). length ss) (from-same row t was k h (omega (arith, is, l))));
        }

    -- a step is left
    pub counting-left : get_or row k 0 / 64 < was → (t : Minute) → count + 1 ≤ length (steps_of t row)
    counting-left l t = omega (arith, c.rest t, ap (λ (ss : List Step). length ss) (from-lower row t was k h l))

-- ---- and put

pub record Putting (row : List ℕ) (t : Minute) (first : List ℕ) (at : ℕ) (out : List ℕ) (was : Cents) (count k : ℕ) : Type 0 where
  pub counting : Counting row was count k
  pub left : Left first out at (at + 44 * count) (steps_fields (steps_from (t + k) was (drop k row))) (steps_fields (steps_of t row))
  pub long : length out ≡ length first
  pub byte : (i : ℕ) → get_or out i 0 < 256

module _ (row : List ℕ) (t : Minute) (first : List ℕ) (at : ℕ) where
  module _ (out : List ℕ) (was : Cents) (count k : ℕ) (c : Putting row t first at out was count k) where
    pub putting-done : length row ≤ k → Puts first out at (steps_fields (steps_of t row))
    putting-done h =
        left-done
        (subst (λ (es : List Entry). Left first out at (at + 44 * count) es (steps_fields (steps_of t row)))
        (ap steps_fields (from_end row t was k h) ∙ fields-none) c.left)
        c.byte

    module _ (h : k < length row) where
      pub putting-same : was ≤ get_or row k 0 / 64 → Putting row t first at out was count (k + 1)
      putting-same l =
          record {
            counting = counting-same row was count k c.counting h _ refl l;
            left =
                subst (λ (ss : List Step). Left first out at (at + 44 * count) (steps_fields ss) (steps_fields (steps_of t row)))
                (from-same row t was k h l) c.left;
            long = c.long;
            byte = c.byte;
          }

      -- room for a step that is left
      pub putting-room : RoomAt first at (steps_fields (steps_of t row)) → get_or row k 0 / 64 < was → at + 44 * count + 44 ≤ 8 * length out
      putting-room r l = omega (arith, r.room, steps-bits (steps_of t row), counting-left row was count k c.counting h l t, c.long)

      pub putting-lower : get_or row k 0 / 64 < was → (next : List ℕ) → Puts out next (at + 44 * count) (step_fields (step_to (t + k) (get_or row k 0 / 64)))
          → Putting row t first at next (get_or row k 0 / 64) (count + 1) (k + 1)
      putting-lower l next put =
          let on : at + 44 * count + 44 ≡ at + 44 * (count + 1) = omega arith in
          let s = step_to (t + k) (get_or row k 0 / 64) in
          let rest = steps_from (t + (k + 1)) (get_or row k 0 / 64) (drop (k + 1) row) in
          let split = ap steps_fields (from-lower row t was k h l) ∙ fields-more s rest in
          record {
            counting = counting-lower row was count k c.counting h _ refl l;
            left =
                subst (λ (n : ℕ). Left first next at n (steps_fields rest) (steps_fields (steps_of t row))) on
                (left-more (step_fields s)
                (subst (λ (es : List Entry). Left first out at (at + 44 * count) es (steps_fields (steps_of t row))) split c.left) put);
            long = put.same_length ∙ c.long;
            byte = put.byte;
          }

-- a place: its steps, and then their number in front of them
pub place-puts : (row : List ℕ) (t : Minute) (at behind : ℕ) (first mid last : List ℕ) (count : ℕ) → behind ≡ at + 12 → Counted row count
    → Puts first mid behind (steps_fields (steps_of t row)) → Put mid last at 12 count → Puts first last at (place_fields (steps_of t row))
place-puts row t at behind first mid last count is k h p =
    subst (λ (n : ℕ). Puts first last at (item 12 n ∷ steps_fields (steps_of t row))) (k.count t)
    (puts-front {fs = item 12 count ∷ []} (rw is at h) (puts_one p))

-- ---- the places are weighed

next_place : (cells : List ℕ) (w : ℕ) (t : Minute) (n p : ℕ) → p < n
    → places_from cells w t p (n - p) ≡ steps_of t (row_of cells w p) ∷ places_from cells w t (p + 1) (n - (p + 1))
next_place cells w t n p h =
    let e : n - p ≡ suc (n - (p + 1)) = omega arith in
    ap (places_from cells w t p) e ∙ places-next cells w t p (n - (p + 1))

no_place : (cells : List ℕ) (w : ℕ) (t : Minute) (n p : ℕ) → n ≤ p → places_fields (places_from cells w t p (n - p)) ≡ []
no_place cells w t n p h =
    let e : n - p ≡ 0 = omega arith in
    ap (λ (k : ℕ). places_fields (places_from cells w t p k)) e ∙ ap places_fields (places-end cells w t p) ∙ places-none

pub record Weighing (cells : List ℕ) (w n bits p : ℕ) : Type 0 where
  pub within : p ≤ n
  pub small : bits ≤ 15 + 126732 * p
  pub rest : (t : Minute) → bits + bits_of (places_fields (places_from cells w t p (n - p))) ≡ 15 + bits_of (places_fields (sheet_in cells w t n))

module _ (cells : List ℕ) (w n bits p : ℕ) (c : Weighing cells w n bits p) (table : Table cells w n) where
  pub weighing-done : n ≤ p → (r : ℕ) → r ≡ (bits + 7) / 8 → Weighed cells w n r
  weighing-done h r is =
      record {
        small = omega (arith, is, c.small, c.within, table.few);
        weight = λ t. omega (arith, is, c.rest t, ap bits_of (no_place cells w t n p h));
      }

  module _ (h : p < n) where
    pub row_fits : p * w + w ≤ length cells
    row_fits = row_room w (length cells) p n (omega arith) table.all

    pub weighing-more : (r : ℕ) → Counted (row_of cells w p) r → Weighing cells w n (bits + (12 + 44 * r)) (p + 1)
    weighing-more r k =
        record {
          within = omega arith;
          small = omega (arith, c.small, k.few, row-length cells w p row_fits, table.narrow);
          rest = λ t.
              omega (
                arith,
                c.rest t,
                k.count t,
                ap (λ (ss : List (List Step)). bits_of (places_fields ss)) (next_place cells w t n p h),
                places-bits (steps_of t (row_of cells w p)) (places_from cells w t (p + 1) (n - (p + 1))),
              );
        }

-- ---- and put

pub record Placing (cells : List ℕ) (w n : ℕ) (t : Minute) (first out : List ℕ) (at p : ℕ) : Type 0 where
  pub within : p ≤ n
  pub near : at ≤ 15 + 126732 * p
  pub room : at + bits_of (places_fields (places_from cells w t p (n - p))) ≤ 8 * length out
  pub left : Left first out 15 at (places_fields (places_from cells w t p (n - p))) (places_fields (sheet_in cells w t n))
  pub long : length out ≡ length first
  pub byte : (i : ℕ) → get_or out i 0 < 256

module _ (cells : List ℕ) (w n : ℕ) (t : Minute) (first : List ℕ) (table : Table cells w n) where
  module _ (out : List ℕ) (at p : ℕ) (c : Placing cells w n t first out at p) where
    pub placing-done : n ≤ p → Puts first out 15 (places_fields (sheet_in cells w t n))
    placing-done h =
        left-done
        (subst (λ (es : List Entry). Left first out 15 at es (places_fields (sheet_in cells w t n))) (no_place cells w t n p h) c.left)
        c.byte

    module _ (h : p < n) where
      pub place-fits : p * w + w ≤ length cells
      place-fits = row_room w (length cells) p n (omega arith) table.all

      split : places_fields (places_from cells w t p (n - p))
          ≡ place_fields (steps_of t (row_of cells w p)) ++ places_fields (places_from cells w t (p + 1) (n - (p + 1)))
      split = ap places_fields (next_place cells w t n p h) ∙ places-more (steps_of t (row_of cells w p)) (places_from cells w t (p + 1) (n - (p + 1)))

      bits : bits_of (places_fields (places_from cells w t p (n - p)))
          ≡ bits_of (place_fields (steps_of t (row_of cells w p))) + bits_of (places_fields (places_from cells w t (p + 1) (n - (p + 1))))
      bits =
          ap (λ (ss : List (List Step)). bits_of (places_fields ss)) (next_place cells w t n p h)
          ∙ places-bits (steps_of t (row_of cells w p)) (places_from cells w t (p + 1) (n - (p + 1)))
          ∙ ap (λ (k : ℕ). k + bits_of (places_fields (places_from cells w t (p + 1) (n - (p + 1))))) (sym (place-bits (steps_of t (row_of cells w p))))

      pub placing-room : RoomAt out at (place_fields (steps_of t (row_of cells w p)))
      placing-room = record { room = omega (arith, c.room, bits); near = omega (arith, c.near, c.within, table.few); byte = c.byte }

      pub placing-more : (next : List ℕ) (at' : ℕ) → at' ≡ at + bits_of (place_fields (steps_of t (row_of cells w p))) → at' ≤ at + 126732
          → Puts out next at (place_fields (steps_of t (row_of cells w p))) → Placing cells w n t first next at' (p + 1)
      placing-more next at' e l put =
          record {
            within = omega arith;
            near = omega (arith, c.near);
            room = omega (arith, c.room, bits, put.same_length);
            left =
                subst (λ (k : ℕ). Left first next 15 k (places_fields (places_from cells w t (p + 1) (n - (p + 1)))) (places_fields (sheet_in cells w t n))) (sym e)
                (left-more (place_fields (steps_of t (row_of cells w p)))
                (subst (λ (es : List Entry). Left first out 15 at es (places_fields (sheet_in cells w t n))) split c.left) put);
            long = put.same_length ∙ c.long;
            byte = put.byte;
          }
