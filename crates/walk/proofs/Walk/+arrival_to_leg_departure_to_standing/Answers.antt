-- The walk back: each step's facts are the laws of Steps.antt at the values that the code has found.
use Prim.Native.Nat.{ℕ, ◌-◌, ◌%◌}
use native.Mathlib.Omega.{arith}
use mathlib.Core.Path.{ap, ◌∙◌}
use Rattle.walk.proofs.Steps.{cell-there, stops, earlier, rides-on, waits}
use Rattle.walk.proofs.Walk.+arrival_to_leg_departure_to_standing.Goals as goal

pub arrival_to_leg-returns-then-legs-gt0 : goal.arrival_to_leg-returns-then-legs-gt0
arrival_to_leg-returns-then-legs-gt0 t c =
    let a = c.args in
    rides-on a.self.now a.place a.arrival.0 c.requires.0 c.find_leg-hop.result c.find_leg-hop.ensures
    (c.legs_of-legs.result - 1) (omega (arith, c.cell.ensures, c.legs_of-legs.ensures)) a.out.now _ _ c.put_ride.ensures c.departure_to_standing.ensures

pub arrival_to_leg-returns-else-legs-gt0 : goal.arrival_to_leg-returns-else-legs-gt0
arrival_to_leg-returns-else-legs-gt0 t c =
    let a = c.args in
    stops a.self.now a.place a.arrival.0 c.requires.0
    (omega (arith, c.cell.ensures, c.legs_of-legs.ensures)) a.out.now (λ i. omega (arith, c.type_inv.out i))

pub departure_to_standing-returns : goal.departure_to_standing-returns
departure_to_standing-returns t c =
    let a = c.args in
    waits a.self.now a.place a.departure.0 c.first-arrival.result.0 c.requires.0 c.first-arrival.ensures
    a.out.now _ c.arrival_to_leg.ensures

pub arrival_to_leg-cell-requires : goal.arrival_to_leg-cell-requires
arrival_to_leg-cell-requires t c =
    let a = c.args in
    let d = c.requires.0.departing in
    cell-there a.self.now d.walkable a.place a.arrival.0 d.within

pub arrival_to_leg-put_ride-requires : goal.arrival_to_leg-put_ride-requires
arrival_to_leg-put_ride-requires t c =
    let a = c.args in
    let e = earlier a.self.now a.place a.arrival.0 c.requires.0 c.find_leg-hop.result c.find_leg-hop.ensures in
    let room = c.legs_of-legs.ensures ∙ ap (λ (x : ℕ). x % 64) c.cell.ensures in
    (e.leg_small, omega (arith, e.soon), omega arith, omega (arith, c.requires.1, room))

pub departure_to_standing-first-arrival-requires : goal.departure_to_standing-first-arrival-requires
departure_to_standing-first-arrival-requires t c =
    let a = c.args in
    let d = c.requires.0 in
    (omega arith, cell-there a.self.now d.walkable a.place a.departure.0 d.within)
