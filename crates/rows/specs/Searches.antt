-- What a walk along a row comes to, and what the searches find. Assumes nothing.
use Rattle.std.specs.Prelude.{ℕ, min, cond, List, [], ◌∷◌, map, Option, None, Some, option_map, eqb}
use Rattle.std.specs.List.{reduce}
use Rattle.board.specs.declared.Ticket.{Ticket}
use Rattle.board.specs.Board.{the_ticket}
use Rattle.rows.specs.declared.Spot.{Spot}
use Rattle.rows.specs.declared.Walk.{Walk}
use Rattle.rows.specs.Words.{ticket_at}
use Rattle.rows.specs.Rows.{walk, row_of}

-- the places that a walk has still before it
unfoldable pub places_left : Walk → List ℕ
places_left w = walk w.left w.mem.now w.at

-- place p, and the one before it
abbrev pub spot : Option ℕ → ℕ → Spot
spot q p = record { before = q; place = p }

-- the first of the places l with ticket t, and the one before it, which for the first of l is q
unfoldable pub seek_along : List ℕ → (t : ℕ) → Option ℕ → List ℕ → Option Spot
seek_along m t q [] = None
seek_along m t q (p ∷ l) = let more = seek_along m t (Some p) l in cond (eqb (ticket_at m p) t) (Some (spot q p)) more

-- where ticket t stands in row k
abbrev pub spot_of : List ℕ → (k t : ℕ) → Option Spot
spot_of m k t = seek_along m t None (row_of m k)

-- the smallest ticket of row k
abbrev pub smallest_ticket : List ℕ → (k : ℕ) → Option Ticket
smallest_ticket m k = option_map the_ticket (reduce min (map (ticket_at m) (row_of m k)))
