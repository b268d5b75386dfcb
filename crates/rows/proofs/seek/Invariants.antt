-- `rows::seek` meets its contract. The whole search equals the rest of it. Assumes nothing.
use Rattle.std.proofs.Common.{◌≡◌}
use Rattle.rows.specs.Searches.{places_left, seek_along, spot_of}
use Rattle.rows.proofs.seek.Given as goal

abbrev pub invariant-loop-place : goal.invariant-loop-place
invariant-loop-place l =
    (goal.iterator-loop-place).can_next l.place-iterator ×
    (goal.iterator-loop-place).is_finite l.place-iterator ×
    (spot_of l.mem l.fn.row l.ticket.0 ≡ seek_along l.mem l.ticket.0 l.before (places_left l.place-iterator))
