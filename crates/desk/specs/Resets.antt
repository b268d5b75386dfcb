-- What a bus reset stores, one active request at a time: no meaning. Assumes nothing.
use Rattle.std.specs.Prelude.{ℕ, true, List, Option, option_and_then}
use Rattle.board.specs.declared.Told.{Told}
use Rattle.board.specs.Ending.{end_unmoved, told}
use Rattle.ends.specs.Closing.{capped_request}
use Rattle.rows.specs.declared.Spot.{Spot}
use Rattle.rows.specs.Searches.{spot_of, smallest_ticket}
use Rattle.desk.specs.Words.{finished_words, frozen_if, unit_at}
use Rattle.desk.specs.View.{request_at}

-- what the block of the request at place p will be told
unfoldable pub reset_told : List ℕ → (place : ℕ) → Told
reset_told m p = told (end_unmoved 0x0E (capped_request (request_at m p))) true

-- the request ends, standing at p after q, and its unit is frozen
unfoldable pub reset_words : List ℕ → (q : Option ℕ) → (p : ℕ) → List ℕ
reset_words m q p = frozen_if (finished_words m 2 q p (reset_told m p)) (unit_at m p) true

-- where the smallest ticket of the active ones stands
unfoldable pub smallest_spot : List ℕ → Option Spot
smallest_spot m = option_and_then (λ t. spot_of m 2 t.0) (smallest_ticket m 2)
