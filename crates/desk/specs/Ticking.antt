-- What a tick stores: no meaning. Assumes nothing.
use Rattle.std.specs.Prelude.{ℕ, List, [], ◌∷◌, slice_set, if◌then◌else◌}
use Rattle.board.specs.Calls.{late}
use Rattle.desk.specs.Words.{word_of}
use Rattle.desk.specs.View.{active_at}

-- the active request at place p is overdue if it is late at this time
unfoldable pub marked : List ℕ → (place clock : ℕ) → List ℕ
marked m p clock = if late clock (active_at m p) then slice_set m (word_of p 12) 1 else m

-- so is each at the places l
unfoldable pub all_marked : List ℕ → (clock : ℕ) → (l : List ℕ) → List ℕ
all_marked m clock [] = m
all_marked m clock (p ∷ l) = all_marked (marked m p clock) clock l
