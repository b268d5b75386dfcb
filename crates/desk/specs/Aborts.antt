-- What an abort searches for and stores: no meaning. Assumes nothing.
use Rattle.std.specs.Prelude.{◌≡◌, ℕ, ◌+◌, ◌<◌, not, List, Option, Some, None, slice_set}
use Rattle.board.specs.declared.Told.{Told}
use Rattle.board.specs.Plain.{◌=?◌}
use Rattle.board.specs.Ending.{told, end_unmoved}
use Rattle.ends.specs.Closing.{capped_request}
use Rattle.rows.specs.Searches.{spot_of}
use Rattle.desk.specs.declared.Waiting.{Waiting}
use Rattle.desk.specs.Words.{word_of, freeze_at, finished_words}
use Rattle.desk.specs.View.{request_at}

-- ticket t waits on none of the units below u
abbrev pub NoneBelow : List ℕ → (t u : ℕ) → Type 0
NoneBelow m t u = (w : ℕ) → w < u → spot_of m (3 + w) t ≡ None

-- the first unit on which ticket t waits, and where
abbrev pub WaitsOn : List ℕ → (t : ℕ) → Option Waiting → Type 0
WaitsOn m t (Some x) = (x.unit < 64) × (spot_of m (3 + x.unit) t ≡ Some x.spot) × NoneBelow m t x.unit
WaitsOn m t None = NoneBelow m t 64

-- what the block of the request at place p, waiting on unit u, will be told
unfoldable pub aborted_told : List ℕ → (u p : ℕ) → Told
aborted_told m u p = told (end_unmoved 0x02 (capped_request (request_at m p))) (not (freeze_at m u =? 0))

-- it ends
unfoldable pub aborted_words : List ℕ → (u : ℕ) → (q : Option ℕ) → (p : ℕ) → List ℕ
aborted_words m u q p = finished_words m (3 + u) q p (aborted_told m u p)

-- the host asked for the abort of the request at place p
unfoldable pub asked_words : List ℕ → (p : ℕ) → List ℕ
asked_words m p = slice_set m (word_of p 11) 1
