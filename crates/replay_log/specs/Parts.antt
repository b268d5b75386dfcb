-- What the functions below one record promise: what is kept, found and dropped. Assumes nothing.
use Rattle.std.specs.Prelude.{ℕ, List, Option, Some, None, Result, Ok, Err}
use Rattle.std.specs.declared.ops.Range.{Range}
use Rattle.board.specs.declared.Ticket.{Ticket}
use Rattle.board.specs.declared.Refusal.{Refusal}
use Rattle.board.specs.declared.First.{First}
use Rattle.board.specs.declared.Handed.{Handed}
use Rattle.board.specs.declared.NotHanded.{NotHanded}
use Rattle.copies.specs.Slots.{lies, noted, store_with, forgotten}

-- the book and the store after taking in a block of n bytes
abbrev pub book_after : Result Ticket Refusal → List ℕ → (n : ℕ) → List ℕ
book_after (Ok t) book n = noted book t.0 n
book_after (Err why) book n = book

abbrev pub store_after : Result Ticket Refusal → (book store block : List ℕ) → List ℕ
store_after (Ok t) book store block = store_with book store block
store_after (Err why) book store block = store

-- where the copy of the first finished request's block lies
abbrev pub lies_for : Option First → (book : List ℕ) → Option (Range ℕ)
lies_for (Some first) book = lies book first.ticket.0
lies_for None book = None

-- the book after a hand back
abbrev pub book_without : Result Handed NotHanded → List ℕ → List ℕ
book_without (Ok x) book = forgotten book x.ticket.0
book_without (Err why) book = book
