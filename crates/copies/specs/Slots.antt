-- The slots of the book and the store, and what each function makes of them. Assumes nothing.
use Rattle.std.specs.Option.{option_and_then}
use Rattle.std.specs.Prelude.{ℕ, zero, suc, ◌+◌, ◌*◌, Bool, Option, Some, None, List, [], length, get_or, set, take, position, slice_range, if◌then◌else◌}
use Rattle.std.specs.declared.ops.Range.{Range}
use Rattle.std.proofs.lemmas.List.Edits.{sets}
use Rattle.board.specs.declared.Ticket.{Ticket}
use Rattle.board.specs.Plain.{◌=?◌, ◌≤?◌}

-- the number of slot i: a ticket, or 0 while it is free; and the length of its copy
abbrev pub number_in : List ℕ → ℕ → ℕ
number_in book i = get_or book i 0

abbrev pub length_in : List ℕ → ℕ → ℕ
length_in book i = get_or book (32 + i) 0

-- the first slot with this number
unfoldable pub slot_of : List ℕ → (number : ℕ) → Option ℕ
slot_of book t = position (λ n. n =? t) (take 32 book)

-- where the copy in slot i lies
unfoldable pub lies_in : List ℕ → ℕ → Option (Range ℕ)
lies_in book i = if length_in book i ≤? 200 then Some record { start = 200 * i; end = 200 * i + length_in book i } else None

-- where the copy of the ticket's block lies
unfoldable pub lies : List ℕ → (ticket : ℕ) → Option (Range ℕ)
lies book t = if t =? 0 then None else option_and_then (lies_in book) (slot_of book t)

abbrev pub bytes_in : (store : List ℕ) → Option (Range ℕ) → List ℕ
bytes_in store None = []
bytes_in store (Some r) = slice_range store r.start r.end

-- the copy of the ticket's block, [] if there is none
unfoldable pub copy_of : (book store : List ℕ) → Ticket → List ℕ
copy_of book store t = bytes_in store (lies book t.0)

-- ---- what the functions store

-- src at `at`, where it has room
unfoldable pub pasted : List ℕ → (at : ℕ) → List ℕ → List ℕ
pasted dst at src = if at + length src ≤? length dst then sets dst at src else dst

-- the first free slot, for a block of n bytes that has room in it
unfoldable pub slot_for : List ℕ → (n : ℕ) → Option ℕ
slot_for book n = if n ≤? 200 then slot_of book 0 else None

-- the book with one copy more, of n bytes; the store with it
abbrev pub noted_in : Option ℕ → List ℕ → (ticket n : ℕ) → List ℕ
noted_in None book t n = book
noted_in (Some i) book t n = set (set book i t) (32 + i) n

unfoldable pub noted : List ℕ → (ticket n : ℕ) → List ℕ
noted book t n = noted_in (slot_for book n) book t n

abbrev pub stored_in : Option ℕ → (store block : List ℕ) → List ℕ
stored_in None store block = store
stored_in (Some i) store block = pasted store (200 * i) block

unfoldable pub store_with : (book store block : List ℕ) → List ℕ
store_with book store block = stored_in (slot_for book (length block)) store block

-- the book with the ticket's slot free
abbrev pub freed_in : Option ℕ → List ℕ → List ℕ
freed_in None book = book
freed_in (Some i) book = set book i 0

unfoldable pub forgotten : List ℕ → (ticket : ℕ) → List ℕ
forgotten book t = freed_in (slot_of book t) book

-- ---- counting

-- how many of the first n slots have a number that passes the test
unfoldable pub slots_passing : (n : ℕ) → (ℕ → Bool) → List ℕ → ℕ
slots_passing zero test book = 0
slots_passing (suc n) test book = (if test (number_in book n) then 1 else 0) + slots_passing n test book
