-- Taking a request in. Assumes nothing.
use Rattle.std.specs.Prelude.{Bool, not, ◌||◌, List, [], ◌∷◌, ◌++◌, ℕ, length, if◌then◌else◌}
use Rattle.board.specs.Types.{Request}
use Rattle.board.specs.Plain.{◌=?◌, ◌<?◌, ◌≤?◌, Row, ◌⇒◌, first_that_applies, any}
use Rattle.board.specs.Board.{places, last_ticket, Board, live, next_ticket, with_waiting, with_given}
use Rattle.board.specs.Block.{whole_block, Fields, fields, request, with_status}
use Rattle.board.specs.Answers.{refused, taken, Stepped}

pub data Verdict : Type 0 where
  refuse : (number : ℕ) → Verdict
  accept : Verdict

-- check 7: CDB length 0 or above 12
unfoldable pub wrong_cdb_length : Fields → Bool
wrong_cdb_length f = f.cdb_length =? 0 || 12 <? f.cdb_length

-- check 9: a live request has the same address
unfoldable pub address_held : Board → ℕ → Bool
address_held b address = any (λ q. q.address =? address) (live b)

-- Checks 1 to 8 look at the block alone.
unfoldable pub checks_of_block : (bytes_lent : ℕ) → Fields → List (Row Verdict)
checks_of_block bytes_lent f =
    -- 1. Fewer than 8 bytes lent
    (bytes_lent <? 8 ⇒ refuse 0x15)
    -- 2. Function code not 01h
    ∷ (not (f.function_code =? 0x01) ⇒ refuse 0x06)
    -- 3. Length field below 88 or above the bytes lent
    ∷ (f.length_field <? whole_block || bytes_lent <? f.length_field ⇒ refuse 0x15)
    -- 4. Path not 0
    ∷ (not (f.path =? 0) ⇒ refuse 0x07)
    -- 5. Target above 6 or LUN above 7
    ∷ (6 <? f.target || 7 <? f.lun ⇒ refuse 0x06)
    -- 6. Any of the flags scatter/gather, tag queue action enable, linked CDB, CDB is a pointer
    ∷ (f.scatter_gather || f.tag_queue_action_enable || f.linked || f.cdb_is_a_pointer ⇒ refuse 0x16)
    -- 7. CDB length 0 or above 12
    ∷ (wrong_cdb_length f ⇒ refuse 0x06)
    -- 8. Data length above FFFFFFh
    ∷ (0xFFFFFF <? f.data_length ⇒ refuse 0x16)
    ∷ []

-- Checks 9 to 11 look at the board.
unfoldable pub checks_of_board : Board → Fields → List (Row Verdict)
checks_of_board b f =
    -- 9. A live request has the same address
    (address_held b f.address ⇒ refuse 0x06)
    -- 10. Ticket FFFFFFFFh was given already
    ∷ (last_ticket ≤? b.given ⇒ refuse 0x05)
    -- 11. All 32 places live
    ∷ (places ≤? length (live b) ⇒ refuse 0x05)
    ∷ []

-- Checks, first that applies.
unfoldable pub verdict : Board → List ℕ → Verdict
verdict b s = first_that_applies (checks_of_block (length s) (fields s) ++ checks_of_board b (fields s)) accept

-- The request joins its unit's waiting order: at the end, or at the front if the SIM Queue Priority flag asks for the head.
unfoldable pub joined : Request → (front : Bool) → Board → Board
joined q front b =
    with_waiting q.unit (if front then q ∷ b.waiting q.unit else b.waiting q.unit ++ (q ∷ []))
    (with_given q.ticket.0 b)

-- Refusals 2 to 11 write the number to byte 7 and nothing else; any of the eleven leaves the board unchanged. Otherwise
-- byte 7 becomes 00h, the request gets the next ticket and joins its unit's waiting order.
unfoldable pub judged : Board → List ℕ → Verdict → Stepped
judged b s (refuse n) = record { board = b; answer = refused n; lent = with_status n s }
judged b s accept = record {
  board = joined (request (next_ticket b) (fields s)) (fields s).sim_queue_priority b;
  answer = taken (next_ticket b);
  lent = with_status 0x00 s;
}

unfoldable pub taking_in : Board → List ℕ → Stepped
taking_in b s = judged b s (verdict b s)
