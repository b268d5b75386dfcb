-- The words of the desk's memory beside the links of its rows, and what the private functions store: no meaning. Assumes nothing.
--
--   198 + p          the ticket at place p (rows searches by it)
--   230 + p          the address
--   262 + u          unit u's freeze: 0 if it isn't frozen
--   326 + 16 * p + j the other words of the request at place p:
--       j = 0 unit, 1 callback, 2 callback wanted, 3 data length, 4 sense length, 5 autosense not disabled, 6 timeout, 7 to 9 CDB;
--       while it is active 10 start, 11 asked, 12 overdue;
--       when it is finished 10 status byte, 11 SCSI status, 12 autosense residual, 13 residual
use Rattle.std.specs.Prelude.{◌≡◌, ℕ, suc, ◌+◌, ◌*◌, ◌%◌, ◌<◌, ◌≤◌, Bool, cond, not, ◌&&◌, List, [], ◌∷◌, Option, is_some, Result, Ok, Err, ◌==◌, slice_index, slice_set, if◌then◌else◌}
use Rattle.std.specs.List.{list_any}
use Rattle.board.specs.declared.Unit.{Unit}
use Rattle.board.specs.declared.Request.{Request}
use Rattle.board.specs.declared.Told.{Told}
use Rattle.board.specs.declared.NoSuchUnit.{NoSuchUnit}
use Rattle.board.specs.Plain.{◌=?◌, ◌<?◌}
use Rattle.board.specs.Block.{word, signed}
use Rattle.rows.specs.Words.{head, as_place, popped, put_last, cut_out}
use Rattle.rows.specs.Rows.{row_of}

abbrev pub word_of : (place j : ℕ) → ℕ
word_of p j = 326 + 16 * p + j

abbrev pub field : List ℕ → (place j : ℕ) → ℕ
field m p j = slice_index m (word_of p j)

abbrev pub address_at : List ℕ → (place : ℕ) → ℕ
address_at m p = slice_index m (230 + p)

abbrev pub freeze_at : List ℕ → (unit : ℕ) → ℕ
freeze_at m u = slice_index m (262 + u)

-- the unit of the request at place p
abbrev pub unit_at : List ℕ → (place : ℕ) → ℕ
unit_at m p = field m p 0 % 64

-- the number of a unit that there is
abbrev pub known : Unit → Result ℕ NoSuchUnit
known u = if u.0 <? 64 then Ok u.0 else Err (record {})

-- true is 1
abbrev pub bit : Bool → ℕ
bit c = if c then 1 else 0

-- the words xs are stored at place p, from its word j on
unfoldable pub stores : List ℕ → (place j : ℕ) → List ℕ → List ℕ
stores m p j [] = m
stores m p j (x ∷ xs) = stores (slice_set m (word_of p j) x) p (suc j) xs

-- a request is written
unfoldable pub written : List ℕ → (place : ℕ) → Request → List ℕ
written m p q =
    stores (slice_set (slice_set m (198 + p) q.ticket.0) (230 + p) q.address) p 0
    (q.unit.0 ∷ q.callback ∷ bit q.wanted ∷ q.length ∷ q.sense ∷ bit q.autosense ∷ q.timeout ∷ q.cdb.first ∷ q.cdb.second ∷ q.cdb.third ∷ [])

-- it is sent at this time: no mark is set
unfoldable pub started : List ℕ → (place clock : ℕ) → List ℕ
started m p clock = stores m p 10 (clock ∷ 0 ∷ 0 ∷ [])

-- its end is kept
unfoldable pub closed : List ℕ → (place : ℕ) → Told → List ℕ
closed m p x = stores m p 10 (x.status ∷ x.scsi ∷ x.unsensed ∷ word x.residual ∷ [])

-- ---- freezing

-- unit u's freeze becomes x, from m to m', with this answer: whether it was frozen before
pub data FreezeSet (m m' : List ℕ) (u x : ℕ) : Result Bool NoSuchUnit → Type 0 where
  no_such_unit : 64 ≤ u → m' ≡ m → FreezeSet m m' u x (Err (record {}))
  freeze_set : u < 64 → m' ≡ slice_set m (262 + u) x → FreezeSet m m' u x (Ok (not (freeze_at m u =? 0)))

-- ---- sending

-- a request of unit u is active
unfoldable pub has_active : List ℕ → (u : ℕ) → Bool
has_active m u = list_any (λ p. unit_at m p == u) (row_of m 2)

-- something waits on the unit, it isn't frozen and has none active
unfoldable pub can_send : List ℕ → Unit → Bool
can_send m u = is_some (as_place (head m (3 + u.0))) && freeze_at m u.0 == 0 && not (has_active m u.0)

-- the first one waiting on unit u is sent at this time
unfoldable pub launched : List ℕ → (u clock : ℕ) → List ℕ
launched m u clock = put_last (started (popped m (3 + u) (head m (3 + u))) (head m (3 + u)) clock) 2 (head m (3 + u))

-- ---- ending

-- what is told fits its words
pub record ToldFits (x : Told) : Type 0 where
  pub status : x.status < 256
  pub scsi : x.scsi < 256
  pub unsensed : x.unsensed < 256
  pub residual : signed (word x.residual) ≡ x.residual

-- the request at place p of row k, after q, goes to the end of the finished line
unfoldable pub finished_words : List ℕ → (k : ℕ) → (q : Option ℕ) → (p : ℕ) → Told → List ℕ
finished_words m k q p x = put_last (closed (cut_out m k q p) p x) 1 p

-- a bad end freezes the unit
unfoldable pub frozen_if : List ℕ → (u : ℕ) → Bool → List ℕ
frozen_if m u bad = cond bad (slice_set m (262 + u) 1) m
