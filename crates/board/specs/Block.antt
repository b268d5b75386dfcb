-- The block, Table 20 of source document 000: which bytes hold what, what the board needs of them, and what is written.
-- A block is the list of the bytes lent; numbers are little-endian. (Past the end a byte counts as 0 here; the checks see
-- to it that no such byte decides anything.) Assumes nothing.
use Rattle.std.specs.Prelude.{Bool, not, List, [], ◌∷◌, ◌++◌, ℕ, suc, ◌+◌, ◌*◌, ◌-◌, ◌/◌, ◌%◌, ◌^◌, length, get_or, set, ℤ, pos, negsuc, if◌then◌else◌}
use Rattle.std.proofs.lemmas.List.Edits.{sets}
use Rattle.board.specs.Types.{Ticket, Cdb, Request, Told}
use Rattle.board.specs.Plain.{◌=?◌, ◌<?◌}
use Rattle.board.specs.Board.{unit_of}

-- ---- numbers in a block

abbrev pub byte : ℕ → List ℕ → ℕ
byte i s = get_or s i 0

abbrev pub two : ℕ → List ℕ → ℕ
two i s = byte i s + 256 * byte (i + 1) s

abbrev pub four : ℕ → List ℕ → ℕ
four i s = two i s + 65536 * two (i + 2) s

-- the flag of this value in byte i is set
abbrev pub flag : ℕ → (value : ℕ) → List ℕ → Bool
flag i value s = byte i s / value % 2 =? 1

-- the four bytes of a number, lowest first
unfoldable pub bytes4 : ℕ → List ℕ
bytes4 n = n % 256 ∷ n / 256 % 256 ∷ n / 65536 % 256 ∷ n / 16777216 % 256 ∷ []

-- a number in two's complement of 32 bits
unfoldable pub word : ℤ → ℕ
word (pos n) = n
word (negsuc n) = 2 ^ 32 - suc n

-- the number that such a word stands for
unfoldable pub signed : ℕ → ℤ
signed n = if n <? 2 ^ 31 then pos n else negsuc (2 ^ 32 - suc n)

-- Private data begins at 88: a whole block has at least as many bytes.
abbrev pub whole_block : ℕ
whole_block = 88

-- ---- the fields that document 01 names

pub record Fields : Type 0 where
  pub address : ℕ
  pub length_field : ℕ
  pub function_code : ℕ
  pub path : ℕ
  pub target : ℕ
  pub lun : ℕ
  pub callback : ℕ
  pub data_length : ℕ
  pub sense_length : ℕ
  pub cdb_length : ℕ
  pub cdb : Cdb
  pub timeout : ℕ
  pub autosense_disabled : Bool
  pub scatter_gather : Bool
  pub callback_disabled : Bool
  pub linked : Bool
  pub tag_queue_action_enable : Bool
  pub cdb_is_a_pointer : Bool
  pub sim_queue_priority : Bool

-- Offsets by Table 20, flags by Table 18. Flags not named in document 01 aren't read; reserved fields are not checked.
unfoldable pub fields : List ℕ → Fields
fields s = record {
  address = four 0 s;
  length_field = two 4 s;
  function_code = byte 6 s;
  path = byte 9 s;
  target = byte 10 s;
  lun = byte 11 s;
  callback = four 28 s;
  data_length = four 36 s;
  sense_length = byte 44 s;
  cdb_length = byte 45 s;
  cdb = record { first = four 60 s; second = four 64 s; third = four 68 s };
  timeout = four 72 s;
  autosense_disabled = flag 12 0x20 s;
  scatter_gather = flag 12 0x10 s;
  callback_disabled = flag 12 0x08 s;
  linked = flag 12 0x04 s;
  tag_queue_action_enable = flag 12 0x02 s;
  cdb_is_a_pointer = flag 12 0x01 s;
  sim_queue_priority = flag 13 0x10 s;
}

-- the 12 CDB bytes
unfoldable pub cdb_bytes : Cdb → List ℕ
cdb_bytes c = bytes4 c.first ++ (bytes4 c.second ++ bytes4 c.third)

-- what the board needs of the block
unfoldable pub request : Ticket → Fields → Request
request t f = record {
  ticket = t;
  unit = unit_of f.target f.lun;
  address = f.address;
  callback = f.callback;
  wanted = not f.callback_disabled;
  length = f.data_length;
  sense = f.sense_length;
  autosense = not f.autosense_disabled;
  timeout = f.timeout;
  cdb = f.cdb;
}

-- ---- what is written

-- byte 7 becomes the number, and nothing else is written; nothing at all where fewer than 8 bytes are lent
unfoldable pub with_status : ℕ → List ℕ → List ℕ
with_status n s = if length s <? 8 then s else set s 7 n

-- a hand-back writes bytes 7, 52, 53 and 56 to 59 and no others
unfoldable pub with_told : Told → List ℕ → List ℕ
with_told x s = sets (set (set (set s 7 x.status) 52 x.scsi) 53 x.unsensed) 56 (bytes4 (word x.residual))
