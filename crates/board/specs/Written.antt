-- What is written to a lent block and what is not; that the CDB's three words are its 12 bytes; two's complement there and back.
-- proofs/Written.antt proves it. Assumes nothing.
use Rattle.std.specs.Prelude.{◌≡◌, ◌≢◌, List, ℕ, ◌^◌, ◌≤◌, ◌<◌, length, take, drop, pos, negsuc}
use Rattle.board.specs.Types.{Told}
use Rattle.board.specs.Block.{byte, word, signed, fields, cdb_bytes, with_status, with_told}

pub record Written : Type 0 where
  -- taking in writes no byte but 7
  pub status_others : (n : ℕ) (s : List ℕ) (i : ℕ) → i ≢ 7 → byte i (with_status n s) ≡ byte i s
  pub status_length : (n : ℕ) (s : List ℕ) → length (with_status n s) ≡ length s
  -- a hand-back writes bytes 7, 52, 53 and 56 to 59 and no others
  pub told_others : (x : Told) (s : List ℕ) (i : ℕ) → i ≢ 7 → i ≢ 52 → i ≢ 53 → i ≢ 56 → i ≢ 57 → i ≢ 58 → i ≢ 59 → byte i (with_told x s) ≡ byte i s
  pub told_length : (x : Told) (s : List ℕ) → length (with_told x s) ≡ length s
  -- the 12 CDB bytes as accepted, of a block that has them
  pub cdb_as_accepted : (s : List ℕ) → 72 ≤ length s → ((i : ℕ) → byte i s < 256) → cdb_bytes (fields s).cdb ≡ take 12 (drop 60 s)
  -- a number with its sign is what its word stands for
  pub signed_word : (n : ℕ) → n < 2 ^ 31 → signed (word (pos n)) ≡ pos n
  pub signed_word_below_zero : (n : ℕ) → n < 2 ^ 31 → signed (word (negsuc n)) ≡ negsuc n
