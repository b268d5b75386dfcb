-- What the checks on a block alone, 1 to 8, come to, and what the code's answers say of it. Assumes nothing.
use Rattle.std.specs.Prelude.{Bool, List, ℕ, length, drop, Result, Ok, Err}
use Rattle.board.specs.declared.Ticket.{Ticket}
use Rattle.board.specs.declared.Request.{Request}
use Rattle.board.specs.Plain.{Row, first_that_applies}
use Rattle.board.specs.Block.{fields, request}
use Rattle.board.specs.Answers.{number}
use Rattle.board.specs.TakingIn.{Verdict, refuse, accept, checks_of_block}
use Rattle.board.specs.declared.Refusal.{Refusal}
use Rattle.block.specs.declared.Passed.{Passed}

-- a refusal by its number; or the request that the block asks for, and whether it goes to the front
pub data Outcome : Type 0 where
  refused : (number : ℕ) → Outcome
  passed : Request → (front : Bool) → Outcome

abbrev pub outcome : Verdict → Request → (front : Bool) → Outcome
outcome (refuse n) q front = refused n
outcome accept q front = passed q front

-- the outcome for these bytes under a verdict on them
unfoldable pub outcome_of : Ticket → List ℕ → Verdict → Outcome
outcome_of t s v = outcome v (request t (fields s)) (fields s).sim_queue_priority

-- what checks 1 to 8 make of the bytes lent, for a request that gets this ticket
unfoldable pub examined : Ticket → List ℕ → Outcome
examined t s = outcome_of t s (first_that_applies (checks_of_block (length s) (fields s)) accept)

-- checks 4 to 8, which are reached only with a whole block
unfoldable pub checks_from_4 : List ℕ → List (Row Verdict)
checks_from_4 s = drop 3 (checks_of_block (length s) (fields s))

-- ---- what the code's answers say

abbrev pub examined_says : Result Passed Refusal → Outcome
examined_says (Err why) = refused (number why)
examined_says (Ok x) = passed x.request x.front

abbrev pub table_says : Result Unit Refusal → Verdict
table_says (Err why) = refuse (number why)
table_says (Ok x) = accept
