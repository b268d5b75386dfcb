-- A look at the finished line, on the words. Assumes nothing.
use Rattle.std.specs.Prelude.{None, Some}
use Rattle.std.proofs.Common.{◌≡◌, ℕ, List, [], ◌∷◌, map, ap, arith}
use Rattle.board.specs.Answers.{first, empty}
use Rattle.board.specs.Calls.{first_of, looking, look, step}
use Rattle.rows.specs.Words.{head, as_place}
use Rattle.desk.specs.View.{request_at, finished_at, finished_row, Rest, view, Valid}
use Rattle.desk.specs.Promise.{Does}
use Rattle.desk.proofs.Sought.{row_first, row_empty}
use Rattle.desk.proofs.Views.{unchanged}

-- the finished line is empty where its row is
pub line_empty : (m : List ℕ) (r : Rest) → as_place (head m finished_row) ≡ None → Valid m r → (view m r).finished ≡ []
unfolding view
line_empty m r e v = ap (map (finished_at m)) (row_empty m v.rows 1 (omega arith) e)

-- or begins with what stands at its row's first place
pub line_first : (m : List ℕ) (r : Rest) (p : ℕ) (e : as_place (head m finished_row) ≡ Some p) (v : Valid m r) → (view m r).finished ≡ finished_at m p ∷ map (finished_at m) (row_first m v.rows 1 p (omega arith) e).0
unfolding view
line_first m r p e v = ap (map (finished_at m)) (row_first m v.rows 1 p (omega arith) e).1

pub look_empty : (m : List ℕ) (r : Rest) → as_place (head m finished_row) ≡ None → Does m m r r look empty []
unfolding step looking first_of
look_empty m r e = unchanged empty [] (λ v. ap (first_of (view m r)) (line_empty m r e v))

pub look_first : (m : List ℕ) (r : Rest) (p : ℕ) → as_place (head m finished_row) ≡ Some p → let q = request_at m p in Does m m r r look (first q.ticket q.address q.callback q.wanted) []
unfolding step looking first_of
look_first m r p e = unchanged _ [] (λ v. ap (first_of (view m r)) (line_first m r p e v))
