-- A request goes from its row to the back of the finished line, with what its block will be told. What abort, an event and the bus
-- reset cite. Assumes nothing.
use Rattle.std.specs.Prelude.{Option, None}
use Rattle.std.proofs.Common.{◌≡◌, ℕ, ◌+◌, ◌<◌, false, ◌≢◌, List, [], ◌∷◌, ◌++◌, map, sym, refl, ap, ◌∙◌, arith}
use Rattle.board.specs.declared.Unit.{Unit}
use Rattle.board.specs.declared.Request.{Request}
use Rattle.board.specs.declared.Finished.{Finished}
use Rattle.board.specs.declared.Told.{Told}
use Rattle.board.specs.Board.{units, with_waiting, with_active, with_finished}
use Rattle.rows.specs.Words.{cut_out}
use Rattle.rows.specs.Rows.{row_of, SoundRows}
use Rattle.rows.proofs.Search.{last_of}
use Rattle.rows.proofs.Carry.{Out, place_out, Carried, carry, read_left, read_same, read_joined}
use Rattle.desk.specs.Words.{closed, ToldFits, finished_words}
use Rattle.desk.specs.View.{request_at, active_at, finished_at, Rest, view}
use Rattle.desk.proofs.Read.{SamePlace, same_request_at, same_finished_at, kept_place, stores_links, stores_other, stores_low, closed_finished}
use Rattle.desk.proofs.Views.{board_same, waiting_changed, same_waiting, same_freezes, request_others, active_others, finished_others}

module _ (m : List ℕ) (k : ℕ) (q : Option ℕ) (p : ℕ) (x : Told) (a b : List ℕ) (v : SoundRows m) (lk : k < 67) (n1 : k ≢ 1) (e : row_of m k ≡ a ++ (p ∷ b)) (la : q ≡ last_of None a) (f : ToldFits x) where
  abbrev m₁ : List ℕ
  m₁ = cut_out m k q p

  abbrev m₂ : List ℕ
  m₂ = closed (cut_out m k q p) p x

  abbrev m' : List ℕ
  m' = finished_words m k q p x

  out : Out m m₁ k p (a ++ b)
  out = place_out m k q p a b v lk e la

  pub finished_carried : Carried m m₂ (finished_words m k q p x) k 1 p false (a ++ b)
  unfolding finished_words closed
  finished_carried = carry false m m₁ m₂ k 1 p (a ++ b) v lk (omega arith) out (stores_links m₁ p 10 _)

  other : (y : ℕ) → y < 32 → y ≢ p → SamePlace m₁ m₂ y
  unfolding closed
  other y h n = stores_other m₁ p 10 _ y (omega arith) h n

  -- what stands at the place now
  told_there : finished_at m' p ≡ record { request = request_at m p; told = x }
  told_there =
      same_finished_at (kept_place m₂ m' p finished_carried.kept)
      ∙ (closed_finished m₁ p x out.place out.linked.size f
      ∙ ap (λ (r : Request). record { request = r; told = x }) (same_request_at (kept_place m m₁ p out.kept).request))

  -- the finished line has one more
  line : map (finished_at m') (row_of m' 1) ≡ map (finished_at m) (row_of m 1) ++ (record { request = request_at m p; told = x } ∷ [])
  line =
      read_joined out finished_carried (finished_at m') (finished_at m) (finished_others out finished_carried other) (omega arith) n1
      ∙ ap (λ (y : Finished). map (finished_at m) (row_of m 1) ++ (y ∷ [])) told_there

  freezes : (r : Rest) (u : Unit) → (view m' r).freezes u ≡ (view m r).freezes u
  unfolding closed
  freezes r = same_freezes m m' r r (λ w hw. finished_carried.kept (262 + w) (omega arith) ∙ (stores_low m₁ p 10 _ (262 + w) (omega arith) ∙ out.kept (262 + w) (omega arith)))

  -- from the active ones
  pub finished_active : (r : Rest) → k ≡ 2 → view (finished_words m k q p x) r ≡ with_finished ((view m r).finished ++ (record { request = request_at m p; told = x } ∷ [])) (with_active (map (active_at m) (a ++ b)) (view m r))
  unfolding view
  finished_active r is =
      board_same (view m' r) (with_finished ((view m r).finished ++ (record { request = request_at m p; told = x } ∷ [])) (with_active (map (active_at m) (a ++ b)) (view m r)))
      (same_waiting m m' r r (λ w hw. read_same out finished_carried (request_at m') (request_at m) (request_others out finished_carried other) (3 + w) (omega arith) (omega arith) (omega arith)))
      (ap (λ i. map (active_at m') (row_of m' i)) (sym is) ∙ read_left out finished_carried (active_at m') (active_at m) (active_others out finished_carried other) lk n1)
      line
      (freezes r)
      refl
      refl
      refl

  -- from a unit's order of waiting
  pub finished_waiting : (r : Rest) (u : Unit) → u.0 < units → k ≡ 3 + u.0
      → view (finished_words m k q p x) r ≡ with_finished ((view m r).finished ++ (record { request = request_at m p; told = x } ∷ [])) (with_waiting u (map (request_at m) (a ++ b)) (view m r))
  unfolding view
  finished_waiting r u hu is =
      board_same (view m' r) (with_finished ((view m r).finished ++ (record { request = request_at m p; told = x } ∷ [])) (with_waiting u (map (request_at m) (a ++ b)) (view m r)))
      (waiting_changed m m' r r u (map (request_at m) (a ++ b)) hu
      (ap (λ i. map (request_at m') (row_of m' i)) (sym is) ∙ read_left out finished_carried (request_at m') (request_at m) (request_others out finished_carried other) lk n1)
      (λ w hw n. read_same out finished_carried (request_at m') (request_at m) (request_others out finished_carried other) (3 + w) (omega arith) (omega arith) (omega arith)))
      (read_same out finished_carried (active_at m') (active_at m) (active_others out finished_carried other) 2 (omega arith) (omega arith) (omega arith))
      line
      (freezes r)
      refl
      refl
      refl
