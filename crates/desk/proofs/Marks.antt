-- One more mark on an active request: the host asked for its abort. Assumes nothing.
use Rattle.std.specs.Prelude.{Option}
use Rattle.std.proofs.Common.{◌≡◌, ℕ, ◌+◌, ◌<◌, not, ◌≢◌, List, [], ◌∷◌, ◌++◌, map, length, get_or, sym, refl, ap, ◌∙◌, subst, arith, get_or-set_same}
use mathlib.Core.Bool.{or-true, or-false}
use Rattle.board.specs.declared.Ticket.{Ticket}
use Rattle.board.specs.Plain.{◌=?◌, Each}
use Rattle.board.specs.Board.{ticket_of_active, with_active}
use Rattle.board.specs.Calls.{ask}
use Rattle.rows.specs.Words.{ticket_at, head, owner, next}
use Rattle.rows.specs.Rows.{Run, row_of, SoundRows}
use Rattle.rows.proofs.Links.{off}
use Rattle.rows.proofs.Shown.{run_of, map_run}
use Rattle.rows.proofs.Carry.{SameLinks, same_links, set_links, same_rows, same_read}
use Rattle.desk.specs.Words.{word_of, field, stores}
use Rattle.desk.specs.View.{request_at, active_at, finished_at, Rest, view, Valid}
use Rattle.desk.specs.Aborts.{asked_words}
use Rattle.desk.proofs.Read.{SameRequest, SamePlace, same_request_at, same_active_at, same_finished_at, stores_other}
use Rattle.desk.proofs.Views.{board_same, same_freezes, same_waiting}
use Rattle.desk.proofs.Splits.{passed_over, stopped_at}
use Rattle.desk.proofs.Sought.{Sought}
use Rattle.desk.proofs.Tickets.{Once, once_active, once_others}

module _ (m : List ℕ) (p : ℕ) (hp : p < 32) where
  pub asked_links : SameLinks m (asked_words m p)
  unfolding asked_words
  asked_links = set_links m m (word_of p 11) 1 (same_links m) (omega arith)

  asked_low : (i : ℕ) → i < 326 → get_or (asked_words m p) i 0 ≡ get_or m i 0
  unfolding asked_words
  asked_low i h = off m (word_of p 11) i 1 (omega arith)

  asked_request : (x : ℕ) → x < 32 → SameRequest m (asked_words m p) x
  unfolding asked_words
  asked_request x h = record {
    ticket = off m (word_of p 11) (198 + x) 1 (omega arith);
    address = off m (word_of p 11) (230 + x) 1 (omega arith);
    fields = λ j l. off m (word_of p 11) (word_of x j) 1 (omega arith);
  }

  asked_other : (x : ℕ) → x < 32 → x ≢ p → SamePlace m (asked_words m p) x
  unfolding asked_words stores
  asked_other x h n = stores_other m p 11 (1 ∷ []) x (omega arith) h n

  -- the mark is set, whatever it was
  asked_here : (t : Ticket) → length m ≡ 838 → ticket_at m p ≡ t.0 → active_at (asked_words m p) p ≡ ask t (active_at m p)
  unfolding asked_words
  asked_here t sz e =
      rw (
        same_request_at (asked_request p hp),
        off m (word_of p 11) (word_of p 10) 1 (omega arith),
        off m (word_of p 11) (word_of p 12) 1 (omega arith),
        get_or-set_same m (word_of p 11) 1 0 (omega arith),
        stopped_at ticket_of_active m (active_at m) (λ x. refl) t p e,
        or-true (not (field m p 11 =? 0)),
      )

  -- a place with another ticket stays as it is
  asked_apart : (t : Ticket) → ticket_at m p ≡ t.0 → (x : ℕ) → x < 32 → ticket_at m x ≢ t.0 → active_at (asked_words m p) x ≡ ask t (active_at m x)
  asked_apart t e x h d =
      same_active_at (asked_other x h (λ z. d (ap (ticket_at m) z ∙ e)))
      ∙ rw (passed_over ticket_of_active m (active_at m) (λ y. refl) t x d, or-false (not (field m x 11 =? 0)))

  -- along places that have other tickets
  asked_along : (t : Ticket) → ticket_at m p ≡ t.0 → (k h : ℕ) (l : List ℕ) → Run m k h l → Each (λ x. ticket_at m x ≢ t.0) l → map (active_at (asked_words m p)) l ≡ map (ask t) (map (active_at m) l)
  unfolding Each
  asked_along t e k h [] r d = refl
  asked_along t e k h (x ∷ l) r d = rw (asked_apart t e x r.1 d.0, asked_along t e k (next m x) l r.4 d.1)

  -- along a row that has p
  asked_row : (t : Ticket) → length m ≡ 838 → ticket_at m p ≡ t.0 → (k h : ℕ) (a b : List ℕ) → Run m k h (a ++ (p ∷ b)) → Each (λ x. ticket_at m x ≢ t.0) (a ++ b)
      → map (active_at (asked_words m p)) (a ++ (p ∷ b)) ≡ map (ask t) (map (active_at m) (a ++ (p ∷ b)))
  unfolding Each
  asked_row t sz e k h [] b r d = rw (asked_here t sz e, asked_along t e k (next m p) b r.4 d)
  asked_row t sz e k h (x ∷ a) b r d = rw (asked_apart t e x r.1 d.0, asked_row t sz e k (next m x) a b r.4 d.1)

-- ---- the board: the active request with this ticket is marked

-- p, which parts row 2, is its own
own_row : (m : List ℕ) (k h p : ℕ) (a b : List ℕ) → Run m k h (a ++ (p ∷ b)) → (p < 32) × (owner m p ≡ k)
own_row m k h p [] b r = (r.1, r.2)
own_row m k h p (x ∷ a) b r = own_row m k (next m x) p a b r.4

module _ (m : List ℕ) (r : Rest) (t : Ticket) (q : Option ℕ) (p : ℕ) (s : Sought m 2 t q p) (v : Valid m r) where
  run : Run m 2 (head m 2) (s.a ++ (p ∷ s.b))
  run = subst (Run m 2 (head m 2)) s.parted (run_of m v.rows 2 (omega arith))

  abbrev m' : List ℕ
  m' = asked_words m p

  place : p < 32
  place = (own_row m 2 (head m 2) p s.a s.b run).0

  others : Each (λ x. ticket_at m x ≢ t.0) (s.a ++ s.b)
  others = subst (λ n. Each (λ x. ticket_at m x ≢ n) (s.a ++ s.b)) s.ticket (once_others m s.a s.b p (subst (Once m) s.parted (once_active m r v)))

  pub asked_rows : SoundRows (asked_words m p) × ((k : ℕ) → k < 67 → row_of (asked_words m p) k ≡ row_of m k)
  asked_rows = same_rows m m' (asked_links m p place) v.rows

  pub asked_view : view (asked_words m p) r ≡ with_active (map (ask t) (view m r).active) (view m r)
  unfolding view
  asked_view =
      board_same (view m' r) (with_active (map (ask t) (view m r).active) (view m r))
      (same_waiting m m' r r (λ w hw. same_read m m' (request_at m') (request_at m) (asked_links m p place) v.rows (λ x hx. same_request_at (asked_request m p place x hx)) (3 + w) (omega arith)))
      (ap (map (active_at m')) (asked_rows.1 2 (omega arith) ∙ s.parted)
      ∙ (asked_row m p place t v.rows.linked.size s.ticket 2 (head m 2) s.a s.b run others
      ∙ ap (λ l. map (ask t) (map (active_at m) l)) (sym s.parted)))
      (ap (map (finished_at m')) (asked_rows.1 1 (omega arith))
      ∙ map_run m 1 (head m 1) (finished_at m') (finished_at m) (row_of m 1)
      (λ x hx o. same_finished_at (asked_other m p place x hx (λ z. let own = (own_row m 2 (head m 2) p s.a s.b run).1 in let e = ap (owner m) z in omega arith)))
      (run_of m v.rows 1 (omega arith)))
      (same_freezes m m' r r (λ u hu. asked_low m p place (262 + u) (omega arith)))
      refl
      refl
      refl
