-- What the definitions' searches by ticket find in what is read along a row, where the row is parted at a place. Assumes nothing.
use Rattle.std.proofs.Common.{◌≡◌, ℕ, true, false, ◌≢◌, List, [], ◌∷◌, ◌++◌, map, sym, refl, ap, ◌∙◌}
use Rattle.std.specs.Prelude.{None, Some}
use Rattle.board.specs.declared.Ticket.{Ticket}
use Rattle.board.specs.Plain.{◌=?◌, Each}
use Rattle.board.specs.Board.{same_ticket, find, without}
use Rattle.board.proofs.Choose.{refute, same, itself}
use Rattle.rows.specs.Words.{ticket_at}

module _ {A : Type 0} (ticket_of : A → Ticket) (m : List ℕ) (g : ℕ → A) (is : (x : ℕ) → (ticket_of (g x)).0 ≡ ticket_at m x) (t : Ticket) where
  pub passed_over : (x : ℕ) → ticket_at m x ≢ t.0 → same_ticket (ticket_of (g x)) t ≡ false
  passed_over x n = refute (same_ticket (ticket_of (g x)) t) (λ e. absurd (n (sym (is x) ∙ same e)))

  pub stopped_at : (x : ℕ) → ticket_at m x ≡ t.0 → same_ticket (ticket_of (g x)) t ≡ true
  stopped_at x e = ap (λ n. n =? t.0) (is x ∙ e) ∙ itself t.0

  pub find_none : (l : List ℕ) → Each (λ x. ticket_at m x ≢ t.0) l → find ticket_of t (map g l) ≡ None
  unfolding find Each
  find_none [] d = refl
  find_none (x ∷ l) d = rw (passed_over x d.0) (find_none l d.1)

  pub find_parted : (a b : List ℕ) (p : ℕ) → Each (λ x. ticket_at m x ≢ t.0) a → ticket_at m p ≡ t.0 → find ticket_of t (map g (a ++ (p ∷ b))) ≡ Some (g p)
  unfolding find Each
  find_parted [] b p d e = rw (stopped_at p e)
  find_parted (x ∷ a) b p d e = rw (passed_over x d.0) (find_parted a b p d.1 e)

  pub without_parted : (a b : List ℕ) (p : ℕ) → Each (λ x. ticket_at m x ≢ t.0) a → ticket_at m p ≡ t.0 → without ticket_of t (map g (a ++ (p ∷ b))) ≡ map g (a ++ b)
  unfolding without Each
  without_parted [] b p d e = rw (stopped_at p e)
  without_parted (x ∷ a) b p d e = rw (passed_over x d.0) (ap (λ l. g x ∷ l) (without_parted a b p d.1 e))
