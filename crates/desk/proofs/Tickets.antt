-- No two active requests have one ticket: what abort and the bus reset rest on, said of places. Assumes nothing.
use Rattle.std.specs.Prelude.{if◌then◌else◌}
use Rattle.std.proofs.Common.{◌≡◌, ℕ, ◌+◌, ◌≤◌, Bool, ◌≢◌, List, ◌∷◌, ◌++◌, map, ◌∙◌, arith}
use Rattle.board.specs.declared.Request.{Request}
use Rattle.board.specs.Plain.{◌=?◌, Each}
use Rattle.board.specs.Board.{the_ticket, same_ticket, all_waiting, live}
use Rattle.board.proofs.Choose.{differ, itself}
use Rattle.board.proofs.Weigh.{weigh, one, weigh_append, weigh_map, weigh_count, each_other}
use Rattle.rows.specs.Words.{ticket_at}
use Rattle.rows.specs.Rows.{row_of}
use Rattle.desk.specs.View.{active_at, Rest, view, Valid}

-- how many of the places l have ticket t
abbrev pub having : List ℕ → (t : ℕ) → List ℕ → ℕ
having m t l = weigh (λ x. if ticket_at m x =? t then 1 else 0) l

-- no ticket stands at two of the places l
abbrev pub Once : List ℕ → List ℕ → Type 0
Once m l = (t : ℕ) → having m t l ≤ 1

pub once_active : (m : List ℕ) (r : Rest) → Valid m r → Once m (row_of m 2)
unfolding live view
once_active m r v t =
    let test : Request → Bool = λ q. same_ticket q.ticket (the_ticket t) in
    let b = view m r in
    let finished : List Request = map (λ x. x.request) b.finished in
    let actives : List Request = map (λ a. a.request) b.active in
    omega (
      arith,
      v.sound.limits.tickets (the_ticket t),
      weigh_count test (all_waiting b ++ (actives ++ finished)),
      weigh_append (one test) (all_waiting b) (actives ++ finished),
      weigh_append (one test) actives finished,
      weigh_map (one test) (λ a. a.request) b.active ∙ weigh_map (λ a. one test a.request) (active_at m) (row_of m 2),
    )

module _ (m : List ℕ) (a b : List ℕ) (p : ℕ) (o : Once m (a ++ (p ∷ b))) where
  having_here : having m (ticket_at m p) (a ++ (p ∷ b)) ≡ having m (ticket_at m p) a + (1 + having m (ticket_at m p) b)
  having_here = weigh_append (λ x. if ticket_at m x =? ticket_at m p then 1 else 0) a (p ∷ b) ∙ rw (itself (ticket_at m p))

  -- the others have other tickets
  pub once_others : Each (λ x. ticket_at m x ≢ ticket_at m p) (a ++ b)
  once_others =
      each_other (λ x. ticket_at m x ≢ ticket_at m p) (λ x. ticket_at m x =? ticket_at m p) (λ x e. differ e) (a ++ b)
      (omega (arith, o (ticket_at m p), having_here, weigh_append (λ x. if ticket_at m x =? ticket_at m p then 1 else 0) a b))
