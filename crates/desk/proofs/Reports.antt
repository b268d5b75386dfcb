-- An event on a ticket, on the words. Assumes nothing.
use Rattle.std.proofs.Common.{◌≡◌, ℕ, Bool, not, ◌||◌, List, [], ◌++◌, map, sym, refl, ap, ◌∙◌, subst, arith}
use Rattle.std.specs.Prelude.{Option, Some, None, Result, Ok, Err, IsErrAnd}
use Rattle.board.specs.declared.Ticket.{Ticket}
use Rattle.board.specs.declared.Event.{Event}
use Rattle.board.specs.declared.End.{End}
use Rattle.board.specs.declared.Told.{Told}
use Rattle.board.specs.declared.Implausible.{Implausible}
use Rattle.board.specs.declared.Unreported.{Unreported}
use Rattle.board.specs.declared.Unreported.TheVariants as unreported
use Rattle.board.specs.Plain.{◌=?◌}
use Rattle.board.specs.Board.{the_unit, find, without, ticket_of_active, is_frozen, Freeze, Board, with_active, with_freeze}
use Rattle.board.specs.Answers.{refused, done, reporting_says}
use Rattle.board.specs.Ending.{ending, freeze_after, told, ended_active, reported_by, reported, reporting}
use Rattle.board.specs.Calls.{event, step}
use Rattle.ends.specs.declared.Closed.{Closed}
use Rattle.ends.specs.Closing.{bad, closed}
use Rattle.ends.proofs.Laws.{capped_same, frozen_after}
use Rattle.rows.specs.Rows.{row_of, SoundRows}
use Rattle.rows.specs.Searches.{spot, spot_of}
use Rattle.rows.proofs.Carry.{same_rows}
use Rattle.desk.specs.Words.{freeze_at, unit_at, ToldFits, finished_words, frozen_if}
use Rattle.desk.specs.View.{request_at, active_at, Rest, view, Valid}
use Rattle.desk.specs.Events.{closing_of, Reported, refused_event, ended_event}
use Rattle.desk.specs.Promise.{Does}
use Rattle.desk.proofs.Views.{Leaves, leaves, unchanged, freeze_on}
use Rattle.desk.proofs.Freezes.{frozen_back, frozen_if_links, ended_freeze}
use Rattle.desk.proofs.Splits.{find_none, find_parted, without_parted}
use Rattle.desk.proofs.Sought.{Sought, sought, not_sought}
use Rattle.desk.proofs.Finishes.{finished_carried, finished_active}

-- ---- the ticket isn't active

pub active_none : (m : List ℕ) (r : Rest) (t : Ticket) → spot_of m 2 t.0 ≡ None → Valid m r → find ticket_of_active t (view m r).active ≡ None
unfolding view
active_none m r t e v = find_none ticket_of_active m (active_at m) (λ x. refl) t (row_of m 2) (not_sought m 2 t e)

pub report_none : (m : List ℕ) (r : Rest) (t : Ticket) (e : Event) (moved : ℕ) → spot_of m 2 t.0 ≡ None → Does m m r r (event t e moved) (refused 101) []
unfolding step reporting reported
report_none m r t e moved z = unchanged (refused 101) [] (λ v. ap (reported (view m r) e moved) (active_none m r t z v))

-- ---- it stands at place p of the active row

module _ (m : List ℕ) (r : Rest) (t : Ticket) (q : Option ℕ) (p : ℕ) (s : Sought m 2 t q p) (v : SoundRows m) where
  pub found_active : find ticket_of_active t (view m r).active ≡ Some (active_at m p)
  unfolding view
  found_active = ap (λ l. find ticket_of_active t (map (active_at m) l)) s.parted ∙ find_parted ticket_of_active m (active_at m) (λ x. refl) t s.a s.b p s.before s.ticket

  pub left_active : without ticket_of_active t (view m r).active ≡ map (active_at m) (s.a ++ s.b)
  unfolding view
  left_active = ap (λ l. without ticket_of_active t (map (active_at m) l)) s.parted ∙ without_parted ticket_of_active m (active_at m) (λ x. refl) t s.a s.b p s.before s.ticket

  -- the request's own ticket is t
  own_ticket : (request_at m p).ticket ≡ t
  own_ticket = ap (λ n. record { 0 = n }) s.ticket

  abbrev u : ℕ
  u = unit_at m p

  abbrev b : Board
  b = view m r

  -- whether the unit was frozen before, in the words and on the board
  was_frozen : is_frozen (b.freezes (the_unit u)) ≡ not (freeze_at m u =? 0)
  was_frozen = ap is_frozen (freeze_on m r (the_unit u) (omega arith)) ∙ frozen_back (freeze_at m u)

  step_found : (e : Event) (moved : ℕ) (y : Result End Implausible) → ending (active_at m p) e moved ≡ y → step b (event t e moved) ≡ reported_by b (request_at m p) y
  unfolding step reporting reported
  step_found e moved y z = ap (reported b e moved) found_active ∙ ap (reported_by b (request_at m p)) z

  -- the board after an end
  unfoldable pub ended_board : (x : End) → Board
  ended_board x = ended_active (request_at m p) x (with_active (without ticket_of_active (request_at m p).ticket b.active) b)

  pub ended_view : (x : End) → ToldFits (told x (not (freeze_at m u =? 0) || bad x.base))
      → view (frozen_if (finished_words m 2 q p (told x (not (freeze_at m u =? 0) || bad x.base))) u (bad x.base)) r ≡ ended_board x
  unfolding ended_board ended_active
  ended_view x f =
      let y : Told = told x (not (freeze_at m u =? 0) || bad x.base) in
      let m' = finished_words m 2 q p y in
      let w = finished_active m 2 q p y s.a s.b v (omega arith) (omega arith) s.parted s.last f r refl in
      let z : Freeze = b.freezes (the_unit u) in
      let after : Freeze = freeze_after x.base z in
      let yes : told x (is_frozen after) ≡ y = ap (told x) (frozen_after x.base z ∙ ap (λ c. c || bad x.base) was_frozen) in
      ended_freeze m' r u x.base (omega arith) (finished_carried m 2 q p y s.a s.b v (omega arith) (omega arith) s.parted s.last f).sound
      ∙ (ap (λ d. with_freeze (the_unit u) (freeze_after x.base (d.freezes (the_unit u))) d) w
      ∙ rw (own_ticket, left_active, yes))

-- from the closing found back to the ending: a refusal is one
refused_back : (y : Result End Implausible) (frozen : Bool) → closed y frozen ≡ Err (record {}) → y ≡ Err (record {})
unfolding closed
refused_back (Err why) frozen z = refl
refused_back (Ok x) frozen z = let k : ◌≡◌ {A = ℕ} 0 1 = cc in absurd (omega arith)

-- and an end is one, told of with its unit's freeze
record EndedBack (y : Result End Implausible) (frozen : Bool) (x : Told) (b : Bool) : Type 0 where
  pub end : End
  pub same : y ≡ Ok end
  pub tells : x ≡ told end (frozen || bad end.base)
  pub freezes : b ≡ bad end.base

ended_back : (y : Result End Implausible) (frozen : Bool) (x : Told) (b : Bool) → closed y frozen ≡ Ok (record { told = x; bad = b }) → EndedBack y frozen x b
unfolding closed
ended_back (Err why) frozen x b z = let k : ◌≡◌ {A = ℕ} 0 1 = cc in absurd (omega arith)
ended_back (Ok e) frozen x b z =
    let same : ◌≡◌ {A = Closed} (record { told = told e (frozen || bad e.base); bad = bad e.base }) (record { told = x; bad = b }) = cc in
    record { end = e; same = refl; tells = sym (ap (λ (c : Closed). c.told) same); freezes = sym (ap (λ (c : Closed). c.bad) same) }

-- an event that can't be, as the caller is told of it
pub told_implausible : (m : List ℕ) (q : Option ℕ) (p : ℕ) (why : Implausible) (c : Result Unit Unreported) → IsErrAnd c (λ w. w ≡ unreported.Implausible) → Reported m m q p (Err why) c
told_implausible m q p why (Ok x) e = absurd e
told_implausible m q p why (Err w) e = subst (λ z. Reported m m q p (Err why) (Err z)) (sym e) (refused_event refl)

pub report_some : (m m' : List ℕ) (r : Rest) (t : Ticket) (q : Option ℕ) (p : ℕ) (e : Event) (moved : ℕ) (c : Result Unit Unreported)
    → spot_of m 2 t.0 ≡ Some (spot q p) → Reported m m' q p (closing_of m p e moved) c → Does m m' r r (event t e moved) (reporting_says c) []
unfolding closing_of reported_by ended_board
report_some m m' r t q p e moved c at k =
    go _ c (ap (λ a. closed (ending a e moved) frozen) (sym (capped_same (active_at m p) (omega arith)))) k
  where
    frozen : Bool
    frozen = not (freeze_at m (unit_at m p) =? 0)

    ends : (x : End) (y : Told) (d : Bool) → ending (active_at m p) e moved ≡ Ok x → y ≡ told x (frozen || bad x.base) → d ≡ bad x.base → ToldFits y → (v : Valid m r)
        → Leaves (frozen_if (finished_words m 2 q p y) (unit_at m p) d) r done [] (step (view m r) (event t e moved))
    ends x y d z tells freezes f v =
        let s = sought m 2 t q p at in
        let n = finished_words m 2 q p y in
        subst (Leaves (frozen_if n (unit_at m p) d) r done []) (sym (step_found m r t q p s v.rows e moved (Ok x) z))
        (record {
          rows = (same_rows _ _ (frozen_if_links n (unit_at m p) d (omega arith)) (finished_carried m 2 q p y s.a s.b v.rows (omega arith) (omega arith) s.parted s.last f).sound).0;
          board = rw (tells, freezes) (ended_view m r t q p s v.rows x (subst ToldFits tells f));
          says = refl;
          lent = refl;
        })

    go : (w : Result Closed Implausible) (c : Result Unit Unreported) → closed (ending (active_at m p) e moved) frozen ≡ w → Reported m m' q p w c → Does m m' r r (event t e moved) (reporting_says c) []
    go w c z (refused_event h) =
        subst (λ n. Does m n r r (event t e moved) (refused 102) []) (sym h)
        (unchanged (refused 102) [] (λ v. step_found m r t q p (sought m 2 t q p at) v.rows e moved (Err (record {})) (refused_back (ending (active_at m p) e moved) frozen z)))
    go w c z (ended_event x d h f) =
        let back = ended_back (ending (active_at m p) e moved) frozen x d z in
        subst (λ n. Does m n r r (event t e moved) done []) (sym h)
        (leaves (ends back.end x d back.same back.tells back.freezes f) (λ n h. let k : ◌≡◌ {A = ℕ} 0 1 = cc in absurd (omega arith)))
