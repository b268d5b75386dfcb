-- Taking a request in, on the words: the checks on the block, those on the board, a request that passes. Assumes nothing.
use Rattle.std.specs.Prelude.{Option, None, Some, ok_or, Result, Ok, Err, IsErrAnd, if◌then◌else◌}
use Rattle.std.proofs.Common.{◌≡◌, ℕ, suc, ◌+◌, ◌*◌, ◌<◌, ◌≤◌, Bool, true, false, ◌≢◌, List, [], ◌∷◌, ◌++◌, map, length, set, sym, refl, ap, ◌∙◌, subst, arith, length-set}
use Rattle.board.specs.declared.Ticket.{Ticket}
use Rattle.board.specs.declared.Unit.{Unit}
use Rattle.board.specs.declared.Request.{Request}
use Rattle.board.specs.Plain.{◌<?◌, ◌≤?◌, Row, ◌⇒◌, first_that_applies}
use Rattle.board.specs.Board.{the_ticket, units, places, last_ticket, Board, live, next_ticket}
use Rattle.board.specs.Block.{byte, fields, request, with_status}
use Rattle.board.specs.Answers.{refused, taken, number, taking_in_says}
use Rattle.board.specs.declared.Refusal.{Refusal}
use Rattle.board.specs.declared.Refusal.TheVariants as refusal
use Rattle.board.specs.TakingIn.{Verdict, refuse, accept, address_held, checks_of_block, checks_of_board, verdict, joined, judged, taking_in}
use Rattle.board.specs.Calls.{take_in, step}
use Rattle.board.proofs.Choose.{neither, not_below, when_at_most, unless_at_most}
use Rattle.block.specs.Checked.{outcome, outcome_of, examined, passed}
use Rattle.block.specs.Checked as checked
use Rattle.rows.specs.Words.{head, as_place, popped}
use Rattle.rows.specs.Rows.{row_of}
use Rattle.rows.proofs.Links.{off}
use Rattle.rows.proofs.Shown.{first_some}
use Rattle.rows.proofs.Carry.{Out, first_out, joins, put_in, Carried, carry, read_same, read_joined}
use Rattle.desk.specs.Words.{freeze_at, written}
use Rattle.desk.specs.View.{request_at, active_at, finished_at, Rest, the_rest, view, Valid}
use Rattle.desk.specs.Promise.{Does, TakesIn}
use Rattle.desk.specs.TakingIn.{held_to, entered, status_said}
use Rattle.desk.proofs.Sought.{row_first}
use Rattle.desk.proofs.Read.{SamePlace, RequestFits, same_request_at, kept_place, stores_low, written_links, written_other, written_request}
use Rattle.desk.proofs.Views.{board_same, does, waiting_on, waiting_changed, same_freezes, request_others, active_others, finished_others}
use Rattle.desk.proofs.Held.{held_live, none_free, one_free}

-- ---- tables end to end

-- the second table is what the first one says otherwise
first_append : {A : Type 0} (xs ys : List (Row A)) (o : A) → first_that_applies (xs ++ ys) o ≡ first_that_applies xs (first_that_applies ys o)
unfolding first_that_applies
first_append [] ys o = refl
first_append ((t ⇒ x) ∷ xs) ys o = ap (λ z. if t then x else z) (first_append xs ys o)

-- what a table refuses, it refuses whatever is said otherwise
still_refuses : (xs : List (Row Verdict)) (o : Verdict) (n : ℕ) → first_that_applies xs accept ≡ refuse n → first_that_applies xs o ≡ refuse n
unfolding first_that_applies
still_refuses [] o n e = let z : ◌≡◌ {A = ℕ} 0 1 = cc in absurd (omega arith)
still_refuses ((true ⇒ x) ∷ xs) o n e = e
still_refuses ((false ⇒ x) ∷ xs) o n e = still_refuses xs o n e

-- a table without rows
no_row : (o : Verdict) → first_that_applies [] o ≡ o
unfolding first_that_applies
no_row o = refl

-- a row that was passed over: its test failed, and the rows below decide
passed_over : (test : Bool) (n : ℕ) (rows : List (Row Verdict)) → first_that_applies ((test ⇒ refuse n) ∷ rows) accept ≡ accept
    → (test ≡ false) × (first_that_applies rows accept ≡ accept) × ((o : Verdict) → first_that_applies ((test ⇒ refuse n) ∷ rows) o ≡ first_that_applies rows o)
unfolding first_that_applies
passed_over true n rows e = let z : ◌≡◌ {A = ℕ} 0 1 = cc in absurd (omega arith)
passed_over false n rows e = (refl, e, λ o. refl)

-- ---- checks 1 to 8

-- what an outcome tells of the verdict behind it
refused_outcome : (v : Verdict) (q : Request) (f : Bool) (n : ℕ) → outcome v q f ≡ checked.refused n → v ≡ refuse n
refused_outcome (refuse k) q f n e = let z : k ≡ n = cc in ap refuse z
refused_outcome accept q f n e = let z : ◌≡◌ {A = ℕ} 0 1 = cc in absurd (omega arith)

passed_outcome : (v : Verdict) (q q' : Request) (f f' : Bool) → outcome v q f ≡ passed q' f' → (v ≡ accept) × (q' ≡ q) × (f' ≡ f)
passed_outcome (refuse k) q q' f f' e = let z : ◌≡◌ {A = ℕ} 0 1 = cc in absurd (omega arith)
passed_outcome accept q q' f f' e = (refl, (cc), (cc))

-- what is known of a block that passes them
pub record Passes (t : Ticket) (s : List ℕ) (q : Request) (front : Bool) : Type 0 where
  pub asks : q ≡ request t (fields s)
  pub at_front : front ≡ (fields s).sim_queue_priority
  pub unit_small : q.unit.0 < 64
  pub length_small : q.length < 0x1000000
  -- the rest of the table decides
  pub further : (o : Verdict) → first_that_applies (checks_of_block (length s) (fields s)) o ≡ o

-- a block that examines as passed passes them
pub passes : (t : Ticket) (s : List ℕ) (q : Request) (front : Bool) → examined t s ≡ passed q front → Passes t s q front
unfolding examined outcome_of checks_of_block request
passes t s q front e =
    let x = passed_outcome (first_that_applies (checks_of_block (length s) (fields s)) accept) (request t (fields s)) q (fields s).sim_queue_priority front e in
    let p1 = passed_over _ _ _ x.0 in
    let p2 = passed_over _ _ _ p1.1 in
    let p3 = passed_over _ _ _ p2.1 in
    let p4 = passed_over _ _ _ p3.1 in
    let p5 = passed_over _ _ _ p4.1 in
    let p6 = passed_over _ _ _ p5.1 in
    let p7 = passed_over _ _ _ p6.1 in
    let p8 = passed_over _ _ _ p7.1 in
    let far = neither (6 <? (fields s).target) (7 <? (fields s).lun) p5.0 in
    let target = not_below {m = 6} {n = (fields s).target} far.0 in
    let lun = not_below {m = 7} {n = (fields s).lun} far.1 in
    let short = not_below {m = 0xFFFFFF} {n = (fields s).data_length} p8.0 in
    let u : q.unit.0 ≡ (fields s).target * 8 + (fields s).lun = ap (λ z. z.unit.0) x.1 in
    let l : q.length ≡ (fields s).data_length = ap (λ z. z.length) x.1 in record {
      asks = x.1;
      at_front = x.2;
      unit_small = omega (arith, u, target, lun);
      length_small = omega (arith, l, short);
      further = λ o. p1.2 o ∙ (p2.2 o ∙ (p3.2 o ∙ (p4.2 o ∙ (p5.2 o ∙ (p6.2 o ∙ (p7.2 o ∙ (p8.2 o ∙ no_row o)))))));
    }

-- the sense length is a byte of the block
pub passes_fits : {t : Ticket} {s : List ℕ} {q : Request} {front : Bool} → Passes t s q front → byte 44 s < 256 → RequestFits q
unfolding request fields
passes_fits {s = s} {q = q} p h = let e : q.sense ≡ byte 44 s = ap (λ z. z.sense) p.asks in record { unit = p.unit_small; length = p.length_small; sense = omega arith }

-- ---- checks 9 to 11

-- what the tests of the three say
abbrev by : (held out_of_tickets full : Bool) → Verdict
by c d e = if c then refuse 0x06 else if d then refuse 0x05 else if e then refuse 0x05 else accept

-- a block that is refused on its own is refused by every board
block_verdict : (b : Board) (t : Ticket) (s : List ℕ) (n : ℕ) → examined t s ≡ checked.refused n → verdict b s ≡ refuse n
unfolding verdict examined outcome_of
block_verdict b t s n e =
    let xs = checks_of_block (length s) (fields s) in
    let ys = checks_of_board b (fields s) in
    first_append xs ys accept ∙ still_refuses xs (first_that_applies ys accept) n (refused_outcome (first_that_applies xs accept) (request t (fields s)) (fields s).sim_queue_priority n e)

-- a block that passes is judged by the board
board_verdict : (b : Board) (t : Ticket) (s : List ℕ) (q : Request) (front : Bool) → Passes t s q front
    → verdict b s ≡ by (address_held b q.address) (last_ticket ≤? b.given) (places ≤? length (live b))
unfolding verdict checks_of_board first_that_applies request
board_verdict b t s q front p =
    let xs = checks_of_block (length s) (fields s) in
    let ys = checks_of_board b (fields s) in
    let a : q.address ≡ (fields s).address = ap (λ z. z.address) p.asks in
    first_append xs ys accept ∙ (p.further (first_that_applies ys accept) ∙ ap (λ z. by (address_held b z) (last_ticket ≤? b.given) (places ≤? length (live b))) (sym a))

-- ---- a refusal

-- a written status adds no byte
status_size : (n : ℕ) (s : List ℕ) → length (with_status n s) ≡ length s
unfolding with_status
status_size n s = go (length s <? 8)
  where
    go : (c : Bool) → length (if c then s else set s 7 n) ≡ length s
    go true = refl
    go false = length-set s 7 n

-- a refusal, on a memory
turned_away : (m : List ℕ) (r : Rest) (s : List ℕ) (n : ℕ) → (Valid m r → verdict (view m r) s ≡ refuse n) → Does m m r r (take_in s) (refused n) (with_status n s)
unfolding step taking_in judged
turned_away m r s n e =
    does
    (λ v. v.rows)
    (λ v. sym (ap (λ w. (judged (view m r) s w).board) (e v)))
    (λ v. sym (ap (λ w. (judged (view m r) s w).answer) (e v)))
    (λ v. sym (ap (λ w. (judged (view m r) s w).lent) (e v)))
    (λ k z. refl)

-- and all that it promises
refuses : (m s : List ℕ) (given n : ℕ) → ((clock : ℕ) (mark : Unit) → let r = the_rest clock mark given in Valid m r → verdict (view m r) s ≡ refuse n)
    → TakesIn m m s (with_status n s) given given (refused n)
refuses m s given n e = record {
  does = λ clock mark. turned_away m (the_rest clock mark given) s n (e clock mark);
  byte_7 = λ k z. let y : n ≡ k = cc in ap (λ i. with_status i s) y;
  no_ticket = λ k z. refl;
  byte_7_clear = λ t z. let y : ◌≡◌ {A = ℕ} 0 1 = cc in absurd (omega arith);
  next_ticket = λ t z. let y : ◌≡◌ {A = ℕ} 0 1 = cc in absurd (omega arith);
  size = status_size n s;
}

-- checks 1 to 8: one of them applies
pub block_refuses : (m : List ℕ) (t : Ticket) (s : List ℕ) (given n : ℕ) → examined t s ≡ checked.refused n → TakesIn m m s (with_status n s) given given (refused n)
block_refuses m t s given n e = refuses m s given n (λ clock mark v. block_verdict (view m (the_rest clock mark given)) t s n e)

-- as the caller is told of it
told : (m s : List ℕ) (given : ℕ) (why : Refusal) (r : Result Ticket Refusal) → IsErrAnd r (λ w. w ≡ why) → TakesIn m m s (with_status (number why) s) given given (refused (number why))
    → TakesIn m m s (with_status (status_said r) s) given given (taking_in_says r)
told m s given why (Ok x) i h = absurd i
told m s given why (Err w) i h = subst (λ z. TakesIn m m s (with_status (number z) s) given given (refused (number z))) (sym i) h

pub told_refused : (m : List ℕ) (t : Ticket) (s : List ℕ) (given : ℕ) (why : Refusal) (r : Result Ticket Refusal) → examined t s ≡ checked.refused (number why) → IsErrAnd r (λ w. w ≡ why)
    → TakesIn m m s (with_status (status_said r) s) given given (taking_in_says r)
told_refused m t s given why r e i = told m s given why r i (block_refuses m t s given (number why) e)

module _ (m : List ℕ) (t : Ticket) (s : List ℕ) (q : Request) (front : Bool) (given : ℕ) (p : Passes t s q front) where
  -- the checks on the board, as the words tell their tests
  words_verdict : (c d e : Bool) (r : Rest) (v : Valid m r) → held_to 32 m q.address ≡ c → (last_ticket ≤? r.given) ≡ d → (places ≤? length (live (view m r))) ≡ e → verdict (view m r) s ≡ by c d e
  unfolding view
  words_verdict c d e r v hc hd he = board_verdict (view m r) t s q front p ∙ rw (sym (held_live m r v q.address) ∙ hc, hd, he)

  -- check 9 applies
  pub address_refuses : held_to 32 m q.address ≡ true → TakesIn m m s (with_status 0x06 s) given given (refused 0x06)
  address_refuses h = refuses m s given 0x06 (λ clock mark v. words_verdict true _ _ (the_rest clock mark given) v h refl refl)

  -- check 10 applies
  pub ticket_refuses : held_to 32 m q.address ≡ false → last_ticket ≤ given → TakesIn m m s (with_status 0x05 s) given given (refused 0x05)
  ticket_refuses h l = refuses m s given 0x05 (λ clock mark v. words_verdict false true _ (the_rest clock mark given) v h (when_at_most l) refl)

  -- check 11 applies
  pub places_refuse : held_to 32 m q.address ≡ false → given < last_ticket → as_place (head m 0) ≡ None → TakesIn m m s (with_status 0x05 s) given given (refused 0x05)
  places_refuse h l f =
      refuses m s given 0x05
      (λ clock mark v. words_verdict false false true (the_rest clock mark given) v h (unless_at_most l) (when_at_most (none_free m (the_rest clock mark given) v f)))

  -- as the caller is told of it
  pub places_told : held_to 32 m q.address ≡ false → given < last_ticket → (f : Result ℕ Refusal) (why : Refusal) (r : Result Ticket Refusal)
      → f ≡ ok_or (as_place (head m 0)) refusal.CamBusy → f ≡ Err why → IsErrAnd r (λ w. w ≡ why) → TakesIn m m s (with_status (status_said r) s) given given (taking_in_says r)
  places_told h l f why r n e i = go (as_place (head m 0)) refl (sym n ∙ e)
    where
      go : (o : Option ℕ) → as_place (head m 0) ≡ o → ok_or o refusal.CamBusy ≡ Err why → TakesIn m m s (with_status (status_said r) s) given given (taking_in_says r)
      go None z k = let y : refusal.CamBusy ≡ why = cc in told m s given why r i (subst (λ w. TakesIn m m s (with_status (number w) s) given given (refused (number w))) y (places_refuse h l z))
      go (Some x) z k = let y : ◌≡◌ {A = ℕ} 0 1 = cc in absurd (omega arith)

  -- none of them applies
  accepts : (r : Rest) (i : ℕ) → Valid m r → held_to 32 m q.address ≡ false → r.given < last_ticket → as_place (head m 0) ≡ Some i → verdict (view m r) s ≡ accept
  accepts r i v h l f = words_verdict false false false r v h (unless_at_most l) (unless_at_most (one_free m r v i f))

-- ---- a request is taken in

-- in the words of rows
entered_is : (front : Bool) (m : List ℕ) (p : ℕ) (q : Request) → entered m p q front ≡ put_in front (written (popped m 0 p) p q) (3 + q.unit.0) p
unfolding entered
entered_is true m p q = refl
entered_is false m p q = refl

-- at the front or at the end, in the board's words
joins_if : {A : Type 0} (front : Bool) (x : A) (l : List A) → joins front x l ≡ (if front then x ∷ l else l ++ (x ∷ []))
joins_if true x l = refl
joins_if false x l = refl

-- the freezes stand outside
written_freezes : (m : List ℕ) (p : ℕ) (q : Request) (u : ℕ) → p < 32 → u < units → freeze_at (written m p q) u ≡ freeze_at m u
unfolding written
written_freezes m p q u hp hu =
    let w₁ = set m (198 + p) q.ticket.0 in
    stores_low (set w₁ (230 + p) q.address) p 0 _ (262 + u) (omega arith)
    ∙ (off w₁ (230 + p) (262 + u) q.address (omega arith) ∙ off m (198 + p) (262 + u) q.ticket.0 (omega arith))

module _ (m : List ℕ) (r : Rest) (q : Request) (front : Bool) (fits : RequestFits q) (p : ℕ) (free : as_place (head m 0) ≡ Some p) (v : Valid m r) where
  hp : p < 32
  hp = (first_some m 0 p free).1

  -- the row, and the words on the way
  abbrev k : ℕ
  k = 3 + q.unit.0

  abbrev m₁ : List ℕ
  m₁ = popped m 0 p

  abbrev m₂ : List ℕ
  m₂ = written m₁ p q

  abbrev m' : List ℕ
  m' = entered m p q front

  -- the free places behind it
  abbrev more : List ℕ
  more = (row_first m v.rows 0 p (omega arith) free).0

  abbrev hk : k < 67
  hk = omega (arith, fits.unit)

  -- taken from the free row
  out : Out m m₁ 0 p more
  out = first_out m 0 p more v.rows (omega arith) (row_first m v.rows 0 p (omega arith) free).1

  -- and put into the row of its unit
  carried : Carried m m₂ m' 0 k p front more
  carried = subst (λ z. Carried m m₂ z 0 k p front more) (sym (entered_is front m p q)) (carry front m m₁ m₂ 0 k p more v.rows (omega arith) hk out (written_links m₁ p q hp))

  -- every other place reads as before
  other : (x : ℕ) → x < 32 → x ≢ p → SamePlace m₁ m₂ x
  other = written_other m₁ p q hp

  -- the request stands at its place
  entered_request : request_at m' p ≡ q
  entered_request = same_request_at (kept_place m₂ m' p carried.kept).request ∙ written_request m₁ p q hp out.linked.size fits

  -- its unit's waiting order
  entered_waiting : map (request_at m') (row_of m' k) ≡ (if front then q ∷ (view m r).waiting q.unit else (view m r).waiting q.unit ++ (q ∷ []))
  entered_waiting =
      let l : List Request = map (request_at m) (row_of m k) in
      read_joined out carried (request_at m') (request_at m) (request_others out carried other) hk (omega arith)
      ∙ (ap (λ x. joins front x l) entered_request
      ∙ (joins_if front q l ∙ ap (λ (z : List Request). if front then q ∷ z else z ++ (q ∷ [])) (sym (waiting_on m r q.unit fits.unit))))

  -- the board that is shown then
  entered_view : (g : ℕ) → q.ticket.0 ≡ g → view m' (the_rest r.clock r.mark g) ≡ joined q front (view m r)
  unfolding view joined
  entered_view g e =
      let r' = the_rest r.clock r.mark g in
      board_same (view m' r') (joined q front (view m r))
      (waiting_changed m m' r r' q.unit (if front then q ∷ (view m r).waiting q.unit else (view m r).waiting q.unit ++ (q ∷ [])) fits.unit entered_waiting
      (λ w hw n. read_same out carried (request_at m') (request_at m) (request_others out carried other) (3 + w) (omega arith) (omega arith) (omega arith)))
      (read_same out carried (active_at m') (active_at m) (active_others out carried other) 2 (omega arith) (omega arith) (omega arith))
      (read_same out carried (finished_at m') (finished_at m) (finished_others out carried other) 1 (omega arith) (omega arith) (omega arith))
      (same_freezes m m' r r' (λ w hw. carried.kept (262 + w) (omega arith) ∙ (written_freezes m₁ p q w hp hw ∙ out.kept (262 + w) (omega arith))))
      refl
      refl
      (sym e)

-- what an accepted block makes of the board
step_taken : (b : Board) (t : Ticket) (s : List ℕ) (q : Request) (front : Bool) → Passes t s q front → t ≡ next_ticket b → verdict b s ≡ accept
    → step b (take_in s) ≡ record { board = joined q front b; answer = taken t; lent = with_status 0x00 s }
unfolding step taking_in judged
step_taken b t s q front p n e = ap (judged b s) e ∙ rw (p.asks, p.at_front, n)

-- taking in, where every check was passed
pub taken_in : (m : List ℕ) (t : Ticket) (s : List ℕ) (q : Request) (front : Bool) (given : ℕ) → Passes t s q front → RequestFits q
    → held_to 32 m q.address ≡ false → given < last_ticket → (i : ℕ) → as_place (head m 0) ≡ Some i → t.0 ≡ suc given
    → TakesIn m (entered m i q front) s (with_status 0x00 s) given t.0 (taken t)
unfolding view request
taken_in m t s q front given p fits h l i f n = record {
  does = λ clock mark.
      let r = the_rest clock mark given in
      let stepped : Valid m r → step (view m r) (take_in s) ≡ record { board = joined q front (view m r); answer = taken t; lent = with_status 0x00 s } =
      λ v. step_taken (view m r) t s q front p (ap the_ticket n) (accepts m t s q front given p r i v h l f) in
      does
      (λ v. (carried m r q front fits i f v).sound)
      (λ v. entered_view m r q front fits i f v t.0 (ap (λ z. z.ticket.0) p.asks) ∙ sym (ap (λ z. z.board) (stepped v)))
      (λ v. sym (ap (λ z. z.answer) (stepped v)))
      (λ v. sym (ap (λ z. z.lent) (stepped v)))
      (λ k z. let y : ◌≡◌ {A = ℕ} 0 1 = cc in absurd (omega arith));
  byte_7 = λ k z. let y : ◌≡◌ {A = ℕ} 0 1 = cc in absurd (omega arith);
  no_ticket = λ k z. let y : ◌≡◌ {A = ℕ} 0 1 = cc in absurd (omega arith);
  byte_7_clear = λ u z. refl;
  next_ticket = λ u z. let y : t ≡ u = cc in (ap (λ (x : Ticket). x.0) (sym y) ∙ n, n);
  size = status_size 0x00 s;
}
