-- Every live request's copy is its own whole block: kept by every line, and so H is never refused for its block. Assumes nothing.
use Rattle.std.specs.Prelude.{if◌then◌else◌}
use Prim.Native.Nat.{ℕ, ◌+◌, ◌≤◌}
use native.Mathlib.Omega.{arith}
use mathlib.Core.Path.{◌≡◌, refl, sym, ap, ◌∙◌, fun_ext}
use mathlib.Core.Logic.{◌≢◌}
use mathlib.Core.Bool.{Bool, true, false, not, ◌||◌}
use mathlib.Core.List.{List, [], ◌∷◌, map}
use lib.ListN.{length}
use Rattle.board.specs.declared.Ticket.{Ticket}
use Rattle.board.specs.declared.Request.{Request}
use Rattle.board.specs.declared.Finished.{Finished}
use Rattle.board.specs.declared.Unit.{Unit}
use Rattle.board.specs.declared.Active.{Active}
use Rattle.board.specs.declared.Event.{Event}
use Rattle.board.specs.declared.End.{End}
use Rattle.board.specs.declared.Implausible.{Implausible}
use Rattle.board.specs.declared.Found.{Found}
use Rattle.std.specs.Prelude.{Option, Some, None, Result, Ok, Err}
use Rattle.board.specs.Plain.{◌=?◌, ◌<?◌, ◌≤?◌, any}
use Rattle.board.specs.Board.{the_unit, same_ticket, units, find, ticket_of_active, most_active, Freeze, one_freeze, one_release, Board, all_waiting, live, next_ticket, with_finished}
use Rattle.board.specs.Sending.{sent_first, sent_by, sending}
use Rattle.board.specs.Ending.{ending, reported_by, reported, reporting}
use Rattle.board.specs.Block.{whole_block, four, fields, request, with_status, with_told}
use Rattle.board.specs.Answers.{Answer, refused, taken, sent, nothing, done, before, time, first, empty, handed, Stepped}
use Rattle.board.specs.TakingIn.{Verdict, refuse, accept, verdict, joined, judged, taking_in}
use Rattle.board.specs.Calls.{Call, take_in, send, event, abort, freeze, release, tick, reset, hand_back, step, asked, aborted, aborting, freezing, ticking, resetting, not_its_block, first_to, handing_back}
use Rattle.board.specs.Demand3.{given_by, handed_by}
use Rattle.board.specs.Limits.{Sound, Fits}
use Rattle.board.proofs.Choose.{if_ind, same, differ, itself, refute, unless_below}
use Rattle.board.proofs.Weigh.{weigh, one, weigh_count, weigh_each}
use Rattle.board.proofs.Moves.{accepted_joins, accepted_whole}
use Rattle.board.proofs.Kept.{mass, live_mass, joined_mass, Kept}
use Rattle.board.proofs.Limits.{soundness}
use Rattle.board.proofs.Places.{fresh_mass, kept_step}
use Rattle.board.proofs.Written.{status_others, status_length}
use Rattle.lines.specs.Record.{Record, parse}
use Rattle.lines.specs.Record as record_of
use Rattle.replay_log.specs.Replay.{State, fresh_state, copies_after, copy_of_first, answered, respond, answer}
use Rattle.replay_log.specs.Own.{state_after, OwnCopies}
use Rattle.copies.proofs.Copied.{unless_same}

-- ---- a copy that won't do

-- a request whose copy is too short or another's: what refusal 105 looks at
abbrev bad : (Ticket → List ℕ) → Request → Bool
bad copies q = length (copies q.ticket) <? whole_block || not (four 0 (copies q.ticket) =? q.address)

record Owns (b : Board) (copies : Ticket → List ℕ) : Type 0 where
  sound : Sound b
  good : mass (one (bad copies)) b ≡ 0

-- ---- weights

weigh_two : {A : Type 0} (f g h : A → ℕ) → ((x : A) → f x ≤ g x + h x) → (l : List A) → weigh f l ≤ weigh g l + weigh h l
weigh_two f g h e [] = omega arith
weigh_two f g h e (x ∷ l) = let p = e x in let q = weigh_two f g h e l in omega arith

abbrev has_ticket : Ticket → Request → Bool
has_ticket t q = same_ticket q.ticket t

-- copies that differ at one ticket alone are bad for no request but that ticket's
bad_besides : (b : Board) (copies copies' : Ticket → List ℕ) (t : Ticket) → ((u : Ticket) → u.0 ≢ t.0 → copies' u ≡ copies u)
    → mass (one (bad copies')) b ≤ mass (one (bad copies)) b + mass (one (has_ticket t)) b
bad_besides b copies copies' t e =
    let p = weigh_two (one (bad copies')) (one (bad copies)) (one (has_ticket t)) (λ q. pointwise q (has_ticket t q) refl) (live b) in
    let f = live_mass (one (bad copies')) b in
    let g = live_mass (one (bad copies)) b in
    let h = live_mass (one (has_ticket t)) b in
    omega arith
  where
    small : (c : Bool) → (if c then 1 else 0) ≤ 1
    small true = omega arith
    small false = omega arith

    pointwise : (q : Request) (c : Bool) → has_ticket t q ≡ c → one (bad copies') q ≤ one (bad copies) q + one (has_ticket t) q
    pointwise q true k = let s = small (bad copies' q) in let z : one (has_ticket t) q ≡ 1 = ap (λ (x : Bool). if x then 1 else 0) k in omega arith
    pointwise q false k =
        let z : one (bad copies') q ≡ one (bad copies) q = ap (λ (l : List ℕ). if (length l <? whole_block || not (four 0 l =? q.address)) then 1 else 0) (e q.ticket (differ k)) in omega arith

-- how many live requests have a ticket
has_count : (b : Board) → Sound b → (t : Ticket) → mass (one (has_ticket t)) b ≤ 1
has_count b s t = let p = weigh_count (has_ticket t) (live b) ∙ live_mass (one (has_ticket t)) b in let q = s.limits.tickets t in omega arith

-- none has the next one
next_new : (b : Board) → Sound b → mass (one (has_ticket (next_ticket b))) b ≡ 0
next_new b s =
    sym (live_mass (one (has_ticket (next_ticket b))) b)
    ∙ weigh_each (Fits b) (has_ticket (next_ticket b)) (λ q f. refute (has_ticket (next_ticket b) q) (λ e. let z : q.ticket.0 ≡ (next_ticket b).0 = same e in let g = f.ticket_given in absurd (omega arith))) (live b) s.limits.each

-- ---- taking in

-- the copy of a block that is accepted
whole_copy : (s : List ℕ) → whole_block ≤ length s → (length (with_status 0 s) <? whole_block || not (four 0 (with_status 0 s) =? (fields s).address)) ≡ false
unfolding fields
whole_copy s h =
    let n = status_length 0 s in
    let a : four 0 (with_status 0 s) ≡ four 0 s = rw (status_others 0 s 0 (omega arith), status_others 0 s 1 (omega arith), status_others 0 s 2 (omega arith), status_others 0 s 3 (omega arith)) refl in
    rw (unless_below {m = length (with_status 0 s)} {n = whole_block} (omega arith), a, itself (four 0 s)) refl

owns_taken : (b : Board) (copies : Ticket → List ℕ) (s : List ℕ) → Owns b copies → verdict b s ≡ accept
    → mass (one (bad (copies_after (taken (next_ticket b)) (with_status 0 s) copies))) (joined (request (next_ticket b) (fields s)) (fields s).sim_queue_priority b) ≡ 0
unfolding copies_after given_by handed_by any request
owns_taken b copies s o e =
    let t = next_ticket b in
    let copies' = copies_after (taken t) (with_status 0 s) copies in
    let q = request t (fields s) in
    let own : copies' t ≡ with_status 0 s = rw (itself t.0) refl in
    let j = joined_mass (one (bad copies')) b q (fields s).sim_queue_priority (let u = (accepted_joins b s e).unit in omega arith) in
    let mine : one (bad copies') q ≡ 0 = ap (λ (l : List ℕ). if (length l <? whole_block || not (four 0 l =? (fields s).address)) then 1 else 0) own ∙ ap (λ (x : Bool). if x then 1 else 0) (whole_copy s (accepted_whole b s e)) in
    let others = bad_besides b copies copies' t (λ u d. rw (unless_same (λ z. d (sym z))) refl) in
    let new = next_new b o.sound in
    let old = o.good in
    omega arith

-- ---- the other calls

-- no ticket is given
abbrev Old : Stepped → Type 0
Old p = given_by p.answer ≡ []

old_sent_first : (b : Board) (u : Unit) (n : ℕ) (l : List Request) → Old (sent_first b u n l)
unfolding sent_first given_by
old_sent_first b u n [] = refl
old_sent_first b u n (q ∷ more) = refl

old_sent_by : (b : Board) (r : Option Found) → Old (sent_by b r)
unfolding sent_by given_by
old_sent_by b None = refl
old_sent_by b (Some x) = old_sent_first b x.unit x.looked (b.waiting x.unit)

old_sending : (b : Board) → Old (sending b)
unfolding sending given_by
old_sending b = if_ind Old (most_active ≤? length b.active) _ _ (λ e. refl) (λ e. old_sent_by b _)

old_reported_by : (b : Board) (q : Request) (e : Result End Implausible) → Old (reported_by b q e)
unfolding reported_by given_by
old_reported_by b q (Err why) = refl
old_reported_by b q (Ok x) = refl

old_reported : (b : Board) (e : Event) (moved : ℕ) (a : Option Active) → Old (reported b e moved a)
unfolding reported given_by
old_reported b e moved None = refl
old_reported b e moved (Some a) = old_reported_by b a.request (ending a e moved)

old_asked : (b : Board) (t : Ticket) (a : Option Active) → Old (asked b t a)
unfolding asked given_by
old_asked b t None = refl
old_asked b t (Some a) = refl

old_aborted : (b : Board) (t : Ticket) (q : Option Request) → Old (aborted b t q)
unfolding aborted given_by
old_aborted b t (Some q) = refl
old_aborted b t None = old_asked b t (find ticket_of_active t b.active)

old_freezing : (change : Freeze → Freeze) (b : Board) (u : Unit) → Old (freezing change b u)
unfolding freezing given_by
old_freezing change b u = if_ind Old (u.0 <? units) _ _ (λ e. refl) (λ e. refl)

old_first_to : (b : Board) (s : List ℕ) (l : List Finished) → Old (first_to b s l)
unfolding first_to given_by
old_first_to b s [] = refl
old_first_to b s (x ∷ more) = if_ind Old (not_its_block s x) _ _ (λ e. refl) (λ e. refl)

-- a record of the replay that takes no block in
data Later : Call → Type 0 where
  later_send : Later send
  later_event : (t : Ticket) (e : Event) (moved : ℕ) → Later (event t e moved)
  later_abort : (t : Ticket) → Later (abort t)
  later_freeze : (u : Unit) → Later (freeze u)
  later_release : (u : Unit) → Later (release u)
  later_tick : Later tick
  later_reset : Later reset
  later_hand_back : (s : List ℕ) → Later (hand_back s)

old : (b : Board) {c : Call} → Later c → Old (step b c)
unfolding step reporting aborting ticking resetting handing_back given_by
old b later_send = old_sending b
old b (later_event t e moved) = old_reported b e moved (find ticket_of_active t b.active)
old b (later_abort t) = old_aborted b t (find (λ q. q.ticket) t (all_waiting b))
old b (later_freeze u) = old_freezing one_freeze b u
old b (later_release u) = old_freezing one_release b u
old b later_tick = refl
old b later_reset = refl
old b (later_hand_back s) = old_first_to b s b.finished

nobody : {A B : Type 0} (f : A → B) (l : List A) → map f l ≡ [] → l ≡ []
nobody f [] e = refl
nobody f (x ∷ l) e = let z : ◌≡◌ {A = ℕ} 0 1 = cc in absurd (omega arith)

-- an answer hands back one ticket at most
one_handed : (a : Answer) (t : Ticket) (l : List Ticket) → handed_by a ≡ t ∷ l → handed_by a ≡ t ∷ []
unfolding handed_by
one_handed (handed u x) t l e = let z : u ≡ t = cc in ap (λ (y : Ticket). y ∷ []) z
one_handed (refused n) t l e = let z : ◌≡◌ {A = ℕ} 0 1 = cc in absurd (omega arith)
one_handed (taken u) t l e = let z : ◌≡◌ {A = ℕ} 0 1 = cc in absurd (omega arith)
one_handed (sent u v cdb n) t l e = let z : ◌≡◌ {A = ℕ} 0 1 = cc in absurd (omega arith)
one_handed (nothing n) t l e = let z : ◌≡◌ {A = ℕ} 0 1 = cc in absurd (omega arith)
one_handed done t l e = let z : ◌≡◌ {A = ℕ} 0 1 = cc in absurd (omega arith)
one_handed (before n) t l e = let z : ◌≡◌ {A = ℕ} 0 1 = cc in absurd (omega arith)
one_handed (time n) t l e = let z : ◌≡◌ {A = ℕ} 0 1 = cc in absurd (omega arith)
one_handed (first u address callback wanted) t l e = let z : ◌≡◌ {A = ℕ} 0 1 = cc in absurd (omega arith)
one_handed empty t l e = let z : ◌≡◌ {A = ℕ} 0 1 = cc in absurd (omega arith)

-- what they do to the copies
owns_later : (b : Board) (copies : Ticket → List ℕ) (c : Call) (a : Answer) (lent : List ℕ) → Owns b copies → Later c → (step b c).answer ≡ a → mass (one (bad (copies_after a lent copies))) (step b c).board ≡ 0
unfolding copies_after any
owns_later b copies c a lent o later e = go (handed_by a) refl
  where
    k : Kept b (step b c).answer (step b c).board
    k = kept_step b c o.sound.own_unit

    none_given : given_by a ≡ []
    none_given = ap given_by (sym e) ∙ old b later

    copies' : Ticket → List ℕ
    copies' = copies_after a lent copies

    none_came : (g : Request → ℕ) → weigh g k.came ≡ 0
    none_came g = ap (weigh g) (nobody (λ q. q.ticket) k.came (k.gives ∙ old b later))

    go : (l : List Ticket) → handed_by a ≡ l → mass (one (bad copies')) (step b c).board ≡ 0
    go [] h =
        let gone : weigh (one (bad copies')) k.gone ≡ 0 = ap (weigh (one (bad copies'))) (nobody (λ q. q.ticket) k.gone (k.hands ∙ (ap handed_by e ∙ h))) in
        let as_before : (t : Ticket) → copies' t ≡ copies t = λ t. rw (none_given, h) refl in
        let kept : mass (one (bad copies')) b ≡ 0 = ap (λ (f : Ticket → List ℕ). mass (one (bad f)) b) (fun_ext as_before) ∙ o.good in
        let p = k.balance (one (bad copies')) in
        let z = none_came (one (bad copies')) in
        omega arith
    go (t ∷ l) h = dropped (one_handed a t l h) k.gone (k.hands ∙ (ap handed_by e ∙ one_handed a t l h)) (k.balance (one (bad copies')))
      where
        left : handed_by a ≡ t ∷ [] → (q : Request) → q.ticket ≡ t → one (bad copies') q ≡ 1
        left one_t q z = ap (λ (u : List ℕ). if (length u <? whole_block || not (four 0 u =? q.address)) then 1 else 0) (ap copies' z ∙ no_copy)
          where
            no_copy : copies' t ≡ []
            no_copy = rw (none_given, one_t, itself t.0) refl

        dropped : handed_by a ≡ t ∷ [] → (gone : List Request) → map (λ q. q.ticket) gone ≡ t ∷ []
            → mass (one (bad copies')) (step b c).board + weigh (one (bad copies')) gone ≡ mass (one (bad copies')) b + weigh (one (bad copies')) k.came
            → mass (one (bad copies')) (step b c).board ≡ 0
        dropped one_t [] m p = let z : ◌≡◌ {A = ℕ} 0 1 = cc in absurd (omega arith)
        dropped one_t (q ∷ more) m p =
            let bad_one = left one_t q cc in
            let others = bad_besides b copies copies' t (λ u d. rw (none_given, one_t, unless_same (λ z. d (sym z))) refl) in
            let just_one = has_count b o.sound t in
            let z = none_came (one (bad copies')) in
            let g = o.good in
            omega arith

-- ---- every line

owns_take_in : (b : Board) (copies : Ticket → List ℕ) (s : List ℕ) → Owns b copies
    → mass (one (bad (copies_after (taking_in b s).answer (taking_in b s).lent copies))) (taking_in b s).board ≡ 0
unfolding taking_in judged copies_after given_by handed_by any
owns_take_in b copies s o = go (verdict b s) refl
  where
    go : (v : Verdict) → verdict b s ≡ v → mass (one (bad (copies_after (judged b s v).answer (judged b s v).lent copies))) (judged b s v).board ≡ 0
    go (refuse n) e = o.good
    go accept e = owns_taken b copies s o e

-- a call that a record makes
owns_call : (s : State) (letter : ℕ) (c : Call) → Owns s.board s.copies → (mass (one (bad (copies_after (step s.board c).answer (step s.board c).lent s.copies))) (step s.board c).board ≡ 0)
    → Owns (answered s letter c).state.board (answered s letter c).state.copies
unfolding answered
owns_call s letter c o g = record { sound = soundness.step_sound s.board c o.sound; good = g }

later_owns : (s : State) (letter : ℕ) (c : Call) → Owns s.board s.copies → Later c → Owns (answered s letter c).state.board (answered s letter c).state.copies
later_owns s letter c o l = owns_call s letter c o (owns_later s.board s.copies c (step s.board c).answer (step s.board c).lent o l refl)

record_owns : (s : State) (r : Record) → Owns s.board s.copies → Owns (respond s r).state.board (respond s r).state.copies
unfolding respond step
record_owns s (record_of.submit block) o = owns_call s _ (take_in block) o (owns_take_in s.board s.copies block o)
record_owns s record_of.send o = later_owns s _ send o later_send
record_owns s (record_of.event t e moved) o = later_owns s _ (event t e moved) o (later_event t e moved)
record_owns s (record_of.abort t) o = later_owns s _ (abort t) o (later_abort t)
record_owns s (record_of.freeze n) o = later_owns s _ (freeze (the_unit n)) o (later_freeze (the_unit n))
record_owns s (record_of.release n) o = later_owns s _ (release (the_unit n)) o (later_release (the_unit n))
record_owns s record_of.tick o = later_owns s _ tick o later_tick
record_owns s record_of.reset o = later_owns s _ reset o later_reset
record_owns s record_of.hand_back o = later_owns s _ (hand_back _) o (later_hand_back _)
record_owns s record_of.malformed o = o

lines_own : (s : State) (ls : List (List ℕ)) → Owns s.board s.copies → Owns (state_after s ls).board (state_after s ls).copies
unfolding state_after
lines_own s [] o = o
lines_own s (l ∷ more) o = lines_own (answer s l).state more (record_owns s (parse l) o)

-- ---- H

first_good : (b : Board) (copies : Ticket → List ℕ) → Owns b copies → (handing_back b (copy_of_first copies b.finished)).answer ≢ refused 105
unfolding handing_back first_to not_its_block
first_good b copies o = go b.finished (let p = o.good in omega arith)
  where
    handed_over : (x : Finished) (more : List Finished) (s : List ℕ) (c : Bool) → c ≡ false
        → (if◌then◌else◌ {A = Stepped} c record { board = b; answer = refused 105; lent = s } record { board = with_finished more b; answer = handed x.request.ticket x.told; lent = with_told x.told s }).answer ≢ refused 105
    handed_over x more s true k e = let z : ◌≡◌ {A = ℕ} 0 1 = cc in omega arith
    handed_over x more s false k e = let z : ◌≡◌ {A = ℕ} 0 1 = cc in omega arith

    go : (l : List Finished) → weigh (λ x. one (bad copies) x.request) l ≡ 0 → (first_to b (copy_of_first copies l) l).answer ≢ refused 105
    go [] w = λ e. let z : ◌≡◌ {A = ℕ} 104 105 = cc in omega arith
    go (x ∷ more) w = handed_over x more (copies x.request.ticket) (bad copies x.request) (refute (bad copies x.request) (λ k. let z : one (bad copies) x.request ≡ 1 = ap (λ (c : Bool). if c then 1 else 0) k in absurd (omega arith)))

pub own_copies : OwnCopies
unfolding step fresh_state
own_copies = record {
  never_105 = λ ls. let o = lines_own fresh_state ls record { sound = soundness.fresh_sound; good = fresh_mass (one (bad (λ t. []))) } in first_good (state_after fresh_state ls).board (state_after fresh_state ls).copies o;
}
