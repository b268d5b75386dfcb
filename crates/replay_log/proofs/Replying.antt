-- A call on a memory that holds a state, and what the copies do then, is the definition's answer to a record. Assumes nothing.
use Rattle.std.specs.Prelude.{Option, Some, None, Result, Ok, Err}
use Prim.Native.Nat.{ℕ, ◌≤◌}
use native.Mathlib.Omega.{arith}
use mathlib.Core.Path.{◌≡◌, refl, sym, ap, ◌∙◌, subst, fun_ext}
use mathlib.Core.Bool.{Bool, false}
use mathlib.Core.List.{List, []}
use lib.Seq.{length-take-le}
use lib.ListN.{length, take, length-replicate, get_or-replicate, replicate}
use Rattle.board.specs.declared.Ticket.{Ticket}
use Rattle.board.specs.declared.Sending.{Sending}
use Rattle.board.specs.declared.Sent.{Sent}
use Rattle.board.specs.declared.Unreported.{Unreported}
use Rattle.board.specs.declared.UnableToAbort.{UnableToAbort}
use Rattle.board.specs.declared.NoSuchUnit.{NoSuchUnit}
use Rattle.board.specs.Board.{the_unit, Board, fresh, live}
use Rattle.board.proofs.Weigh.{one, weigh_count}
use Rattle.board.proofs.Kept.{live_mass}
use Rattle.board.proofs.Places.{fresh_mass}
use Rattle.board.specs.Answers.{Answer, refused, done, time, sending_says, reporting_says, aborting_says, freezing_says}
use Rattle.board.specs.Calls.{Call, step}
use Rattle.board.specs.Demand3.{given_by, handed_by}
use Rattle.lines.specs.Record.{Record, malformed, room, Parsed}
use Rattle.lines.specs.declared.Line.TheVariants as line
use Rattle.lines.specs.declared.Line.{Line}
use Rattle.lines.proofs.HandedOver.{record_in, record_handed, same_size}
use Rattle.answers.specs.Answer.{print, unclear}
use Rattle.copies.specs.Slots.{slots_passing, copy_of}
use Rattle.copies.proofs.Copied.{no_copy}
use Rattle.copies.proofs.Counted.{passing_nobody}
use Rattle.desk.specs.View.{Rest, the_rest, view}
use Rattle.desk.specs.Promise.{Does, Fresh}
use Rattle.replay_log.specs.Replay.{State, fresh_state, copies_after, answered, respond}
use Rattle.replay_log.specs.Memory.{Memory, shown, Holds}
use Rattle.replay_log.specs.Promise.{Replies, Begins}
use Rattle.replay_log.proofs.Live.{on, alive, live_shown}
use Rattle.replay_log.proofs.Keeping.{Copied, unchanged}

-- ---- any call

-- The record makes this call in the state shown, the call keeps the desk's promise, the copies change as its answer says, and the
-- answer is printed.
pub replies : (m m' : Memory) (r : Record) (letter : ℕ) (c : Call) (a : Answer) (lent text : List ℕ)
    → Does m.words m'.words m.rest m'.rest c a lent
    → (Holds m → respond (shown m) r ≡ answered (shown m) letter c)
    → (Holds m → Copied m.book m.store m'.book m'.store a lent)
    → text ≡ print letter a
    → Replies m m' r text
unfolding shown answered
replies m m' r letter c a lent text d calls copied put = record {
  holds = λ h. record {
    desk = d.valid h.desk;
    book_size = (copied h).book_size;
    store_size = (copied h).store_size;
    slots = λ test z. slots h test z;
  };
  state = λ h.
      let kept : (t : Ticket) → copy_of m'.book m'.store t ≡ copies_after (step (b h) c).answer (step (b h) c).lent (copy_of m.book m.store) t =
      λ t. (copied h).copies t ∙ (λ i. copies_after (d.says h.desk i) (d.lent h.desk i) (copy_of m.book m.store) t) in
      (λ i. record { board = d.board h.desk i; copies = fun_ext kept i }) ∙ sym (ap (λ x. x.state) (calls h));
  says = λ h. put ∙ sym (ap (λ x. x.text) (calls h) ∙ ap (print letter) (sym (d.says h.desk)));
}
  where
    b : Holds m → Board
    b h = view m.words m.rest

    slots : Holds m → (test : ℕ → Bool) → test 0 ≡ false → slots_passing 32 test m'.book ≡ alive test (view m'.words m'.rest)
    slots h test z =
        let before = h.slots test z in
        let moved = (copied h).balance test z in
        let called = live_shown h.desk d test in
        omega arith

-- ---- a call by which no block comes or goes

pub record Neither (a : Answer) : Type 0 where
  pub gives : given_by a ≡ []
  pub hands : handed_by a ≡ []

pub plainly : (w w' b s : List ℕ) (p p' : Rest) (r : Record) (letter : ℕ) (c : Call) (a : Answer) (text : List ℕ)
    → Does w w' p p' c a []
    → ((st : State) → respond st r ≡ answered st letter c)
    → Neither a
    → text ≡ print letter a
    → Replies record { words = w; book = b; store = s; rest = p } record { words = w'; book = b; store = s; rest = p' } r text
plainly w w' b s p p' r letter c a text d calls k put =
    replies record { words = w; book = b; store = s; rest = p } record { words = w'; book = b; store = s; rest = p' } r letter c a [] text d (λ h. calls _)
    (λ h. unchanged b s a [] h.book_size h.store_size k.gives k.hands) put

-- the answers that give nothing and hand nothing back
pub neither_refused : (n : ℕ) → Neither (refused n)
unfolding given_by handed_by
neither_refused n = record { gives = refl; hands = refl }

pub neither_done : Neither done
unfolding given_by handed_by
neither_done = record { gives = refl; hands = refl }

pub neither_time : (n : ℕ) → Neither (time n)
unfolding given_by handed_by
neither_time n = record { gives = refl; hands = refl }

neither_sent : (x : Option Sent) (looked : ℕ) → Neither (sending_says (record { sent = x; looked = looked }))
unfolding given_by handed_by
neither_sent (Some x) looked = record { gives = refl; hands = refl }
neither_sent None looked = record { gives = refl; hands = refl }

pub neither_sending : (a : Sending) → Neither (sending_says a)
neither_sending a = neither_sent a.sent a.looked

pub neither_reporting : (a : Result Unit Unreported) → Neither (reporting_says a)
neither_reporting (Ok ended) = neither_done
neither_reporting (Err why) = neither_refused _

pub neither_aborting : (a : Result Unit UnableToAbort) → Neither (aborting_says a)
neither_aborting (Ok aborted) = neither_done
neither_aborting (Err why) = neither_refused _

pub neither_freezing : (a : Result Bool NoSuchUnit) → Neither (freezing_says a)
unfolding given_by handed_by
neither_freezing (Ok was_frozen) = record { gives = refl; hands = refl }
neither_freezing (Err why) = neither_refused _

-- ---- a line not of the form

pub stays : (w b s : List ℕ) (p : Rest) (text : List ℕ) → text ≡ unclear
    → Replies record { words = w; book = b; store = s; rest = p } record { words = w; book = b; store = s; rest = p } malformed text
unfolding respond
stays w b s p text put = record { holds = λ h. h; state = λ h. refl; says = λ h. put }

-- ---- a fresh state

no_slots : (n : ℕ) (test : ℕ → Bool) → n ≤ 64 → test 0 ≡ false → slots_passing n test (replicate 64 0) ≡ 0
no_slots n test h z = passing_nobody n test (replicate 64 0) (λ i l. ap test (get_or-replicate {A = ℕ} 64 i 0 0 (omega arith)) ∙ z)

pub begins : (w : List ℕ) → Fresh w → Begins record { words = w; book = replicate 64 0; store = replicate 6400 0; rest = the_rest 0 (the_unit 63) 0 }
unfolding shown fresh_state
begins w f = record {
  holds = record {
    desk = f.valid;
    book_size = length-replicate {A = ℕ} 64 0;
    store_size = length-replicate {A = ℕ} 6400 0;
    slots = λ test z. no_slots 32 test (omega arith) z ∙ sym (ap (alive test) f.board ∙ nobody test);
  };
  state = λ i. record { board = f.board i; copies = fun_ext (λ t. no_copy (replicate 64 0) (replicate 6400 0) t (λ n j l e. n (sym e ∙ get_or-replicate {A = ℕ} 64 j 0 0 (omega arith)))) i };
}
  where
    nobody : (test : ℕ → Bool) → alive test fresh ≡ 0
    nobody test = weigh_count (on test) (live fresh) ∙ (live_mass (one (on test)) fresh ∙ fresh_mass (one (on test)))

pub begins_at : (m : Memory) → Fresh m.words → m.book ≡ replicate 64 0 → m.store ≡ replicate 6400 0 → m.rest ≡ the_rest 0 (the_unit 63) 0 → Begins m
begins_at m f b s r = subst Begins (λ i. record { words = m.words; book = sym b i; store = sym s i; rest = sym r i }) (begins m.words f)

-- ---- what was read

-- a reply to what the parser handed over is one to the record that was read
pub as_read : {m m' : Memory} {text : List ℕ} {r : Record} {lent lent' : List ℕ} {a a' : Option Line} → Parsed r lent lent' a → length lent ≡ 200 → a ≡ a'
    → Replies m m' (record_in a' lent') text → Replies m m' r text
as_read {m} {m'} {text} {r} {lent} {lent'} {a} {a'} p size e d =
    subst (λ q. Replies m m' q text) (sym (record_handed p size ∙ ap (λ (l : Option Line). record_in l lent') e)) d

-- a block that was read lies within the lent array
pub block_fits : {r : Record} {lent lent' : List ℕ} {a : Option Line} {n : ℕ} → Parsed r lent lent' a → length lent ≡ 200 → a ≡ Some (line.Submit n) → n ≤ length lent'
block_fits {n = n} p size e = subst (λ (k : ℕ). n ≤ k) (sym (same_size p ∙ size)) (subst room e p.fits)

pub block_short : {r : Record} {lent lent' : List ℕ} {a : Option Line} {n : ℕ} → Parsed r lent lent' a → length lent ≡ 200 → a ≡ Some (line.Submit n) → length (take n lent') ≤ 200
block_short {lent' = lent'} {n = n} p size e = subst (λ (k : ℕ). k ≤ 200) (sym (length-take-le n lent' (block_fits p size e))) (subst room e p.fits)
