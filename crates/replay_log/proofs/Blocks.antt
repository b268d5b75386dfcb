-- A block taken in, and one handed back: the definition's answers. Assumes nothing.
use Rattle.std.specs.Prelude.{Option, Some, None, Result, Ok, Err, if◌then◌else◌}
use Rattle.std.specs.Option.{unwrap_or}
use Rattle.std.specs.List.{between}
use Prim.Native.Nat.{ℕ, ◌+◌, ◌<◌, ◌≤◌}
use native.Mathlib.Omega.{arith}
use mathlib.Core.Path.{◌≡◌, refl, sym, ap, ◌∙◌, subst}
use mathlib.Core.Logic.{◌≢◌}
use mathlib.Core.Bool.{Bool, true, false, not}
use mathlib.Core.List.{List, [], ◌∷◌}
use lib.ListN.{length}
use Rattle.board.specs.declared.Ticket.{Ticket}
use Rattle.board.specs.declared.Unit.{Unit}
use Rattle.board.specs.declared.Told.{Told}
use Rattle.board.specs.declared.Finished.{Finished}
use Rattle.board.specs.declared.Refusal.{Refusal}
use Rattle.board.specs.declared.First.{First}
use Rattle.board.specs.declared.Handed.{Handed}
use Rattle.board.specs.declared.NotHanded.{NotHanded}
use Rattle.board.specs.Plain.{◌=?◌, count}
use Rattle.board.specs.Board.{Board, with_finished}
use Rattle.board.specs.Block.{with_told}
use Rattle.board.specs.Answers.{Stepped, refused, taken, handed, taking_in_says, looking_says, handing_back_says, number}
use Rattle.board.specs.Calls.{take_in, look, hand_back, step, first_of, looking, not_its_block, first_to, handing_back}
use Rattle.board.specs.Demand3.{given_by, handed_by}
use Rattle.board.proofs.Choose.{itself}
use Rattle.lines.specs.Record as record_of
use Rattle.answers.specs.Letters.{S, H}
use Rattle.answers.specs.Answer.{print}
use Rattle.copies.specs.Slots.{slots_passing, lies, bytes_in, copy_of}
use Rattle.copies.proofs.Copied.{unless_same, nowhere, bytes_there, outside_copy}
use Rattle.copies.proofs.Counted.{used, has}
use Rattle.desk.specs.View.{Rest, the_rest, view}
use Rattle.desk.specs.Promise.{Does, TakesIn}
use Rattle.replay_log.specs.Replay.{copy_of_first, answered, respond}
use Rattle.replay_log.specs.Memory.{Memory, shown, Holds}
use Rattle.replay_log.specs.Promise.{Replies}
use Rattle.replay_log.specs.Parts.{book_after, store_after, lies_for, book_without}
use Rattle.replay_log.proofs.Live.{alive, live_shown, none_zero, at_most_32, at_most_one}
use Rattle.replay_log.proofs.Keeping.{Copied, unchanged, kept_copy, dropped_copy}
use Rattle.replay_log.proofs.Lending.{Lends, as_it_was}
use Rattle.replay_log.proofs.Replying.{replies, neither_refused}

abbrev one : Bool → ℕ
one c = if c then 1 else 0

abbrev at_rest : (words book store : List ℕ) → Rest → Memory
at_rest w b s r = record { words = w; book = b; store = s; rest = r }

-- ---- taking in

-- what is known when a block was accepted
module _ {w w' b s lent lent' : List ℕ} {r r' : Rest} {t : Ticket} (h : Holds (at_rest w b s r)) (d : Does w w' r r' (take_in lent) (taken t) lent') where
  gained : (test : ℕ → Bool) → alive test (view w' r') ≡ alive test (view w r) + one (test t.0)
  unfolding given_by handed_by count
  gained test = let k = live_shown h.desk d test in omega arith

  new_ticket : t.0 ≢ 0
  new_ticket z =
      let k = gained (λ n. n =? 0) in
      let y : one (t.0 =? 0) ≡ 1 = ap (λ n. one (n =? 0)) z in
      let o = none_zero (view w' r') (d.valid h.desk).sound in
      omega arith

  not_yet : slots_passing 32 (has t.0) b ≡ 0
  not_yet =
      let k = gained (has t.0) in
      let y : one (t.0 =? t.0) ≡ 1 = ap one (itself t.0) in
      let o = at_most_one (view w' r') (d.valid h.desk).sound t in
      let z = h.slots (has t.0) (unless_same (λ e. new_ticket (sym e))) in
      omega arith

  room : slots_passing 32 used b < 32
  room =
      let k = gained used in
      let y : one (used t.0) ≡ 1 = ap (λ c. one (not c)) (unless_same new_ticket) in
      let o = at_most_32 (view w' r') (d.valid h.desk).sound used in
      let z = h.slots used refl in
      omega arith

pub took : (w w' b s lent lent' : List ℕ) (clock : ℕ) (mark : Unit) (given given' : ℕ) (a : Result Ticket Refusal) (text : List ℕ)
    → TakesIn w w' lent lent' given given' (taking_in_says a)
    → length lent ≤ 200
    → text ≡ print S (taking_in_says a)
    → Replies (at_rest w b s (the_rest clock mark given)) (at_rest w' (book_after a b (length lent')) (store_after a b s lent') (the_rest clock mark given')) (record_of.submit lent) text
unfolding respond
took w w' b s lent lent' clock mark given given' (Ok t) text k short put =
    let d = k.does clock mark in
    replies _ _ (record_of.submit lent) S (take_in lent) (taken t) lent' text d (λ h. refl)
    (λ h. kept_copy b s lent' t h.book_size h.store_size (let z = k.size in omega arith) (new_ticket h d) (room h d) (not_yet h d)) put
took w w' b s lent lent' clock mark given given' (Err why) text k short put =
    replies _ _ (record_of.submit lent) S (take_in lent) (refused (number why)) lent' text (k.does clock mark) (λ h. refl)
    (λ h. unchanged b s (refused (number why)) lent' h.book_size h.store_size (neither_refused _).gives (neither_refused _).hands) put

-- ---- handing back

-- the copy lent is that of the first finished request's block: the one that the look saw
first_seen : (l : Option First) (b : Board) (book store : List ℕ) → looking_says l ≡ (step b look).answer → copy_of_first (copy_of book store) b.finished ≡ bytes_in store (lies_for l book)
unfolding step looking first_of copy_of
first_seen l b book store e = go l b.finished e
  where
    go : (l : Option First) (line : List Finished) → looking_says l ≡ (first_of b line).answer → copy_of_first (copy_of book store) line ≡ bytes_in store (lies_for l book)
    go (Some y) [] e = let n : ◌≡◌ {A = ℕ} 0 1 = cc in absurd (omega arith)
    go None [] e = refl
    go (Some y) (x ∷ more) e = ap (copy_of book store) (let n : x.request.ticket ≡ y.ticket = cc in n)
    go None (x ∷ more) e = let n : ◌≡◌ {A = ℕ} 0 1 = cc in absurd (omega arith)

-- and it is the one handed back
first_handed : (l : Option First) (b : Board) (s book : List ℕ) (t : Ticket) (x : Told) → looking_says l ≡ (step b look).answer → handed t x ≡ (step b (hand_back s)).answer → lies_for l book ≡ lies book t.0
unfolding step looking first_of handing_back first_to
first_handed l b s book t x e f = go l b.finished e f
  where
    chosen : (y : Finished) (more : List Finished) (c : Bool)
        → handed t x ≡ (if◌then◌else◌ {A = Stepped} c record { board = b; answer = refused 105; lent = s } record { board = with_finished more b; answer = handed y.request.ticket y.told; lent = with_told y.told s }).answer
        → y.request.ticket ≡ t
    chosen y more true f = let n : ◌≡◌ {A = ℕ} 0 1 = cc in absurd (omega arith)
    chosen y more false f = cc

    go : (l : Option First) (line : List Finished) → looking_says l ≡ (first_of b line).answer → handed t x ≡ (first_to b s line).answer → lies_for l book ≡ lies book t.0
    go (Some z) [] e f = let n : ◌≡◌ {A = ℕ} 0 1 = cc in absurd (omega arith)
    go None [] e f = let n : ◌≡◌ {A = ℕ} 0 1 = cc in absurd (omega arith)
    go (Some z) (y ∷ more) e f = let n : z.ticket ≡ y.request.ticket = cc in ap (λ (v : Ticket). lies book v.0) (n ∙ chosen y more (not_its_block s y) f)
    go None (y ∷ more) e f = let n : ◌≡◌ {A = ℕ} 0 1 = cc in absurd (omega arith)

-- what is known when a block was handed back
module _ {w w' b s lent lent' : List ℕ} {r : Rest} {t : Ticket} {x : Told} (h : Holds (at_rest w b s r)) (d : Does w w' r r (hand_back lent) (handed t x) lent') where
  lost : (test : ℕ → Bool) → alive test (view w' r) + one (test t.0) ≡ alive test (view w r)
  unfolding given_by handed_by count
  lost test = let k = live_shown h.desk d test in omega arith

  old_ticket : t.0 ≢ 0
  old_ticket z =
      let k = lost (λ n. n =? 0) in
      let y : one (t.0 =? 0) ≡ 1 = ap (λ n. one (n =? 0)) z in
      let o = none_zero (view w r) h.desk.sound in
      omega arith

  just_one : slots_passing 32 (has t.0) b ≡ 1
  just_one =
      let k = lost (has t.0) in
      let y : one (t.0 =? t.0) ≡ 1 = ap one (itself t.0) in
      let o = at_most_one (view w r) h.desk.sound t in
      let z = h.slots (has t.0) (unless_same (λ e. old_ticket (sym e))) in
      omega arith

-- H, with what the look saw: the copy lies from a to e
pub gave : (w w' b s s' : List ℕ) (r : Rest) (l : Option First) (a e : ℕ) (given : Result Handed NotHanded) (text : List ℕ)
    → Does w w r r look (looking_says l) []
    → a ≡ (unwrap_or (lies_for l b) nowhere).start
    → e ≡ (unwrap_or (lies_for l b) nowhere).end
    → Lends w w' s s' a e given
    → text ≡ print H (handing_back_says given)
    → Replies (at_rest w b s r) (at_rest w' (book_without given b) s' r) record_of.hand_back text
unfolding respond shown copy_of
gave w w' b s s' r l a e given text looks ea ee lent put = go given lent put
  where
    its_copy : Holds (at_rest w b s r) → copy_of_first (copy_of b s) (view w r).finished ≡ between a e s
    its_copy h =
        first_seen l (view w r) b s (looks.says h.desk)
        ∙ bytes_there s (lies_for l b)
        ∙ (λ i. between (sym ea i) (sym ee i) s)

    calls : (h : Holds (at_rest w b s r)) → respond (shown (at_rest w b s r)) record_of.hand_back ≡ answered (shown (at_rest w b s r)) H (hand_back (between a e s))
    calls h = ap (λ (y : List ℕ). answered (shown (at_rest w b s r)) H (hand_back y)) (its_copy h)

    refuses : (k : ℕ) (given : Result Handed NotHanded) → handing_back_says given ≡ refused k → book_without given b ≡ b → Lends w w' s s' a e given → text ≡ print H (handing_back_says given)
        → Replies (at_rest w b s r) (at_rest w' (book_without given b) s' r) record_of.hand_back text
    refuses k given q z lent put =
        let same_store : s' ≡ s = as_it_was s s' a e lent.size lent.outside (lent.hands_back.unwritten k q) in
        rw z (replies (at_rest w b s r) (at_rest w' b s' r) record_of.hand_back H (hand_back (between a e s)) (handing_back_says given) (between a e s') text (lent.hands_back.does r) calls
        (λ h. subst (λ (y : List ℕ). Copied b s b y (handing_back_says given) (between a e s')) (sym same_store) (unchanged b s (handing_back_says given) (between a e s') h.book_size h.store_size (ap given_by q ∙ (neither_refused k).gives) (ap handed_by q ∙ (neither_refused k).hands))) put)

    go : (given : Result Handed NotHanded) → Lends w w' s s' a e given → text ≡ print H (handing_back_says given)
        → Replies (at_rest w b s r) (at_rest w' (book_without given b) s' r) record_of.hand_back text
    go (Ok y) lent put =
        let t = y.ticket in
        let x = y.told in
        replies _ _ record_of.hand_back H (hand_back (between a e s)) (handed t x) (between a e s') text (lent.hands_back.does r) calls
        (λ h. let d = lent.hands_back.does r in
        let its = first_handed l (view w r) (between a e s) b t x (looks.says h.desk) (d.says h.desk) in
        dropped_copy b s s' (between a e s') t x h.book_size h.store_size (old_ticket h d) (just_one h d) lent.size
        (λ i there. record {
          size = lent.size;
          same_bytes = λ k f. lent.outside k (λ o q. outside_copy b t.0 i k there f (subst (λ (y : ℕ). y ≤ k) (ea ∙ ap (λ y. (unwrap_or y nowhere).start) its) o) (subst (λ (y : ℕ). k < y) (ee ∙ ap (λ y. (unwrap_or y nowhere).end) its) q));
        })) put
    go (Err why) lent put = refuses _ (Err why) refl refl lent put
