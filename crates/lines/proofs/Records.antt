-- Laws of whole records: what the parts that the code finds make of the line. Assumes nothing.
use Rattle.std.specs.Prelude.{if◌then◌else◌, Option, Some, None}
use Prim.Native.Nat.{ℕ, ◌-◌, ◌/◌, ◌%◌, ◌≤◌, ◌<◌}
use mathlib.Core.Path.{◌≡◌, refl, sym, ap, ◌∙◌, subst}
use mathlib.Core.Bool.{Bool, true, false}
use mathlib.Core.List.{List, [], ◌∷◌}
use native.Mathlib.Omega.{arith}
use borrow.Author.Tests.{le-leb, eq-eqb, ne_eqb, eqb-true}
use lib.ListN.{length, get_or, take, drop, length-drop}
use lib.Seq.{take_all, sets}
use lib.Dec.{eqb}
use Rattle.std.proofs.Math.Bool.{and-false}
use Rattle.board.specs.Board.{the_ticket}
use Rattle.board.specs.declared.Event.{Event}
use Rattle.board.specs.declared.Event.TheVariants.{Complete}
use Rattle.board.specs.declared.Sense.{Sense}
use Rattle.lines.specs.Text.{number, fields, onto, are_bytes, all_hex, bytes, code}
use Rattle.lines.specs.Record.{Record, submit, send, event, abort, freeze, release, tick, reset, hand_back, malformed, only, none_more, of_number, numbered, of_block, plain_event, complete_event, event_of, by_letter, record_of, parse, told, kept, room, Parsed, kind, sense}
use Rattle.lines.specs.declared.Line.{Line}
use Rattle.lines.specs.declared.Line.TheVariants as line
use Rattle.lines.specs.declared.Kind.{Kind}
use Rattle.lines.specs.declared.Kind.TheVariants.{Plain, Completed}
use Rattle.lines.proofs.Texts.{ahead, fields_start, fields_other, one_field, hex_tab, number_tab, sense_tab, length_bytes}

-- there is a first field
more_fields : (g : List (List ℕ) → Record) (s : List ℕ) → ((f : List ℕ) (fs : List (List ℕ)) → g (f ∷ fs) ≡ malformed) → g (fields s) ≡ malformed
unfolding ahead
more_fields g s h = ap g (fields_start s) ∙ at_first (fields s)
  where
    at_first : (fs : List (List ℕ)) → g (ahead [] fs) ≡ malformed
    at_first [] = h [] []
    at_first (f ∷ fs) = h f fs

number_field : (make : ℕ → Record) (s : List ℕ) → only (λ f. of_number make (number f)) (fields s) ≡ of_number make (number s)
number_field make s = one_field (λ f. of_number make (number f)) (λ xs h. ap (of_number make) (number_tab xs h)) s

-- ---- an event: fewer than three fields, a ticket or a kind that is none, then each kind

pub event_one : (f : List ℕ) → event_of (f ∷ []) ≡ malformed
unfolding event_of
event_one f = refl

pub event_two : (t f : List ℕ) → event_of (t ∷ f ∷ []) ≡ malformed
unfolding event_of
event_two t f = refl

module _ (t k : List ℕ) where
  pub no_ticket : (fs : List (List ℕ)) → number t ≡ None → event_of (t ∷ k ∷ fs) ≡ malformed
  unfolding event_of
  no_ticket [] h = refl
  no_ticket (m ∷ []) h = rw h
  no_ticket (m ∷ c ∷ []) h = refl
  no_ticket (m ∷ c ∷ s ∷ []) h = rw h
  no_ticket (m ∷ c ∷ s ∷ f ∷ fs) h = refl

  module _ (n : ℕ) (h : number t ≡ Some n) where
    pub no_kind : (fs : List (List ℕ)) → kind k ≡ None → event_of (t ∷ k ∷ fs) ≡ malformed
    unfolding event_of
    no_kind [] e = refl
    no_kind (m ∷ []) e = rw (h, e)
    no_kind (m ∷ c ∷ []) e = refl
    no_kind (m ∷ c ∷ s ∷ []) e = rw (h, e)
    no_kind (m ∷ c ∷ s ∷ f ∷ fs) e = refl

    module _ (q : Kind) (e : kind k ≡ Some q) (what : Event) (i : q ≡ Plain what) where
      of_fields : (fs : List (List ℕ)) → event_of (t ∷ k ∷ fs) ≡ only (λ f. of_number (event (the_ticket n) what) (number f)) fs
      unfolding event_of
      of_fields [] = refl
      of_fields (m ∷ []) = rw (h, e, i) (by_moved (number m))
        where
          by_moved : (o : Option ℕ) → plain_event (Some n) (Some (Plain what)) o ≡ of_number (event (the_ticket n) what) o
          by_moved None = refl
          by_moved (Some m) = refl
      of_fields (m ∷ c ∷ []) = refl
      of_fields (m ∷ c ∷ s ∷ []) = rw (h, e, i)
      of_fields (m ∷ c ∷ s ∷ f ∷ fs) = refl

      from_bytes : (s : List ℕ) (o : Option ℕ) → number s ≡ o → event_of (t ∷ k ∷ fields s) ≡ of_number (event (the_ticket n) what) o
      from_bytes s o x = of_fields (fields s) ∙ number_field (event (the_ticket n) what) s ∙ ap (of_number (event (the_ticket n) what)) x

      pub plain_no_bytes : (s : List ℕ) → number s ≡ None → event_of (t ∷ k ∷ fields s) ≡ malformed
      plain_no_bytes s x = from_bytes s None x

      pub plain : (s : List ℕ) (moved : ℕ) → number s ≡ Some moved → event_of (t ∷ k ∷ fields s) ≡ event (the_ticket n) what moved
      plain s moved x = from_bytes s (Some moved) x

    module _ (e : kind k ≡ Some Completed) where
      pub three : (m : List ℕ) → event_of (t ∷ k ∷ m ∷ []) ≡ malformed
      unfolding event_of
      three m = rw (h, e)

      pub four : (m c : List ℕ) → event_of (t ∷ k ∷ m ∷ c ∷ []) ≡ malformed
      unfolding event_of
      four m c = refl

      senseless : (m c : Option ℕ) → complete_event (Some n) (Some Completed) m c None ≡ malformed
      senseless None c = refl
      senseless (Some m) None = refl
      senseless (Some m) (Some c) = refl

      module _ (m c s : List ℕ) where
        five : event_of (t ∷ k ∷ m ∷ c ∷ fields s) ≡ complete_event (Some n) (Some Completed) (number m) (code c) (sense s)
        unfolding event_of
        five = in_fields (fields s) ∙ one_field (λ x. complete_event (Some n) (Some Completed) (number m) (code c) (sense x)) (λ xs x. rw (sense_tab xs x) (senseless _ _)) s
          where
            in_fields : (fs : List (List ℕ)) → event_of (t ∷ k ∷ m ∷ c ∷ fs) ≡ only (λ x. complete_event (Some n) (Some Completed) (number m) (code c) (sense x)) fs
            in_fields [] = refl
            in_fields (s ∷ []) = rw (h, e)
            in_fields (s ∷ f ∷ fs) = refl

        pub no_bytes : number m ≡ None → event_of (t ∷ k ∷ m ∷ c ∷ fields s) ≡ malformed
        no_bytes x = five ∙ ap (λ (o : Option ℕ). complete_event (Some n) (Some Completed) o (code c) (sense s)) x

        module _ (moved : ℕ) (x : number m ≡ Some moved) where
          pub no_status : code c ≡ None → event_of (t ∷ k ∷ m ∷ c ∷ fields s) ≡ malformed
          no_status y = five ∙ ap (λ (o : Option ℕ). complete_event (Some n) (Some Completed) o (code c) (sense s)) x
              ∙ ap (λ (o : Option ℕ). complete_event (Some n) (Some Completed) (Some moved) o (sense s)) y

          module _ (status : ℕ) (y : code c ≡ Some status) where
            with_sense : (o : Option Sense) → sense s ≡ o → event_of (t ∷ k ∷ m ∷ c ∷ fields s) ≡ complete_event (Some n) (Some Completed) (Some moved) (Some status) o
            with_sense o z = five ∙ ap (λ (o : Option ℕ). complete_event (Some n) (Some Completed) o (code c) (sense s)) x
                ∙ ap (λ (o : Option ℕ). complete_event (Some n) (Some Completed) (Some moved) o (sense s)) y
                ∙ ap (complete_event (Some n) (Some Completed) (Some moved) (Some status)) z

            pub no_sense : sense s ≡ None → event_of (t ∷ k ∷ m ∷ c ∷ fields s) ≡ malformed
            no_sense z = with_sense None z

            pub complete : (what : Sense) → sense s ≡ Some what → event_of (t ∷ k ∷ m ∷ c ∷ fields s) ≡ event (the_ticket n) (Complete status what) moved
            complete what z = with_sense (Some what) z

pub ruleset events = (event_one, event_two, no_ticket, no_kind, plain_no_bytes, plain, three, four, no_bytes, no_status, no_sense, complete)

-- ---- the letter

block_field : (s : List ℕ) → only of_block (fields s) ≡ of_block s
unfolding are_bytes
block_field s = one_field of_block (λ xs h. rw (hex_tab xs h, and-false)) s

none_fields : (r : Record) (s : List ℕ) → none_more r (fields s) ≡ malformed
none_fields r s = more_fields (none_more r) s (λ f fs. refl)

pub letter_block : (c : ℕ) (s : List ℕ) → c ≡ 83 → by_letter c (fields s) ≡ of_block s
unfolding by_letter
letter_block c s h = rw h (block_field s)

pub letter_event : (c : ℕ) (s : List ℕ) → c ≡ 69 → by_letter c (fields s) ≡ event_of (fields s)
unfolding by_letter
letter_event c s h = rw h

-- a letter that has no number after it
no_number : (make : ℕ → Record) (x : Option ℕ) → ((n : ℕ) → make n ≡ malformed) → of_number make x ≡ malformed
no_number make (Some n) h = h n
no_number make None h = refl

-- a letter other than S and E: A, F and R have a number, and N, T, B and H no field
pub letter_number : (c : ℕ) (s : List ℕ) (x : Option ℕ) → (c ≡ 83 → ⊥) → (c ≡ 69 → ⊥) → x ≡ number s → of_number (numbered c) x ≡ by_letter c (fields s)
unfolding by_letter numbered
letter_number c s x h i j =
    ap (of_number (numbered c)) j ∙ sym (rw (ne_eqb c 83 h, ne_eqb c 69 i)
    (pick (eqb c 78) send _ (λ e. idle 78 (eqb-true c 78 e) (λ n. refl))
    (pick (eqb c 84) tick _ (λ e. idle 84 (eqb-true c 84 e) (λ n. refl))
    (pick (eqb c 66) reset _ (λ e. idle 66 (eqb-true c 66 e) (λ n. refl))
    (pick (eqb c 72) hand_back _ (λ e. idle 72 (eqb-true c 72 e) (λ n. refl))
    (number_field (numbered c) s))))))
  where
    idle : (d : ℕ) → c ≡ d → ((n : ℕ) → numbered d n ≡ malformed) → of_number (numbered c) (number s) ≡ malformed
    idle d e k = ap (λ (x : ℕ). of_number (numbered x) (number s)) e ∙ no_number (numbered d) (number s) k

    pick : (b : Bool) (r x : Record) → (b ≡ true → of_number (numbered c) (number s) ≡ malformed) → x ≡ of_number (numbered c) (number s)
        → (if b then none_more r (fields s) else x) ≡ of_number (numbered c) (number s)
    pick true r x k e = none_fields r s ∙ sym (k refl)
    pick false r x k e = e

-- ---- the block

pub block_odd : (s : List ℕ) → (length s % 2 ≡ 0 → ⊥) → of_block s ≡ malformed
unfolding are_bytes
block_odd s h = rw (ne_eqb (length s % 2) 0 h)

pub block_bad : (s : List ℕ) (ok : Bool) → length s % 2 ≡ 0 → ok ≡ all_hex s → ok ≡ false → of_block s ≡ malformed
unfolding are_bytes
block_bad s ok h e k = rw (eq-eqb (length s % 2) 0 h, ← e, k)

pub block_good : (s : List ℕ) (ok : Bool) → length s % 2 ≡ 0 → ok ≡ all_hex s → ok ≡ true → of_block s ≡ submit (bytes s)
unfolding are_bytes
block_good s ok h e k = rw (eq-eqb (length s % 2) 0 h, ← e, k)

-- ---- the line

pub line_none : (s : List ℕ) → length s < 1 → record_of (fields s) ≡ malformed
unfolding fields record_of
line_none [] h = refl
line_none (c ∷ s) h = absurd (omega arith)

letter_tab : (fs : List (List ℕ)) → by_letter 9 fs ≡ malformed
unfolding by_letter numbered
letter_tab [] = refl
letter_tab (f ∷ []) = no_number (numbered 9) (number f) (λ n. refl)
letter_tab (f ∷ f' ∷ fs) = refl

one_letter : (c : ℕ) (b : Bool) → eqb c 9 ≡ b → record_of (if b then [] ∷ [] ∷ [] else (c ∷ []) ∷ []) ≡ by_letter c []
unfolding record_of
one_letter c true e = sym (ap (λ (x : ℕ). by_letter x []) (eqb-true c 9 e) ∙ letter_tab [])
one_letter c false e = refl

pub line_one : (s : List ℕ) → length s ≡ 1 → record_of (fields s) ≡ by_letter (get_or s 0 0) []
unfolding fields onto
line_one [] h = absurd (omega arith)
line_one (c ∷ []) h = one_letter c (eqb c 9) refl
line_one (c ∷ d ∷ s) h = absurd (omega arith)

two_bytes : (c d : ℕ) (s : List ℕ) (b : Bool) → (d ≡ 9 → ⊥) → record_of (if b then [] ∷ fields (d ∷ s) else onto c (fields (d ∷ s))) ≡ malformed
unfolding record_of onto
two_bytes c d s true h = refl
two_bytes c d s false h = ap (λ (fs : List (List ℕ)). record_of (onto c fs)) (fields_other d s h) ∙ twice (fields s)
  where
    twice : (fs : List (List ℕ)) → record_of (onto c (onto d fs)) ≡ malformed
    twice [] = refl
    twice (f ∷ fs) = refl

pub line_bad : (s : List ℕ) → 2 ≤ length s → (get_or s 1 0 ≡ 9 → ⊥) → record_of (fields s) ≡ malformed
unfolding fields
line_bad [] h j = absurd (omega arith)
line_bad (c ∷ []) h j = absurd (omega arith)
line_bad (c ∷ d ∷ s) h j = two_bytes c d s (eqb c 9) j

letter_first : (c : ℕ) (fs : List (List ℕ)) (b : Bool) → eqb c 9 ≡ b → record_of (if b then [] ∷ [] ∷ fs else onto c ([] ∷ fs)) ≡ by_letter c fs
unfolding record_of onto
letter_first c fs true e = sym (ap (λ (x : ℕ). by_letter x fs) (eqb-true c 9 e) ∙ letter_tab fs)
letter_first c fs false e = refl

pub line_tab : (s : List ℕ) → 2 ≤ length s → get_or s 1 0 ≡ 9 → record_of (fields s) ≡ by_letter (get_or s 0 0) (fields (drop 2 s))
unfolding fields
line_tab [] h j = absurd (omega arith)
line_tab (c ∷ []) h j = absurd (omega arith)
line_tab (c ∷ d ∷ s) h j = ap (λ (x : ℕ). record_of (fields (c ∷ x ∷ s))) j ∙ letter_first c (fields s) (eqb c 9) refl

-- what follows as the code has it
pub tab_rest : (s : List ℕ) → 2 ≤ length s → get_or s 1 0 ≡ 9 → record_of (fields s) ≡ by_letter (get_or s 0 0) (fields (take (length s - 2) (drop 2 s)))
tab_rest s h j = line_tab s h j ∙ ap (λ (l : List ℕ). by_letter (get_or s 0 0) (fields l)) (sym (take_all (length s - 2) (drop 2 s) (rw length-drop (omega arith))))

-- ---- where the record is no block

pub blockless : Record → Bool
blockless (submit block) = false
blockless send = true
blockless (event t e n) = true
blockless (abort t) = true
blockless (freeze u) = true
blockless (release u) = true
blockless tick = true
blockless reset = true
blockless hand_back = true
blockless malformed = true

pick_less : (b : Bool) (x y : Record) → (b ≡ true → blockless x ≡ true) → blockless y ≡ true → blockless (if b then x else y) ≡ true
unfolding blockless
pick_less true x y h k = h refl
pick_less false x y h k = k

less_none : (x : Record) (fs : List (List ℕ)) → blockless x ≡ true → blockless (none_more x fs) ≡ true
unfolding blockless
less_none x [] h = h
less_none x (f ∷ fs) h = refl

less_of : (make : ℕ → Record) (n : Option ℕ) → ((k : ℕ) → blockless (make k) ≡ true) → blockless (of_number make n) ≡ true
unfolding blockless
less_of make (Some n) h = h n
less_of make None h = refl

less_number : (make : ℕ → Record) (fs : List (List ℕ)) → ((k : ℕ) → blockless (make k) ≡ true) → blockless (only (λ f. of_number make (number f)) fs) ≡ true
unfolding blockless
less_number make [] h = refl
less_number make (f ∷ []) h = less_of make (number f) h
less_number make (f ∷ f' ∷ fs) h = refl

less_plain : (t : Option ℕ) (k : Option Kind) (m : Option ℕ) → blockless (plain_event t k m) ≡ true
unfolding blockless
less_plain None k m = refl
less_plain (Some t) None m = refl
less_plain (Some t) (Some Completed) m = refl
less_plain (Some t) (Some (Plain e)) None = refl
less_plain (Some t) (Some (Plain e)) (Some m) = refl

less_complete : (t : Option ℕ) (k : Option Kind) (m c : Option ℕ) (s : Option Sense) → blockless (complete_event t k m c s) ≡ true
unfolding blockless
less_complete None k m c s = refl
less_complete (Some t) None m c s = refl
less_complete (Some t) (Some (Plain e)) m c s = refl
less_complete (Some t) (Some Completed) None c s = refl
less_complete (Some t) (Some Completed) (Some m) None s = refl
less_complete (Some t) (Some Completed) (Some m) (Some c) None = refl
less_complete (Some t) (Some Completed) (Some m) (Some c) (Some s) = refl

pub less_event : (fs : List (List ℕ)) → blockless (event_of fs) ≡ true
unfolding event_of blockless
less_event [] = refl
less_event (t ∷ []) = refl
less_event (t ∷ k ∷ []) = refl
less_event (t ∷ k ∷ m ∷ []) = less_plain _ _ _
less_event (t ∷ k ∷ m ∷ c ∷ []) = refl
less_event (t ∷ k ∷ m ∷ c ∷ s ∷ []) = less_complete _ _ _ _ _
less_event (t ∷ k ∷ m ∷ c ∷ s ∷ f ∷ fs) = refl

pub less_numbered : (c k : ℕ) → blockless (numbered c k) ≡ true
unfolding numbered blockless
less_numbered c k =
    pick_less (eqb c 65) _ _ (λ e. refl) (pick_less (eqb c 70) _ _ (λ e. refl) (pick_less (eqb c 82) _ _ (λ e. refl) refl))

pub less_letter : (c : ℕ) (fs : List (List ℕ)) → (c ≡ 83 → blockless (only of_block fs) ≡ true) → blockless (by_letter c fs) ≡ true
unfolding by_letter blockless
less_letter c fs h =
    pick_less (eqb c 83) _ _ (λ e. h (eqb-true c 83 e))
    (pick_less (eqb c 78) _ _ (λ e. less_none send fs refl)
    (pick_less (eqb c 69) _ _ (λ e. less_event fs)
    (pick_less (eqb c 84) _ _ (λ e. less_none tick fs refl)
    (pick_less (eqb c 66) _ _ (λ e. less_none reset fs refl)
    (pick_less (eqb c 72) _ _ (λ e. less_none hand_back fs refl) (less_number (numbered c) fs (less_numbered c)))))))

kept_less : (r : Record) (l : List ℕ) → blockless r ≡ true → kept r l ≡ l
unfolding blockless
kept_less (submit block) l h = absurd (let z : ◌≡◌ {A = ℕ} 0 1 = cc in omega arith)
kept_less send l h = refl
kept_less (event t e n) l h = refl
kept_less (abort t) l h = refl
kept_less (freeze u) l h = refl
kept_less (release u) l h = refl
kept_less tick l h = refl
kept_less reset l h = refl
kept_less hand_back l h = refl
kept_less malformed l h = refl

room_less : (r : Record) → blockless r ≡ true → room (told r)
unfolding blockless
room_less (submit block) h = absurd (let z : ◌≡◌ {A = ℕ} 0 1 = cc in omega arith)
room_less send h = tt
room_less (event t e n) h = tt
room_less (abort t) h = tt
room_less (freeze u) h = tt
room_less (release u) h = tt
room_less tick h = tt
room_less reset h = tt
room_less hand_back h = tt
room_less malformed h = tt

pub less_malformed : blockless malformed ≡ true
unfolding blockless
less_malformed = refl

-- ---- what a call promises, from the record

pub block_record : (s l l' : List ℕ) → length s ≤ 400 → of_block s ≡ submit (bytes s) → l' ≡ sets l 0 (bytes s)
    → Parsed (of_block s) l l' (Some (line.Submit (length s / 2)))
block_record s l l' m h k = record {
  says = ap (λ (n : ℕ). Some (line.Submit n)) (sym (length_bytes s)) ∙ sym (ap told h);
  array = k ∙ sym (ap (λ (x : Record). kept x l) h);
  fits = omega arith;
}

pub same_record : (r q : Record) (a : Option Line) (l l' : List ℕ) → r ≡ q → Parsed q l l' a → Parsed r l l' a
same_record r q a l l' e p = subst (λ (x : Record). Parsed x l l' a) (sym e) p

pub less_record : (r : Record) (a : Option Line) (l : List ℕ) → blockless r ≡ true → a ≡ told r → Parsed r l l a
less_record r a l h e = record {
  says = e;
  array = sym (kept_less r l h);
  fits = subst room (sym e) (room_less r h);
}

-- ---- the longest line

pub parse_short : (s : List ℕ) → length s ≤ 400 → parse s ≡ record_of (fields s)
unfolding parse
parse_short s h = rw (le-leb (length s) 400 h)
