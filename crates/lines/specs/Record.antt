-- One record of the log: what a line says, and what reading one promises. Assumes nothing.
use Rattle.std.specs.Prelude.{List, [], ◌∷◌, ℕ, ◌≤◌, ◌≡◌, Option, Some, None, option_and_then, length, if◌then◌else◌}
use Rattle.std.specs.Option.{option_map}
use Rattle.std.specs.Result.{result_ok}
use Rattle.std.proofs.lemmas.List.Edits.{sets}
use Rattle.board.specs.Plain.{◌=?◌, ◌≤?◌}
use Rattle.board.specs.Board.{the_ticket}
use Rattle.board.specs.declared.Ticket.{Ticket}
use Rattle.board.specs.declared.Event.{Event}
use Rattle.board.specs.declared.Event.TheVariants.{AbortDone, Complete}
use Rattle.board.specs.Ending.{event_named}
use Rattle.board.specs.declared.Sense.{Sense}
use Rattle.board.specs.declared.Sense.TheVariants as sensed
use Rattle.lines.specs.Text.{fields, number, code, are_bytes, bytes}
use Rattle.lines.specs.declared.Kind.{Kind}
use Rattle.lines.specs.declared.Kind.TheVariants.{Plain, Completed}
use Rattle.lines.specs.declared.Line.{Line}
use Rattle.lines.specs.declared.Line.TheVariants as line

-- A record; the last is a line that is not of the form. (A unit is any number here: the desk refuses those above 63.)
pub data Record : Type 0 where
  submit : (block : List ℕ) → Record
  send : Record
  event : Ticket → Event → (moved : ℕ) → Record
  abort : Ticket → Record
  freeze release : (unit : ℕ) → Record
  tick reset hand_back : Record
  malformed : Record

-- ---- single fields

-- what a code names: selection timeout, parity, bus free, phase, adapter error
abbrev pub named : ℕ → Option Kind
named n = option_map Plain (result_ok (event_named n))

-- the kind of an event: K for abort done, C for complete, or a code
unfoldable pub kind : List ℕ → Option Kind
kind [] = None
kind (a ∷ []) = if a =? 75 then Some (Plain AbortDone) else if a =? 67 then Some Completed else None
kind (a ∷ b ∷ cs) = option_and_then named (code (a ∷ b ∷ cs))

-- bytes of sense: 0 to 255
unfoldable pub byte_sense : ℕ → Option Sense
byte_sense n = if n ≤? 255 then Some (sensed.Bytes n) else None

-- what became of the sense: X failed, - none, or the bytes that came
unfoldable pub sense : List ℕ → Option Sense
sense [] = None
sense (a ∷ []) = if a =? 88 then Some sensed.Failed else if a =? 45 then Some sensed.None else option_and_then byte_sense (number (a ∷ []))
sense (a ∷ b ∷ cs) = option_and_then byte_sense (number (a ∷ b ∷ cs))

-- ---- the fields after the letter

-- no field
abbrev pub none_more : Record → List (List ℕ) → Record
none_more r [] = r
none_more r (f ∷ fs) = malformed

-- exactly one field, and what it says
abbrev pub only : (List ℕ → Record) → List (List ℕ) → Record
only g [] = malformed
only g (f ∷ []) = g f
only g (f ∷ f' ∷ fs) = malformed

-- what is made of a number
abbrev pub of_number : (ℕ → Record) → Option ℕ → Record
of_number make (Some n) = make n
of_number make None = malformed

-- a block: two digits a byte, may be empty
abbrev pub of_block : List ℕ → Record
of_block f = if are_bytes f then submit (bytes f) else malformed

-- an event of three fields: any kind but C
abbrev pub plain_event : (ticket : Option ℕ) → Option Kind → (moved : Option ℕ) → Record
plain_event (Some t) (Some (Plain e)) (Some n) = event (the_ticket t) e n
plain_event _ _ _ = malformed

-- an event of five fields: kind C only
abbrev pub complete_event : (ticket : Option ℕ) → Option Kind → (moved status : Option ℕ) → Option Sense → Record
complete_event (Some t) (Some Completed) (Some n) (Some status) (Some s) = event (the_ticket t) (Complete status s) n
complete_event _ _ _ _ _ = malformed

-- ticket, kind, bytes; after the bytes nothing, or SCSI status and sense
unfoldable pub event_of : List (List ℕ) → Record
event_of (t ∷ k ∷ m ∷ []) = plain_event (number t) (kind k) (number m)
event_of (t ∷ k ∷ m ∷ c ∷ s ∷ []) = complete_event (number t) (kind k) (number m) (code c) (sense s)
event_of _ = malformed

-- A ticket, F unit, R unit; no other letter has one number after it
unfoldable pub numbered : (letter : ℕ) → ℕ → Record
numbered c n =
    if c =? 65 then abort (the_ticket n)  -- A
    else if c =? 70 then freeze n  -- F
    else if c =? 82 then release n  -- R
    else malformed

-- ---- the line

-- S block; N; E ticket kind bytes; A, F and R with their number; T; B; H
unfoldable pub by_letter : (letter : ℕ) → List (List ℕ) → Record
by_letter c fs =
    if c =? 83 then only of_block fs  -- S
    else if c =? 78 then none_more send fs  -- N
    else if c =? 69 then event_of fs  -- E
    else if c =? 84 then none_more tick fs  -- T
    else if c =? 66 then none_more reset fs  -- B
    else if c =? 72 then none_more hand_back fs  -- H
    else only (λ f. of_number (numbered c) (number f)) fs

-- the first field is one letter
unfoldable pub record_of : List (List ℕ) → Record
record_of [] = malformed
record_of ([] ∷ fs) = malformed
record_of ((c ∷ []) ∷ fs) = by_letter c fs
record_of ((c ∷ d ∷ cs) ∷ fs) = malformed

-- a line, without its line feed: at most 400 bytes
unfoldable pub parse : List ℕ → Record
parse line = if length line ≤? 400 then record_of (fields line) else malformed

-- ---- the same, as the code hands it over: a block by how many bytes it has, which stand at the start of the lent array;
-- nothing where the line is not of the form

abbrev pub told : Record → Option Line
told (submit block) = Some (line.Submit (length block))
told send = Some line.Send
told (event t e n) = Some (line.Event t e n)
told (abort t) = Some (line.Abort t)
told (freeze u) = Some (line.Freeze u)
told (release u) = Some (line.Release u)
told tick = Some line.Tick
told reset = Some line.Reset
told hand_back = Some line.HandBack
told malformed = None

-- the lent array afterwards
abbrev pub kept : Record → List ℕ → List ℕ
kept (submit block) lent = sets lent 0 block
kept _ lent = lent

-- a block has room in the lent array
abbrev pub room : Option Line → Type 0
room (Some (line.Submit n)) = n ≤ 200
room _ = Unit

-- What reading a line promises: what is handed over, the lent array afterwards, and that a block has room there. (The last
-- follows where r is what a line says, since a line has at most 400 bytes; it is here for the caller.)
pub record Parsed (r : Record) (lent lent' : List ℕ) (a : Option Line) : Type 0 where
  pub says : a ≡ told r
  pub array : lent' ≡ kept r lent
  pub fits : room a
