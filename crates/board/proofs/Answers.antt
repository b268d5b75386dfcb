-- Only one answer of the code says a given answer of the definitions: a promise that fixes what the answer says fixes the
-- answer. Assumes nothing.
use Rattle.std.specs.Prelude.{Option, Some, None, Result, Ok, Err, if◌then◌else◌}
use mathlib.Core.Path.{◌≡◌, refl, ap}
use mathlib.Core.Bool.{Bool, true, false}
use Prim.Native.Nat.{ℕ}
use Rattle.board.specs.Types.{Ticket, Refusal, CamBusy, InvalidRequest, InvalidPath, LengthInadequate, CannotProvide, Sent, Sending, Unreported, UnableToAbort, NoSuchUnit, First, Handed, NotHanded}
use Rattle.board.specs.declared.Unreported.TheVariants as unreported
use Rattle.board.specs.declared.NotHanded.TheVariants as not_handed
use Rattle.board.specs.Plain.{◌=?◌}
use Rattle.board.specs.Answers.{Answer, sent, nothing, first, handed, bit, number, event_number, hand_back_number, taking_in_says, sending_says, reporting_says, aborting_says, freezing_says, looking_says, handing_back_says}
use Rattle.board.proofs.Choose.{differ}

-- the refusal with this number
abbrev refusal_with : ℕ → Refusal
refusal_with n = if n =? 0x05 then CamBusy else if n =? 0x06 then InvalidRequest else if n =? 0x07 then InvalidPath else if n =? 0x15 then LengthInadequate else CannotProvide

refusal_back : (r : Refusal) → refusal_with (number r) ≡ r
refusal_back CamBusy = refl
refusal_back InvalidRequest = refl
refusal_back InvalidPath = refl
refusal_back LengthInadequate = refl
refusal_back CannotProvide = refl

pub one_refusal : (r s : Refusal) → number r ≡ number s → r ≡ s
one_refusal r s e = let p = refusal_back r in let q = refusal_back s in let k : refusal_with (number r) ≡ refusal_with (number s) = ap refusal_with e in cc

pub one_taking_in : (r s : Result Ticket Refusal) → taking_in_says r ≡ taking_in_says s → r ≡ s
one_taking_in (Ok t) (Ok u) e = cc
one_taking_in (Ok t) (Err s) e = cc
one_taking_in (Err r) (Ok u) e = cc
one_taking_in (Err r) (Err s) e = let n : number r ≡ number s = cc in ap Err (one_refusal r s n)

-- what was sent, of an answer
abbrev sending_back : Answer → Sending
sending_back (sent t u c n) = record { sent = Some (record { ticket = t; unit = u; cdb = c }); looked = n }
sending_back (nothing n) = record { sent = None; looked = n }
sending_back _ = record { sent = None; looked = 0 }

sent_back : (x : Option Sent) (n : ℕ) → sending_back (sending_says (record { sent = x; looked = n })) ≡ record { sent = x; looked = n }
sent_back (Some x) n = refl
sent_back None n = refl

pub one_sending : (r s : Sending) → sending_says r ≡ sending_says s → r ≡ s
one_sending r s e = let p = sent_back r.sent r.looked in let q = sent_back s.sent s.looked in let k : sending_back (sending_says r) ≡ sending_back (sending_says s) = ap sending_back e in cc

one_event : (r s : Unreported) → event_number r ≡ event_number s → r ≡ s
one_event unreported.NotActive unreported.NotActive e = refl
one_event unreported.NotActive unreported.Implausible e = absurd (differ refl e)
one_event unreported.Implausible unreported.NotActive e = absurd (differ refl e)
one_event unreported.Implausible unreported.Implausible e = refl

pub one_reporting : (r s : Result (Prim.Unit {0}) Unreported) → reporting_says r ≡ reporting_says s → r ≡ s
one_reporting (Ok x) (Ok y) e = refl
one_reporting (Ok x) (Err s) e = cc
one_reporting (Err r) (Ok y) e = cc
one_reporting (Err r) (Err s) e = let n : event_number r ≡ event_number s = cc in ap Err (one_event r s n)

pub one_aborting : (r s : Result (Prim.Unit {0}) UnableToAbort) → aborting_says r ≡ aborting_says s → r ≡ s
one_aborting (Ok x) (Ok y) e = refl
one_aborting (Ok x) (Err s) e = cc
one_aborting (Err r) (Ok y) e = cc
one_aborting (Err r) (Err s) e = refl

one_bit : (m n : Bool) → bit m ≡ bit n → m ≡ n
one_bit true true e = refl
one_bit true false e = absurd (differ refl e)
one_bit false true e = absurd (differ refl e)
one_bit false false e = refl

pub one_freezing : (r s : Result Bool NoSuchUnit) → freezing_says r ≡ freezing_says s → r ≡ s
one_freezing (Ok m) (Ok n) e = let k : bit m ≡ bit n = cc in ap Ok (one_bit m n k)
one_freezing (Ok m) (Err s) e = cc
one_freezing (Err r) (Ok n) e = cc
one_freezing (Err r) (Err s) e = refl

-- what a look saw, of an answer
abbrev looking_back : Answer → Option First
looking_back (first t address callback wanted) = Some (record { ticket = t; address = address; callback = callback; wanted = wanted })
looking_back _ = None

pub one_looking : (r s : Option First) → looking_says r ≡ looking_says s → r ≡ s
one_looking (Some x) (Some y) e = let k : looking_back (looking_says (Some x)) ≡ looking_back (looking_says (Some y)) = ap looking_back e in k
one_looking (Some x) None e = cc
one_looking None (Some y) e = cc
one_looking None None e = refl

one_hand_back : (r s : NotHanded) → hand_back_number r ≡ hand_back_number s → r ≡ s
one_hand_back not_handed.LineEmpty not_handed.LineEmpty e = refl
one_hand_back not_handed.LineEmpty not_handed.NotItsBlock e = absurd (differ refl e)
one_hand_back not_handed.NotItsBlock not_handed.LineEmpty e = absurd (differ refl e)
one_hand_back not_handed.NotItsBlock not_handed.NotItsBlock e = refl

-- what was handed back, of an answer
abbrev handing_back_back : Answer → Option Handed
handing_back_back (handed t x) = Some (record { ticket = t; told = x })
handing_back_back _ = None

one_handed : (x y : Handed) → Some x ≡ Some y → x ≡ y
one_handed x y e = cc

pub one_handing_back : (r s : Result Handed NotHanded) → handing_back_says r ≡ handing_back_says s → r ≡ s
one_handing_back (Ok x) (Ok y) e = let k : Some x ≡ Some y = ap handing_back_back e in ap Ok (one_handed x y k)
one_handing_back (Ok x) (Err s) e = cc
one_handing_back (Err r) (Ok y) e = cc
one_handing_back (Err r) (Err s) e = let n : hand_back_number r ≡ hand_back_number s = cc in ap Err (one_hand_back r s n)
