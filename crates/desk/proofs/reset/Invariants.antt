-- `desk::reset` meets its contract. After i steps i requests have ended, and a bus reset of what is left makes the same board. Assumes
-- nothing.
use Rattle.desk.specs.View.{Rest, Valid}
use Rattle.desk.proofs.ResetsAll.{Resetting}
use Rattle.desk.proofs.reset.Given as goal

abbrev pub invariant-loop : goal.invariant-loop
invariant-loop l = (rest : Rest) → Valid l.initial.mem rest → Resetting l.initial.mem l.mem rest l.counter
