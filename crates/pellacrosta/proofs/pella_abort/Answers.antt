-- `pellacrosta::pella_abort` meets its contract: what the desk promises, in C's form. Assumes nothing.
use Rattle.pellacrosta.proofs.Exports.{works, aborted_form}
use Rattle.pellacrosta.proofs.pella_abort.Goals as goal

pub returns : goal.returns
returns c = works c.if-words-lt-WORDS.false (record { answer = c.abort.result; formed = aborted_form _ _ c.as_done.ensures; keeps = c.abort.ensures })
