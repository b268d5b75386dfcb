-- `pellacrosta::pella_freeze` meets its contract. Assumes nothing.
use mathlib.Core.Path.{refl}
use Rattle.board.proofs.Numbers.{freeze_numbered}
use Rattle.pellacrosta.proofs.Exports.{refuses, works, freezes_numbered}
use Rattle.pellacrosta.proofs.pella_freeze.Goals as goal

pub returns-then-words-lt-WORDS : goal.returns-then-words-lt-WORDS
returns-then-words-lt-WORDS c = refuses c.if-words-lt-WORDS.true (refl, refl)

pub returns : goal.returns
returns c = works c.if-words-lt-WORDS.false (record {
  answer = c.freeze.result;
  formed = c.as_frozen.ensures;
  keeps = freezes_numbered _ _ _ _ _ c.from.ensures (freeze_numbered _ _ c.from.ensures) c.freeze.ensures;
})
