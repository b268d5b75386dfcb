-- What was before, told by a bool, is its bit: the desk's answer to a freeze or a release. Assumes nothing.
use Rattle.std.proofs.Common.{◌≡◌, ℕ, List, Bool, true, false, Result, Ok, Err, ap, ◌∙◌}
use Rattle.std.specs.Int.{from_bool}
use Rattle.board.specs.declared.NoSuchUnit.{NoSuchUnit}
use Rattle.board.specs.Answers.{before, freezing_says}
use Rattle.answers.specs.Answer.{print, PrintsBefore}

pub prints_bool : (letter : ℕ) (a : Result Bool NoSuchUnit) (text : List ℕ) → PrintsBefore (λ b n. n ≡ from_bool b) letter a text → text ≡ print letter (freezing_says a)
prints_bool letter (Ok true) text (n, stands, told) = told ∙ ap (λ k. print letter (before k)) stands
prints_bool letter (Ok false) text (n, stands, told) = told ∙ ap (λ k. print letter (before k)) stands
prints_bool letter (Err why) text told = told
