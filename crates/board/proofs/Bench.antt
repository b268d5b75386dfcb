-- The definitions give the bench cases, and the cases of our own. Assumes nothing.
use mathlib.Core.Path.{◌≡◌, refl}
use mathlib.Core.List.{map}
use Rattle.board.specs.Board.{fresh}
use Rattle.board.specs.Calls.{run}
use Rattle.board.specs.Bench.{given_by_definitions, plain, starred, filled, unstarred, example, example_answers}
use Rattle.board.specs.Rules.{rules, on_units, ticks}
use Rattle.board.proofs.Open.{all}

pub starred_hold : map given_by_definitions starred ≡ map (λ c. c.gives) starred
unfolding all given_by_definitions plain starred
starred_hold = refl

pub unstarred_hold : map given_by_definitions unstarred ≡ map (λ c. c.gives) unstarred
unfolding all given_by_definitions plain filled unstarred
unstarred_hold = refl

pub rules_hold : map given_by_definitions rules ≡ map (λ c. c.gives) rules
unfolding all given_by_definitions plain rules on_units ticks
rules_hold = refl

pub example_holds : (run fresh example).answers ≡ example_answers
unfolding all example example_answers
example_holds = refl
