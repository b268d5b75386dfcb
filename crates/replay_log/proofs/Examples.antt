-- The definitions give document 01's example. Assumes nothing.
use mathlib.Core.Path.{refl}
use Rattle.board.proofs.Open.{all}
use Rattle.lines.specs.Text.{onto, fields, more, number}
use Rattle.lines.specs.Record.{numbered, by_letter, record_of, parse}
use Rattle.answers.specs.Answer.{digits, place_from, places, decimal, hex, refusal}
use Rattle.replay_log.specs.Replay.{fresh_state, copies_after, answered, respond, lines, answers, replay}
use Rattle.replay_log.specs.Example.{example_input, example_output, Example}

pub example : Example
unfolding all onto fields more number by_letter numbered record_of parse digits place_from places decimal hex refusal fresh_state copies_after answered respond lines answers replay example_input example_output
example = record { gives = refl }
