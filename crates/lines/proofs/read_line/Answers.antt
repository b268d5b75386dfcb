-- `lines::read_line` meets its contract. Assumes nothing.
use mathlib.Core.Path.{sym, ◌∙◌}
use native.Mathlib.Omega.{arith}
use Rattle.lines.proofs.Records.{line_one, letter_block, letter_event, letter_number, less_letter, less_malformed, less_event, less_numbered, less_record, same_record, tab_rest}
use Rattle.lines.proofs.read_line.Goals as goal

pub returns-in-len1 : goal.returns-in-len1
returns-in-len1 c = same_record _ _ _ _ _ (line_one _ (omega arith)) (less_record _ _ _ (less_letter _ _ (λ e. less_malformed)) c.alone.ensures)

pub returns-in-83 : goal.returns-in-83
returns-in-83 c = same_record _ _ _ _ _ (tab_rest _ (omega arith) (omega arith) ∙ letter_block _ _ (omega arith)) c.read_block.ensures

pub returns-in-69 : goal.returns-in-69
returns-in-69 c = same_record _ _ _ _ _ (tab_rest _ (omega arith) (omega arith) ∙ letter_event _ _ (omega arith)) (less_record _ _ _ (less_event _) c.read_event.ensures)

pub returns-in_ok-read_number-in-9 : goal.returns-in_ok-read_number-in-9
returns-in_ok-read_number-in-9 c = same_record _ _ _ _ _
    (tab_rest _ (omega arith) (omega arith) ∙ sym (letter_number _ _ _ (λ e. omega arith) (λ e. omega arith) c.in_ok-read_number-in-9.ensures))
    (less_record _ _ _ (less_numbered _ _) c.with_number.ensures)

pub returns-in_err-read_number-in-9 : goal.returns-in_err-read_number-in-9
returns-in_err-read_number-in-9 c = same_record _ _ _ _ _
    (tab_rest _ (omega arith) (omega arith) ∙ sym (letter_number _ _ _ (λ e. omega arith) (λ e. omega arith) c.in_err-read_number-in-9.ensures))
    (less_record _ _ _ less_malformed c.from_residual.ensures)
