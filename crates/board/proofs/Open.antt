-- To unfold `all` is to unfold every definition of specs/ that computes. Assumes nothing.
use Rattle.board.specs.Plain.{first_that_applies, any, count}
use Rattle.board.specs.Board.{of_units, find, without, insert, by_ticket, places, most_active, Freeze, no_freeze, is_frozen, freeze_number, one_freeze, one_release, fresh, live}
use Rattle.board.specs.Block.{bytes4, word, signed, fields, cdb_bytes, request, with_status, with_told}
use Rattle.board.specs.TakingIn.{wrong_cdb_length, address_held, checks_of_block, checks_of_board, verdict, joined, judged, taking_in}
use Rattle.board.specs.Sending.{busy, eligible, rotation, sent_first, sent_by, sending}
use Rattle.board.specs.Ending.{sense_looked_at, table_of_ends, base_status, end_by_event, end_unmoved, implausible, ending_by, ending, freeze_after, told, ended_active, reported_by, reported, reporting}
use Rattle.board.specs.Calls.{ended_waiting, asked, aborted, aborting, freezing, late, ticking, all_ended, resetting, first_of, looking, not_its_block, first_to, handing_back, step, run}

unfoldable pub all : Unit {0}
unfolding first_that_applies any count of_units find without insert by_ticket places most_active Freeze no_freeze is_frozen freeze_number one_freeze one_release fresh live bytes4 word signed fields cdb_bytes request with_status with_told wrong_cdb_length address_held checks_of_block checks_of_board verdict joined judged taking_in busy eligible rotation sent_first sent_by sending sense_looked_at table_of_ends base_status end_by_event end_unmoved implausible ending_by ending freeze_after told ended_active reported_by reported reporting ended_waiting asked aborted aborting freezing late ticking all_ended resetting first_of looking not_its_block first_to handing_back step run
all = tt
