-- `desk::write_request` meets its contract. Assumes nothing.
use Rattle.desk.specs.Words.{stores, written}
use Rattle.desk.proofs.Read.{bit_from}
use Rattle.desk.proofs.write_request.Goals as goal

pub returns : goal.returns
unfolding written stores
returns c = rw (← c.place.view_is, c.from.ensures, c.from-2.ensures, c.from-3.ensures, c.from-4.ensures, bit_from c.args.q.wanted, bit_from c.args.q.autosense)
