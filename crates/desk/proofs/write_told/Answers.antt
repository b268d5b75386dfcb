-- `desk::write_told` meets its contract. Assumes nothing.
use Rattle.std.proofs.Common.{◌≡◌, to_z-of_z, w32, SFits, to_z, of_z, rules}
use Rattle.desk.specs.Words.{stores, closed}
use Rattle.desk.proofs.Read.{signed_back}
use Rattle.desk.proofs.write_told.Goals as goal

pub returns : goal.returns
unfolding closed stores
returns c = let z = c.args.told.residual in
    let fits : SFits w32 z = record { sfits = search rules } in
    let back : to_z w32 (of_z w32 z) ≡ z = to_z-of_z {w = w32} {z = z} fits in (
      rw (← c.place.view_is, c.from.ensures, c.from-2.ensures, c.from-3.ensures, c.word_of-residual.ensures, back),
      record { status = search rules; scsi = search rules; unsensed = search rules; residual = signed_back z fits.sfits },
    )
