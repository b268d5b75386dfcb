-- `answers::text::Text::decimal` meets its contract. Assumes nothing.
use Rattle.std.proofs.Common.{rules, arith}
use Rattle.answers.proofs.Puts.{has_room, put_in}
use Rattle.answers.proofs.text.Text.decimal.Goals as goal

pub write_digits-requires : goal.write_digits-requires
write_digits-requires c = (omega (arith, has_room _ _ _ c.ranges.n.fits c.places_of.ensures.0 c.from.ensures), search rules)

pub returns : goal.returns
returns c =
    rw (← c.self.view_is)
    (put_in _ _ _ _ _ _ _ _ c.ranges.n.fits c.places_of.ensures.0 c.places_of.ensures.1 c.from.ensures c.write_digits.ensures.start c.write_digits.ensures.written c.write_digits.ensures.before)
