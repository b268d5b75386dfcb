-- Every base status is below 64, so that 80h and 40h can be added to it. Assumes nothing.
use Rattle.std.specs.Prelude.{Result, Ok, Err}
use Rattle.std.proofs.Common.{◌≡◌, ℕ, ◌<◌, List, [], ◌∷◌, subst, lit<}
use Rattle.board.specs.Plain.{Row, ◌⇒◌, first_that_applies, Each}
use Rattle.board.specs.Ending.{own_status, Base, base, refusal_102, table_of_ends, base_status, end_by_event, implausible, ending_by, ending}
use Rattle.board.proofs.Choose.{if_ind}
use Rattle.ends.specs.Types.{Active, Event, AbortDone, SelectionTimeout, Parity, BusFree, Phase, AdapterError, Complete, End, Implausible}

abbrev SmallBase : Base → Type 0
SmallBase (base n) = n < 64
SmallBase refusal_102 = Unit

abbrev SmallRow : Row Base → Type 0
SmallRow (test ⇒ x) = SmallBase x

abbrev Small : Result End Implausible → Type 0
Small (Ok e) = e.base < 64
Small (Err why) = Unit

first_small : (rows : List (Row Base)) (otherwise : Base) → Each SmallRow rows → SmallBase otherwise → SmallBase (first_that_applies rows otherwise)
unfolding first_that_applies Each
first_small [] otherwise each h = h
first_small ((test ⇒ x) ∷ rows) otherwise (one, more) h =
    if_ind SmallBase test x (first_that_applies rows otherwise) (λ _. one) (λ _. first_small rows otherwise more h)

own_small : (e : Event) → own_status e < 64
own_small AbortDone = lit< tt
own_small SelectionTimeout = lit< tt
own_small Parity = lit< tt
own_small BusFree = lit< tt
own_small Phase = lit< tt
own_small AdapterError = lit< tt
own_small (Complete scsi sense) = lit< tt

base_small : (a : Active) (e : Event) (moved : ℕ) → SmallBase (base_status a e moved)
unfolding base_status table_of_ends Each
base_small a e moved =
    first_small (table_of_ends a e moved) (base 0x04)
    (lit< tt, (lit< tt, (tt, (lit< tt, (own_small e, (lit< tt, (lit< tt, (lit< tt, tt))))))))
    (lit< tt)

by_small : (a : Active) (e : Event) (moved : ℕ) (x : Base) → SmallBase x → Small (ending_by a.request e moved x)
unfolding ending_by end_by_event
by_small a e moved (base n) h = h
by_small a e moved refusal_102 h = tt

ending_small : (a : Active) (e : Event) (moved : ℕ) → Small (ending a e moved)
unfolding ending
ending_small a e moved =
    if_ind Small (implausible a.request e moved) (Err (record {})) (ending_by a.request e moved (base_status a e moved))
    (λ _. tt) (λ _. by_small a e moved (base_status a e moved) (base_small a e moved))

pub small : (a : Active) (e : Event) (moved : ℕ) (x : End) → ending a e moved ≡ Ok x → x.base < 64
small a e moved x h = subst Small h (ending_small a e moved)
