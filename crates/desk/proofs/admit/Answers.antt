-- `desk::admit` meets its contract: at each return, what was learnt on the way there. p is that the block passed checks 1 to 8; what the
-- test of the address told is left to the search. Assumes nothing.
use Rattle.std.proofs.Common.{◌≡◌, suc, ◌+◌, ◌%◌, ◌<◌, sym, ap, ◌∙◌, arith, rules}
use Rattle.std.specs.Option.{ok_or}
use Rattle.std.specs.Result.{result_ok}
use Rattle.board.specs.declared.Refusal.TheVariants as refusal
use Rattle.board.specs.Board.{last_ticket}
use Rattle.board.specs.Block.{byte}
use Rattle.block.specs.Checked.{examined_says}
use Rattle.desk.proofs.TakesIn.{passes, passes_fits, told_refused, address_refuses, ticket_refuses, places_told, taken_in}
use Rattle.desk.proofs.admit.Goals as goal

pub returns-in_err-request : goal.returns-in_err-request
returns-in_err-request c = told_refused _ _ _ _ c.in_err-request.field-0.0 _ (sym c.examine.ensures ∙ ap examined_says c.in_err-request.was) c.from_residual.ensures.1

pub returns-then-address_held : goal.returns-then-address_held
returns-then-address_held c = let p = passes _ _ _ _ (sym c.examine.ensures ∙ ap examined_says c.in_ok-request.was) in
    address_refuses _ _ _ _ _ _ p (sym (search rules))

pub returns-then-given-eq4294967295 : goal.returns-then-given-eq4294967295
returns-then-given-eq4294967295 c = let p = passes _ _ _ _ (sym c.examine.ensures ∙ ap examined_says c.in_ok-request.was) in
    ticket_refuses _ _ _ _ _ _ p (sym (search rules)) (omega arith)

pub returns-in_err-place : goal.returns-in_err-place
returns-in_err-place c = let p = passes _ _ _ _ (sym c.examine.ensures ∙ ap examined_says c.in_ok-request.was) in
    let l : c.args.given.now < last_ticket = omega (arith, c.if-given-eq4294967295.false) in
    places_told _ _ _ _ _ _ p (sym (search rules)) l _ _ _ (c.ok_or.ensures.value ∙ ap (λ o. ok_or o refusal.CamBusy) c.first_of.ensures) c.in_err-place.was c.from_residual-in_err-place.ensures.1

pub enter-requires : goal.enter-requires
enter-requires c = (passes _ _ _ _ (sym c.examine.ensures ∙ ap examined_says c.in_ok-request.was)).unit_small

pub returns : goal.returns
returns c = let p = passes _ _ _ _ (sym c.examine.ensures ∙ ap examined_says c.in_ok-request.was) in
    let small : byte 44 c.args.block.now < 256 = search rules in
    let l : c.args.given.now < last_ticket = omega (arith, c.if-given-eq4294967295.false) in
    let n : (c.args.given.now + 1) % 4294967296 ≡ suc c.args.given.now = omega (arith, l) in
    rw c.enter.ensures
    (taken_in _ _ _ _ _ _ p (passes_fits p small) (sym (search rules)) l c.in_ok-place.place (sym c.first_of.ensures ∙ (c.ok_or.ensures.ok_part ∙ ap result_ok c.in_ok-place.was)) n)
