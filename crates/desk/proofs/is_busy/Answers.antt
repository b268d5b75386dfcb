-- `desk::is_busy` meets its contract. Assumes nothing.
use Rattle.std.proofs.Common.{rules, tests, ◌==◌, sym, ap, ◌∙◌, ◌&&◌}
use Rattle.std.specs.Option.{is_some}
use Rattle.std.specs.List.{list_any}
use Rattle.std.proofs.lemmas.Iterator.Search.{any_from_yields_List}
use Rattle.std.proofs.lemmas.Iterator.Consumers.{YieldsList-from_first}
use Rattle.rows.specs.Rows.{row_of}
use Rattle.rows.specs.Searches.{places_left}
use Rattle.desk.specs.Words.{unit_at, has_active}
use Rattle.desk.proofs.Eligible.{any_first}
use Rattle.desk.proofs.is_busy.Goals as goal

pub returns-then-is_some : goal.returns-then-is_some
unfolding has_active
returns-then-is_some c =
    let m = c.args.mem.now in
    any_from_yields_List (λ p. unit_at m p == c.args.unit) _ _ _ c.any.ensures.ran (YieldsList-from_first (λ x. x) places_left (row_of m 2) c.places_of.ensures)
    (λ x b q k. search (rules, tests))

pub returns-else-is_some : goal.returns-else-is_some
unfolding has_active
returns-else-is_some c =
    let m = c.args.mem.now in
    let none = sym (c.is_some.ensures ∙ ap is_some c.first_of.ensures) ∙ c.if-is_some.false in
    c.if-is_some.false ∙ sym (any_first m 2 (λ p. unit_at m p == c.args.unit) ∙ ap (λ b. b && list_any (λ p. unit_at m p == c.args.unit) (row_of m 2)) none)
