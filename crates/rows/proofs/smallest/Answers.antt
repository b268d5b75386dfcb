-- `rows::smallest` meets its contract. Assumes nothing.
use Rattle.std.proofs.Common.{rules, tests, ◌≡◌, ap, sym, ◌∙◌}
use Rattle.std.specs.Option.{option_map}
use Rattle.std.proofs.lemmas.Iterator.{YieldsList-from_map}
use Rattle.std.proofs.lemmas.Iterator.Adapters.{option_map_id}
use Rattle.std.proofs.lemmas.Iterator.Consumers.{YieldsList-from_first, min_from_yields_List}
use Rattle.board.specs.Board.{the_ticket}
use Rattle.rows.specs.Words.{ticket_at}
use Rattle.rows.specs.Rows.{row_of}
use Rattle.rows.specs.Searches.{places_left}
use Rattle.rows.proofs.smallest.Goals as goal

pub returns : goal.returns
returns c =
    let m = c.args.mem.now in
    let along = YieldsList-from_first (λ x. x) places_left (row_of m c.args.row) (ap places_left c.map.ensures.source ∙ c.places_of.ensures) in
    let least = min_from_yields_List {v = λ x. x} _ _ c.min.ensures.ran (YieldsList-from_map _ (ticket_at m) along c.map.ensures.closure (λ x r q k. search (rules, tests))) in
    let wrapped : c.map-2.result ≡ option_map the_ticket c.min.result = search (rules, tests) in
    wrapped ∙ ap (option_map the_ticket) (sym (option_map_id _) ∙ least)
