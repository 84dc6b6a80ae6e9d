use Rattle.std.proofs.Common.{subst}
use Rattle.eager_meaning.specs.Orders.{order_named}
use Rattle.symbol_book.specs.Finding.{IsNumber, IsRowIfLive}
use Rattle.symbol_book.proofs.LiveRows.{found_live, none_found, none_named}
use Rattle.symbol_book.proofs.finding.find_live.Goals as goal

pub returns-in-Some-live_row-clause-live : goal.returns-in-Some-live_row-clause-live
returns-in-Some-live_row-clause-live c = λ rows are.
    found_live c.args.id.now.member c.args.id.now.id c.args.entered.now c.args.orders.now rows c.in-Some.number c.in-Some-live_row.row are
    (subst (IsNumber c.args.id.now.member c.args.id.now.id c.args.orders.now (order_named c.args.id.now.member c.args.id.now.id c.args.orders.now)) c.in-Some.is c.number_of.ensures.number)
    (subst (IsRowIfLive c.args.orders.now c.args.entered.now c.in-Some.number) c.in-Some-live_row.is c.live_row.ensures)

pub returns-in-None-live_row-clause-live : goal.returns-in-None-live_row-clause-live
returns-in-None-live_row-clause-live c = λ rows are.
    none_found c.args.id.now.member c.args.id.now.id c.args.entered.now c.args.orders.now rows c.in-Some.number are
    (subst (IsNumber c.args.id.now.member c.args.id.now.id c.args.orders.now (order_named c.args.id.now.member c.args.id.now.id c.args.orders.now)) c.in-Some.is c.number_of.ensures.number)
    (subst (IsRowIfLive c.args.orders.now c.args.entered.now c.in-Some.number) c.in-None-live_row.is c.live_row.ensures)

pub returns-in-None-clause-live : goal.returns-in-None-clause-live
returns-in-None-clause-live c = λ rows are.
    none_named c.args.id.now.member c.args.id.now.id c.args.orders.now rows
    (subst (IsNumber c.args.id.now.member c.args.id.now.id c.args.orders.now (order_named c.args.id.now.member c.args.id.now.id c.args.orders.now)) c.in-None.is c.number_of.ensures.number)
