use Rattle.std.proofs.Common.{sym, subst}
use Rattle.symbol_book.specs.Parts.{AreWorked, rows_in, state_in}
use Rattle.symbol_book.specs.Room.{IsRoomFor}
use Rattle.symbol_book.specs.declared.parts.Parts.{Parts}
use Rattle.symbol_book.specs.declared.room.CommandIds.{CommandIds}
use Rattle.symbol_book.proofs.Bounds.{order_within, replace_within}
use Rattle.symbol_book.proofs.Requests.{status_command, status_done}
use Rattle.symbol_book.proofs.working.work_request.Goals as goal

pub returns-in-New-clause-most : goal.returns-in-New-clause-most
returns-in-New-clause-most g c =
    order_within _ _ (g.E.Engine.width c.args.parts.now.engine) _ _ c.on_new.ensures.most c.requires.narrow.wide

pub returns-in-Replace-clause-most : goal.returns-in-Replace-clause-most
returns-in-Replace-clause-most g c =
    replace_within _ _ (g.E.Engine.width c.args.parts.now.engine) _ (rows_in g.E.Engine.buys g.E.Engine.sells c.args.parts.now) c.on_replace.ensures.most c.requires.narrow.wide c.on_replace.ensures.idle

pub returns-in-Status-clause-worked : goal.returns-in-Status-clause-worked
returns-in-Status-clause-worked g c =
    subst (λ (after : Parts _). AreWorked g.E.Engine.buys g.E.Engine.sells c.args.tick c.args.event.now c.args.parts.now after c.on_status.result) (sym c.on_status.ensures.rest)
    (status_done c.args.tick c.args.event.now c.in-Status.side c.ids-in-Status.result (state_in g.E.Engine.buys g.E.Engine.sells c.args.parts.now) c.args.parts.now.entered.items c.args.parts.now.ids.entries c.args.parts.now.log.list _ _
    (status_command _ c.ids-in-Status.result _ _ _ (subst (λ (room : CommandIds). IsRoomFor c.args.event.now.command room) (sym c.ids-in-Status.ensures) c.requires.room.1) c.in-Status.is) c.on_status.ensures.reports)
