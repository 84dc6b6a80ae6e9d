-- One more member's copies are added.
use Rattle.std.proofs.Common.{◌≡◌, ◌++◌, ◌∷◌, [], ℕ, length, refl, ◌∙◌, ap, arith}
use Rattle.venue_words.specs.Floors.{FloorMark}
use Rattle.member_gate.specs.Reporting.{cursor_at}
use Rattle.drop_copy.proofs.Looking.{row_more}
use Rattle.drop_copy.proofs.Views.{waited_then}
use Rattle.drop_copy.proofs.copying.look_at_symbol.Goals as goal

pub returns-in_err-front-clause-waited : goal.returns-in_err-front-clause-waited
returns-in_err-front-clause-waited g c =
    waited_then (g.F.Floor.at c.args.floor.now c.args.symbol) (g.F.Floor.at c.loop-member.floor c.args.symbol) (g.F.Floor.at c.look.new.floor c.args.symbol)
    c.loop-member.invariant.waited c.look.ensures.waited

pub returns-in_err-push-clause-waited : goal.returns-in_err-push-clause-waited
returns-in_err-push-clause-waited g c =
    waited_then (g.F.Floor.at c.args.floor.now c.args.symbol) (g.F.Floor.at c.loop-member.floor c.args.symbol) (g.F.Floor.at c.look.new.floor c.args.symbol)
    c.loop-member.invariant.waited c.look.ensures.waited

pub loop-member-preserved : goal.loop-member-preserved
loop-member-preserved g c =
    let at = g.F.Floor.at in
    let symbol = c.args.symbol in
    let inv = c.loop-member.invariant in
    let next = at c.look.new.floor symbol in
    let long : c.len.result ≡ length c.loop-member.moved.items = omega (arith, c.len.ensures, c.loop-member.moved.ok.0) in
    let from : c.cursor_at-from.result ≡ cursor_at c.args.listed.cursors.now (length c.loop-member.moved.items)
    = c.cursor_at-from.ensures ∙ ap (cursor_at c.args.listed.cursors.now) long in record {
      mark = c.look.ensures.mark ∙ inv.mark;
      others = λ other away. c.look.ensures.others other away ∙ inv.others other away;
      waited = waited_then (at c.args.floor.now symbol) (at c.loop-member.floor symbol) next inv.waited c.look.ensures.waited;
      looked =
          row_more (g.F.Floor.reports_in (g.F.Floor.mark c.args.floor.now) symbol) c.args.listed.config.now symbol c.args.listed.members.now c.args.listed.cursors.now
          (at c.args.floor.now symbol) c.args.messages.now c.args.moved.now.items
          (at c.loop-member.floor symbol) next c.loop-member.messages c.look.new.messages c.loop-member.moved.items c.push.new.self.items
          c.loop-member.member-index c.cursor_at-from.result c.in_ok-front.front _
          inv.looked inv.waited c.look.ensures.waited c.in_ok-front.ensures.turns
          (c.look.ensures.made ∙ ap (λ (k : FloorMark). g.F.Floor.reports_in k symbol next.journal) inv.mark)
          refl from c.in_ok-front.ensures.front c.in_ok-front.ensures.messages
          (c.in_ok-push.ensures.items ∙ ap (λ (k : ℕ). c.loop-member.moved.items ++ k ∷ []) c.max.ensures);
    }
