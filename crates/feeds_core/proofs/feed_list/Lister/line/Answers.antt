-- A line was noted, weighed and worked.
use Rattle.std.proofs.Common.{◌≡◌, ℕ, Bool, ◌++◌, Option, Some, Result, subst}
use Rattle.venue_words.specs.declared.config.Config.{Config}
use Rattle.script_text.specs.Body.{read_of}
use Rattle.script_text.specs.Meets.{Meets}
use Rattle.script_text.specs.declared.body.Line.{Line}
use Rattle.script_text.specs.declared.fault.LineFault.{LineFault}
use Rattle.line_work.specs.Commands.{at_moment, commands_for}
use Rattle.line_work.specs.LineWork.{LineWork}
use Rattle.line_work.specs.Standing.{StandsFor}
use Rattle.feeds_core.specs.FeedLines.{fault_of, or_else}
use Rattle.feeds_core.specs.Listings.{timed_at}
use Rattle.feeds_core.specs.Naming.{refused_by}
use Rattle.feeds_core.proofs.LineReads.{read_line_of, read_does, read_stops}
use Rattle.feeds_core.proofs.TookLists.{took_lists}
use Rattle.feeds_core.proofs.feed_list.Lister.line.Goals as goal

pub returns-in-Err-clause-stops : goal.returns-in-Err-clause-stops
returns-in-Err-clause-stops g c =
    read_stops (λ (r : Result Line LineFault). (taken : ℕ → Bool) (next : Option LineFault) →
    refused_by taken c.args.self.now.named.items (or_else (fault_of taken c.args.place.number c.args.place.bytes r) next)
    ≡ refused_by taken c.look_at.new.named.items (Some c.in-Err.fault))
    (read_of c.args.self.now.worker.config c.args.text.now) c.read_line-read.result c.in-Err.fault
    (subst (λ (k : Config). Meets (read_of k c.args.text.now) c.read_line-read.result) c.config.ensures.same c.read_line-read.ensures.line)
    (λ e. let h = c.in-Err.ensures.memory e in cc) c.in-Err.ensures.stops

pub returns-in-Ok-work-clause-stands : goal.returns-in-Ok-work-clause-stands
returns-in-Ok-work-clause-stands g c state s =
    read_does (λ (work : LineWork). StandsFor c.work.new.self work.state) c.args.self.now.worker c.config.result.now state c.args.text.now
    c.in-Ok.line c.config.ensures.same s (read_line_of _ _ _ c.read_line-read.ensures.line c.in-Ok.ensures.same)
    (c.in-Ok-work.ensures.stands state s)

pub returns-in-Ok-work-clause-listed : goal.returns-in-Ok-work-clause-listed
returns-in-Ok-work-clause-listed g c state s =
    read_does (λ (work : LineWork). (symbol : ℕ) → timed_at symbol c.work.new.floor.listed
    ≡ timed_at symbol c.args.self.now.floor.listed ++ commands_for symbol (at_moment work.state.moment work.submissions))
    c.args.self.now.worker c.config.result.now state c.args.text.now
    c.in-Ok.line c.config.ensures.same s (read_line_of _ _ _ c.read_line-read.ensures.line c.in-Ok.ensures.same)
    (λ symbol. took_lists _ _ 1 _ _ (c.args.self.now.floor, c.args.steps.now) (c.work.new.floor, c.work.new.steps) symbol (c.in-Ok-work.ensures.took state s))
