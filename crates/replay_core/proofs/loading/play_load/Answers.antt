use Rattle.replay_core.proofs.Loads.{has_player, loaded_body, loaded_early}
use Rattle.replay_core.proofs.loading.play_load.Goals as goal

pub returns-in-Err-clause-ran : goal.returns-in-Err-clause-ran
returns-in-Err-clause-ran g c =
    rw c.status_of.ensures (loaded_early c.args.orders c.args.quotes (g.K.Sink.told c.args.out.now) c.args.steps.now c.play_lines.new.steps
    c.in-Err.fault c.in-Err.ensures.err c.play_lines.ensures.steps)

pub returns-clause-ran : goal.returns-clause-ran
returns-clause-ran g c =
    let loads = c.in-Ok.ensures.ok in
    loaded_body g.F.Floor.at c.args.orders c.args.quotes (g.K.Sink.told c.args.out.now) (g.K.Sink.told c.put_summary.new.out)
    c.args.steps.now c.play_lines.new.steps _ loads.0 c.play_lines.new.phase c.in-Body.player c.put_summary.result loads.1 c.in-Body.is
    (record { done = c.put_summary.ensures.done; early = c.put_summary.ensures.early; ends = c.put_summary.ensures.status })

pub unreachable-requires : goal.unreachable-requires
unreachable-requires g c =
    let loads = c.in-Ok.ensures.ok in
    has_player g.F.Floor.at c.args.orders c.args.quotes c.args.steps.now c.play_lines.new.steps _ loads.0 c.play_lines.new.phase loads.1
    (λ player is. c.in_default.not-Body player is) c.requires.orders c.requires.quotes
