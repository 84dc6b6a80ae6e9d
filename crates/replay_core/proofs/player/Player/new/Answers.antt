use Rattle.replay_core.proofs.Fresh.{stands_first}
use Rattle.replay_core.proofs.player.Player.new.Goals as goal

pub returns : goal.returns
returns g c = stands_first g.F.Floor.mark g.F.Floor.at g.F.Floor.step_limit g.F.PlainFloor.state c.args.config c.in_ok-floor.floor
    c.in_ok-news.news.fronts.items c.in_ok-worker.worker c.in_ok-worker.ensures.fresh c.in_ok-worker.ensures.stands
    c.in_ok-floor.ensures.plain c.in_ok-floor.ensures.empty c.in_ok-news.ensures.fronts
