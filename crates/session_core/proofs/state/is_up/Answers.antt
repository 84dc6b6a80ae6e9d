use Rattle.std.proofs.Common.{rules}
use Rattle.session_core.proofs.state.is_up.Goals as goal

pub returns-in-New : goal.returns-in-New
returns-in-New c = search rules
