use Rattle.line_reader.proofs.Windows.{clear_take, clear_all}
use Rattle.line_reader.proofs.window.line_end.Goals as goal

pub returns-in-Some-clause-clear : goal.returns-in-Some-clause-clear
returns-in-Some-clause-clear c =
    clear_take c.args.clear c.in-Some.at c.args.held.now c.requires.clear c.in-Some.ensures.clear

pub returns-in-None-clause-none : goal.returns-in-None-clause-none
returns-in-None-clause-none c = clear_all c.args.clear c.args.held.now c.requires.clear c.in-None.ensures.none
