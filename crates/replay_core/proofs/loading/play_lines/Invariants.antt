use Rattle.std.proofs.Common.{◌≤◌, drop}
use Rattle.venue_words.specs.declared.limits.TheConstants.{MAX_SCRIPT_BYTES}
use Rattle.script_text.specs.Load.{load_lines}
use Rattle.replay_core.specs.Loading.{loaded, LoadsTo}
use Rattle.replay_core.specs.Phases.{IsReady}
use Rattle.replay_core.proofs.loading.play_lines.Given as goal

-- the lines so far were worked, and the others are still there
abbrev pub invariant-loop-done : goal.invariant-loop-done
invariant-loop-done g l = record {
  goes : LoadsTo g.F.Floor.at (loaded l.fn.orders l.fn.quotes) (drop l.done (load_lines l.fn.orders l.fn.quotes))
      l.initial.steps l.steps l.done l.bytes l.phase;
  within : l.bytes ≤ MAX_SCRIPT_BYTES;
  ready : IsReady l.phase;
}
