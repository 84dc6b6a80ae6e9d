use Rattle.std.proofs.Common.{◌≡◌, ◌++◌, take}
use Rattle.std.specs.List.{flat_map}
use Rattle.line_work.specs.Output.{frame_line}
use Rattle.line_work.proofs.output.push_frames.Given as goal

-- the frames so far were appended
abbrev pub invariant-loop-frame : goal.invariant-loop-frame
invariant-loop-frame l = l.out.items ≡ l.initial.out.items ++ flat_map (frame_line l.name) (take l.frame-index l.frames)
