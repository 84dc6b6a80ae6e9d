use Rattle.std.proofs.Common.{◌≡◌, ◌<◌, length, get_or, arith}
use Rattle.link_work.proofs.Frames.{put_part}
use Rattle.link_work.proofs.putting.put_all.Goals as goal

pub returns-in-Err-clause-bytes : goal.returns-in-Err-clause-bytes
returns-in-Err-clause-bytes g c =
    let part = c.in-Err.ensures.bytes in
    let here : c.loop-frame.frame-index < length c.args.frames.now = omega arith in
    let at : c.as_slice.result.now ≡ get_or c.args.frames.now c.loop-frame.frame-index c.as_slice.result.now
    = rw c.as_slice.ensures c.frame-item.is in
    put_part c.args.frames.now c.loop-frame.frame-index part.0 c.as_slice.result.now _ _ _ here at
    c.loop-frame.invariant.put part.1
