use Rattle.fix_frames.specs.Streams.{beginning}
use Rattle.message_laws.proofs.Calling.{reading-calls, reading-at_wait, reading-at_limit, kept-calls}
use Rattle.message_laws.proofs.framers.any_calls.Goals as goal

pub returns-clause-frames : goal.returns-clause-frames
returns-clause-frames c = λ calls new more h. reading-calls calls beginning new more h

pub returns-clause-wait : goal.returns-clause-wait
returns-clause-wait c = λ calls new h. reading-at_wait calls new h

pub returns-clause-too_long : goal.returns-clause-too_long
returns-clause-too_long c = λ calls new more h. reading-at_limit calls new more h

pub returns-clause-kept : goal.returns-clause-kept
returns-clause-kept c = λ calls new h. kept-calls calls new h
