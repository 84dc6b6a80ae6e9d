use Rattle.fix_frames.specs.MomentLaws.{moment_of-inside, moment_of-before, moment_of-after}
use Rattle.message_laws.proofs.framers.written_moments.Goals as goal

pub returns-clause-inside : goal.returns-clause-inside
returns-clause-inside c = λ moment low high. moment_of-inside moment low high

pub returns-clause-before : goal.returns-clause-before
returns-clause-before c = λ moment early. moment_of-before moment early

pub returns-clause-after : goal.returns-clause-after
returns-clause-after c = λ moment late. moment_of-after moment late
