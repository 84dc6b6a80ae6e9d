use Rattle.session_stream.specs.WorkLaws.{reading_work-alike}
use Rattle.session_stream.proofs.laws.answers_change_nothing.Goals as goal

pub returns : goal.returns
returns c first second moment a b reading one two alike = reading_work-alike first second moment one two a b reading alike
