-- What a run came to, where its files are told.
use Rattle.std.proofs.Common.{Option, None, Some, IfSome}
use Rattle.io_edge.specs.Files.{Files}
use Rattle.feeds_core.specs.FeedPlan.{Named}
use Rattle.feeds_core.specs.FeedRuns.{Texts, named_texts}

texts_hold : (P Q : Texts → Type 0) (texts : Option Texts) → IfSome texts P → ((t : Texts) → P t → Q t) → IfSome texts Q
texts_hold P Q None h more = tt
texts_hold P Q (Some t) h more = more t h

pub told_hold : (P Q : Texts → Type 0) (told : Option Files) (plan : Named) → IfSome told (λ files. IfSome (named_texts files plan) P)
    → ((t : Texts) → P t → Q t) → IfSome told (λ files. IfSome (named_texts files plan) Q)
told_hold P Q None plan h more = tt
told_hold P Q (Some files) plan h more = texts_hold P Q (named_texts files plan) h more
