-- Before the first byte of a source nothing was said.
use Rattle.std.proofs.Common.{◌≡◌, [], refl, ap}
use Rattle.venue_words.specs.declared.config.Config.{Config}
use Rattle.fix_frames.specs.declared.reading.Reading.{Reading}
use Rattle.fix_frames.specs.Reading.{none_yet, reading_of}
use Rattle.source_session.specs.declared.names.Names.{Names}
use Rattle.source_session.specs.Messages.{first}
use Rattle.source_session.specs.Quotes.{heard_all, quotes_said}
use Rattle.source_session.specs.Hearing.{unheard, StandsFor}

reads_none : reading_of [] ≡ none_yet
unfolding reading_of
reads_none = refl

pub said_none : (config : Config) (names : Names) → quotes_said config names [] ≡ []
unfolding quotes_said
said_none config names = ap (λ (r : Reading). (heard_all config names first r.frames).quotes) reads_none

pub stands_unheard : (config : Config) (names : Names) → StandsFor config [] (unheard names)
stands_unheard config names = record {
  taken = record { frames = []; reads = λ more. refl; state = refl };
  none = reads_none;
}
