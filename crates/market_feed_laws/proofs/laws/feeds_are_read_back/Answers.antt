use Rattle.std.proofs.Common.{None, refl}
use Rattle.fix_frames.specs.Reading.{reading_of}
use Rattle.session_core.specs.Machine.{fresh}
use Rattle.session_stream.specs.Work.{work_of_reading}
use Rattle.line_work.specs.FeedState.{before_lines}
use Rattle.market_data.specs.Market.{market_answer, market_of}
use Rattle.market_feed_laws.specs.ReadBack.{quotes_said}
use Rattle.market_feed_laws.proofs.Reading.{all_read}
use Rattle.market_feed_laws.proofs.Snapshots.{all_writable}
use Rattle.market_feed_laws.proofs.laws.feeds_are_read_back.Goals as goal

pub returns : goal.returns
unfolding market_of
returns c = λ config source bytes is names timely.
    all_read config None (quotes_said config source bytes) (before_lines config) is names
    (all_writable config (work_of_reading (market_answer config) config.begin (fresh source) (reading_of bytes)).requests) timely refl tt
