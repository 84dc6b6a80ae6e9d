-- What a stream says of whose it is, frame by frame.
use Rattle.std.proofs.Common.{◌≡◌, ℕ, List, [], ◌++◌, Some, None, sym, ◌∙◌, ap, subst, append-nil, append_assoc}
use Rattle.std.specs.Prelude.{Result, Ok, Err, IfOk}
use Rattle.venue_words.specs.declared.config.Config.{Config}
use Rattle.fix_fields.specs.Fields.{split}
use Rattle.fix_frames.specs.ReadingLaws.{reading-given, reading-waited, reading-none, reading-exceeded}
use Rattle.fix_frames.specs.Streams.{Stream, HasGiven, HasWaited, HasExceeded}
use Rattle.fix_frames.specs.declared.reading.Reading.{Reading}
use Rattle.session_core.specs.declared.state.EndCause.TheVariants as cause
use Rattle.fix_fields.specs.Content.{content_of}
use Rattle.serve_core.specs.declared.greeting.Greeting.{Greeting}
use Rattle.serve_core.specs.declared.greeting.Greeting.TheVariants.{Unnamed, Refused}
use Rattle.serve_core.specs.Greeting.{IsSaidBy, SayTheSame, by_fields, greeted_in, greeting_of}

abbrev said_in : Config → Reading → Greeting
said_in config reading = greeted_in config reading.too_long reading.frames

at_front : (config : Config) (old new : Stream) (frame more : List ℕ) → HasGiven old new frame
    → greeting_of config (old.kept ++ more) ≡ by_fields config (split (content_of frame)) (greeting_of config (new.kept ++ more))
at_front config old new frame more h = ap (said_in config) (reading-given old new frame more h)

-- the first frame says nothing
pub passed_frame : (config : Config) (old new : Stream) (frame : List ℕ) → HasGiven old new frame → IsSaidBy config frame None
    → SayTheSame config old.kept new.kept
passed_frame config old new frame h said more =
    at_front config old new frame more h ∙ said (greeting_of config (new.kept ++ more))

-- the first frame says it
pub said_by_frame : (config : Config) (old new : Stream) (frame : List ℕ) (greeting : Greeting) → HasGiven old new frame
    → IsSaidBy config frame (Some greeting) → greeting ≡ greeting_of config old.kept
said_by_frame config old new frame greeting h said =
    sym (ap (greeting_of config) (sym (append-nil old.kept)) ∙ at_front config old new frame [] h
    ∙ said (greeting_of config (new.kept ++ [])))

pub waited_on : (config : Config) (old new : Stream) → HasWaited old new → SayTheSame config old.kept new.kept
waited_on config old new h more = ap (said_in config) (reading-waited old new more h)

pub none_said : (config : Config) (old new : Stream) → HasWaited old new → Unnamed ≡ greeting_of config old.kept
none_said config old new h = sym (ap (said_in config) (reading-none old new h))

pub too_long_said : (config : Config) (old new : Stream) → HasExceeded old new → Refused cause.TooLong ≡ greeting_of config old.kept
too_long_said config old new h =
    sym (ap (greeting_of config) (sym (append-nil old.kept)) ∙ ap (said_in config) (reading-exceeded old new [] h))

pub same_then : (config : Config) (a b c : List ℕ) → SayTheSame config a b → SayTheSame config b c → SayTheSame config a c
same_then config a b c h k more = h more ∙ k more

pub same_here : (config : Config) (a b : List ℕ) → SayTheSame config a b → greeting_of config a ≡ greeting_of config b
same_here config a b h =
    ap (greeting_of config) (sym (append-nil a)) ∙ h [] ∙ ap (greeting_of config) (append-nil b)

-- a piece more
pub same_behind : (config : Config) (a b piece : List ℕ) → SayTheSame config a b → SayTheSame config (a ++ piece) (b ++ piece)
same_behind config a b piece h more =
    ap (greeting_of config) (append_assoc a piece more) ∙ h (piece ++ more)
    ∙ ap (greeting_of config) (sym (append_assoc b piece more))

pub said_behind : {E : Type 0} (config : Config) (old mid piece : List ℕ) (r : Result Greeting E) → mid ≡ old ++ piece
    → IfOk r (λ g. g ≡ greeting_of config mid)
    → IfOk r (λ g. (bytes : List ℕ) → SayTheSame config bytes old → g ≡ greeting_of config (bytes ++ piece))
said_behind config old mid piece (Ok g) e h = λ bytes same.
    h ∙ ap (greeting_of config) e
    ∙ sym (same_here config (bytes ++ piece) (old ++ piece) (same_behind config bytes old piece same))
said_behind config old mid piece (Err x) e h = tt

pub on_behind : (config : Config) (old mid piece bytes new : List ℕ) → mid ≡ old ++ piece → SayTheSame config mid new
    → SayTheSame config bytes old → SayTheSame config (bytes ++ piece) new
on_behind config old mid piece bytes new e on same =
    same_then config (bytes ++ piece) (old ++ piece) new (same_behind config bytes old piece same)
    (subst (λ (b : List ℕ). SayTheSame config b new) e on)

pub said_at : {E : Type 0} (config : Config) (old piece bytes : List ℕ) (r : Result Greeting E) → SayTheSame config bytes old
    → IfOk r (λ g. (b : List ℕ) → SayTheSame config b old → g ≡ greeting_of config (b ++ piece))
    → IfOk r (λ g. g ≡ greeting_of config (bytes ++ piece))
said_at config old piece bytes (Ok g) same h = h bytes same
said_at config old piece bytes (Err x) same h = tt
