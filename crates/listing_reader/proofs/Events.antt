-- What is written in a line is told again.
use Rattle.std.proofs.Common.{◌≡◌, ℕ, true, ◌-◌, List, [], ◌∷◌, ◌++◌, refl, sym, ◌∙◌, ap, append_assoc}
use Rattle.std.specs.Prelude.{decimal}
use Rattle.std.specs.Str.{bytes_eq}
use Rattle.std.proofs.lemmas.Bool.{and_parts}
use lib.Pointwise.{bytes_decides}
use Rattle.venue_words.specs.declared.command.Event.{Event}
use Rattle.venue_words.specs.declared.config.Config.{Config}
use Rattle.venue_words.specs.Conditions.{IsConfig}
use Rattle.fix_write.specs.Moments.{moment_text}
use Rattle.listing.specs.Commands.{name_at, command_text}
use Rattle.listing.specs.Lines.{symbol_line, event_line}
use Rattle.listing_reader.specs.declared.lines.Counts.{Counts}
use Rattle.listing_reader.specs.Fitting.{has_word_names, fits_number, fits_moment, fits_command, fits_event}
use Rattle.listing_reader.specs.Told.{behind_word, told_words, told_event, told_counts}
use Rattle.listing_reader.proofs.ToldCommands.{HasWords, words_of_config, command_read}
use Rattle.listing_reader.proofs.ToldWords.{first_written, behind_written, name_word, number_word, number_written, moment_word, moment_written}

regroup : (a b c d e : List ℕ) → (((a ++ 32 ∷ b) ++ 32 ∷ c) ++ 32 ∷ d) ++ 32 ∷ e ≡ a ++ 32 ∷ (b ++ 32 ∷ (c ++ 32 ∷ (d ++ 32 ∷ e)))
regroup a b c d e = simp append_assoc

words_read : (config : Config) (event : Event) → IsConfig config → HasWords config → fits_event config event ≡ true
    → told_words config (decimal event.number ++ 32 ∷ (decimal event.feed ++ 32 ∷ (moment_text event.moment ++ 32 ∷ command_text config event.command))) ≡ event
unfolding told_words fits_event
words_read config event c w h =
    let a = and_parts (fits_number event.number) _ h in
    let b = and_parts (fits_number event.feed) _ a.1 in
    let f = and_parts (fits_moment event.moment) (fits_command config event.command) b.1 in
    let command = command_text config event.command in
    let moment = moment_text event.moment ++ 32 ∷ command in
    let feed = decimal event.feed ++ 32 ∷ moment in
    rw (
      behind_written (decimal event.number) feed (number_word event.number a.0),
      first_written (decimal event.number) feed (number_word event.number a.0),
      behind_written (decimal event.feed) moment (number_word event.feed b.0),
      first_written (decimal event.feed) moment (number_word event.feed b.0),
      behind_written (moment_text event.moment) command (moment_word event.moment),
      first_written (moment_text event.moment) command (moment_word event.moment),
      number_written event.number a.0,
      number_written event.feed b.0,
      moment_written event.moment f.0,
      command_read config event.command c w f.1,
    ) refl

pub event_read : (config : Config) (symbol : ℕ) (event : Event) → IsConfig config → has_word_names config ≡ true → fits_event config event ≡ true
    → told_event config (event_line config symbol event) ≡ event
unfolding event_line
event_read config symbol event c names h =
    let w = words_of_config config names in
    let name = name_at config.symbols symbol in
    let number = decimal event.number in
    let feed = decimal event.feed in
    let moment = moment_text event.moment in
    let command = command_text config event.command in
    let rest = number ++ 32 ∷ (feed ++ 32 ∷ (moment ++ 32 ∷ command)) in
    ap (λ (x : List ℕ). told_words config (behind_word (behind_word (74 ∷ 32 ∷ x)))) (regroup name number feed moment command)
    ∙ ap (λ (x : List ℕ). told_words config (behind_word x)) (behind_written (74 ∷ []) (name ++ 32 ∷ rest) (record { clear = refl }))
    ∙ ap (told_words config) (behind_written name rest (name_word config.symbols symbol w.symbols))
    ∙ words_read config event c w h

-- two events in one line are one event
pub same_event : (config : Config) (symbol other : ℕ) (event second : Event) → IsConfig config → has_word_names config ≡ true
    → fits_event config event ≡ true → fits_event config second ≡ true → event_line config symbol event ≡ event_line config other second → event ≡ second
same_event config symbol other event second c names h k e =
    sym (event_read config symbol event c names h) ∙ ap (told_event config) e ∙ event_read config other second c names k

-- ---- counts

pub counts_read : (config : Config) (symbol events reports : ℕ) → has_word_names config ≡ true → fits_number events ≡ true → fits_number reports ≡ true
    → told_counts (symbol_line (name_at config.symbols symbol) events reports) ≡ record { events = events; reports = reports }
unfolding told_counts symbol_line
counts_read config symbol events reports names h k =
    let w = words_of_config config names in
    let name = name_at config.symbols symbol in
    let e = decimal events in
    let r = decimal reports in
    let text : ((83 ∷ 32 ∷ name) ++ 32 ∷ e) ++ 32 ∷ r ≡ (83 ∷ []) ++ 32 ∷ (name ++ 32 ∷ (e ++ 32 ∷ r)) =
    ap (λ (x : List ℕ). 83 ∷ 32 ∷ x) (append_assoc name (32 ∷ e) (32 ∷ r)) in
    let word = name_word config.symbols symbol w.symbols in
    rw (
      text,
      behind_written (83 ∷ []) (name ++ 32 ∷ (e ++ 32 ∷ r)) (record { clear = refl }),
      behind_written name (e ++ 32 ∷ r) word,
      first_written e r (number_word events h),
      behind_written e r (number_word events h),
      number_written events h,
      number_written reports k,
    ) refl

-- ---- lines without their LF

-- ---- only what is written is told

pub only_event : (config : Config) (symbol : ℕ) (text : List ℕ) (read event : Event) → IsConfig config → has_word_names config ≡ true
    → read ≡ told_event config text → fits_event config event ≡ true → event_line config symbol event ≡ text → read ≡ event
only_event config symbol text read event c names r h line =
    r ∙ ap (told_event config) (sym line) ∙ event_read config symbol event c names h

pub only_counts : (config : Config) (symbol : ℕ) (text : List ℕ) (read : Counts) (events reports : ℕ) → has_word_names config ≡ true
    → read ≡ told_counts text → fits_number events ≡ true → fits_number reports ≡ true
    → symbol_line (name_at config.symbols symbol) events reports ≡ text → read ≡ record { events = events; reports = reports }
only_counts config symbol text read events reports names r h k line =
    r ∙ ap told_counts (sym line) ∙ counts_read config symbol events reports names h k

pub same_bytes : (xs ys : List ℕ) → xs ≡ ys → bytes_eq xs ys ≡ true
same_bytes xs ys e = (bytes_decides xs ys).1 e
