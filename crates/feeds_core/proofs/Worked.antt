-- What the lists of feeds come to: why they are not worked, or what the venue's journals are.
use Rattle.std.proofs.Common.{◌≡◌, ℕ, suc, ◌+◌, Bool, true, false, List, [], ◌∷◌, length, map, slice_get, Option, None, Some, is_none, Vec, refl, sym, ◌∙◌, ap, subst, zero, inr}
use Rattle.std.proofs.lemmas.List.{length-map}
use Rattle.std.specs.List.{All, AllZip}
use Rattle.std.proofs.lemmas.List.Elements.{All-nil, All-cons, All-head, All-tail}
use Rattle.std.specs.declared.alloc.Global.{Global}
use Rattle.venue_words.specs.declared.config.Config.{Config}
use Rattle.venue_words.specs.declared.command.Event.{Event}
use Rattle.eager_meaning.specs.Interleaving.{Interleaves}
use Rattle.symbol_book.specs.Book.{BookView}
use Rattle.script_text.specs.declared.fault.LineFault.{LineFault}
use Rattle.script_text.specs.declared.fault.LineFault.TheVariants as fault
use Rattle.line_work.specs.Commands.{commands}
use Rattle.listing.specs.declared.part.ListingFault.{ListingFault}
use Rattle.listing.specs.declared.part.ListingFault.TheVariants as listing
use Rattle.io_edge.specs.Grows.{AppendsPrefix}
use Rattle.std.specs.Io.KnownBytes.{Appends}
use Rattle.venue_words.specs.Floors.{setup_of}
use Rattle.feed_work.specs.Feeds.{Asked, IsFor, commands_at}
use Rattle.feeds_core.specs.Books.{IsWorkedBook, count_at}
use Rattle.feeds_core.specs.FeedFaults.{feeds_fault}
use Rattle.feeds_core.specs.FeedLines.{names}
use Rattle.feeds_core.specs.FeedLists.{IsCounted, ListsAll, ListsFeed, ListsKept, asked_in}
use Rattle.feeds_core.specs.FeedRuns.{AreJournalsOf, FeedsOutcome, PutsAll, PutsPart, Run, listing_of, run_of}
use Rattle.feeds_core.specs.FeedSums.{first_over}
use Rattle.feeds_core.proofs.Summing.{full_of, lists_of}
use Rattle.feeds_core.specs.FeedTexts.{Keeps, KeepsAll, is_whole}
use Rattle.feeds_core.specs.Putting.{journals_of}
use Rattle.feeds_core.specs.Statuses.{refused_at}
use Rattle.feeds_core.specs.Working.{AreSound, IsStopped, listing_status}
use Rattle.feeds_core.specs.declared.feed_list.FeedList.{FeedList}
use Rattle.feeds_core.specs.declared.feed_text.FeedText.{FeedText}
use Rattle.feeds_core.specs.declared.feed_text.FeedEnd.{FeedEnd}
use Rattle.feeds_core.specs.declared.feed_text.FeedEnd.TheVariants.{Whole}
use Rattle.feeds_core.specs.declared.status.FeedsStatus.TheVariants.{Full}

-- ---- the lists are those of the whole files

-- what is kept of a file is listed as the file
whole_list : (config : Config) (already : ℕ) (text : List ℕ) (kept : FeedText) (list : FeedList) → Keeps already text kept
    → ListsKept config kept list → ListsFeed config already text list
whole_list config already text kept list k z = record {
  refused = λ taken. z.refused taken ∙ k.fault config taken;
  names = λ none member. z.names none member ∙ ap (λ (t : List ℕ). names config t member) (sym (k.whole (z.whole none)).0);
  commands = λ none symbol. z.commands none symbol ∙ ap (λ (t : List ℕ). commands config t symbol) (sym (k.whole (z.whole none)).0);
}

kept_count : (live : Bool) (already : ℕ) (texts : List (List ℕ)) (kepts : List FeedText) → KeepsAll live already texts kepts
    → length texts ≡ length kepts
kept_count false already texts kepts k = k
kept_count true already [] [] k = refl
kept_count true already [] (x ∷ xs) k = absurd k
kept_count true already (t ∷ ts) [] k = absurd k
kept_count true already (t ∷ ts) (x ∷ xs) k = ap suc (kept_count (is_whole x.end) (already + length t) ts xs k.1)

zip_count : {A B : Type 0} (R : A → B → Type 0) (xs : List A) (ys : List B) → AllZip R xs ys → length xs ≡ length ys
zip_count R [] [] all = refl
zip_count R [] (y ∷ ys) all = absurd all
zip_count R (x ∷ xs) [] all = absurd all
zip_count R (x ∷ xs) (y ∷ ys) all = ap suc (zip_count R xs ys all.1)

-- behind a feed that is refused on its own account nothing is told
lists_behind : (config : Config) (next : ℕ) (texts : List (List ℕ)) (kepts : List FeedText) (lists : List FeedList) (end : FeedEnd)
    (own : Option LineFault) → (own ≡ None → end ≡ Whole) → KeepsAll (is_whole end) next texts kepts → length kepts ≡ length lists
    → (KeepsAll true next texts kepts → ListsAll config true next texts lists)
    → ListsAll config (is_none own) next texts lists
lists_behind config next texts kepts lists end None whole k size more =
    more (subst (λ (e : FeedEnd). KeepsAll (is_whole e) next texts kepts) (whole refl) k)
lists_behind config next texts kepts lists end (Some f) whole k size more = kept_count (is_whole end) next texts kepts k ∙ size

pub lists_all : (config : Config) (already : ℕ) (texts : List (List ℕ)) (kepts : List FeedText) (lists : List FeedList)
    → KeepsAll true already texts kepts → AllZip (ListsKept config) kepts lists → ListsAll config true already texts lists
lists_all config already [] [] [] k z = tt
lists_all config already [] [] (l ∷ ls) k z = absurd z
lists_all config already [] (x ∷ xs) ls k z = absurd k
lists_all config already (t ∷ ts) [] ls k z = absurd k
lists_all config already (t ∷ ts) (x ∷ xs) [] k z = absurd z
lists_all config already (t ∷ ts) (x ∷ xs) (l ∷ ls) k z = (
  whole_list config already t x l k.0 z.0,
  lists_behind config (already + length t) ts xs ls x.end l.fault z.0.whole k.1 (zip_count (ListsKept config) xs ls z.1)
      (λ kept. lists_all config (already + length t) ts xs ls kept z.1),
)

each_for : (config : Config) (lists : List FeedList) → All (IsCounted config) lists
    → All (λ feed. All (IsFor (setup_of config)) feed.items) (map (λ (list : FeedList). list.commands) lists)
each_for config [] all = All-nil (λ (feed : Vec Asked Global). All (IsFor (setup_of config)) feed.items)
each_for config (l ∷ ls) all =
    All-cons (λ (feed : Vec Asked Global). All (IsFor (setup_of config)) feed.items) l.commands (map (λ (list : FeedList). list.commands) ls)
    (All-head (IsCounted config) l ls all).asked (each_for config ls (All-tail (IsCounted config) l ls all))

-- nothing is refused, and no symbol has too many commands
pub sound_lists : (config : Config) (already : ℕ) (feeds : List (List ℕ)) (lists : List FeedList) → ListsAll config true already feeds lists
    → feeds_fault config [] already feeds ≡ None → All (λ list. list.fault ≡ None) lists
    → None ≡ first_over 0 config.limits (λ symbol. count_at symbol (asked_in lists))
    → AreSound (run_of config already feeds) lists
sound_lists config already feeds lists all clear own room = record {
  sound = record { clear = clear; room = full_of config already feeds lists all own ∙ sym room };
  commands = λ symbol. lists_of config already feeds lists symbol all own;
}

-- the commands of the lists are for configured things
pub all_for : (config : Config) (lists : List FeedList) (feeds : List (Vec Asked Global)) → feeds ≡ map (λ list. list.commands) lists
    → All (IsCounted config) lists → All (λ feed. All (IsFor (setup_of config)) feed.items) feeds
all_for config lists feeds e all = subst (All (λ feed. All (IsFor (setup_of config)) feed.items)) (sym e) (each_for config lists all)

-- ---- why feeds are not worked

pub stopped_at : (run : Run) (file : ℕ) (why : LineFault) → feeds_fault run.config [] run.already run.feeds ≡ Some (file, why)
    → IsStopped run (refused_at file why)
stopped_at run file (fault.Bad line cause) e = e
stopped_at run file (fault.Limit line which) e = e
stopped_at run file fault.NoMemory e = tt

pub full_stops : (config : Config) (already : ℕ) (feeds : List (List ℕ)) (lists : List FeedList) (symbol : ℕ)
    → ListsAll config true already feeds lists → feeds_fault config [] already feeds ≡ None → All (λ list. list.fault ≡ None) lists
    → Some symbol ≡ first_over 0 config.limits (λ symbol. count_at symbol (asked_in lists))
    → IsStopped (run_of config already feeds) (Full symbol)
full_stops config already feeds lists symbol all clear own first = (clear, full_of config already feeds lists all own ∙ sym first)

-- ---- the journals

items_of : (lists : List FeedList) → map (λ (feed : Vec Asked Global). feed.items) (map (λ (list : FeedList). list.commands) lists) ≡ asked_in lists
items_of [] = refl
items_of (l ∷ ls) = ap (λ (rest : List (List Asked)). l.commands.items ∷ rest) (items_of ls)

pub all_asked : (lists : List FeedList) (feeds : List (Vec Asked Global)) → feeds ≡ map (λ list. list.commands) lists
    → map (λ feed. feed.items) feeds ≡ asked_in lists
all_asked lists feeds e = ap (map (λ (feed : Vec Asked Global). feed.items)) e ∙ items_of lists

-- a journal of books is that of the book there
record JournalAt (books : List BookView) (symbol : ℕ) (journal : List Event) : Type 0 where
  book : BookView
  at : slice_get books symbol ≡ Some book
  is : book.journal ≡ journal

journal_at : (books : List BookView) (symbol : ℕ) (journal : List Event) → slice_get (journals_of books) symbol ≡ Some journal
    → JournalAt books symbol journal
journal_at [] symbol journal at = absurd (cc)
journal_at (b ∷ bs) zero journal at = record { book = b; at = refl; is = cc }
journal_at (b ∷ bs) (suc symbol) journal at =
    let h = journal_at bs symbol journal at in record { book = h.book; at = h.at; is = h.is }

-- those of the closed venue interleave the feeds
pub journals_are : (run : Run) (lists : List FeedList) (asked : List (List Asked)) (books : List BookView) → AreSound run lists
    → asked ≡ asked_in lists → length books ≡ length run.config.symbols
    → ((symbol : ℕ) (book : BookView) → slice_get books symbol ≡ Some book → IsWorkedBook run.config asked symbol book)
    → AreJournalsOf run.config run.feeds (journals_of books)
journals_are run lists asked books sound e count worked = record {
  each = length-map books (λ (book : BookView). book.journal) ∙ count;
  interleaved = λ symbol journal at.
      let h = journal_at books symbol journal at in
      let feeds : map (commands_at symbol) asked ≡ map (λ text. commands run.config text symbol) run.feeds =
      ap (map (commands_at symbol)) e ∙ sound.commands symbol in
      subst (λ (j : List Event). Interleaves j (map (λ text. commands run.config text symbol) run.feeds)) h.is
      (subst (Interleaves h.book.journal) feeds (worked symbol h.book h.at).interleaves);
}

-- ---- the listing

pub done_outcome : (run : Run) (lists : List FeedList) (asked : List (List Asked)) (books : List BookView) (old new : Option (List ℕ))
    → AreSound run lists → asked ≡ asked_in lists → length books ≡ length run.config.symbols
    → ((symbol : ℕ) (book : BookView) → slice_get books symbol ≡ Some book → IsWorkedBook run.config asked symbol book)
    → Appends old new (listing_of run.config (journals_of books)) → PutsAll run old new
done_outcome run lists asked books old new sound e count worked grew = record {
  sound = sound.sound;
  journals = journals_of books;
  are = journals_are run lists asked books sound e count worked;
  grew = grew;
}

part_of_listing : (run : Run) (old new : Option (List ℕ)) (name : List ℕ) (why : ListingFault) → PutsPart run old new
    → FeedsOutcome run old new name (listing_status why)
part_of_listing run old new name listing.WriteFault part = part
part_of_listing run old new name listing.NoMemory part = inr part

pub part_outcome : (run : Run) (lists : List FeedList) (asked : List (List Asked)) (books : List BookView) (old new : Option (List ℕ))
    (name : List ℕ) (why : ListingFault) → AreSound run lists → asked ≡ asked_in lists → length books ≡ length run.config.symbols
    → ((symbol : ℕ) (book : BookView) → slice_get books symbol ≡ Some book → IsWorkedBook run.config asked symbol book)
    → AppendsPrefix old new (listing_of run.config (journals_of books)) → FeedsOutcome run old new name (listing_status why)
part_outcome run lists asked books old new name why sound e count worked grew =
    part_of_listing run old new name why (record {
      sound = sound.sound;
      journals = journals_of books;
      are = journals_are run lists asked books sound e count worked;
      grew = grew;
    })
