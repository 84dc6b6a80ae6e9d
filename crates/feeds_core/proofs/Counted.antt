-- What was listed is what a feed asks.
use Rattle.std.proofs.Common.{◌≡◌, ℕ, ◌<◌, List, length, map, slice_index, replicate, Option, sym, ◌∙◌, ap, subst, arith}
use Rattle.std.specs.List.{All}
use Rattle.venue_words.specs.declared.config.Config.{Config}
use Rattle.venue_words.specs.Conditions.{IsConfig}
use Rattle.venue_words.specs.Floors.{IsSetUpFor, setup_of}
use Rattle.script_text.specs.declared.fault.LineFault.{LineFault}
use Rattle.feed_work.specs.Feeds.{Asked, IsFor, commands_at}
use Rattle.feeds_core.specs.FeedLists.{ComesTo, IsCounted}
use Rattle.feeds_core.specs.Listings.{Listing, asked_of, listed_of, listing_mark, no_limit, timed_at}
use Rattle.feeds_core.specs.declared.feed_list.FeedList.{FeedList}
use Rattle.feeds_core.specs.declared.feed_text.FeedText.{FeedText}
use Rattle.feeds_core.specs.declared.listing_floor.Listed.{Listed}
use Rattle.feeds_core.specs.declared.naming.Naming.{Naming}
use Rattle.feeds_core.proofs.Listed.{limits_count}
use Rattle.feeds_core.proofs.TookLists.{asked_timed, asked_count, all_for_config}

pub comes_asked : (config other : Config) (kept : FeedText) (named : List Naming) (fault : Option LineFault) (listed lists : List Listed) (asked : List Asked)
    → other ≡ config → asked ≡ map asked_of lists → lists ≡ listed → ComesTo other kept named fault (λ symbol. timed_at symbol listed)
    → ComesTo config kept named fault (λ symbol. commands_at symbol asked)
comes_asked config other kept named fault listed lists asked same e f x =
    let y : ComesTo config kept named fault (λ symbol. timed_at symbol listed) =
    subst (λ (k : Config). ComesTo k kept named fault (λ symbol. timed_at symbol listed)) same x in
    record {
      refused = y.refused;
      whole = y.whole;
      names = y.names;
      commands = λ none symbol. ap (commands_at symbol) (e ∙ ap (map asked_of) f) ∙ asked_timed symbol listed ∙ y.commands none symbol;
    }

pub counted_of : (config : Config) (list : FeedList) (floor : Listing) (lists : List Listed) → IsConfig config
    → IsSetUpFor config (listing_mark floor).setup → list.commands.items ≡ map asked_of lists → lists ≡ floor.listed
    → list.counts.items ≡ floor.counts
    → ((symbol : ℕ) → symbol < length floor.counts → slice_index floor.counts symbol ≡ length (listed_of symbol floor.listed))
    → All (λ one. IsFor (listing_mark floor).setup (asked_of one)) floor.listed → IsCounted config list
counted_of config list floor lists is up e f h counted asked =
    let limits : length (replicate (length floor.counts) no_limit) ≡ length floor.counts = limits_count (length floor.counts) in
    let size : length floor.counts ≡ length config.symbols = sym limits ∙ up.symbols in
    let all : list.commands.items ≡ map asked_of floor.listed = e ∙ ap (map asked_of) f in
    record {
      each = ap (length {A = ℕ}) h ∙ size;
      counts = λ symbol l. ap (λ (ns : List ℕ). slice_index ns symbol) h ∙ counted symbol (omega arith)
          ∙ sym (asked_count symbol floor.listed) ∙ ap (λ (xs : List Asked). length (commands_at symbol xs)) (sym all);
      asked = subst (All (IsFor (setup_of config))) (sym all) (all_for_config config (listing_mark floor).setup floor.listed is up asked);
    }
