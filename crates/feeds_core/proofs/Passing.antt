-- The lines of a feed, one after the other.
use Rattle.std.proofs.Common.{◌≡◌, ℕ, ◌+◌, ◌||◌, Bool, true, false, List, [], ◌∷◌, ◌++◌, length, Option, None, Some, Result, Ok, Err, IsOkAnd, refl, sym, ◌∙◌, ap, append_assoc, append-nil}
use Rattle.std.specs.List.{list_any}
use Rattle.venue_words.specs.declared.config.Config.{Config}
use Rattle.eager_meaning.specs.Interleaving.{Timed}
use Rattle.script_text.specs.Body.{read_of}
use Rattle.script_text.specs.Lines.{Cut, cut, has_end}
use Rattle.script_text.specs.LinesLaws.{cut_first, cut_whole}
use Rattle.script_text.specs.declared.fault.LineFault.{LineFault}
use Rattle.line_work.specs.Commands.{at_moment, and_then, commands_for, commands, submitted_by}
use Rattle.line_work.specs.FeedState.{FeedState, before_lines}
use Rattle.line_work.specs.LineWork.{LineWork, work_of_text}
use Rattle.line_work.specs.LineWorkLaws.{text_keeps_config}
use Rattle.line_work.specs.Standing.{WorkerView, StandsFor}
use Rattle.feeds_core.specs.FeedLines.{fault_of, is_member, named_in, names, or_else, lines_fault}
use Rattle.feeds_core.specs.FeedLists.{ComesTo}
use Rattle.feeds_core.specs.FeedTexts.{kept_fault, end_fault}
use Rattle.feeds_core.specs.Listings.{timed_at}
use Rattle.feeds_core.specs.Naming.{has_name, refused_by}
use Rattle.feeds_core.specs.Passing.{InFeed}
use Rattle.feeds_core.specs.declared.feed_text.FeedText.{FeedText}
use Rattle.feeds_core.specs.declared.feed_text.FeedEnd.{FeedEnd}
use Rattle.feeds_core.specs.declared.feed_text.FeedEnd.TheVariants.{Whole, Unended, TooLong, Over}
use Rattle.feeds_core.specs.declared.listing_floor.Listed.{Listed}
use Rattle.feeds_core.specs.declared.naming.Naming.{Naming}
use Rattle.feeds_core.proofs.LineFaults.{line_first, line_none}
use Rattle.feeds_core.proofs.Namings.{or_assoc}
use Rattle.feeds_core.proofs.TookLists.{commands_append}

-- before the first line
pub in_feed_first : (config : Config) (kept : FeedText) (worker : WorkerView) (named : List Naming) (listed : List Listed)
    → worker.config ≡ config → StandsFor worker (before_lines config) → named ≡ [] → listed ≡ []
    → InFeed config kept 0 kept.already kept.lines.items worker named listed
unfolding kept_fault names
in_feed_first config kept worker named listed same stands none empty = record {
  state = before_lines config;
  stands = stands;
  config_is = refl;
  commands = λ symbol. ap (λ (ls : List Listed). timed_at symbol ls ++ commands_for symbol (submitted_by (before_lines config) (cut kept.lines.items).lines)) empty;
  refused = λ taken. sym (ap (λ (ns : List Naming). refused_by taken ns (lines_fault config taken 0 kept.already (cut kept.lines.items).lines (end_fault kept.end))) none);
  names_are = λ member. ap (λ (ns : List Naming). has_name ns member || list_any (λ line. is_member member (named_in (read_of config line))) (cut kept.lines.items).lines) none;
}

-- ---- a line

rest_lines : (line more rest : List ℕ) → rest ≡ line ++ 10 ∷ more → has_end line ≡ false → (cut rest).lines ≡ line ∷ (cut more).lines
rest_lines line more rest e clear = ap (λ (t : List ℕ). (cut t).lines) e ∙ ap (λ (c : Cut). c.lines) (cut_first line more clear)

submitted_more : (state : FeedState) (line : List ℕ) (lines : List (List ℕ)) (work : LineWork) → work_of_text state line ≡ Ok work
    → submitted_by state (line ∷ lines) ≡ at_moment work.state.moment work.submissions ++ submitted_by work.state lines
unfolding submitted_by
submitted_more state line lines work e = ap (λ (r : Result LineWork LineFault). and_then r (λ next. submitted_by next lines)) e

-- what noting a line and weighing it do
pub record Looked (config : Config) (n bytes : ℕ) (line : List ℕ) (named named' : List Naming) : Type 0 where
  pub goes : (taken : ℕ → Bool) (next : Option LineFault)
      → refused_by taken named (or_else (fault_of taken n bytes (read_of config line)) next) ≡ refused_by taken named' next
  pub names_are : (member : ℕ) → has_name named' member ≡ (has_name named member || is_member member (named_in (read_of config line)))

refused_more : (config : Config) (kept : FeedText) (n bytes : ℕ) (rest line more : List ℕ) (worker : WorkerView) (named : List Naming)
    (listed : List Listed) (taken : ℕ → Bool)
    → InFeed config kept n bytes rest worker named listed → rest ≡ line ++ 10 ∷ more → has_end line ≡ false
    → kept_fault config taken kept ≡ refused_by taken named (or_else (fault_of taken (n + 1) (bytes + length line + 1) (read_of config line))
    (lines_fault config taken (n + 1) (bytes + length line + 1) (cut more).lines (end_fault kept.end)))
refused_more config kept n bytes rest line more worker named listed taken x e clear =
    x.refused taken
    ∙ ap (λ (ls : List (List ℕ)). refused_by taken named (lines_fault config taken n bytes ls (end_fault kept.end))) (rest_lines line more rest e clear)
    ∙ ap (refused_by taken named) (line_first config taken n bytes line (cut more).lines (end_fault kept.end))

commands_more : (config : Config) (kept : FeedText) (n bytes : ℕ) (rest line more : List ℕ) (worker : WorkerView) (named : List Naming)
    (listed listed' : List Listed) (x : InFeed config kept n bytes rest worker named listed) (work : LineWork) (symbol : ℕ)
    → rest ≡ line ++ 10 ∷ more → has_end line ≡ false → work_of_text x.state line ≡ Ok work
    → timed_at symbol listed' ≡ timed_at symbol listed ++ commands_for symbol (at_moment work.state.moment work.submissions)
    → timed_at symbol listed' ++ commands_for symbol (submitted_by work.state (cut more).lines) ≡ commands config kept.lines.items symbol
commands_more config kept n bytes rest line more worker named listed listed' x work symbol e clear is grew =
    let here = commands_for symbol (at_moment work.state.moment work.submissions) in
    let behind = commands_for symbol (submitted_by work.state (cut more).lines) in
    let all : commands_for symbol (submitted_by x.state (cut rest).lines) ≡ here ++ behind =
    ap (λ (ls : List (List ℕ)). commands_for symbol (submitted_by x.state ls)) (rest_lines line more rest e clear)
    ∙ ap (commands_for symbol) (submitted_more x.state line (cut more).lines work is)
    ∙ commands_append symbol (at_moment work.state.moment work.submissions) (submitted_by work.state (cut more).lines) in
    ap (λ (ts : List Timed). ts ++ behind) grew ∙ append_assoc (timed_at symbol listed) here behind
    ∙ ap (λ (ts : List Timed). timed_at symbol listed ++ ts) (sym all) ∙ x.commands symbol

names_more : (config : Config) (kept : FeedText) (n bytes : ℕ) (rest line more : List ℕ) (worker : WorkerView) (named named' : List Naming)
    (listed : List Listed) (member : ℕ)
    → InFeed config kept n bytes rest worker named listed → rest ≡ line ++ 10 ∷ more → has_end line ≡ false
    → has_name named' member ≡ (has_name named member || is_member member (named_in (read_of config line)))
    → (has_name named' member || list_any (λ line. is_member member (named_in (read_of config line))) (cut more).lines)
    ≡ names config kept.lines.items member
names_more config kept n bytes rest line more worker named named' listed member x e clear noted =
    let p : List ℕ → Bool = λ line. is_member member (named_in (read_of config line)) in
    ap (λ (b : Bool). b || list_any p (cut more).lines) noted
    ∙ or_assoc (has_name named member) (p line) (list_any p (cut more).lines)
    ∙ ap (λ (ls : List (List ℕ)). has_name named member || list_any p ls) (sym (rest_lines line more rest e clear))
    ∙ x.names_are member

worked_next : (config : Config) (kept : FeedText) (n bytes : ℕ) (rest line more : List ℕ) (worker worker' : WorkerView)
    (named named' : List Naming) (listed listed' : List Listed) (x : InFeed config kept n bytes rest worker named listed)
    (r : Result LineWork LineFault)
    → rest ≡ line ++ 10 ∷ more → has_end line ≡ false → work_of_text x.state line ≡ r
    → IsOkAnd r (λ work. StandsFor worker' work.state)
    → IsOkAnd r (λ work. (symbol : ℕ) → timed_at symbol listed' ≡ timed_at symbol listed ++ commands_for symbol (at_moment work.state.moment work.submissions))
    → Looked config (n + 1) (bytes + length line + 1) line named named'
    → InFeed config kept (n + 1) (bytes + length line + 1) more worker' named' listed'
worked_next config kept n bytes rest line more worker worker' named named' listed listed' x (Err fault) e clear is stands grew looked = absurd stands
worked_next config kept n bytes rest line more worker worker' named named' listed listed' x (Ok work) e clear is stands grew looked = record {
  state = work.state;
  stands = stands;
  config_is = text_keeps_config x.state line work is ∙ x.config_is;
  commands = λ symbol. commands_more config kept n bytes rest line more worker named listed listed' x work symbol e clear is (grew symbol);
  refused = λ taken. refused_more config kept n bytes rest line more worker named listed taken x e clear
      ∙ looked.goes taken (lines_fault config taken (n + 1) (bytes + length line + 1) (cut more).lines (end_fault kept.end));
  names_are = λ member. names_more config kept n bytes rest line more worker named named' listed member x e clear (looked.names_are member);
}

-- a line was worked
pub in_feed_next : (config : Config) (kept : FeedText) (n bytes : ℕ) (rest line more : List ℕ) (worker worker' : WorkerView)
    (named named' : List Naming) (listed listed' : List Listed) (x : InFeed config kept n bytes rest worker named listed)
    → rest ≡ line ++ 10 ∷ more → has_end line ≡ false
    → IsOkAnd (work_of_text x.state line) (λ work. StandsFor worker' work.state)
    → IsOkAnd (work_of_text x.state line) (λ work. (symbol : ℕ) → timed_at symbol listed' ≡ timed_at symbol listed ++ commands_for symbol (at_moment work.state.moment work.submissions))
    → Looked config (n + 1) (bytes + length line + 1) line named named'
    → InFeed config kept (n + 1) (bytes + length line + 1) more worker' named' listed'
in_feed_next config kept n bytes rest line more worker worker' named named' listed listed' x e clear stands grew looked =
    worked_next config kept n bytes rest line more worker worker' named named' listed listed' x (work_of_text x.state line) e clear refl stands grew looked

-- a line is refused on its own account
pub in_feed_stops : (config : Config) (kept : FeedText) (n bytes : ℕ) (rest line more : List ℕ) (worker : WorkerView)
    (named named' : List Naming) (listed : List Listed) (given : ℕ → List Timed) (fault : LineFault)
    → InFeed config kept n bytes rest worker named listed → rest ≡ line ++ 10 ∷ more → has_end line ≡ false
    → ((taken : ℕ → Bool) (next : Option LineFault)
    → refused_by taken named (or_else (fault_of taken (n + 1) (bytes + length line + 1) (read_of config line)) next) ≡ refused_by taken named' (Some fault))
    → ComesTo config kept named' (Some fault) given
in_feed_stops config kept n bytes rest line more worker named named' listed given fault x e clear stops = record {
  refused = λ taken. sym (refused_more config kept n bytes rest line more worker named listed taken x e clear
      ∙ stops taken (lines_fault config taken (n + 1) (bytes + length line + 1) (cut more).lines (end_fault kept.end)));
  whole = λ none. absurd (cc);
  names = λ none. absurd (cc);
  commands = λ none. absurd (cc);
}

-- ---- behind the last line

whole_end : (end : FeedEnd) (n : ℕ) → end_fault end n ≡ None → end ≡ Whole
whole_end Whole n e = refl
whole_end Unended n e = absurd (cc)
whole_end TooLong n e = absurd (cc)
whole_end Over n e = absurd (cc)

or_false : (b : Bool) → (b || false) ≡ b
or_false true = refl
or_false false = refl

none_submitted : (state : FeedState) (symbol : ℕ) → commands_for symbol (submitted_by state []) ≡ []
unfolding submitted_by
none_submitted state symbol = refl

pub in_feed_ends : (config : Config) (kept : FeedText) (n bytes : ℕ) (rest : List ℕ) (worker : WorkerView) (named : List Naming)
    (listed : List Listed) → InFeed config kept n bytes rest worker named listed → has_end rest ≡ false
    → ComesTo config kept named (end_fault kept.end n) (λ symbol. timed_at symbol listed)
in_feed_ends config kept n bytes rest worker named listed x clear =
    let none : (cut rest).lines ≡ [] = ap (λ (c : Cut). c.lines) (cut_whole rest clear) in record {
      refused = λ taken. sym (x.refused taken
          ∙ ap (λ (ls : List (List ℕ)). refused_by taken named (lines_fault config taken n bytes ls (end_fault kept.end))) none
          ∙ ap (refused_by taken named) (line_none config taken n bytes (end_fault kept.end)));
      whole = λ e. whole_end kept.end n e;
      names = λ e member. sym (or_false (has_name named member))
          ∙ ap (λ (ls : List (List ℕ)). has_name named member || list_any (λ line. is_member member (named_in (read_of config line))) ls) (sym none)
          ∙ x.names_are member;
      commands = λ e symbol. sym (append-nil (timed_at symbol listed))
          ∙ ap (λ (ts : List Timed). timed_at symbol listed ++ ts) (sym (none_submitted x.state symbol))
          ∙ ap (λ (ls : List (List ℕ)). timed_at symbol listed ++ commands_for symbol (submitted_by x.state ls)) (sym none)
          ∙ x.commands symbol;
    }
