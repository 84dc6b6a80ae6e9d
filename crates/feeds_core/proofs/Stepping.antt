-- A line of a feed, as the code cuts it off.
use Rattle.std.proofs.Common.{◌≡◌, ℕ, ◌+◌, ◌-◌, ◌<◌, ◌||◌, Bool, false, List, ◌∷◌, ◌++◌, length, take, drop, Option, Some, IsOkAnd, sym, ap, subst, arith, length-take, length-drop}
use Rattle.std.proofs.lemmas.List.{take_all}
use Rattle.venue_words.specs.declared.config.Config.{Config}
use Rattle.eager_meaning.specs.Interleaving.{Timed}
use Rattle.script_text.specs.Body.{read_of}
use Rattle.script_text.specs.Lines.{has_end}
use Rattle.script_text.specs.declared.fault.LineFault.{LineFault}
use Rattle.line_work.specs.Commands.{at_moment, commands_for}
use Rattle.line_work.specs.FeedState.{FeedState}
use Rattle.line_work.specs.LineWork.{work_of_text}
use Rattle.line_work.specs.Standing.{WorkerView, StandsFor}
use Rattle.feeds_core.specs.FeedLines.{fault_of, is_member, named_in, or_else}
use Rattle.feeds_core.specs.FeedLists.{ComesTo}
use Rattle.feeds_core.specs.Listings.{timed_at}
use Rattle.feeds_core.specs.Naming.{has_name, refused_by}
use Rattle.feeds_core.specs.Passing.{InFeed}
use Rattle.feeds_core.specs.declared.feed_text.FeedText.{FeedText}
use Rattle.feeds_core.specs.declared.listing_floor.Listed.{Listed}
use Rattle.feeds_core.specs.declared.naming.Naming.{Naming}
use Rattle.feeds_core.proofs.Passing.{Looked, in_feed_next, in_feed_stops}

-- where the next line ends in the rest
pub record Cut (rest : List ℕ) (at : ℕ) : Type 0 where
  pub within : at < length rest
  pub clear : has_end (take at rest) ≡ false
  pub whole : rest ≡ take at rest ++ 10 ∷ drop (at + 1) rest

pub line_size : (rest : List ℕ) (at : ℕ) → at < length rest → length (take at rest) ≡ at
line_size rest at l = let size = length-take at rest in omega (arith, size, l)

pub rest_of : (rest : List ℕ) (at : ℕ) → at < length rest → take (length rest - (at + 1)) (drop (at + 1) rest) ≡ drop (at + 1) rest
rest_of rest at l =
    let size = length-drop (at + 1) rest in
    take_all (length rest - (at + 1)) (drop (at + 1) rest) (omega arith)

pub rest_size : (rest : List ℕ) (at : ℕ) → at < length rest → length (take (length rest - (at + 1)) (drop (at + 1) rest)) + at + 1 ≡ length rest
rest_size rest at l =
    let size = length-drop (at + 1) rest in
    let same = ap (length {A = ℕ}) (rest_of rest at l) in
    omega arith

ends_at : (bytes at : ℕ) (line : List ℕ) → length line ≡ at → bytes + length line + 1 ≡ bytes + at + 1
ends_at bytes at line e = ap (λ (n : ℕ). bytes + n + 1) e

pub line_next : (config other : Config) (kept : FeedText) (n bytes : ℕ) (rest : List ℕ) (at : ℕ) (worker worker' : WorkerView)
    (named named' : List Naming) (listed listed' : List Listed) (x : InFeed config kept n bytes rest worker named listed)
    → other ≡ config → Cut rest at
    → ((state : FeedState) → StandsFor worker state → IsOkAnd (work_of_text state (take at rest)) (λ work. StandsFor worker' work.state))
    → ((state : FeedState) → StandsFor worker state → IsOkAnd (work_of_text state (take at rest))
    (λ work. (symbol : ℕ) → timed_at symbol listed' ≡ timed_at symbol listed ++ commands_for symbol (at_moment work.state.moment work.submissions)))
    → ((taken : ℕ → Bool) (next : Option LineFault)
    → refused_by taken named (or_else (fault_of taken (n + 1) (bytes + at + 1) (read_of other (take at rest))) next) ≡ refused_by taken named' next)
    → ((member : ℕ) → has_name named' member ≡ (has_name named member || is_member member (named_in (read_of other (take at rest)))))
    → InFeed config kept (n + 1) (bytes + at + 1) (take (length rest - (at + 1)) (drop (at + 1) rest)) worker' named' listed'
line_next config other kept n bytes rest at worker worker' named named' listed listed' x same cut stands grew goes noted =
    let size = ends_at bytes at (take at rest) (line_size rest at cut.within) in
    let looked : Looked config (n + 1) (bytes + length (take at rest) + 1) (take at rest) named named' =
    subst (λ (b : ℕ). Looked config (n + 1) b (take at rest) named named') (sym size)
    (subst (λ (k : Config). Looked k (n + 1) (bytes + at + 1) (take at rest) named named') same
    (record { goes = goes; names_are = noted })) in
    subst (λ (more : List ℕ). InFeed config kept (n + 1) (bytes + at + 1) more worker' named' listed') (sym (rest_of rest at cut.within))
    (subst (λ (b : ℕ). InFeed config kept (n + 1) b (drop (at + 1) rest) worker' named' listed') size
    (in_feed_next config kept n bytes rest (take at rest) (drop (at + 1) rest) worker worker' named named' listed listed' x cut.whole cut.clear
    (stands x.state x.stands) (grew x.state x.stands) looked))

pub line_stops : (config other : Config) (kept : FeedText) (n bytes : ℕ) (rest : List ℕ) (at : ℕ) (worker : WorkerView)
    (named named' : List Naming) (listed : List Listed) (given : ℕ → List Timed) (fault : LineFault)
    → InFeed config kept n bytes rest worker named listed → other ≡ config → Cut rest at
    → ((taken : ℕ → Bool) (next : Option LineFault)
    → refused_by taken named (or_else (fault_of taken (n + 1) (bytes + at + 1) (read_of other (take at rest))) next) ≡ refused_by taken named' (Some fault))
    → ComesTo config kept named' (Some fault) given
line_stops config other kept n bytes rest at worker named named' listed given fault x same cut stops =
    let size = ends_at bytes at (take at rest) (line_size rest at cut.within) in
    in_feed_stops config kept n bytes rest (take at rest) (drop (at + 1) rest) worker named named' listed given fault x cut.whole cut.clear
    (subst (λ (b : ℕ). (taken : ℕ → Bool) (next : Option LineFault)
    → refused_by taken named (or_else (fault_of taken (n + 1) b (read_of config (take at rest))) next) ≡ refused_by taken named' (Some fault)) (sym size)
    (subst (λ (k : Config). (taken : ℕ → Bool) (next : Option LineFault)
    → refused_by taken named (or_else (fault_of taken (n + 1) (bytes + at + 1) (read_of k (take at rest))) next) ≡ refused_by taken named' (Some fault)) same stops))
