-- The parts of a turn make the turn.
use Rattle.std.proofs.Common.{◌≡◌, ◌<◌, ◌++◌, ℕ, ℤ, List, Option, length, take, refl, sym, subst}
use Rattle.venue_words.specs.declared.command.Event.{Event}
use Rattle.venue_words.specs.declared.config.Config.{Config}
use Rattle.venue_words.specs.declared.report.Report.{Report}
use Rattle.venue_words.specs.Floors.{SymbolView, TurnsRose}
use Rattle.io_edge.specs.Links.{Told, Tells, WasPut}
use Rattle.link_work.specs.declared.ends.LinkEnd.TheVariants.{LinkFault}
use Rattle.link_work.specs.Turns.{LinkTurn, joined}
use Rattle.link_work.proofs.Frames.{put_more}
use Rattle.session_core.specs.Machine.{IsUp}
use Rattle.drop_copy.specs.Desks.{DropView}
use Rattle.drop_copy.specs.Looks.{AllWentOn}
use Rattle.drop_copy.specs.Rounds.{HeardInput, IsRound, sent_to, work_in}
use Rattle.drop_copy.specs.Sessions.{AllWaited, FailedCopies, TookTurn, reports_at}

module _ {F : Type 0} (at : F → ℕ → SymbolView) (made : ℕ → List Event → List Report) (config : Config) (turn : LinkTurn) (before mid after : DropView) (floor floor' : F) where
  -- what a pull did
  pub record Pulls (moment : ℤ) : Type 0 where
    pub session : after.session ≡ (sent_to config moment (reports_at at floor') mid after.cursors).machine
    pub unread : after.unread ≡ mid.unread
    pub members : after.members ≡ mid.members
    pub still : (IsUp mid.session → ⊥) → after.cursors ≡ mid.cursors
    pub went_on : IsUp mid.session → AllWentOn at made (length config.symbols) mid.members mid.cursors after.cursors floor floor'
    pub waited : AllWaited at floor floor'

  abbrev sent_round : HeardInput turn before mid → Pulls turn.moment
      → IsRound config (record { turn = turn; shown = reports_at at floor'; before = before; heard = mid; after = after })
  sent_round heard p = record {
    input = heard;
    sent = record { session = p.session; unread = p.unread; members = p.members; still = p.still };
  }

  went_from : HeardInput turn before mid → (IsUp mid.session → AllWentOn at made (length config.symbols) mid.members mid.cursors after.cursors floor floor')
      → IsUp mid.session → AllWentOn at made (length config.symbols) before.members before.cursors after.cursors floor floor'
  went_from heard went up =
      subst (λ (ms : List ℕ). AllWentOn at made (length config.symbols) ms before.cursors after.cursors floor floor') heard.members
      (subst (λ (cs : List ℕ). AllWentOn at made (length config.symbols) mid.members cs after.cursors floor floor') heard.cursors (went up))

  pub took_whole : (replies frames : List (List ℕ)) (link link' link'' : Option Told) → HeardInput turn before mid → Pulls turn.moment
      → (IsUp mid.session → 0 < length mid.members → (symbol : ℕ) → symbol < length config.symbols → TurnsRose (at floor symbol).turns (at floor' symbol).turns)
      → replies ≡ (work_in turn before).replies → frames ≡ (sent_to config turn.moment (reports_at at floor') mid after.cursors).turn.replies
      → Tells (WasPut (joined replies)) link link' → Tells (WasPut (joined frames)) link' link''
      → TookTurn at made config turn before after floor floor' link link''
  took_whole replies frames link link' link'' heard p rose r f one two = record {
    heard = mid;
    round = sent_round heard p;
    went_on = went_from heard p.went_on;
    waited = p.waited;
    turns = λ up some. rose up (subst (λ (ms : List ℕ). 0 < length ms) (sym heard.members) some);
    put =
        subst (λ (rs : List (List ℕ)). Tells (WasPut (joined rs ++ joined (sent_to config turn.moment (reports_at at floor') mid after.cursors).turn.replies)) link link'') r
        (subst (λ (fs : List (List ℕ)). Tells (WasPut (joined replies ++ joined fs)) link link'') f (put_more (joined replies) (joined frames) link link' link'' one two));
  }

  pub failed_copies : (replies frames : List (List ℕ)) (size : ℕ) (link link' link'' : Option Told) → HeardInput turn before mid → Pulls turn.moment
      → replies ≡ (work_in turn before).replies → frames ≡ (sent_to config turn.moment (reports_at at floor') mid after.cursors).turn.replies
      → Tells (WasPut (joined replies)) link link' → Tells (WasPut (take size (joined frames))) link' link''
      → FailedCopies at made config turn before LinkFault after floor floor' link link''
  failed_copies replies frames size link link' link'' heard p r f one two = record {
    end_is = refl;
    heard = mid;
    round = sent_round heard p;
    went_on = went_from heard p.went_on;
    waited = p.waited;
    size = size;
    put =
        subst (λ (rs : List (List ℕ)). Tells (WasPut (joined rs ++ take size (joined (sent_to config turn.moment (reports_at at floor') mid after.cursors).turn.replies))) link link'') r
        (subst (λ (fs : List (List ℕ)). Tells (WasPut (joined replies ++ take size (joined fs))) link link'') f (put_more (joined replies) (take size (joined frames)) link link' link'' one two));
  }
