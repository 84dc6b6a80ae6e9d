-- Desks beside connections and cursors, and beside members.
use Rattle.std.proofs.Common.{◌≡◌, ℕ, ◌+◌, zero, suc, List, [], ◌∷◌, map, replicate, refl, arith}
use Rattle.std.specs.List.{AllZip, range_with_len}
use Rattle.venue_words.specs.declared.config.Config.{Config}
use Rattle.venue_words.specs.declared.command.Event.{Event}
use Rattle.member_gate.specs.Desks.{DeskView, fresh_desk}
use Rattle.line_work.specs.Standing.{IsDeskOf}
use Rattle.replay_core.specs.Playing.{Member, journal_at}
use Rattle.replay_core.specs.Stages.{AreSent, IsDeskOfMember}

pub zip_connections : (config : Config) (journals : List (List Event)) (ds : List DeskView) (members : List Member)
    → AllZip (IsDeskOfMember config journals) ds members
    → AllZip IsDeskOf ds (map (λ (m : Member). m.connection) members)
zip_connections config journals [] [] h = tt
zip_connections config journals [] (m ∷ ms) h = absurd h
zip_connections config journals (d ∷ ds) [] h = absurd h
zip_connections config journals (d ∷ ds) (m ∷ ms) h = (h.0.connection, zip_connections config journals ds ms h.1)

-- ---- before the first line

pub sent_first : (config : Config) (journals : List (List Event)) (a n : ℕ)
    → AllZip (AreSent config journals) (map (fresh_desk config) (range_with_len a n)) (replicate n [])
sent_first config journals a zero = tt
sent_first config journals a (suc n) = (
  record {
    past = λ symbol l. record { first = omega arith; second = omega arith; same = refl };
    sent = λ up. absurd (cc);
  },
  sent_first config journals (a + 1) n,
)

pub no_journal : (n symbol : ℕ) → journal_at (replicate n []) symbol ≡ []
no_journal zero symbol = refl
no_journal (suc n) zero = refl
no_journal (suc n) (suc symbol) = no_journal n symbol
