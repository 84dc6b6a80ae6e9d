-- Behind a line's own work nothing waits for a member at a symbol at which he is not asked.
use Rattle.std.proofs.Common.{◌≡◌, ℕ, zero, suc, ◌+◌, ◌<◌, ◌≤◌, Bool, true, false, List, [], ◌∷◌, length, map, slice_index, Option, Some, sym, ◌∙◌, ap, subst, arith}
use Rattle.std.specs.List.{AllZip, range_with_len}
use Rattle.venue_words.specs.declared.config.Config.{Config}
use Rattle.venue_words.specs.declared.command.Event.{Event}
use Rattle.venue_words.specs.Journals.{StartsWith, reports_of}
use Rattle.session_core.specs.Machine.{Machine, IsUp}
use Rattle.session_core.specs.State.{is_up}
use Rattle.member_gate.specs.Desks.{DeskView}
use Rattle.member_gate.specs.Reporting.{cursor_at}
use Rattle.line_work.specs.FeedState.{Connection}
use Rattle.line_work.specs.Standing.{IsDeskOf}
use Rattle.replay_core.specs.News.{asks, KeepsDown, IsAsked}
use Rattle.replay_core.specs.Playing.{members_in, reports_at}
use Rattle.replay_core.specs.Stages.{AreSent, IsSamePast}
use Rattle.replay_core.proofs.Growing.{same_grown}

-- the reports of a line's events were added, and a look from these fronts noted their symbols for their members, and all for
-- the member whose session may have come up
pub record Looked (config : Config) (before behind : List (List Event)) (fronts : List ℕ) (own : Option ℕ) (asked : List (List Bool)) : Type 0 where
  pub grown : (symbol : ℕ) → symbol < length config.symbols → StartsWith (reports_at config behind symbol) (reports_at config before symbol)
  pub told : (symbol : ℕ) → symbol < length config.symbols → slice_index fronts symbol ≡ length (reports_at config before symbol)
  pub mine : (member symbol : ℕ) → own ≡ Some member → member < length config.members → symbol < length config.symbols
      → asks asked member symbol ≡ true
  pub none : (member symbol : ℕ) → member < length config.members → symbol < length config.symbols → asks asked member symbol ≡ false
      → reports_of member (slice_index fronts symbol) (reports_at config behind symbol) ≡ []

module _ (config : Config) (before behind : List (List Event)) (fronts : List ℕ) (own : Option ℕ) (asked : List (List Bool)) (x : Looked config before behind fronts own asked) where
  is_own : (b : Connection) (member symbol : ℕ) → member ≡ b.number → member < length config.members → symbol < length config.symbols
      → asks asked member symbol ≡ false → own ≡ Some b.number → ⊥
  is_own b member symbol same l at off e =
      let here : own ≡ Some member = e ∙ ap Some (sym same) in
      let contrary : true ≡ false = sym (x.mine member symbol here l at) ∙ off in
      cc

  asked_one : (d e : DeskView) (b a : Connection) (cursors : List ℕ) → d.member < length config.members → IsDeskOf d b
      → KeepsDown own b a → IsDeskOf e a → e.cursors ≡ d.cursors → AreSent config before d cursors
      → IsAsked asked config behind e (record { connection = a; cursors = cursors })
  asked_one d e b a cursors l db ba ea same s =
      let one : e.member ≡ b.number = ea.number ∙ ba.number in
      let own_desk : e.member ≡ d.member = one ∙ sym db.number in
      let within : e.member < length config.members = omega (arith, own_desk, l) in
      record {
        stands = record {
          connection = ea;
          cursors = λ k at.
              subst (λ (m : ℕ). IsSamePast m (reports_at config behind k) (cursor_at e.cursors k) (cursor_at cursors k)) (sym own_desk)
              (subst (λ (c : List ℕ). IsSamePast d.member (reports_at config behind k) (cursor_at c k) (cursor_at cursors k)) (sym same)
              (same_grown d.member (cursor_at d.cursors k) (cursor_at cursors k) (reports_at config before k) (reports_at config behind k)
              (x.grown k at) (s.past k at)));
        };
        quiet = λ up k at off.
            let now : IsUp a.session = sym (ap (λ (m : Machine). is_up m.state) ea.session) ∙ up in
            let was : IsUp b.session = ba.down (is_own b e.member k one within at off) now in
            let sent = s.sent (ap (λ (m : Machine). is_up m.state) db.session ∙ was) k at in
            ap (λ (c : ℕ). reports_of e.member c (reports_at config behind k)) (sent ∙ sym (x.told k at))
            ∙ x.none e.member k within at off;
      }

  pub asked_all : (ds es : List DeskView) (bs next : List Connection) (cursors : List (List ℕ)) (first n : ℕ)
      → map (λ (d : DeskView). d.member) ds ≡ range_with_len first n → first + n ≤ length config.members
      → AllZip IsDeskOf ds bs → AllZip (KeepsDown own) bs next → AllZip IsDeskOf es next
      → map (λ (d : DeskView). d.cursors) es ≡ map (λ (d : DeskView). d.cursors) ds
      → AllZip (AreSent config before) ds cursors
      → AllZip (IsAsked asked config behind) es (members_in next cursors)
  asked_all ds [] bs [] cursors first n h most db ba ea same s = tt
  asked_all ds [] bs (a ∷ next) cursors first n h most db ba ea same s = absurd ea
  asked_all ds (e ∷ es) bs [] cursors first n h most db ba ea same s = absurd ea
  asked_all [] (e ∷ es) bs (a ∷ next) cursors first n h most db ba ea same s = absurd (cc)
  asked_all (d ∷ ds) (e ∷ es) [] (a ∷ next) cursors first n h most db ba ea same s = absurd db
  asked_all (d ∷ ds) (e ∷ es) (b ∷ bs) (a ∷ next) [] first n h most db ba ea same s = absurd s
  asked_all (d ∷ ds) (e ∷ es) (b ∷ bs) (a ∷ next) (c ∷ cs) first zero h most db ba ea same s = absurd (cc)
  asked_all (d ∷ ds) (e ∷ es) (b ∷ bs) (a ∷ next) (c ∷ cs) first (suc n) h most db ba ea same s =
      let number : d.member ≡ first = cc in
      let numbers : map (λ (d : DeskView). d.member) ds ≡ range_with_len (first + 1) n = cc in
      let here : e.cursors ≡ d.cursors = cc in
      let others : map (λ (d : DeskView). d.cursors) es ≡ map (λ (d : DeskView). d.cursors) ds = cc in (
        asked_one d e b a c (omega (arith, number, most)) db.0 ba.0 ea.0 here s.0,
        asked_all ds es bs next cs (first + 1) n numbers (omega (arith, most)) db.1 ba.1 ea.1 others s.1,
      )
