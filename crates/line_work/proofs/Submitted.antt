-- The floor's clauses are those of the one command that it took.
use Rattle.std.proofs.Common.{◌≡◌, ◌≢◌, ℕ, ℤ, ◌≤◌, List, [], ◌∷◌, slice_index, refl, subst, Option}
use Rattle.venue_words.specs.declared.command.Event.{Event}
use Rattle.venue_words.specs.Floors.{FloorMark, SymbolView, Records, TurnsRose, CostsAtMost}
use Rattle.venue_words.specs.Journals.{event, StartsWith}
use Rattle.member_gate.specs.Answering.{Submission}
use Rattle.member_gate.specs.Submitting.{TookAll}

took_at : {F : Type 0} (at : F → ℕ → SymbolView) (limit : FloorMark → ℕ → List Event → Event → Option ℕ) (mark : FloorMark) (feed : ℕ) (moment : ℤ) (one : Submission) (number : ℕ) (before after : F × ℕ)
    → Records (at before.0 one.symbol) (at after.0 one.symbol) number feed moment one.command
    → number ≤ slice_index mark.setup.limits one.symbol → StartsWith (at after.0 one.symbol).reports (at before.0 one.symbol).reports
    → TurnsRose (at before.0 one.symbol).turns (at after.0 one.symbol).turns
    → ((other : ℕ) → other ≢ one.symbol → at after.0 other ≡ at before.0 other)
    → CostsAtMost (limit mark one.symbol) (at after.0 one.symbol).journal (event number feed moment one.command) before.1 after.1
    → TookAll at limit mark feed moment (one ∷ []) before after
took_at at limit mark feed moment one number before after records room reports turns others steps = (
  after,
  record {
    number = number;
    records = records;
    room = room;
    reports = reports;
    turns = turns;
    others = others;
    steps = steps;
  },
  refl,
)

pub took_just : {F : Type 0} (at : F → ℕ → SymbolView) (limit : FloorMark → ℕ → List Event → Event → Option ℕ) (mark : FloorMark) (feed : ℕ) (now moment : ℤ) (one : Submission) (number : ℕ) (before after : F × ℕ) → now ≡ moment
    → Records (at before.0 one.symbol) (at after.0 one.symbol) number feed now one.command
    → number ≤ slice_index mark.setup.limits one.symbol → StartsWith (at after.0 one.symbol).reports (at before.0 one.symbol).reports
    → TurnsRose (at before.0 one.symbol).turns (at after.0 one.symbol).turns
    → ((other : ℕ) → other ≢ one.symbol → at after.0 other ≡ at before.0 other)
    → CostsAtMost (limit mark one.symbol) (at after.0 one.symbol).journal (event number feed now one.command) before.1 after.1
    → TookAll at limit mark feed moment (one ∷ []) before after
took_just at limit mark feed now moment one number before after e records room reports turns others steps =
    subst (λ (m : ℤ). TookAll at limit mark feed m (one ∷ []) before after) e
    (took_at at limit mark feed now one number before after records room reports turns others steps)
