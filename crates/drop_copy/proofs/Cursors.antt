-- How cursors go on.
use Rattle.std.proofs.Common.{◌≡◌, ◌≤◌, inl, inr, max, ℕ, List, length, sym, ◌∙◌, ap, subst, arith}
use Rattle.venue_words.specs.declared.command.Event.{Event}
use Rattle.venue_words.specs.declared.report.Report.{Report}
use Rattle.venue_words.specs.Floors.{SymbolView}
use Rattle.venue_words.specs.Journals.{StartsWith}
use Rattle.member_gate.specs.Submitting.{Waited}
use Rattle.drop_copy.specs.Looks.{WentOn}
use Rattle.drop_copy.specs.Sessions.{StoodOrWentOn}
use Rattle.drop_copy.proofs.Views.{starts_self, starts_then, starts_length}

module _ (made : List Event → List Report) where
  -- a look: what is shown then is what its events make
  pub went_now : (before now next : SymbolView) (cursor moved : ℕ) → Waited before now → Waited now next
      → next.reports ≡ made next.journal → moved ≡ max cursor (length next.reports) → WentOn made before next cursor moved
  went_now before now next cursor moved p q e m = record {
    seen = next.journal;
    begins = starts_then before.journal now.journal next.journal p.none.0 q.none.0;
    stands = starts_self next.journal;
    shows = subst (λ (rs : List Report). StartsWith rs before.reports) e (starts_then before.reports now.reports next.reports p.reports q.reports);
    shown = subst (λ (rs : List Report). StartsWith next.reports rs) e (starts_self next.reports);
    moved_is = m ∙ ap (λ (rs : List Report). max cursor (length rs)) e;
  }

  -- a later view
  pub went_kept : (before now next : SymbolView) (cursor moved : ℕ) → WentOn made before now cursor moved → Waited now next
      → WentOn made before next cursor moved
  went_kept before now next cursor moved w q = record {
    seen = w.seen;
    begins = w.begins;
    stands = starts_then w.seen now.journal next.journal w.stands q.none.0;
    shows = w.shows;
    shown = starts_then (made w.seen) now.reports next.reports w.shown q.reports;
    moved_is = w.moved_is;
  }

  -- no cursor goes further than what is shown, or than it stood
  pub went_within : (before after : SymbolView) (cursor moved : ℕ) → WentOn made before after cursor moved
      → moved ≤ max cursor (length after.reports)
  went_within before after cursor moved w = omega (arith, w.moved_is, starts_length (made w.seen) after.reports w.shown)

  pub went_up : (before after : SymbolView) (cursor moved : ℕ) → WentOn made before after cursor moved → cursor ≤ moved
  went_up before after cursor moved w = omega (arith, w.moved_is)

  -- a cursor that stood or went on, and then went on
  pub went_then : (before now after : SymbolView) (first mid last : ℕ) → StoodOrWentOn made before now first mid → Waited before now
      → WentOn made now after mid last → WentOn made before after first last
  went_then before now after first mid last one p two =
      let small : (length now.reports ≤ length (made two.seen)) = starts_length now.reports (made two.seen) two.shows in
      let moved : last ≡ max first (length (made two.seen)) = elim one [
        | inl stood ↦ omega (arith, two.moved_is, stood)
        | inr went ↦ omega (arith, two.moved_is, went.moved_is, starts_length (made went.seen) now.reports went.shown, small)
      ] in record {
        seen = two.seen;
        begins = starts_then before.journal now.journal two.seen p.none.0 two.begins;
        stands = two.stands;
        shows = starts_then before.reports now.reports (made two.seen) p.reports two.shows;
        shown = two.shown;
        moved_is = moved;
      }

  -- the same of one that went to the end of all that is shown
  pub last_then : (before now after : SymbolView) (first mid last : ℕ) → StoodOrWentOn made before now first mid
      → Waited now after → last ≡ max mid (length after.reports) → last ≡ max first (length after.reports)
  last_then before now after first mid last one q e = elim one [
    | inl stood ↦ omega (arith, e, stood)
    | inr went ↦ omega (arith, e, went.moved_is, starts_length (made went.seen) now.reports went.shown, starts_length now.reports after.reports q.reports)
  ]

  -- a cursor that stood or went on, behind more of what is shown
  pub stood_kept : (before now next : SymbolView) (first mid last : ℕ) → StoodOrWentOn made before now first mid → Waited now next
      → last ≡ mid → StoodOrWentOn made before next first last
  stood_kept before now next first mid last one q e = elim one [
    | inl stood ↦ inl (e ∙ stood)
    | inr went ↦ inr (subst (λ (m : ℕ). WentOn made before next first m) (sym e) (went_kept before now next first mid went q))
  ]

  pub stood_within : (before now : SymbolView) (first mid : ℕ) → StoodOrWentOn made before now first mid → mid ≤ max first (length now.reports)
  stood_within before now first mid one = elim one [
    | inl stood ↦ omega (arith, stood)
    | inr went ↦ went_within before now first mid went
  ]

  pub stood_up : (before now : SymbolView) (first mid : ℕ) → StoodOrWentOn made before now first mid → first ≤ mid
  stood_up before now first mid one = elim one [
    | inl stood ↦ omega (arith, stood)
    | inr went ↦ went_up before now first mid went
  ]
