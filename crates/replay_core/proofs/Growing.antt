-- Commands that a floor took only add reports.
use Rattle.std.proofs.Common.{◌≡◌, ℕ, ℤ, ◌≤◌, ◌+◌, List, [], ◌∷◌, ◌++◌, length, drop, Option, inl, inr, sym, ◌∙◌, ap, append-nil, append_assoc, length-append, arith}
use Rattle.std.proofs.lemmas.List.{drop-append-le}
use Rattle.std.proofs.lemmas.List.Elements.{filter-append}
use Rattle.std.specs.List.{filter}
use Rattle.std.specs.Prelude.{◌==◌}
use Rattle.venue_words.specs.declared.command.Event.{Event}
use Rattle.venue_words.specs.declared.report.Report.{Report}
use Rattle.venue_words.specs.Floors.{FloorMark, SymbolView}
use Rattle.venue_words.specs.Journals.{StartsWith, reports_of}
use Rattle.member_gate.specs.Answering.{Submission}
use Rattle.member_gate.specs.Submitting.{TookOne, TookAll}
use Rattle.replay_core.specs.Stages.{IsSamePast}
use Rattle.replay_core.proofs.FloorWork.{eq_or_not}

begins_trans : {A : Type 0} (xs ys zs : List A) → StartsWith ys xs → StartsWith zs ys → StartsWith zs xs
begins_trans xs ys zs a b =
    (a.0 ++ b.0, b.1 ∙ ap (λ (l : List _). l ++ b.0) a.1 ∙ append_assoc xs a.0 b.0)

one_grows : {F : Type 0} (at : F → ℕ → SymbolView) (limit : FloorMark → ℕ → List Event → Event → Option ℕ) (mark : FloorMark) (moment : ℤ) (one : Submission) (before after : F × ℕ)
    → TookOne at limit mark 1 moment one before after → (symbol : ℕ) → StartsWith (at after.0 symbol).reports (at before.0 symbol).reports
one_grows at limit mark moment one before after t symbol = elim (eq_or_not symbol one.symbol) [
  | inl e ↦ rw e t.reports
  | inr n ↦ ([], ap (λ (v : SymbolView). v.reports) (t.others symbol n) ∙ sym (append-nil (at before.0 symbol).reports))
]

pub all_grow : {F : Type 0} (at : F → ℕ → SymbolView) (limit : FloorMark → ℕ → List Event → Event → Option ℕ) (mark : FloorMark) (moment : ℤ) (subs : List Submission) (before after : F × ℕ)
    → TookAll at limit mark 1 moment subs before after → (symbol : ℕ) → StartsWith (at after.0 symbol).reports (at before.0 symbol).reports
all_grow at limit mark moment [] before after t symbol =
    ([], ap (λ (x : _). (at x.0 symbol).reports) t ∙ sym (append-nil (at before.0 symbol).reports))
all_grow at limit mark moment (one ∷ others) before after t symbol =
    begins_trans (at before.0 symbol).reports (at t.0.0 symbol).reports (at after.0 symbol).reports
    (one_grows at limit mark moment one before t.0 t.1 symbol) (all_grow at limit mark moment others t.0 after t.2 symbol)

-- the member's reports past a position within the list, with those of the rest behind them
past_grown : (member from : ℕ) (reports rest : List Report) → from ≤ length reports
    → reports_of member from (reports ++ rest) ≡ reports_of member from reports ++ reports_of member 0 rest
past_grown member from reports rest l =
    ap (filter (λ (report : Report). report.member == member)) (drop-append-le from reports rest l)
    ∙ filter-append (λ (report : Report). report.member == member) (drop from reports) rest

pub same_grown : (member a b : ℕ) (before after : List Report) → StartsWith after before → IsSamePast member before a b
    → IsSamePast member after a b
same_grown member a b before after more x =
    let long : length after ≡ length before + length more.0 = ap length more.1 ∙ length-append before more.0 in
    let first = x.first in
    let second = x.second in
    record {
      first = omega (arith, long, first);
      second = omega (arith, long, second);
      same = ap (reports_of member a) more.1 ∙ past_grown member a before more.0 x.first
          ∙ ap (λ (xs : List Report). xs ++ reports_of member 0 more.0) x.same
          ∙ sym (past_grown member b before more.0 x.second) ∙ ap (reports_of member b) (sym more.1);
    }
