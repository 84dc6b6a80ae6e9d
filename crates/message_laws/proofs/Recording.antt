-- What is sent again covers its range, and is what was sent first.
use Rattle.std.proofs.Common.{◌≡◌, ℕ, zero, suc, ◌+◌, ◌-◌, ◌<◌, ◌≤◌, Bool, true, false, List, [], ◌∷◌, ◌++◌, length, take, drop, get_or, Option, Some, None, inl, inr, refl, sym, ◌∙◌, ap, subst, arith, append_assoc, length-append, length-drop}
use Rattle.std.specs.Prelude.{ℤ, map, replicate}
use Rattle.std.proofs.lemmas.Bool.{cases_lt}
use Rattle.std.proofs.lemmas.List.{append-nil, length-take-le}
use Rattle.fix_write.specs.MessageTypes.{byte_of}
use Rattle.session_core.specs.declared.message.Kept.{Kept}
use Rattle.session_core.specs.declared.message.Message.{Message}
use Rattle.session_core.specs.Frames.{new_frame, new_frames, kept, all_kept}
use Rattle.session_core.specs.Resent.{Resent, Again, Gap, with_run, resent, old_frame, gap_frame, resent_frame}
use Rattle.message_laws.specs.Numbers.{IsNew}
use Rattle.message_laws.specs.Ledgers.{Entry, entry_of, Covers, CoversRange, Adds}
use Rattle.message_laws.proofs.Planning.{IsWithin}
use Rattle.message_laws.proofs.Numbering.{is_new}

-- ---- what is kept and what was sent

-- what is kept under numbers from this one on, and the entries of what was sent under them
abbrev pub Remembers : List ℕ → ℕ → List (Option Kept) → List Entry → Type 0
Remembers member number [] [] = Unit {0}
Remembers member number [] (entry ∷ ledger) = ⊥
Remembers member number (kept ∷ sent) [] = ⊥
Remembers member number (Some kept ∷ sent) (entry ∷ ledger) =
    (entry.application ≡ true) × (entry.frame ≡ new_frame member kept.moment number kept.message) × Remembers member (number + 1) sent ledger
Remembers member number (None ∷ sent) (entry ∷ ledger) = (entry.application ≡ false) × Remembers member (number + 1) sent ledger

pub remembers_long : (member : List ℕ) (number : ℕ) (sent : List (Option Kept)) (ledger : List Entry) → Remembers member number sent ledger → length sent ≡ length ledger
remembers_long member number [] [] r = refl
remembers_long member number [] (entry ∷ ledger) r = absurd r
remembers_long member number (kept ∷ sent) [] r = absurd r
remembers_long member number (Some kept ∷ sent) (entry ∷ ledger) r = ap (λ (n : ℕ). suc n) (remembers_long member (number + 1) sent ledger r.2)
remembers_long member number (None ∷ sent) (entry ∷ ledger) r = ap (λ (n : ℕ). suc n) (remembers_long member (number + 1) sent ledger r.1)

pub remembers_more : (member : List ℕ) (number next : ℕ) (sent more : List (Option Kept)) (ledger others : List Entry) → next ≡ number + length sent → Remembers member number sent ledger → Remembers member next more others → Remembers member number (sent ++ more) (ledger ++ others)
remembers_more member number next [] more [] others e r m = let same : next ≡ number = omega arith in subst (λ (n : ℕ). Remembers member n more others) same m
remembers_more member number next [] more (entry ∷ ledger) others e r m = absurd r
remembers_more member number next (kept ∷ sent) more [] others e r m = absurd r
remembers_more member number next (Some kept ∷ sent) more (entry ∷ ledger) others e r m =
    (r.0, r.1, remembers_more member (number + 1) next sent more ledger others (omega arith) r.2 m)
remembers_more member number next (None ∷ sent) more (entry ∷ ledger) others e r m =
    (r.0, remembers_more member (number + 1) next sent more ledger others (omega arith) r.1 m)

-- ---- new messages

abbrev pub entries : Bool → List (List ℕ) → List Entry
entries application frames = map (λ (frame : List ℕ). record { application = application; frame = frame }) frames

pub remembers_kept : (member : List ℕ) (moment : ℤ) (number : ℕ) (messages : List Message) → Remembers member number (all_kept moment messages) (entries true (new_frames member moment number messages))
unfolding new_frames
remembers_kept member moment number [] = tt
remembers_kept member moment number (message ∷ messages) = (refl, refl, remembers_kept member moment (number + 1) messages)

pub remembers_none : (member : List ℕ) (moment : ℤ) (number : ℕ) (messages : List Message) → Remembers member number (replicate (length messages) None) (entries false (new_frames member moment number messages))
unfolding new_frames
remembers_none member moment number [] = tt
remembers_none member moment number (message ∷ messages) = (refl, remembers_none member moment (number + 1) messages)

pub adds_new : (member : List ℕ) (application : Bool) (moment : ℤ) (number : ℕ) (messages : List Message) (ledger : List Entry) → number ≡ length ledger + 1 → Adds member application ledger (new_frames member moment number messages) (ledger ++ entries application (new_frames member moment number messages))
unfolding new_frames
adds_new member application moment number [] ledger e = append-nil ledger
adds_new member application moment number (message ∷ messages) ledger e =
    let entry : Entry = record { application = application; frame = new_frame member moment number message } in
    let rest = entries application (new_frames member moment (number + 1) messages) in
    let more = adds_new member application moment (number + 1) messages (ledger ++ entry ∷ []) (omega (arith, length-append ledger (entry ∷ []))) in
    let new : IsNew member number (new_frame member moment number message) = is_new member moment number message in (
      subst (λ (n : ℕ). IsNew member n (new_frame member moment number message)) e new,
      subst (λ (all : List Entry). Adds member application (ledger ++ entry ∷ []) (new_frames member moment (number + 1) messages) all) (append_assoc ledger (entry ∷ []) rest) more,
    )

-- ---- what is sent again

-- what is kept under numbers from this one on is what the ledger has there
abbrev Matches : List ℕ → List Entry → ℕ → List (Option Kept) → Type 0
Matches member ledger number [] = Unit {0}
Matches member ledger number (Some kept ∷ sent) =
    ((entry_of ledger number).application ≡ true) × ((entry_of ledger number).frame ≡ new_frame member kept.moment number kept.message) × Matches member ledger (number + 1) sent
Matches member ledger number (None ∷ sent) = ((entry_of ledger number).application ≡ false) × Matches member ledger (number + 1) sent

matches_all : (member : List ℕ) (ledger : List Entry) (number : ℕ) (sent : List (Option Kept)) (rest : List Entry) → ((k : ℕ) → entry_of ledger (number + k) ≡ get_or rest k (record { application = false; frame = [] })) → Remembers member number sent rest → Matches member ledger number sent
matches_all member ledger number [] rest same r = tt
matches_all member ledger number (kept ∷ sent) [] same r = absurd r
matches_all member ledger number (Some kept ∷ sent) (entry ∷ rest) same r =
    let none : number + 0 ≡ number = omega arith in
    let here : entry_of ledger number ≡ entry = ap (entry_of ledger) (sym none) ∙ same 0 in
    let on = λ (k : ℕ). (let next : number + 1 + k ≡ number + suc k = omega arith in ap (entry_of ledger) next ∙ same (suc k)) in
    (ap (λ (e : Entry). e.application) here ∙ r.0, ap (λ (e : Entry). e.frame) here ∙ r.1, matches_all member ledger (number + 1) sent rest on r.2)
matches_all member ledger number (None ∷ sent) (entry ∷ rest) same r =
    let none : number + 0 ≡ number = omega arith in
    let here : entry_of ledger number ≡ entry = ap (entry_of ledger) (sym none) ∙ same 0 in
    let on = λ (k : ℕ). (let next : number + 1 + k ≡ number + suc k = omega arith in ap (entry_of ledger) next ∙ same (suc k)) in
    (ap (λ (e : Entry). e.application) here ∙ r.0, matches_all member ledger (number + 1) sent rest on r.1)

matches_take : (member : List ℕ) (ledger : List Entry) (number count : ℕ) (sent : List (Option Kept)) → Matches member ledger number sent → Matches member ledger number (take count sent)
matches_take member ledger number zero sent m = tt
matches_take member ledger number (suc count) [] m = tt
matches_take member ledger number (suc count) (Some kept ∷ sent) m = (m.0, m.1, matches_take member ledger (number + 1) count sent m.2)
matches_take member ledger number (suc count) (None ∷ sent) m = (m.0, matches_take member ledger (number + 1) count sent m.1)

matches_drop : (member : List ℕ) (ledger : List Entry) (number next count : ℕ) (sent : List (Option Kept)) → next ≡ number + count → Matches member ledger number sent → Matches member ledger next (drop count sent)
matches_drop member ledger number next zero sent e m = let same : number ≡ next = omega arith in subst (λ (n : ℕ). Matches member ledger n sent) same m
matches_drop member ledger number next (suc count) [] e m = tt
matches_drop member ledger number next (suc count) (Some kept ∷ sent) e m = matches_drop member ledger (number + 1) next count sent (omega arith) m.2
matches_drop member ledger number next (suc count) (None ∷ sent) e m = matches_drop member ledger (number + 1) next count sent (omega arith) m.1

-- what is sent again, item by item
abbrev CoverItems : List ℕ → List Entry → ℕ → ℕ → List Resent → Type 0
CoverItems member ledger first end [] = first ≡ end
CoverItems member ledger first end (Again number kept ∷ items) =
    (number ≡ first) × ((entry_of ledger first).application ≡ true) × ((entry_of ledger first).frame ≡ new_frame member kept.moment first kept.message) × CoverItems member ledger (first + 1) end items
CoverItems member ledger first end (Gap from to ∷ items) =
    (from ≡ first) × (first < to) × ((number : ℕ) → first ≤ number → number < to → (entry_of ledger number).application ≡ false) × CoverItems member ledger to end items

alone : (ledger : List Entry) (first number : ℕ) → (entry_of ledger first).application ≡ false → first ≤ number → number < first + 1 → (entry_of ledger number).application ≡ false
alone ledger first number own low high = let same : first ≡ number = omega arith in subst (λ (n : ℕ). (entry_of ledger n).application ≡ false) same own

longer : (ledger : List Entry) (first to : ℕ) → (entry_of ledger first).application ≡ false → ((number : ℕ) → first + 1 ≤ number → number < to → (entry_of ledger number).application ≡ false) → (number : ℕ) → first ≤ number → number < to → (entry_of ledger number).application ≡ false
longer ledger first to own more number low high =
    elim (cases_lt number (first + 1)) [ inl l ↦ alone ledger first number own low l | inr l ↦ more number l high ]

run_covers : (member : List ℕ) (ledger : List Entry) (first end : ℕ) (items : List Resent) → (entry_of ledger first).application ≡ false → CoverItems member ledger (first + 1) end items → CoverItems member ledger first end (with_run first (first + 1) items)
run_covers member ledger first end [] own covers = (refl, omega arith, λ number low high. alone ledger first number own low high, covers)
run_covers member ledger first end (Gap from to ∷ items) own covers =
    (refl, omega (arith, covers.1), longer ledger first to own covers.2, covers.3)
run_covers member ledger first end (Again number kept ∷ items) own covers =
    (refl, omega arith, λ number low high. alone ledger first number own low high, covers)

resent_covers : (member : List ℕ) (ledger : List Entry) (number end : ℕ) (sent : List (Option Kept)) → end ≡ number + length sent → Matches member ledger number sent → CoverItems member ledger number end (resent number sent)
resent_covers member ledger number end [] e m = omega arith
resent_covers member ledger number end (Some kept ∷ sent) e m =
    (refl, m.0, m.1, resent_covers member ledger (number + 1) end sent (omega arith) m.2)
resent_covers member ledger number end (None ∷ sent) e m =
    run_covers member ledger number end (resent (number + 1) sent) m.0 (resent_covers member ledger (number + 1) end sent (omega arith) m.1)

frames_cover : (member : List ℕ) (now : ℤ) (ledger : List Entry) (first end : ℕ) (items : List Resent) → CoverItems member ledger first end items → Covers member now ledger first end (map (resent_frame member now) items)
unfolding old_frame gap_frame new_frame
frames_cover member now ledger first end [] covers = covers
frames_cover member now ledger first end (Again number kept ∷ items) covers =
    let same : number ≡ first = covers.0 in
    inl (
      record { kind = byte_of kept.message.kind; first = kept.moment; body = kept.message.body; application = covers.1; was = covers.2; is = ap (λ (n : ℕ). old_frame member now n kept) same },
      frames_cover member now ledger (first + 1) end items covers.3,
    )
frames_cover member now ledger first end (Gap from to ∷ items) covers =
    let same : from ≡ first = covers.0 in
    inr (to, record { order = covers.1; own = covers.2; is = ap (λ (n : ℕ). gap_frame member now n to) same }, frames_cover member now ledger to end items covers.3)

-- what is sent again of a range covers it
pub covers_now : (member : List ℕ) (now : ℤ) (sent : List (Option Kept)) (ledger : List Entry) (first last : ℕ) → Remembers member 1 sent ledger → IsWithin (length sent) first last → Covers member now ledger first (last + 1) (map (resent_frame member now) (resent first (drop (first - 1) (take last sent))))
covers_now member now sent ledger first last r within =
    let part = drop (first - 1) (take last sent) in
    let all = matches_all member ledger 1 sent ledger (λ k. let e : 1 + k - 1 ≡ k = omega arith in ap (λ (n : ℕ). get_or ledger n (record { application = false; frame = [] })) e) r in
    let here = matches_drop member ledger 1 first (first - 1) (take last sent) (omega (arith, within.some)) (matches_take member ledger 1 last sent all) in
    let end : last + 1 ≡ first + length part = omega (arith, within.some, within.order, length-drop (first - 1) (take last sent), length-take-le last sent within.most) in
    frames_cover member now ledger first (last + 1) (resent first part) (resent_covers member ledger first (last + 1) part end here)

pub range_covers : (member : List ℕ) (now : ℤ) (sent : List (Option Kept)) (ledger : List Entry) (first last : ℕ) → Remembers member 1 sent ledger → IsWithin (length sent) first last → CoversRange member ledger (map (resent_frame member now) (resent first (drop (first - 1) (take last sent))))
range_covers member now sent ledger first last r within = record {
  now = now;
  first = first;
  last = last;
  some = within.some;
  order = within.order;
  most = omega (arith, within.most, remembers_long member 1 sent ledger r);
  covers = covers_now member now sent ledger first last r within;
}
