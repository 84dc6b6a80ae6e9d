-- Messages that are sent leave what was kept before as it is.
use Rattle.std.proofs.Common.{◌≡◌, ℕ, zero, suc, ◌+◌, ◌≤◌, ◌++◌, List, [], ◌∷◌, All, Option, Some, None, Result, Ok, Err, ◌-◌, ◌<◌, length, refl, ap, sym, ◌∙◌, arith, append_assoc}
use Rattle.std.specs.Prelude.{ℤ, pos, replicate, OnOk}
use Rattle.std.proofs.lemmas.List.{map-append, length-append, length-replicate, get_or_append_left, get_or_at}
use Rattle.std.proofs.lemmas.List.Elements.{All-nil, All-cons, All-head, All-tail, All-append, All-weaker}
use Rattle.fix_write.specs.declared.message_type.MessageType.TheVariants.{Other}
use Rattle.session_core.specs.declared.message.Kept.{Kept}
use Rattle.session_core.specs.declared.message.Message.{Message}
use Rattle.session_core.specs.Bodies.{message}
use Rattle.session_core.specs.Frames.{all_kept, numbers}
use Rattle.session_core.specs.Sent.{IsAmong, entry_in, entries_in, no_places, places_from}

-- ---- what was kept before stays

entry_before : (messages more : List Message) (moments times : List ℤ) (place : Option ℕ) → length moments ≡ length messages →
    IsAmong (length messages) place → entry_in (messages ++ more) (moments ++ times) place ≡ entry_in messages moments place
entry_before messages more moments times None each among = refl
entry_before messages more moments times (Some place) each among =
    rw (get_or_append_left messages more (message (Other 0) []) place among, get_or_append_left moments times (pos 0) place (omega arith)) refl

entries_before : (messages more : List Message) (moments times : List ℤ) (places : List (Option ℕ)) → length moments ≡ length messages →
    All (IsAmong (length messages)) places → entries_in (messages ++ more) (moments ++ times) places ≡ entries_in messages moments places
entries_before messages more moments times [] each among = refl
entries_before messages more moments times (place ∷ places) each among =
    let first = entry_before messages more moments times place each (All-head (IsAmong (length messages)) place places among) in
    let others = entries_before messages more moments times places each (All-tail (IsAmong (length messages)) place places among) in
    rw (first, others) refl

among_more : (count more : ℕ) → count ≤ more → (place : Option ℕ) → IsAmong count place → IsAmong more place
among_more count more h None among = tt
among_more count more h (Some place) among = omega arith

-- ---- application messages that are added

entries_behind : (messages more : List Message) (moments : List ℤ) (moment : ℤ) → length moments ≡ length messages →
    entries_in (messages ++ more) (moments ++ replicate (length more) moment) (places_from (length messages) (length more)) ≡ all_kept moment more
entries_behind messages [] moments moment each = refl
entries_behind messages (first ∷ more) moments moment each =
    let counted : length (messages ++ first ∷ []) ≡ length messages + 1 = length-append messages (first ∷ []) in
    let timed : length (moments ++ moment ∷ []) ≡ length (messages ++ first ∷ []) =
    rw (length-append moments (moment ∷ []), counted, each) refl in
    let others : entries_in (messages ++ first ∷ more) (moments ++ moment ∷ replicate (length more) moment) (places_from (length messages + 1) (length more)) ≡ all_kept moment more =
    rw (← append_assoc messages (first ∷ []) more, ← append_assoc moments (moment ∷ []) (replicate (length more) moment), ← counted)
    (entries_behind (messages ++ first ∷ []) more (moments ++ moment ∷ []) moment timed) in
    rw (
      get_or_at messages first more (message (Other 0) []) (length messages) refl,
      get_or_at moments moment (replicate (length more) moment) (pos 0) (length messages) each,
      others,
    ) refl

pub entries_added : (messages more : List Message) (moments : List ℤ) (places : List (Option ℕ)) (moment : ℤ) → length moments ≡ length messages →
    All (IsAmong (length messages)) places →
    entries_in (messages ++ more) (moments ++ replicate (length more) moment) (places ++ places_from (length messages) (length more))
    ≡ entries_in messages moments places ++ all_kept moment more
entries_added messages more moments places moment each among =
    let times = replicate (length more) moment in
    rw (
      map-append (entry_in (messages ++ more) (moments ++ times)) places (places_from (length messages) (length more)),
      entries_before messages more moments times places each among,
      entries_behind messages more moments moment each,
    ) refl

among_from : (first count whole : ℕ) → first + count ≤ whole → All (IsAmong whole) (places_from first count)
among_from first zero whole h = All-nil (IsAmong whole)
among_from first (suc count) whole h =
    All-cons (IsAmong whole) (Some first) (places_from (first + 1) count) (omega arith) (among_from (first + 1) count whole (omega arith))

pub among_added : (messages more : List Message) (places : List (Option ℕ)) → All (IsAmong (length messages)) places →
    All (IsAmong (length (messages ++ more))) (places ++ places_from (length messages) (length more))
among_added messages more places among =
    let whole = length-append messages more in
    let inside : Option ℕ → Type 0 = IsAmong (length (messages ++ more)) in
    All-append inside places (places_from (length messages) (length more))
    (All-weaker (IsAmong (length messages)) inside (among_more (length messages) (length (messages ++ more)) (omega arith)) places among)
    (among_from (length messages) (length more) (length (messages ++ more)) (omega arith))

-- behind what was kept before, seen as a list
pub sent_is : (messages new_messages more : List Message) (moments held new_moments : List ℤ) (places roomy new_places : List (Option ℕ)) (first count : ℕ) (moment read : ℤ) (before : List (Option Kept)) →
    All (IsAmong (length messages)) places → length moments ≡ length messages → entries_in messages moments places ≡ before →
    new_messages ≡ messages ++ more → held ≡ moments → roomy ≡ places → first ≡ length messages → count ≡ length more → read ≡ moment →
    new_places ≡ roomy ++ places_from first count → new_moments ≡ held ++ replicate count read →
    entries_in new_messages new_moments new_places ≡ before ++ all_kept moment more
sent_is messages new_messages more moments held new_moments places roomy new_places first count moment read before among each is m h r f n e p t =
    rw (p, t, m, h, r, f, n, e, entries_added messages more moments places moment each among, is) refl

pub sent_among : (messages new_messages more : List Message) (places roomy new_places : List (Option ℕ)) (first count : ℕ) →
    All (IsAmong (length messages)) places → new_messages ≡ messages ++ more → roomy ≡ places → first ≡ length messages → count ≡ length more →
    new_places ≡ roomy ++ places_from first count → All (IsAmong (length new_messages)) new_places
sent_among messages new_messages more places roomy new_places first count among m r f n p =
    rw (p, m, r, f, n) (among_added messages more places among)

pub sent_each : (messages new_messages more : List Message) (moments held new_moments : List ℤ) (count : ℕ) (read : ℤ) → length moments ≡ length messages →
    new_messages ≡ messages ++ more → held ≡ moments → count ≡ length more → new_moments ≡ held ++ replicate count read →
    length new_moments ≡ length new_messages
sent_each messages new_messages more moments held new_moments count read each m h n t =
    rw (t, m, h, n, length-append moments (replicate (length more) read), length-replicate (length more) read, length-append messages more, each) refl

-- ---- places and moments one by one

pub place_step : (places new : List (Option ℕ)) (first i count : ℕ) → i < count → new ≡ places ++ Some (first + i) ∷ [] →
    new ++ places_from (first + (i + 1)) (count - (i + 1)) ≡ places ++ places_from (first + i) (count - i)
place_step places new first i count l e =
    let left : count - i ≡ suc (count - (i + 1)) = omega arith in
    let next : first + (i + 1) ≡ first + i + 1 = omega arith in
    ap (λ (k : ℕ). new ++ places_from k (count - (i + 1))) next
    ∙ ap (λ (ps : List (Option ℕ)). ps ++ places_from (first + i + 1) (count - (i + 1))) e
    ∙ append_assoc places (Some (first + i) ∷ []) (places_from (first + i + 1) (count - (i + 1)))
    ∙ ap (λ (k : ℕ). places ++ places_from (first + i) k) (sym left)

pub moment_step : (moments new : List ℤ) (moment : ℤ) (i count : ℕ) → i < count → new ≡ moments ++ moment ∷ [] →
    new ++ replicate (count - (i + 1)) moment ≡ moments ++ replicate (count - i) moment
moment_step moments new moment i count l e =
    let left : count - i ≡ suc (count - (i + 1)) = omega arith in
    ap (λ (ms : List ℤ). ms ++ replicate (count - (i + 1)) moment) e
    ∙ append_assoc moments (moment ∷ []) (replicate (count - (i + 1)) moment)
    ∙ ap (λ (k : ℕ). moments ++ replicate k moment) (sym left)

-- ---- messages of the session that are added

nothing_kept : (messages : List Message) (moments : List ℤ) (count : ℕ) → entries_in messages moments (no_places count) ≡ numbers count
nothing_kept messages moments zero = refl
nothing_kept messages moments (suc count) = rw (nothing_kept messages moments count) refl

pub entries_numbered : (messages : List Message) (moments : List ℤ) (places : List (Option ℕ)) (count : ℕ) →
    entries_in messages moments (places ++ no_places count) ≡ entries_in messages moments places ++ numbers count
entries_numbered messages moments places count =
    rw (map-append (entry_in messages moments) places (no_places count), nothing_kept messages moments count) refl

pub numbered_is : (messages : List Message) (moments : List ℤ) (places new_places : List (Option ℕ)) (count : ℕ) (before : List (Option Kept)) →
    entries_in messages moments places ≡ before → new_places ≡ places ++ no_places count →
    entries_in messages moments new_places ≡ before ++ numbers count
numbered_is messages moments places new_places count before is p = rw (p, entries_numbered messages moments places count, is) refl

-- what follows where a call gives an answer
pub on_ok : {A E P Q : Type 0} (result : Result A E) → (P → Q) → OnOk result P → OnOk result Q
on_ok (Ok a) f p = f p
on_ok (Err e) f p = tt
