-- Bodies that are added behind others leave these as they are.
use Rattle.std.proofs.Common.{◌≡◌, ℕ, ◌+◌, ◌-◌, ◌≤◌, ◌++◌, List, [], ◌∷◌, All, Result, Ok, Err, length, map, take, drop, refl, ap, sym, ◌∙◌, arith}
use Rattle.std.specs.Prelude.{slice_range, OnOk}
use Rattle.std.proofs.lemmas.List.{map-append, length-append, length-drop, take_all, take-append-le, drop_at, drop-drop, drop-append-le}
use Rattle.std.proofs.lemmas.List.Elements.{All-head, All-tail, All-append, All-map, All-weaker}
use Rattle.fix_write.specs.declared.message_type.MessageType.{MessageType}
use Rattle.session_core.specs.declared.message.Message.{Message}
use Rattle.session_core.specs.declared.message_list.Part.{Part}
use Rattle.session_core.specs.Bodies.{message}
use Rattle.session_core.specs.MessageLists.{IsWithin, message_in, messages_in, part_behind, moved}

-- ---- what stood there before stays

slice_before : (bodies more : List ℕ) (start end : ℕ) → start ≤ end → end ≤ length bodies →
    slice_range (bodies ++ more) start end ≡ slice_range bodies start end
slice_before bodies more start end a b =
    let left : end - start ≤ length (drop start bodies) = rw (length-drop start bodies) (omega arith) in
    ap (take (end - start)) (drop-append-le start bodies more (omega arith))
    ∙ take-append-le (end - start) (drop start bodies) more left

messages_before : (bodies more : List ℕ) (parts : List Part) → All (IsWithin (length bodies)) parts →
    messages_in (bodies ++ more) parts ≡ messages_in bodies parts
messages_before bodies more [] within = refl
messages_before bodies more (part ∷ parts) within =
    let here = All-head (IsWithin (length bodies)) part parts within in
    let first = slice_before bodies more part.start part.end here.0 here.1 in
    let others = messages_before bodies more parts (All-tail (IsWithin (length bodies)) part parts within) in
    rw (first, others) refl

within_more : (count more : ℕ) → count ≤ more → (part : Part) → IsWithin count part → IsWithin more part
within_more count more h part within = (within.0, omega arith)

pub all_within_more : (count more : ℕ) (parts : List Part) → count ≤ more → All (IsWithin count) parts → All (IsWithin more) parts
all_within_more count more parts h within =
    All-weaker (IsWithin count) (IsWithin more) (within_more count more h) parts within

-- ---- a message that is added

slice_behind : (bodies body : List ℕ) → slice_range (bodies ++ body) (length bodies) (length bodies + length body) ≡ body
slice_behind bodies body =
    ap (take (length bodies + length body - length bodies)) (drop_at bodies body (length bodies) refl)
    ∙ take_all (length bodies + length body - length bodies) body (omega arith)

pub messages_pushed : (bodies body : List ℕ) (parts : List Part) (kind : MessageType) → All (IsWithin (length bodies)) parts →
    messages_in (bodies ++ body) (parts ++ part_behind bodies kind body ∷ []) ≡ messages_in bodies parts ++ message kind body ∷ []
messages_pushed bodies body parts kind within =
    rw (map-append (message_in (bodies ++ body)) parts (part_behind bodies kind body ∷ []), messages_before bodies body parts within, slice_behind bodies body) refl

-- ---- messages that are added

slice_moved : (bodies more : List ℕ) (start end : ℕ) →
    slice_range (bodies ++ more) (length bodies + start) (length bodies + end) ≡ slice_range more start end
slice_moved bodies more start end =
    let behind : drop (length bodies + start) (bodies ++ more) ≡ drop start more =
    sym (drop-drop start (length bodies) (bodies ++ more)) ∙ ap (drop start) (drop_at bodies more (length bodies) refl) in
    let count : length bodies + end - (length bodies + start) ≡ end - start = omega arith in
    rw (count, behind) refl

messages_moved : (bodies more : List ℕ) (parts : List Part) →
    messages_in (bodies ++ more) (map (moved (length bodies)) parts) ≡ messages_in more parts
messages_moved bodies more [] = refl
messages_moved bodies more (part ∷ parts) =
    rw (slice_moved bodies more part.start part.end, messages_moved bodies more parts) refl

pub messages_appended : (bodies more : List ℕ) (parts others : List Part) → All (IsWithin (length bodies)) parts →
    messages_in (bodies ++ more) (parts ++ map (moved (length bodies)) others) ≡ messages_in bodies parts ++ messages_in more others
messages_appended bodies more parts others within =
    rw (
      map-append (message_in (bodies ++ more)) parts (map (moved (length bodies)) others),
      messages_before bodies more parts within,
      messages_moved bodies more others,
    ) refl

within_moved : (front count whole : ℕ) → whole ≡ front + count → (part : Part) → IsWithin count part → IsWithin whole (moved front part)
within_moved front count whole e part within =
    let first = within.0 in
    let last = within.1 in
    (omega arith, omega arith)

pub within_appended : (bodies more : List ℕ) (parts others : List Part) → All (IsWithin (length bodies)) parts → All (IsWithin (length more)) others →
    All (IsWithin (length (bodies ++ more))) (parts ++ map (moved (length bodies)) others)
within_appended bodies more parts others within behind =
    let whole = length-append bodies more in
    let inside : Part → Type 0 = IsWithin (length (bodies ++ more)) in
    All-append inside parts (map (moved (length bodies)) others)
    (all_within_more (length bodies) (length (bodies ++ more)) parts (omega arith) within)
    (All-map inside (moved (length bodies)) others
    (All-weaker (IsWithin (length more)) (λ part. inside (moved (length bodies) part)) (within_moved (length bodies) (length more) (length (bodies ++ more)) whole) others behind))

-- ---- what the calls do, seen as a list

pub pushed_is : (bodies new_bodies body : List ℕ) (parts new_parts : List Part) (kind : MessageType) (before : List Message) →
    All (IsWithin (length bodies)) parts → messages_in bodies parts ≡ before →
    new_bodies ≡ bodies ++ body → new_parts ≡ parts ++ part_behind bodies kind body ∷ [] →
    messages_in new_bodies new_parts ≡ before ++ message kind body ∷ []
pushed_is bodies new_bodies body parts new_parts kind before within is b p =
    rw (b, p, messages_pushed bodies body parts kind within, is) refl

pub appended_is : (bodies new_bodies more added : List ℕ) (parts roomy new_parts others moving : List Part) (front : ℕ) (before behind : List Message) →
    All (IsWithin (length bodies)) parts → messages_in bodies parts ≡ before → messages_in more others ≡ behind →
    new_bodies ≡ bodies ++ added → added ≡ more → roomy ≡ parts → moving ≡ others → front ≡ length bodies →
    new_parts ≡ roomy ++ map (moved front) moving → messages_in new_bodies new_parts ≡ before ++ behind
appended_is bodies new_bodies more added parts roomy new_parts others moving front before behind within is are b a r o f p =
    rw (p, b, a, r, o, f, messages_appended bodies more parts others within, is, are) refl

pub appended_within : (bodies new_bodies more added : List ℕ) (parts roomy new_parts others moving : List Part) (front : ℕ) →
    All (IsWithin (length bodies)) parts → All (IsWithin (length more)) others →
    new_bodies ≡ bodies ++ added → added ≡ more → roomy ≡ parts → moving ≡ others → front ≡ length bodies →
    new_parts ≡ roomy ++ map (moved front) moving → All (IsWithin (length new_bodies)) new_parts
appended_within bodies new_bodies more added parts roomy new_parts others moving front within behind b a r o f p =
    rw (p, b, a, r, o, f) (within_appended bodies more parts others within behind)

-- what follows where a call gives an answer
pub on_ok_both : {A E P Q R : Type 0} (result : Result A E) → (P → Q → R) → OnOk result P → OnOk result Q → OnOk result R
on_ok_both (Ok a) f p q = f p q
on_ok_both (Err e) f p q = tt
