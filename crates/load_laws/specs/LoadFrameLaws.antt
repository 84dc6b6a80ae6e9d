-- A frame that is fed to a stream of whole frames comes out alone, and a frame gives at most one command.
use Rattle.std.proofs.Common.{◌≡◌, ℕ, ◌+◌, ◌<◌, ◌≤◌, nat_lt, Bool, true, false, not, cond, ℤ, List, [], ◌∷◌, ◌++◌, length, take, drop, Option, Some, None, Result, Ok, Err, refl, sym, ◌∙◌, ap, subst, append_assoc, append-nil, drop_at, take_all, arith}
use Rattle.std.proofs.lemmas.Bool.Decides.{nat_tests}
use Rattle.std.proofs.lemmas.List.{drop_all}
use Rattle.venue_words.specs.declared.config.Config.{Config}
use Rattle.venue_words.specs.declared.limits.TheConstants.{MAX_FRAME_BYTES}
use Rattle.fix_fields.specs.declared.field.Field.{Field}
use Rattle.fix_fields.specs.declared.field.FieldFault.{FieldFault}
use Rattle.fix_fields.specs.Fields.{split}
use Rattle.fix_frames.specs.declared.reading.Reading.{Reading}
use Rattle.venue_words.specs.Limits.{venue}
use Rattle.fix_write.specs.declared.tags.TheConstants.{SENDER_COMP_ID, TARGET_COMP_ID}
use Rattle.fix_frames.specs.Frames.{IsFrame}
use Rattle.fix_frames.specs.FrameLaws.{place_at-frame}
use Rattle.fix_frames.specs.PlaceLaws.{place_at-large}
use Rattle.fix_frames.specs.Reading.{with_frames, none_yet, reading_of}
use Rattle.fix_frames.specs.ReadingLaws.{reading-given}
use Rattle.fix_frames.specs.StreamLaws.{next_from-whole, skips_none}
use Rattle.fix_frames.specs.Streams.{Stream, HasGiven, gives}
use Rattle.session_core.specs.declared.message.Request.{Request}
use Rattle.fix_write.specs.declared.message_type.MessageType.{MessageType}
use Rattle.fix_write.specs.declared.message_type.MessageType.TheVariants.{Logon}
use Rattle.fix_write.specs.MessageTypes.{is_order}
use Rattle.session_core.specs.declared.state.Phase.TheVariants.{New}
use Rattle.session_core.specs.declared.state.State.{State}
use Rattle.session_core.specs.Answers.{drops, logs_out, drops_wrong_name}
use Rattle.session_core.specs.Cases.{on_message}
use Rattle.fix_fields.specs.Content.{content_of}
use Rattle.session_core.specs.Logon.{is_bad_logon, next_of_logon, on_logon, before_logon, takes_logon}
use Rattle.session_core.specs.Lookup.{is_value, kind_of, message_number}
use Rattle.session_core.specs.Machine.{Machine, on_frame, on_fields, plan_for, carried_out, incoming, fresh}
use Rattle.session_core.specs.State.{heard, is_up}
use Rattle.order_fields.specs.declared.order.Refusal.TheVariants.{Business}
use Rattle.order_fields.specs.Order.{order, symbol_of, decoded_at, decoded_of, unless_failed, failed_of}
use Rattle.member_gate.specs.Answering.{Submission, answer, answer_to, name_at}
use Rattle.member_gate.specs.Working.{handed_out, work_of_frame, work_of_reading}
use Rattle.line_work.specs.LineWork.{reading_behind}

-- ---- streams

-- a stream that ends with its last frame: whatever follows is read as if it were all
pub record IsWhole (stream : List ℕ) : Type 0 where
  pub frames : List (List ℕ)
  pub goes : (more : List ℕ) → reading_of (stream ++ more) ≡ with_frames frames (reading_of more)

pub whole_none : IsWhole []
whole_none = record { frames = []; goes = λ more. refl }

abbrev before_frame : List ℕ → Stream
before_frame frame = record { passed = 0; kept = frame; held = 0 }

abbrev behind_frame : List ℕ → Stream
behind_frame frame = record { passed = length frame; kept = []; held = 0 }

given : (frame : List ℕ) → IsFrame frame → length frame ≤ MAX_FRAME_BYTES → HasGiven (before_frame frame) (behind_frame frame) frame
given frame is fits =
    let here = place_at-frame frame is fits in
    let long = place_at-large frame (length frame) (14 + length is.digits) here in
    let all : take (length frame) frame ≡ frame = take_all (length frame) frame (omega arith) in (
      0,
      record {
        passed = omega arith;
        kept = sym (drop_all (0 + length frame) frame (omega arith));
        inside = omega arith;
        held = refl;
      },
      λ more. next_from-whole frame more 0 (length frame) (14 + length is.digits) (skips_none frame) (omega (arith, long), here) ∙ ap (gives 0) all,
    )

frame_first : (frame more : List ℕ) → IsFrame frame → length frame ≤ MAX_FRAME_BYTES
    → reading_of (frame ++ more) ≡ with_frames (frame ∷ []) (reading_of more)
frame_first frame more is fits = reading-given (before_frame frame) (behind_frame frame) frame more (given frame is fits)

with_both : (frames : List (List ℕ)) (frame : List ℕ) (rest : Reading)
    → with_frames frames (with_frames (frame ∷ []) rest) ≡ with_frames (frames ++ frame ∷ []) rest
with_both frames frame rest =
    ap (λ (all : List (List ℕ)). let r : Reading = record { frames = all; too_long = rest.too_long } in r)
    (sym (append_assoc frames (frame ∷ []) rest.frames))

-- another frame behind it
pub whole_on : (stream frame : List ℕ) → IsWhole stream → IsFrame frame → length frame ≤ MAX_FRAME_BYTES → IsWhole (stream ++ frame)
whole_on stream frame whole is fits = record {
  frames = whole.frames ++ frame ∷ [];
  goes = λ more. ap reading_of (append_assoc stream frame more) ∙ whole.goes (frame ++ more)
      ∙ ap (with_frames whole.frames) (frame_first frame more is fits) ∙ with_both whole.frames frame (reading_of more);
}

read_none : reading_of [] ≡ none_yet
unfolding reading_of
read_none = refl

-- what is read of a whole stream
read_whole : (stream : List ℕ) (whole : IsWhole stream) → reading_of stream ≡ record { frames = whole.frames; too_long = false }
read_whole stream whole =
    ap reading_of (sym (append-nil stream)) ∙ whole.goes [] ∙ ap (with_frames whole.frames) read_none
    ∙ ap (λ (all : List (List ℕ)). let r : Reading = record { frames = all; too_long = false } in r) (append-nil whole.frames)

only_one : (before after : Reading) (frames : List (List ℕ)) (frame : List ℕ) → before ≡ record { frames = frames; too_long = false }
    → after ≡ record { frames = frames ++ frame ∷ []; too_long = false }
    → (let r : Reading = record { frames = drop (length before.frames) after.frames; too_long = after.too_long } in r)
    ≡ record { frames = frame ∷ []; too_long = false }
only_one before after frames frame e h =
    rw (e, h) (ap (λ (all : List (List ℕ)). let r : Reading = record { frames = all; too_long = false } in r)
    (drop_at frames (frame ∷ []) (length frames) refl))

one_behind : (stream frame : List ℕ) → IsWhole stream → IsFrame frame → length frame ≤ MAX_FRAME_BYTES
    → reading_behind stream frame ≡ record { frames = frame ∷ []; too_long = false }
unfolding reading_behind whole_on
one_behind stream frame whole is fits =
    only_one (reading_of stream) (reading_of (stream ++ frame)) whole.frames frame (read_whole stream whole)
    (read_whole (stream ++ frame) (whole_on stream frame whole is fits))

-- ---- commands

-- at most one command, for the first symbol
abbrev pub AtMostOne : List Submission → Type 0
AtMostOne [] = Unit {0}
AtMostOne (one ∷ []) = one.symbol ≡ 0
AtMostOne (one ∷ other ∷ more) = ⊥

found_within : (n k s : ℕ) → cond (nat_lt n k) (Some n) None ≡ Some s → s < k
found_within n k s e =
    elim (nat_lt n k) as (λ b. nat_lt n k ≡ b → cond b (Some n) None ≡ Some s → s < k) [
      | true ↦ λ t h. let same : n ≡ s = cc in grind (arith, nat_tests)
      | false ↦ λ t h. absurd (cc)
    ] refl e

symbol_within : (symbols : List (List ℕ)) (name : List ℕ) (s : ℕ) → symbol_of symbols name ≡ Some s → s < length symbols
symbol_within symbols name s e = found_within _ (length symbols) s e

few_found : (name : List ℕ) (member : ℕ) (moment : ℤ) (session : Machine) (request : Request) (found : Option ℕ)
    → ((s : ℕ) → found ≡ Some s → s < 1)
    → AtMostOne (answer_to name moment session request (Ok (decoded_at request member moment found))).submissions
few_found name member moment session request None within = tt
few_found name member moment session request (Some s) within = let l = within s refl in omega arith

few_answered : (config : Config) (member : ℕ) (moment : ℤ) (session : Machine) (request : Request) → length config.symbols ≡ 1
    → AtMostOne (answer config member moment session request).submissions
unfolding answer order decoded_of
few_answered config member moment session request one =
    let name = name_at config.members member in
    elim (is_order request.kind) as (λ b. AtMostOne (answer_to name moment session request
    (cond (not b) (Err Business) (unless_failed (failed_of request) (decoded_of request member config moment)))).submissions) [
      | true ↦ elim (failed_of request) as (λ f. AtMostOne (answer_to name moment session request
          (unless_failed f (decoded_of request member config moment))).submissions) [
            | None ↦ few_found name member moment session request (symbol_of config.symbols _)
                (λ s e. let l = symbol_within config.symbols _ s e in omega (arith, l, one))
            | Some failed ↦ tt
          ]
      | false ↦ tt
    ]

few_handed : (config : Config) (member : ℕ) (moment : ℤ) (session : Machine) (request : Option Request) → length config.symbols ≡ 1
    → AtMostOne (handed_out config member moment session request).submissions
few_handed config member moment session None one = tt
few_handed config member moment session (Some request) one = few_answered config member moment session request one

-- a frame behind a whole stream gives at most one command
pub few_given : (config : Config) (member : ℕ) (moment : ℤ) (session : Machine) (stream frame : List ℕ) → length config.symbols ≡ 1
    → IsWhole stream → IsFrame frame → length frame ≤ MAX_FRAME_BYTES
    → AtMostOne (work_of_reading config member moment session (reading_behind stream frame)).submissions
unfolding work_of_reading work_of_frame
few_given config member moment session stream frame one whole is fits =
    let o = on_frame session frame moment in
    rw (one_behind stream frame whole is fits)
    (subst AtMostOne (sym (append-nil (handed_out config member moment o.machine o.turn.request).submissions))
    (few_handed config member moment o.machine o.turn.request one))

-- ---- before the Logon nothing is handed out

by_cases : {P : Type 0} (b : Bool) → (b ≡ true → P) → (b ≡ false → P) → P
by_cases true f g = f refl
by_cases false f g = g refl

logon_none : (machine : Machine) (moment : ℤ) (fields : List Field) (state : State) (number : ℕ)
    → (carried_out machine moment fields (on_logon state (incoming number fields))).turn.request ≡ None
unfolding carried_out on_logon logs_out takes_logon
logon_none machine moment fields state number =
    by_cases (is_bad_logon (incoming number fields)) (λ e. rw e refl)
    (λ e. by_cases (nat_lt number (next_of_logon state (incoming number fields))) (λ h. rw (e, h) refl) (λ h. rw (e, h) refl))

before_none : (kind : MessageType) (machine : Machine) (moment : ℤ) (fields : List Field) (state : State) (number : ℕ)
    → (carried_out machine moment fields (before_logon kind state (incoming number fields))).turn.request ≡ None
unfolding carried_out before_logon
before_none Logon machine moment fields state number = logon_none machine moment fields state number
before_none _ machine moment fields state number = refl

dropped_none : (machine : Machine) (moment : ℤ) (fields : List Field) (state : State) (number tag : ℕ)
    → (carried_out machine moment fields (drops_wrong_name state (incoming number fields) tag)).turn.request ≡ None
unfolding carried_out drops_wrong_name
dropped_none machine moment fields state number tag = by_cases (is_up state) (λ e. rw e refl) (λ e. rw e refl)

message_none : (machine : Machine) (moment : ℤ) (fields : List Field) (member : List ℕ) (sent : ℕ) (state : State) (number : ℕ) → state.phase ≡ New
    → (carried_out machine moment fields (on_message member sent state (incoming number fields))).turn.request ≡ None
unfolding on_message
message_none machine moment fields member sent state number new =
    let down : is_up state ≡ false = rw new refl in
    by_cases (is_value SENDER_COMP_ID member fields)
    (λ e. by_cases (is_value TARGET_COMP_ID venue fields)
    (λ h. rw (e, h, down) (before_none (kind_of fields) machine moment fields state number))
    (λ h. rw (e, h) (dropped_none machine moment fields state number TARGET_COMP_ID)))
    (λ e. rw e (dropped_none machine moment fields state number SENDER_COMP_ID))

planned_none : (machine : Machine) (moment : ℤ) (fields : List Field) (number : Option ℕ) → machine.state.phase ≡ New
    → (carried_out machine moment fields (plan_for machine (heard moment machine.state) fields number)).turn.request ≡ None
unfolding carried_out drops
planned_none machine moment fields None new = rw new refl
planned_none machine moment fields (Some number) new =
    message_none machine moment fields machine.member (length machine.sent) (heard moment machine.state) number new

fields_none : (machine : Machine) (moment : ℤ) (fields : Result (List Field) FieldFault) → machine.state.phase ≡ New
    → (on_fields machine moment fields).turn.request ≡ None
fields_none machine moment (Err fault) new = refl
fields_none machine moment (Ok fields) new = planned_none machine moment fields (message_number fields) new

first_none : (member frame : List ℕ) (moment : ℤ) → (on_frame (fresh member) frame moment).turn.request ≡ None
unfolding on_frame
first_none member frame moment = fields_none (fresh member) moment (split (content_of frame)) refl

-- the first frame of a session gives no command
pub none_given : (config : Config) (number : ℕ) (moment : ℤ) (member stream frame : List ℕ)
    → IsWhole stream → IsFrame frame → length frame ≤ MAX_FRAME_BYTES
    → (work_of_reading config number moment (fresh member) (reading_behind stream frame)).submissions ≡ []
unfolding work_of_reading work_of_frame
none_given config number moment member stream frame whole is fits =
    rw (one_behind stream frame whole is fits, first_none member frame moment) refl
