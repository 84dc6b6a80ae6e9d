-- An input in the middle of its bytes, and how it ends.
use Rattle.std.proofs.Common.{◌≡◌, ℕ, ◌+◌, ◌-◌, ◌<◌, ◌≤◌, Bool, true, false, nat_lt, List, [], ◌++◌, length, take, Option, Some, None, IfSome, MatchOption, refl, sym, ◌∙◌, ap, subst, arith, append_assoc, append-nil, length-append, length-take, min, inl, inr}
use Rattle.std.proofs.KnownBytes.{Consumes-nil, Consumes-trans, Consumes-kept}
use Rattle.std.proofs.Math.Seq.{take-append_seam, take-append-add}
use Rattle.std.proofs.lemmas.Bool.{cases_lt}
use Rattle.std.proofs.lemmas.Bool.Decides.{nat_tests}
use Rattle.std.proofs.lemmas.List.{take-append-le, take-take, take_all}
use Rattle.std.specs.Io.KnownBytes.{Appends, Consumes, Keeps, IsAtEnd}
use Rattle.io_edge.specs.Grows.{AppendsPrefix}
use Rattle.session_core.specs.declared.state.EndCause.{EndCause}
use Rattle.session_core.specs.declared.state.EndCause.TheVariants.{Logout, TooLow, NotLogon, BadLogon, NoNumber, WrongName, Silent, TooLong}
use Rattle.venue_words.specs.declared.config.Config.{Config}
use Rattle.market_data.specs.declared.input.TheConstants.{MAX_INPUT_BYTES}
use Rattle.market_data.specs.declared.status.MarketStatus.{MarketStatus}
use Rattle.market_data.specs.declared.status.MarketStatus.TheVariants.{Done, LimitBytes, ReadFault, NoMemory}
use Rattle.market_data.specs.Feeding.{Feeding, unfed, StandsFor, Adds}
use Rattle.market_data.specs.Market.{Market, market_of}
use Rattle.market_data.specs.Outcomes.{within, lines_of, status_by, Whole, Gave, Stopped, Ran, IsStop, StopsIn}
use Rattle.market_data.specs.Statuses.{ended_by}
use Rattle.market_data.proofs.FeedingSteps.{stands_unfed, stands_cause, lines_none}

-- these bytes were given, the session stands behind them, and their lines were put
pub record InMiddle (config : Config) (source : List ℕ) (first left old new : Option (List ℕ)) (taken : ℕ) (feeding : Feeding) : Type 0 where
  pub given : List ℕ
  pub consumed : Consumes first left given
  pub count : taken ≡ length given
  pub stands : StandsFor config source given feeding
  pub grew : Appends old new (market_of config source given).lines

-- ---- what was told

pub appends_none : (t : Option (List ℕ)) → Appends t t []
appends_none None = tt
appends_none (Some xs) = sym (append-nil xs)

pub appends_trans : (a b c : Option (List ℕ)) (p q : List ℕ) → Appends a b p → Appends b c q → Appends a c (p ++ q)
appends_trans None b c p q h k = tt
appends_trans (Some xs) None c p q h k = absurd h
appends_trans (Some xs) (Some ys) None p q h k = absurd k
appends_trans (Some xs) (Some ys) (Some zs) p q h k = rw (k, h) (append_assoc xs p q)

-- the whole is a beginning of more
pub prefix_front : (old new : Option (List ℕ)) (text more : List ℕ) → Appends old new text → AppendsPrefix old new (text ++ more)
prefix_front old new text more h =
    (length text, subst (λ (t : List ℕ). Appends old new t) (sym (take-append_seam text more)) h)

-- a whole text, and then a beginning of another one
pub prefix_behind : (a b c : Option (List ℕ)) (text more : List ℕ) → Appends a b text → AppendsPrefix b c more → AppendsPrefix a c (text ++ more)
prefix_behind a b c text more h k =
    (length text + k.0, subst (λ (t : List ℕ). Appends a c t) (sym (take-append-add text more k.0)) (appends_trans a b c text (take k.0 more) h k.1))

-- ---- the limit

take_over : (m : ℕ) (xs ys : List ℕ) → take m (xs ++ ys) ≡ take m xs ++ take (m - length xs) ys
take_over m xs ys =
    elim (cases_lt m (length xs)) as (λ _. take m (xs ++ ys) ≡ take m xs ++ take (m - length xs) ys) [
      | inl h ↦
          let e : m - length xs ≡ 0 = omega arith in
          take-append-le m xs ys (omega arith) ∙ sym (ap (λ (k : ℕ). take m xs ++ take k ys) e ∙ append-nil (take m xs))
      | inr h ↦
          let e : m ≡ length xs + (m - length xs) = omega arith in
          ap (λ (k : ℕ). take k (xs ++ ys)) e ∙ take-append-add xs ys (m - length xs) ∙ sym (ap (λ (t : List ℕ). t ++ take (m - length xs) ys) (take_all m xs h))
    ]

pub within_small : (bytes : List ℕ) → length bytes ≤ MAX_INPUT_BYTES → within bytes ≡ bytes
within_small bytes h = take_all MAX_INPUT_BYTES bytes h

-- the bytes up to the limit of a text whose front is given
within_behind : (given more : List ℕ) → length given ≤ MAX_INPUT_BYTES → within (given ++ more) ≡ given ++ take (MAX_INPUT_BYTES - length given) more
within_behind given more h = take_over MAX_INPUT_BYTES given more ∙ ap (λ (t : List ℕ). t ++ take (MAX_INPUT_BYTES - length given) more) (take_all MAX_INPUT_BYTES given h)

-- ---- what was given

record HasGiven (bytes : List ℕ) (left : Option (List ℕ)) (given : List ℕ) : Type 0 where
  rest : List ℕ
  left_is : left ≡ Some rest
  whole : bytes ≡ given ++ rest

given_of : (bytes : List ℕ) (left : Option (List ℕ)) (given : List ℕ) → Consumes (Some bytes) left given → HasGiven bytes left given
given_of bytes None given h = absurd h
given_of bytes (Some rest) given h = record { rest = rest; left_is = refl; whole = h }

gave : (bytes : List ℕ) (left : Option (List ℕ)) (given : List ℕ) → HasGiven bytes left given → Gave bytes given left
gave bytes left given h = record {
  rest = h.rest;
  whole = h.whole;
  place = subst (λ (k : Option (List ℕ)). MatchOption k (given ≡ []) (λ l. l ≡ h.rest)) (sym h.left_is) refl;
}

-- a piece that was pulled, and as much of it as the limit lets in
pub record Pulled (taken : ℕ) (pulled piece : List ℕ) : Type 0 where
  pub fits : taken ≤ MAX_INPUT_BYTES
  pub part : piece ≡ take (MAX_INPUT_BYTES - taken) pulled

-- as much of a pull as the limit lets in
pub piece_part : (count room part : ℕ) (buffer : List ℕ) → part ≡ min count room → take part buffer ≡ take room (take count buffer)
piece_part count room part buffer e =
    elim (cases_lt room count) as (λ _. take part buffer ≡ take room (take count buffer)) [
      | inl h ↦ let same : part ≡ room = omega arith in ap (λ (n : ℕ). take n buffer) same ∙ sym (take-take room count buffer (omega arith))
      | inr h ↦
          let same : part ≡ count = omega arith in
          ap (λ (n : ℕ). take n buffer) same ∙ sym (take_all room (take count buffer) (omega (arith, length-take count buffer)))
    ]

module _ (config : Config) (source : List ℕ) where
  -- nothing was read
  pub no_room : (left told : Option (List ℕ)) → IfSome left (λ bytes. Ran config source bytes told told left NoMemory)
  no_room None told = tt
  no_room (Some bytes) told = record {
    given = [];
    gave = record { rest = bytes; whole = refl; place = refl };
    grew = (0, appends_none told);
  }

  -- before the first byte
  pub middle_start : (left told : Option (List ℕ)) → InMiddle config source left left told told 0 (unfed source)
  middle_start left told = record {
    given = [];
    consumed = Consumes-nil left;
    count = refl;
    stands = stands_unfed config source;
    grew = subst (λ (t : List ℕ). Appends told told t) (sym (lines_none config source)) (appends_none told);
  }

  lines_within : (bytes given : List ℕ) → within bytes ≡ given → (old t : Option (List ℕ)) → Appends old t (market_of config source given).lines → Appends old t (lines_of config source bytes)
  lines_within bytes given e old t h = subst (λ (b : List ℕ). Appends old t (market_of config source b).lines) (sym e) h

  -- the input is at its end
  pub middle_ends : (first before left old t : Option (List ℕ)) (taken : ℕ) (feeding : Feeding) → InMiddle config source first before old t taken feeding → taken ≤ MAX_INPUT_BYTES
      → Consumes before left [] → IsAtEnd left → IfSome first (λ bytes. Ran config source bytes old t left Done)
  middle_ends None before left old t taken feeding x small none end = tt
  middle_ends (Some bytes) before left old t taken feeding x small none end =
      let all : Consumes (Some bytes) left x.given = subst (λ (g : List ℕ). Consumes (Some bytes) left g) (append-nil x.given) (Consumes-trans (Some bytes) before left x.given [] x.consumed none) in
      let h = given_of bytes left x.given all in
      let nothing : h.rest ≡ [] = subst (λ (k : Option (List ℕ)). IsAtEnd k) h.left_is end in
      let whole : bytes ≡ x.given = h.whole ∙ ap (λ (r : List ℕ). x.given ++ r) nothing ∙ append-nil x.given in
      let short : length bytes ≤ MAX_INPUT_BYTES = omega (arith, ap length whole, x.count) in
      let at : within bytes ≡ x.given = within_small bytes short ∙ whole in
      let few : nat_lt MAX_INPUT_BYTES (length bytes) ≡ false = grind (arith, nat_tests) in
      let cause : (market_of config source (within bytes)).cause ≡ None = ap (λ (b : List ℕ). (market_of config source b).cause) at ∙ stands_cause config source x.given feeding x.stands in
      record { grew = lines_within bytes x.given at old t x.grew; status_is = sym (ap (λ (c : Option EndCause). status_by c (nat_lt MAX_INPUT_BYTES (length bytes))) cause ∙ ap (λ (b : Bool). status_by None b) few) }

  -- a read failed
  pub middle_gave_up : (first before left old t : Option (List ℕ)) (taken : ℕ) (feeding : Feeding) → InMiddle config source first before old t taken feeding → taken ≤ MAX_INPUT_BYTES
      → Keeps before left → IfSome first (λ bytes. Ran config source bytes old t left ReadFault)
  middle_gave_up None before left old t taken feeding x small kept = tt
  middle_gave_up (Some bytes) before left old t taken feeding x small kept =
      let h = given_of bytes left x.given (Consumes-kept (Some bytes) before left x.given x.consumed kept) in
      record { given = x.given; gave = gave bytes left x.given h; grew = lines_within x.given x.given (within_small x.given (omega (arith, x.count))) old t x.grew }

  -- ---- a piece was pulled

  room_left : (taken : ℕ) (given pulled piece : List ℕ) → taken ≡ length given → Pulled taken pulled piece → within (given ++ pulled) ≡ given ++ piece
  room_left taken given pulled piece e p =
      let small : length given ≤ MAX_INPUT_BYTES = omega (arith, e, p.fits) in
      within_behind given pulled small ∙ ap (λ (k : ℕ). given ++ take (MAX_INPUT_BYTES - k) pulled) (sym e) ∙ ap (λ (t : List ℕ). given ++ t) (sym p.part)

  -- the bytes up to the limit, with what follows
  room_behind : (taken : ℕ) (given pulled piece rest : List ℕ) → taken ≡ length given → Pulled taken pulled piece
      → within ((given ++ pulled) ++ rest) ≡ (given ++ piece) ++ take (MAX_INPUT_BYTES - length (given ++ pulled)) rest
  room_behind taken given pulled piece rest e p =
      take_over MAX_INPUT_BYTES (given ++ pulled) rest ∙ ap (λ (t : List ℕ). t ++ take (MAX_INPUT_BYTES - length (given ++ pulled)) rest) (room_left taken given pulled piece e p)

  -- the piece was not worked to its end, or its lines were not put
  pub middle_stops : (first before left old t told : Option (List ℕ)) (taken : ℕ) (feeding : Feeding) (pulled piece : List ℕ) (status : MarketStatus) (x : InMiddle config source first before old t taken feeding)
      → Consumes before left pulled → Pulled taken pulled piece → StopsIn config source x.given piece t told → IsStop status
      → IfSome first (λ bytes. Ran config source bytes old told left status)
  middle_stops None before left old t told taken feeding pulled piece status x consumed p stops is_stop = tt
  middle_stops (Some bytes) before left old t told taken feeding pulled piece status x consumed p stops is_stop =
      let h = given_of bytes left (x.given ++ pulled) (Consumes-trans (Some bytes) before left x.given pulled x.consumed consumed) in
      let grew : AppendsPrefix old told (lines_of config source (x.given ++ pulled)) =
      subst (λ (b : List ℕ). AppendsPrefix old told b)
      (sym (ap (λ (b : List ℕ). (market_of config source b).lines) (room_left taken x.given pulled piece x.count p) ∙ stops.lines))
      (prefix_behind old t told (market_of config source x.given).lines stops.added x.grew stops.grew) in
      let stopped : Stopped config source bytes old told left = record { given = x.given ++ pulled; gave = gave bytes left (x.given ++ pulled) h; grew = grew } in
      elim is_stop as (λ _. Ran config source bytes old told left status) [
        | inl e ↦ subst (λ (s : MarketStatus). Ran config source bytes old told left s) (sym e) stopped
        | inr e ↦ subst (λ (s : MarketStatus). Ran config source bytes old told left s) (sym e) stopped
      ]

  ran_ended : (bytes : List ℕ) (old t left : Option (List ℕ)) (cause : EndCause) → Whole config source bytes old t (ended_by cause) → Ran config source bytes old t left (ended_by cause)
  ran_ended bytes old t left Logout h = h
  ran_ended bytes old t left TooLow h = h
  ran_ended bytes old t left NotLogon h = h
  ran_ended bytes old t left BadLogon h = h
  ran_ended bytes old t left NoNumber h = h
  ran_ended bytes old t left WrongName h = h
  ran_ended bytes old t left Silent h = h
  ran_ended bytes old t left TooLong h = h

  -- the session ended in the piece
  pub middle_ended : (first before left old t told : Option (List ℕ)) (taken : ℕ) (feeding next : Feeding) (pulled piece added : List ℕ) (cause : EndCause) (x : InMiddle config source first before old t taken feeding)
      → Consumes before left pulled → Pulled taken pulled piece → Appends t told added → Adds config source x.given piece added (Some cause) next
      → IfSome first (λ bytes. Ran config source bytes old told left (ended_by cause))
  middle_ended None before left old t told taken feeding next pulled piece added cause x consumed p put adds = tt
  middle_ended (Some bytes) before left old t told taken feeding next pulled piece added cause x consumed p put adds =
      let h = given_of bytes left (x.given ++ pulled) (Consumes-trans (Some bytes) before left x.given pulled x.consumed consumed) in
      let more = take (MAX_INPUT_BYTES - length (x.given ++ pulled)) h.rest in
      let at : within bytes ≡ (x.given ++ piece) ++ more = ap within h.whole ∙ room_behind taken x.given pulled piece h.rest x.count p in
      let same : market_of config source (within bytes) ≡ market_of config source (x.given ++ piece) = ap (market_of config source) at ∙ adds.over cause refl more in
      ran_ended bytes old told left cause (record {
        grew =
            subst (λ (b : List ℕ). Appends old told b) (sym (ap (λ (m : Market). m.lines) same ∙ adds.lines))
            (appends_trans old t told (market_of config source x.given).lines added x.grew put);
        status_is = sym (ap (λ (m : Market). status_by m.cause (nat_lt MAX_INPUT_BYTES (length bytes))) same ∙ ap (λ (c : Option EndCause). status_by c (nat_lt MAX_INPUT_BYTES (length bytes))) adds.cause);
      })

  -- the limit lies in the piece
  pub middle_over : (first before left old t told : Option (List ℕ)) (taken : ℕ) (feeding next : Feeding) (pulled piece added : List ℕ) (x : InMiddle config source first before old t taken feeding)
      → Consumes before left pulled → Pulled taken pulled piece → length piece < length pulled → Appends t told added → Adds config source x.given piece added None next
      → IfSome first (λ bytes. Ran config source bytes old told left LimitBytes)
  middle_over None before left old t told taken feeding next pulled piece added x consumed p less put adds = tt
  middle_over (Some bytes) before left old t told taken feeding next pulled piece added x consumed p less put adds =
      let h = given_of bytes left (x.given ++ pulled) (Consumes-trans (Some bytes) before left x.given pulled x.consumed consumed) in
      let part : length piece ≡ min (MAX_INPUT_BYTES - taken) (length pulled) = ap length p.part ∙ length-take (MAX_INPUT_BYTES - taken) pulled in
      let long : length (x.given ++ pulled) ≡ length x.given + length pulled = length-append x.given pulled in
      let over : MAX_INPUT_BYTES < length (x.given ++ pulled) = omega (arith, part, long, x.count, p.fits) in
      let none : MAX_INPUT_BYTES - length (x.given ++ pulled) ≡ 0 = omega arith in
      let at : within bytes ≡ x.given ++ piece =
      ap within h.whole ∙ room_behind taken x.given pulled piece h.rest x.count p ∙ ap (λ (k : ℕ). (x.given ++ piece) ++ take k h.rest) none ∙ append-nil (x.given ++ piece) in
      let whole : length bytes ≡ length (x.given ++ pulled) + length h.rest = ap length h.whole ∙ length-append (x.given ++ pulled) h.rest in
      let many : nat_lt MAX_INPUT_BYTES (length bytes) ≡ true = grind (arith, nat_tests) in
      let cause : (market_of config source (within bytes)).cause ≡ None = ap (λ (b : List ℕ). (market_of config source b).cause) at ∙ adds.cause in
      record {
        grew =
            subst (λ (b : List ℕ). Appends old told b) (sym (ap (λ (b : List ℕ). (market_of config source b).lines) at ∙ adds.lines))
            (appends_trans old t told (market_of config source x.given).lines added x.grew put);
        status_is = sym (ap (λ (c : Option EndCause). status_by c (nat_lt MAX_INPUT_BYTES (length bytes))) cause ∙ ap (λ (b : Bool). status_by None b) many);
      }

  -- the piece was worked to its end
  pub middle_more : (first before left old t told : Option (List ℕ)) (taken more : ℕ) (feeding next : Feeding) (pulled piece added : List ℕ) (x : InMiddle config source first before old t taken feeding)
      → Consumes before left pulled → piece ≡ pulled → more ≡ taken + length pulled → Appends t told added → Adds config source x.given piece added None next
      → InMiddle config source first left old told more next
  middle_more first before left old t told taken more feeding next pulled piece added x consumed same count put adds = record {
    given = x.given ++ piece;
    consumed = subst (λ (b : List ℕ). Consumes first left (x.given ++ b)) (sym same) (Consumes-trans first before left x.given pulled x.consumed consumed);
    count = omega (arith, count, x.count, length-append x.given piece, ap length same);
    stands = adds.stands refl;
    grew = subst (λ (b : List ℕ). Appends old told b) (sym adds.lines) (appends_trans old t told (market_of config source x.given).lines added x.grew put);
  }
