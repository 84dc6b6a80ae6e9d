-- One desk after the other: those whose members are asked somewhere are pulled, and the others are passed over.
use Rattle.std.proofs.Common.{◌≡◌, ℕ, zero, suc, ℤ, ◌+◌, ◌<◌, ◌≤◌, Bool, inl, inr, List, [], ◌∷◌, ◌++◌, length, map, get_or, slice_get, take, drop, Some, refl, sym, ◌∙◌, ap, subst, append-nil, arith}
use Rattle.std.proofs.lemmas.List.{set-get_or}
use Rattle.std.proofs.lemmas.Slice.Zip.{AllZip-long}
use Rattle.std.specs.List.{AllZip, flat_map}
use Rattle.venue_words.specs.declared.config.Config.{Config}
use Rattle.venue_words.specs.declared.command.Event.{Event}
use Rattle.venue_words.specs.declared.report.Report.{Report}
use Rattle.session_core.specs.Machine.{IsUp}
use Rattle.member_gate.specs.Desks.{DeskView, fresh_desk}
use Rattle.line_work.specs.OneByOneLaws.{zip_more, text_more, zip_all, text_all, all_desks, number_at, kept_step}
use Rattle.line_work.specs.Pulling.{IsPulled, PulledOne}
use Rattle.line_work.specs.Standing.{AreDesks}
use Rattle.replay_core.specs.News.{row_at, AsksNone, NoneElsewhere, IsAsked, PulledIf}
use Rattle.replay_core.specs.Playing.{Member, reports_at}
use Rattle.replay_core.specs.Pulling.{pulled, pull_lines}
use Rattle.replay_core.specs.Stages.{IsDeskOfMember}
use Rattle.replay_core.proofs.Pulls.{Shown, none_past, desk_pulled, line_pulled, desk_passed, line_passed, sent_behind}

read_at : (ds : List DeskView) (number : ℕ) (desk : DeskView) → slice_get ds number ≡ Some desk
    → (number < length ds) × (desk ≡ get_or ds number desk)
read_at [] number desk e = absurd (cc)
read_at (d ∷ ds) zero desk e = (omega arith, cc)
read_at (d ∷ ds) (suc number) desk e = let x = read_at ds number desk e in (omega (arith, x.0), x.1)

-- ---- one desk

-- nothing waits for its member at a symbol that his row does not ask
quiet_at : (config : Config) (journals : List (List Event)) (asked : List (List Bool)) (row : List Bool) (desk : DeskView) (member : Member)
    → row ≡ row_at asked desk.member → IsAsked asked config journals desk member
    → IsUp desk.session → NoneElsewhere config journals row desk.member member.cursors
quiet_at config journals asked row desk member own x up =
    subst (λ (r : List Bool). NoneElsewhere config journals r desk.member member.cursors) (sym own) (x.quiet up)

-- a desk that was pulled
asked_pulled : (config : Config) (moment : ℤ) (journals : List (List Event)) (asked : List (List Bool)) (row : List Bool) (desk next : DeskView) (member : Member) (reports : ℕ → List Report)
    → Shown config journals reports → row ≡ row_at asked desk.member → IsPulled config moment row reports desk next
    → IsAsked asked config journals desk member → IsAsked asked config journals next (pulled config moment journals member)
asked_pulled config moment journals asked row desk next member reports same own p x =
    let stands = desk_pulled config moment journals desk next member row reports same p x.stands (quiet_at config journals asked row desk member own x) in
    record {
      stands = stands;
      quiet = λ up k l off.
          let all = (sent_behind config moment journals next member stands).sent up k l in
          none_past next.member _ (reports_at config journals k) (omega (arith, all));
    }

-- a desk that was passed over
asked_passed : (config : Config) (moment : ℤ) (journals : List (List Event)) (asked : List (List Bool)) (desk : DeskView) (member : Member)
    → AsksNone (row_at asked desk.member) → IsAsked asked config journals desk member
    → IsAsked asked config journals desk (pulled config moment journals member)
asked_passed config moment journals asked desk member off x =
    let next = desk_passed config moment journals desk member (λ up k l. x.quiet up k l (off k)) x.stands in
    record {
      stands = next;
      quiet = λ up k l none. sym (next.cursors k l).same ∙ (x.stands.cursors k l).same ∙ x.quiet up k l none;
    }

-- ---- one desk after the other

-- what was made so far of these members, from this output
pub record PulledSome (asked : List (List Bool)) (config : Config) (moment : ℤ) (journals : List (List Event)) (members : List Member) (start : List ℕ) (n : ℕ) (desks : List DeskView) (out : List ℕ) : Type 0 where
  pub stand : AllZip (IsAsked asked config journals) desks (map (pulled config moment journals) (take n members) ++ drop n members)
  pub text : out ≡ start ++ flat_map (pull_lines config moment journals) (take n members)

pub pulled_none : (asked : List (List Bool)) (config : Config) (moment : ℤ) (journals : List (List Event)) (members : List Member) (start : List ℕ) (desks : List DeskView)
    → AllZip (IsAsked asked config journals) desks members → PulledSome asked config moment journals members start 0 desks start
pulled_none asked config moment journals members start desks h = record { stand = h; text = sym (append-nil start) }

one_more : (asked : List (List Bool)) (config : Config) (moment : ℤ) (journals : List (List Event)) (members : List Member) (start : List ℕ) (reports : ℕ → List Report) (number : ℕ) (before after : List DeskView) (old new : List ℕ)
    → Shown config journals reports
    → PulledOne config moment (row_at asked number) reports number before after old new
    → PulledSome asked config moment journals members start number before old
    → PulledSome asked config moment journals members start (number + 1) after new
one_more asked config moment journals members start reports number before after old new same p x =
    let at = read_at before number p.desk p.found in
    let row : row_at asked number ≡ row_at asked p.desk.member = ap (row_at asked) (sym p.own) in
    record {
      stand = subst (λ (ds : List DeskView). AllZip (IsAsked asked config journals) ds
          (map (pulled config moment journals) (take (number + 1) members) ++ drop (number + 1) members)) (sym p.others)
          (zip_more (IsAsked asked config journals) (pulled config moment journals) before members number p.desk p.next at.0 at.1
          (λ member r. asked_pulled config moment journals asked (row_at asked number) p.desk p.next member reports same row p.pulled r)
          x.stand);
      text = text_more (IsAsked asked config journals) (pulled config moment journals) (pull_lines config moment journals) before members number
          p.desk start old new at.0 at.1
          (λ member r. line_pulled config moment journals (row_at asked number) reports number p.desk old new member same p.own p.text r.stands
          (quiet_at config journals asked (row_at asked number) p.desk member row r)) x.stand x.text;
    }

none_more : (asked : List (List Bool)) (config : Config) (moment : ℤ) (journals : List (List Event)) (members : List Member) (start : List ℕ) (number : ℕ) (before : List DeskView) (old : List ℕ)
    → AreDesks config before → number < length config.members → AsksNone (row_at asked number)
    → PulledSome asked config moment journals members start number before old
    → PulledSome asked config moment journals members start (number + 1) before old
none_more asked config moment journals members start number before old numbered within off x =
    let any = fresh_desk config 0 in
    let desk = get_or before number any in
    let all = all_desks (λ (d : DeskView). d.member) 0 _ before numbered in
    let l : number < length before = omega (arith, all, within) in
    let at : desk ≡ get_or before number desk = get_or_twice before number any l in
    let own : desk.member ≡ number = number_at (λ (d : DeskView). d.member) _ before number desk numbered l at in
    let passed : AsksNone (row_at asked desk.member) = subst (λ (k : ℕ). AsksNone (row_at asked k)) (sym own) off in
    record {
      stand = subst (λ (ds : List DeskView). AllZip (IsAsked asked config journals) ds
          (map (pulled config moment journals) (take (number + 1) members) ++ drop (number + 1) members)) (set-get_or before number any)
          (zip_more (IsAsked asked config journals) (pulled config moment journals) before members number desk desk l at
          (λ member r. asked_passed config moment journals asked desk member passed r) x.stand);
      text = text_more (IsAsked asked config journals) (pulled config moment journals) (pull_lines config moment journals) before members number
          desk start old old l at
          (λ member r. sym (append-nil old) ∙ ap (λ (xs : List ℕ). old ++ xs)
          (sym (line_passed config moment journals desk member r.stands.connection (λ up k at. r.quiet up k at (passed k))))) x.stand x.text;
    }
  where
    get_or_twice : (ds : List DeskView) (i : ℕ) (d : DeskView) → i < length ds → get_or ds i d ≡ get_or ds i (get_or ds i d)
    get_or_twice [] i d l = absurd (omega arith)
    get_or_twice (d0 ∷ ds) zero d l = refl
    get_or_twice (d0 ∷ ds) (suc i) d l = get_or_twice ds i d (omega arith)

-- a turn of the loop
pub pulled_more : (asked : List (List Bool)) (config : Config) (moment : ℤ) (journals : List (List Event)) (members : List Member) (start : List ℕ) (reports : ℕ → List Report) (number : ℕ) (before after : List DeskView) (old new : List ℕ)
    → Shown config journals reports → AreDesks config before → number < length config.members
    → PulledIf config moment (row_at asked number) reports number before after old new
    → PulledSome asked config moment journals members start number before old
    → PulledSome asked config moment journals members start (number + 1) after new
pulled_more asked config moment journals members start reports number before after old new same numbered within (inl p) x =
    one_more asked config moment journals members start reports number before after old new same p x
pulled_more asked config moment journals members start reports number before after old new same numbered within (inr p) x =
    let y = none_more asked config moment journals members start number before old numbered within p.0 x in
    rw (p.1, p.2) y

pub numbered_more : (row : List Bool) (config : Config) (moment : ℤ) (reports : ℕ → List Report) (number : ℕ) (before after : List DeskView) (old new : List ℕ)
    → PulledIf config moment row reports number before after old new → AreDesks config before → AreDesks config after
numbered_more row config moment reports number before after old new (inl p) h =
    let at = read_at before number p.desk p.found in
    ap (map (λ (d : DeskView). d.member)) p.others
    ∙ kept_step (λ (d : DeskView). d.member) before number p.desk p.next at.1 p.pulled.member ∙ h
numbered_more row config moment reports number before after old new (inr p) h = ap (map (λ (d : DeskView). d.member)) p.1 ∙ h

-- ---- all desks

zip_desks : (asked : List (List Bool)) (config : Config) (journals : List (List Event)) (ds : List DeskView) (members : List Member)
    → AllZip (IsAsked asked config journals) ds members → AllZip (IsDeskOfMember config journals) ds members
zip_desks asked config journals [] [] h = tt
zip_desks asked config journals [] (m ∷ ms) h = absurd h
zip_desks asked config journals (d ∷ ds) [] h = absurd h
zip_desks asked config journals (d ∷ ds) (m ∷ ms) h = (h.0.stands, zip_desks asked config journals ds ms h.1)

-- what was made of all members
pub record PulledEach (config : Config) (moment : ℤ) (journals : List (List Event)) (members : List Member) (start : List ℕ) (desks : List DeskView) (out : List ℕ) : Type 0 where
  pub stand : AllZip (IsDeskOfMember config journals) desks (map (pulled config moment journals) members)
  pub text : out ≡ start ++ flat_map (pull_lines config moment journals) members

pub pulled_each : (asked : List (List Bool)) (config : Config) (moment : ℤ) (journals : List (List Event)) (members : List Member) (start : List ℕ) (n : ℕ) (first desks : List DeskView) (out : List ℕ)
    → AreDesks config first → n ≡ length config.members → AllZip (IsAsked asked config journals) first members
    → PulledSome asked config moment journals members start n desks out
    → PulledEach config moment journals members start desks out
pulled_each asked config moment journals members start n first desks out numbered count h x =
    let long = AllZip-long (IsAsked asked config journals) first members h in
    let all = all_desks (λ (d : DeskView). d.member) 0 _ first numbered in
    let most : length members ≤ n = omega (arith, long, all, count) in
    record {
      stand = zip_desks asked config journals desks _
          (zip_all (IsAsked asked config journals) (pulled config moment journals) desks members n most x.stand);
      text = text_all (pull_lines config moment journals) members n start out most x.text;
    }
