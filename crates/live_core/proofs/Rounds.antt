-- A day, round by round.
use Rattle.std.proofs.Common.{◌≡◌, ◌⊎◌, inl, inr, ℕ, true, List, [], ◌++◌, refl, sym, ◌∙◌, ap, subst, append_assoc}
use Rattle.std.proofs.lemmas.List.{append-nil}
use Rattle.day_journal.specs.Disk.{Told, LeavesOnly}
use Rattle.day_journal.specs.DiskLaws.{stays, weaker, goes_on}
use Rattle.day_journal.specs.Log.{reading, intact, IsAllOrNone}
use Rattle.live_core.specs.Lines.{Yields, kept, output, AreNotTaken, IsFrontOf}
use Rattle.live_core.specs.Live.{Stands, HasFront, Commits, CommitsNot, Halts, Ran, Whole}
use Rattle.live_core.proofs.Laws.{kept-append, output-append, output-kept, not-all-append}

-- a file that is one of an honest disk's that stands
left_reads : (lines : List (List ℕ)) (disk : Told) → Stands lines disk → (c : List ℕ) → disk.may_leave c → reading c ≡ intact lines
left_reads lines disk stands c may = ap reading (stands.durable c may) ∙ stands.reads

module _ (yields : Yields) (past : List (List ℕ)) where
  pub begins : (has_taken : List (List ℕ) → Type 0) (brought : List (List ℕ)) (told : List ℕ) (disk : Told) → has_taken past
      → (disk.honest ≡ true → (c : List ℕ) → disk.left_since disk.moment c → disk.may_leave c)
      → Whole yields has_taken past brought brought told told disk disk
  begins has_taken brought told disk now only = record {
    asked = [];
    brought = sym (append-nil brought);
    told = sym (append-nil told);
    now = subst has_taken (sym (append-nil past)) now;
    stands = λ stands. subst (λ l. Stands l disk) (sym (append-nil past)) stands;
    crash = λ stands. stays disk (HasFront past []) (λ c left.
        ([], left_reads past disk stands c (only stands.honest c left) ∙ ap intact (sym (append-nil past)), ([], refl)));
  }

  -- a batch's all or none is a front of more
  front_of : (asked lines : List (List ℕ)) (c : List ℕ) → IsAllOrNone (past ++ kept yields past asked) (kept yields (past ++ kept yields past asked) lines) c
      → HasFront past (kept yields past (asked ++ lines)) c
  front_of asked lines c (inl none) = (kept yields past asked, none, (kept yields (past ++ kept yields past asked) lines, sym (kept-append yields past asked lines)))
  front_of asked lines c (inr whole) = (
    kept yields past (asked ++ lines),
    whole ∙ ap intact (append_assoc past (kept yields past asked) (kept yields (past ++ kept yields past asked) lines) ∙ ap (λ l. past ++ l) (sym (kept-append yields past asked lines))),
    ([], append-nil (kept yields past (asked ++ lines))),
  )

  -- a front of less is one of more
  wider : (asked lines : List (List ℕ)) (c : List ℕ) → HasFront past (kept yields past asked) c → HasFront past (kept yields past (asked ++ lines)) c
  wider asked lines c has = (
    has.0,
    has.1,
    (
      has.2.0 ++ kept yields (past ++ kept yields past asked) lines,
      sym (append_assoc has.0 has.2.0 (kept yields (past ++ kept yields past asked) lines))
          ∙ ap (λ l. l ++ kept yields (past ++ kept yields past asked) lines) has.2.1
          ∙ sym (kept-append yields past asked lines),
    ),
  )

  safe_whole : (asked lines : List (List ℕ)) (put rest : List ℕ) → put ++ rest ≡ output yields (past ++ kept yields past asked) lines → (c : List ℕ)
      → reading c ≡ intact ((past ++ kept yields past asked) ++ kept yields (past ++ kept yields past asked) lines)
      → (front : List (List ℕ)) × (more : List ℕ) × (reading c ≡ intact (past ++ front)) × IsFrontOf front (kept yields past (asked ++ lines)) × ((output yields past asked ++ put) ++ more ≡ output yields past front)
  unfolding front_of
  safe_whole asked lines put rest part c whole =
      let has = front_of asked lines c (inr whole) in (
        has.0,
        rest,
        has.1,
        has.2,
        append_assoc (output yields past asked) put rest ∙ ap (λ l. output yields past asked ++ l) part ∙ sym (output-append yields past asked lines) ∙ sym (output-kept yields past (asked ++ lines)),
      )

  safely : (asked lines : List (List ℕ)) (put rest : List ℕ) → put ++ rest ≡ output yields (past ++ kept yields past asked) lines → (c : List ℕ)
      → ((put ≡ []) × IsAllOrNone (past ++ kept yields past asked) (kept yields (past ++ kept yields past asked) lines) c) ⊎ (reading c ≡ intact ((past ++ kept yields past asked) ++ kept yields (past ++ kept yields past asked) lines))
      → (front : List (List ℕ)) × (more : List ℕ) × (reading c ≡ intact (past ++ front)) × IsFrontOf front (kept yields past (asked ++ lines)) × ((output yields past asked ++ put) ++ more ≡ output yields past front)
  unfolding front_of
  safely asked lines put rest part c (inl (none, inl before)) =
      let has = front_of asked lines c (inl before) in (
        kept yields past asked,
        [],
        before,
        has.2,
        append-nil (output yields past asked ++ put) ∙ ap (λ l. output yields past asked ++ l) none ∙ append-nil (output yields past asked) ∙ sym (output-kept yields past asked),
      )
  safely asked lines put rest part c (inl (none, inr whole)) = safe_whole asked lines put rest part c whole
  safely asked lines put rest part c (inr whole) = safe_whole asked lines put rest part c whole

  module _ (brought_old brought_mid brought_new : List (List ℕ)) (told_old told_mid told_new : List ℕ) (old mid new : Told) where
    crashes : (asked lines : List (List ℕ)) → (Stands past old → Stands (past ++ kept yields past asked) mid) → (Stands past old → LeavesOnly old mid (HasFront past (kept yields past asked)))
        → (Stands (past ++ kept yields past asked) mid → LeavesOnly mid new (IsAllOrNone (past ++ kept yields past asked) (kept yields (past ++ kept yields past asked) lines)))
        → Stands past old → LeavesOnly old new (HasFront past (kept yields past (asked ++ lines)))
    crashes asked lines stood crash then stands =
        goes_on old mid new (HasFront past (kept yields past (asked ++ lines))) _ (weaker old mid _ _ (crash stands) (wider asked lines)) (then (stood stands)) (front_of asked lines)

    pub one_more : (was is : List (List ℕ) → Type 0) (lines : List (List ℕ)) → (w : Whole yields was past brought_old brought_mid told_old told_mid old mid)
        → brought_new ≡ brought_mid ++ lines
        → Commits yields is (past ++ kept yields past w.asked) lines told_mid told_new mid new
        → (Stands (past ++ kept yields past w.asked) mid → LeavesOnly mid new (IsAllOrNone (past ++ kept yields past w.asked) (kept yields (past ++ kept yields past w.asked) lines)))
        → Whole yields is past brought_old brought_new told_old told_new old new
    one_more was is lines w brought commits then =
        let k = kept yields past w.asked in
        let all : (past ++ k) ++ kept yields (past ++ k) lines ≡ past ++ kept yields past (w.asked ++ lines) =
        append_assoc past k (kept yields (past ++ k) lines) ∙ ap (λ l. past ++ l) (sym (kept-append yields past w.asked lines)) in
        record {
          asked = w.asked ++ lines;
          brought = brought ∙ ap (λ l. l ++ lines) w.brought ∙ append_assoc brought_old w.asked lines;
          told = commits.told ∙ ap (λ l. l ++ output yields (past ++ k) lines) w.told ∙ append_assoc told_old (output yields past w.asked) (output yields (past ++ k) lines)
              ∙ ap (λ l. told_old ++ l) (sym (output-append yields past w.asked lines));
          now = subst is all commits.now;
          stands = λ stands. subst (λ l. Stands l new) all (commits.stands (w.stands stands));
          crash = crashes w.asked lines w.stands w.crash then;
        }

    pub not_more : (was : List (List ℕ) → Type 0) (lines : List (List ℕ)) → (w : Whole yields was past brought_old brought_mid told_old told_mid old mid)
        → brought_new ≡ brought_mid ++ lines
        → CommitsNot yields (past ++ kept yields past w.asked) lines told_mid told_new mid new
        → (Stands (past ++ kept yields past w.asked) mid → LeavesOnly mid new (IsAllOrNone (past ++ kept yields past w.asked) (kept yields (past ++ kept yields past w.asked) lines)))
        → Ran yields past brought_old brought_new told_old told_new old new
    not_more was lines w brought commits then =
        let k = kept yields past w.asked in
        let more = kept yields (past ++ k) lines in
        let before = output yields past w.asked in
        record {
          asked = w.asked ++ lines;
          brought = brought ∙ ap (λ l. l ++ lines) w.brought ∙ append_assoc brought_old w.asked lines;
          put = before ++ commits.put;
          rest = commits.rest;
          told = commits.told ∙ ap (λ l. l ++ commits.put) w.told ∙ append_assoc told_old before commits.put;
          part = append_assoc before commits.put commits.rest ∙ ap (λ l. before ++ l) commits.part ∙ sym (output-append yields past w.asked lines);
          crash = crashes w.asked lines w.stands w.crash then;
          safe = λ stands c may. safely w.asked lines commits.put commits.rest commits.part c (commits.safe (w.stands stands) c may);
        }

  -- a batch that is not all taken
  pub halts_after : (is : List (List ℕ) → Type 0) (brought_old brought_mid brought_new lines : List (List ℕ)) (told_old told_new : List ℕ) (old new : Told)
      → (w : Whole yields is past brought_old brought_mid told_old told_new old new) → brought_new ≡ brought_mid ++ lines
      → AreNotTaken yields (past ++ kept yields past w.asked) lines → Halts yields past brought_old brought_new
  halts_after is brought_old brought_mid brought_new lines told_old told_new old new w brought some = record {
    asked = w.asked ++ lines;
    brought = brought ∙ ap (λ l. l ++ lines) w.brought ∙ append_assoc brought_old w.asked lines;
    some = not-all-append yields past w.asked lines some;
  }

  pub ran_whole : (is : List (List ℕ) → Type 0) (brought_old brought_new : List (List ℕ)) (told_old told_new : List ℕ) (old new : Told)
      → Whole yields is past brought_old brought_new told_old told_new old new → Ran yields past brought_old brought_new told_old told_new old new
  ran_whole is brought_old brought_new told_old told_new old new w = record {
    asked = w.asked;
    brought = w.brought;
    put = output yields past w.asked;
    rest = [];
    told = w.told;
    part = append-nil (output yields past w.asked);
    crash = w.crash;
    safe = λ stands c may. (
      kept yields past w.asked,
      [],
      left_reads (past ++ kept yields past w.asked) new (w.stands stands) c may,
      ([], append-nil (kept yields past w.asked)),
      append-nil (output yields past w.asked) ∙ sym (output-kept yields past w.asked),
    );
  }
