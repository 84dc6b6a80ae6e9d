-- Shares with the numbers of their feeds.
use Rattle.std.proofs.Common.{◌≡◌, ◌<◌, get_or, ℕ, suc, ◌+◌, List, [], ◌∷◌, ◌++◌, length, slice_get, Some, refl, sym, ap, ◌∙◌, subst, arith, Vec}
use Rattle.std.specs.List.{All}
use Rattle.std.proofs.lemmas.List.Elements.{All-nil, All-cons, All-head, All-tail}
use Rattle.std.proofs.lemmas.Option.{get_or_from_slice_get}
use Rattle.std.specs.declared.alloc.Global.{Global}
use Rattle.venue_words.specs.Floors.{FloorMark, SymbolView}
use Rattle.feed_work.specs.declared.share.Share.{Share}
use Rattle.feed_work.specs.declared.share.Worked.{Worked}
use Rattle.feed_work.specs.Feeds.{Asked, IsFor}
use Rattle.feed_work.specs.Working.{IsWorked, AreWorked, AreNumbered}
use Rattle.feed_work.proofs.Places.{within}

module _ {F : Type 0} where
  pub numbered_length : (feed : ℕ) (shares : List (F × Vec Asked Global)) (numbered : List (Share F)) → AreNumbered feed shares numbered
      → length numbered ≡ length shares
  numbered_length feed [] [] are = refl
  numbered_length feed [] (n ∷ ns) are = absurd are
  numbered_length feed (s ∷ shares) [] are = absurd are
  numbered_length feed (s ∷ shares) (n ∷ ns) are = ap suc (numbered_length (feed + 1) shares ns are.1)

  pub numbered_snoc : (feed at : ℕ) (shares : List (F × Vec Asked Global)) (numbered : List (Share F)) (share : F × Vec Asked Global)
      (one : Share F) → AreNumbered feed shares numbered → at ≡ feed + length shares
      → one ≡ record { floor = share.0; feed = at; commands = share.1 }
      → AreNumbered feed (shares ++ share ∷ []) (numbered ++ one ∷ [])
  numbered_snoc feed at [] [] share one are is e =
      let same : at ≡ feed = omega (arith, is) in
      (e ∙ (λ k. record { floor = share.0; feed = same k; commands = share.1 }), tt)
  numbered_snoc feed at [] (n ∷ ns) share one are is e = absurd are
  numbered_snoc feed at (s ∷ shares) [] share one are is e = absurd are
  numbered_snoc feed at (s ∷ shares) (n ∷ ns) share one are is e =
      (are.0, numbered_snoc (feed + 1) at shares ns share one are.1 (omega (arith, is)) e)

  module _ (mark : F → FloorMark) (at : F → ℕ → SymbolView) where
    pub all_worked : (feed : ℕ) (shares : List (F × Vec Asked Global)) (numbered : List (Share F)) (others : List (Worked F))
        → AreNumbered feed shares numbered → length others ≡ length numbered
        → ((i : ℕ) (s : Share F) (w : Worked F) → slice_get numbered i ≡ Some s → slice_get others i ≡ Some w
        → IsWorked mark at s.feed s.floor s.commands.items w)
        → AreWorked mark at feed shares others
    all_worked feed [] [] [] are same each = tt
    all_worked feed [] [] (w ∷ ws) are same each = absurd (omega (arith, same))
    all_worked feed [] (n ∷ ns) ws are same each = absurd are
    all_worked feed (s ∷ shares) [] ws are same each = absurd are
    all_worked feed (s ∷ shares) (n ∷ ns) [] are same each = absurd (omega (arith, same))
    all_worked feed (s ∷ shares) (n ∷ ns) (w ∷ ws) are same each = (
      subst (λ (x : Share F). IsWorked mark at x.feed x.floor x.commands.items w) are.0 (each 0 n w refl refl),
      all_worked (feed + 1) shares ns ws are.1 (omega (arith, same)) (λ i s w p q. each (suc i) s w p q),
    )

  pub numbered_for : (mark : F → FloorMark) (feed : ℕ) (shares : List (F × Vec Asked Global)) (numbered : List (Share F))
      → AreNumbered feed shares numbered → All (λ share. All (IsFor (mark share.0).setup) share.1.items) shares
      → All (λ one. All (IsFor (mark one.floor).setup) one.commands.items) numbered
  numbered_for mark feed [] [] are all = All-nil (λ (one : Share F). All (IsFor (mark one.floor).setup) one.commands.items)
  numbered_for mark feed [] (n ∷ ns) are all = absurd are
  numbered_for mark feed (s ∷ shares) [] are all = absurd are
  numbered_for mark feed (s ∷ shares) (n ∷ ns) are all =
      let Was = λ (share : F × Vec Asked Global). All (IsFor (mark share.0).setup) share.1.items in
      let Is = λ (one : Share F). All (IsFor (mark one.floor).setup) one.commands.items in
      All-cons Is n ns (subst Is (sym are.0) (All-head Was s shares all))
      (numbered_for mark (feed + 1) shares ns are.1 (All-tail Was s shares all))

  -- the answers of numbered shares are those of the shares
  pub answers : (mark : F → FloorMark) (at : F → ℕ → SymbolView) (shares : List (F × Vec Asked Global)) (numbered : List (Share F))
      (others : List (Worked F)) → AreNumbered 1 shares numbered → length others ≡ length numbered
      → ((k : ℕ) (share : Share F) (one : Worked F) → k < length numbered → share ≡ get_or numbered k share
      → one ≡ get_or others k one → IsWorked mark at share.feed share.floor share.commands.items one)
      → AreWorked mark at 1 shares others
  answers mark at shares numbered others are same each =
      all_worked mark at 1 shares numbered others are same
      (λ k share one p q.
      each k share one (within numbered k share p)
      (sym (get_or_from_slice_get numbered k share share p)) (sym (get_or_from_slice_get others k one one q)))
