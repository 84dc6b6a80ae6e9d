-- Feed by feed.
use Rattle.std.proofs.Common.{◌≡◌, ℕ, ◌+◌, true, false, List, [], ◌∷◌, ◌++◌, Option, None, Some, IfSome, IsNone, Err, length, map, get_or, refl, sym, ◌∙◌, ap, subst, arith, length-append}
use Rattle.std.proofs.lemmas.List.{length-map}
use denote.Ref.{Bor}
use Rattle.io_edge.specs.Files.{Files, HasFile, file_named}
use Rattle.feeds_core.specs.Reading.{KeepsFirst}
use Rattle.feeds_core.specs.declared.feed_text.FeedText.{FeedText}
use Rattle.feeds_core.specs.declared.reading.ReadRefusal.TheVariants.{ReadFault}
use Rattle.feeds_core.proofs.KeptFirst.{all_named, has_one, keeps_last, keeps_next, keeps_none, name_at_place, none_missing, one_read}
use Rattle.feeds_core.proofs.reading.read_feeds.Goals as goal

pub loop-name-init : goal.loop-name-init
loop-name-init g c = record {
  first = λ files e. subst (λ (ks : List FeedText). KeepsFirst files (map (λ (n : Bor (List ℕ)). n.now) c.args.names.now) 0 c.args.already c.args.already ks) (sym c.new-feeds.ensures.items) (keeps_none files (map (λ (n : Bor (List ℕ)). n.now) c.args.names.now) c.args.already);
  count = ap (length {A = FeedText}) c.new-feeds.ensures.items;
  within = c.requires;
  told = refl;
  later = omega arith;
  sure = λ sure. sure;
}

-- what a slice of texts gives behind its end
abbrev no_text : Bor (List ℕ)
no_text = record { ref_ptr = (0, 0); now = [] }

there : (told : Option Files) (name : List ℕ) → IfSome told (λ files. IsNone (file_named files name) → false ≡ true)
    → IfSome told (λ files. IsNone (file_named files name) → ⊥)
there None name missing = tt
there (Some files) name missing = λ gone. let odd : false ≡ true = missing gone in absurd (cc)

pub returns-in-Err-clause-sure : goal.returns-in-Err-clause-sure
returns-in-Err-clause-sure g c = λ sure.
    let i = c.loop-name.invariant in
    let name = (get_or c.args.names.now c.loop-name.name-index no_text).now in
    let size = length-map c.args.names.now (λ (n : Bor (List ℕ)). n.now) in
    let read = c.in-Err.ensures.sure (i.sure sure) in (
      read.0,
      λ all e.
          let fault : c.in-Err.refusal ≡ ReadFault = cc in
          read.1
          (subst (λ (t : Option Files). HasFile t name) (sym i.told)
          (has_one (g.H.Shelf.told c.args.shelf.now) (map (λ (n : Bor (List ℕ)). n.now) c.args.names.now) c.loop-name.name-index name
          (omega (arith, size, c.loop-name-test.true)) (name_at_place c.args.names.now c.loop-name.name-index no_text c.loop-name-test.true) all))
          (ap Err fault),
    )

pub loop-name-preserved : goal.loop-name-preserved
loop-name-preserved g c =
    let i = c.loop-name.invariant in
    let name = (get_or c.args.names.now c.loop-name.name-index no_text).now in
    let size = length-map c.args.names.now (λ (n : Bor (List ℕ)). n.now) in
    let behind : c.push.new.self.items ≡ c.loop-name.feeds.items ++ c.in-Ok.feed ∷ [] = c.in_ok-push.ensures.items in
    record {
      first = λ files e.
          let one = one_read (g.H.Shelf.told c.loop-name.shelf) files name c.loop-name.bytes c.in-Ok.feed (i.told ∙ e) c.in-Ok.ensures.keeps
          (there (g.H.Shelf.told c.loop-name.shelf) name c.in-Ok.ensures.missing) in
          subst (λ (n : ℕ). KeepsFirst files (map (λ (n : Bor (List ℕ)). n.now) c.args.names.now) (c.loop-name.name-index + 1) c.args.already n c.push.new.self.items)
          (sym c.bytes-bytes.ensures.bytes)
          (keeps_next files (map (λ (n : Bor (List ℕ)). n.now) c.args.names.now) c.loop-name.name-index c.args.already c.loop-name.bytes
          c.loop-name.feeds.items c.push.new.self.items name one.text c.in-Ok.feed (i.first files e)
          (omega (arith, size, c.loop-name-test.true)) (name_at_place c.args.names.now c.loop-name.name-index no_text c.loop-name-test.true)
          one.named one.keeps behind);
      count = ap (length {A = FeedText}) behind ∙ length-append c.loop-name.feeds.items (c.in-Ok.feed ∷ []) ∙ ap (λ (n : ℕ). n + 1) i.count;
      within = c.bytes-bytes.ensures.within;
      told = c.in-Ok.ensures.told ∙ i.told;
      later = omega (arith, i.later, c.in-Ok.ensures.later);
      sure = λ sure. (c.in-Ok.ensures.sure (i.sure sure)).0;
    }

pub returns-clause-keeps : goal.returns-clause-keeps
returns-clause-keeps g c =
    let i = c.loop-name.invariant in
    let size = length-map c.args.names.now (λ (n : Bor (List ℕ)). n.now) in
    all_named (g.H.Shelf.told c.args.shelf.now) _ c.args.already c.loop-name.feeds.items
    (λ files e. keeps_last files _ c.loop-name.name-index c.args.already c.loop-name.bytes c.loop-name.feeds.items (i.first files e) (omega (arith, size, c.loop-name-test.false)))

pub returns-clause-missing : goal.returns-clause-missing
returns-clause-missing g c =
    let i = c.loop-name.invariant in
    let size = length-map c.args.names.now (λ (n : Bor (List ℕ)). n.now) in
    none_missing (g.H.Shelf.told c.args.shelf.now) _ c.args.already c.loop-name.feeds.items _
    (λ files e. keeps_last files _ c.loop-name.name-index c.args.already c.loop-name.bytes c.loop-name.feeds.items (i.first files e) (omega (arith, size, c.loop-name-test.false)))
