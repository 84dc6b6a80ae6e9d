-- What was found, in the words of the stream.
use Rattle.std.proofs.Common.{◌≡◌, ◌+◌, ◌-◌, length, arith, refl, ◌∙◌, ◌⊎◌, inl, inr}
use Rattle.fix_frames.specs.declared.place.Place.TheVariants.{Passed, Unfinished, Long, Whole}
use Rattle.fix_frames.proofs.Steps.{kept_is, HasFound, moved, found_content, given, exceeded, waited, cut_twice, passed_on, held_on, frame_is}
use Rattle.fix_frames.proofs.framer.Framer.next.Goals as goal

-- what is cut out is the frame that was found
pub with_front-requires : goal.with_front-requires
with_front-requires c =
    let items = c.self.inside.bytes.items in
    let start = c.self.inside.start in
    let old = c.args.self.now in
    let at = c.search-at.result.0 in
    let size = c.in-Whole.size in
    let front = c.in-Whole.front in
    let s = c.search-at.ensures in
    let e = kept_is c.deref.result.now items start _ old c.deref.ensures.value c.self.view_is refl in
    let f = moved _ old.kept at c.search-at.result.1 (Whole size front) e c.in-Whole.is s.inside s.skips s.found s.fits in
    let cut =
    found_content old.kept _ at size front f
    (frame_is c.deref-in-Whole.result.now items start at size (start + at) (start + at + size - (start + at)) _ old c.deref-in-Whole.ensures.value c.self.view_is refl refl (omega arith)) in
    record { short = cut.0; front = cut.1 }

pub returns-in-Whole : goal.returns-in-Whole
returns-in-Whole c =
    let items = c.self.inside.bytes.items in
    let start = c.self.inside.start in
    let before = c.self.inside.passed in
    let old = c.args.self.now in
    let at = c.search-at.result.0 in
    let size = c.in-Whole.size in
    let s = c.search-at.ensures in
    let front = c.in-Whole.front in
    let e = kept_is c.deref.result.now items start _ old c.deref.ensures.value c.self.view_is refl in
    let f = moved _ old.kept at c.search-at.result.1 (Whole size front) e c.in-Whole.is s.inside s.skips s.found s.fits in
    let both : before + at + size ≡ before + (at + size) = omega arith in
    ((refl, λ _. tt, given old _ _ at size front f (both ∙ passed_on before (at + size) _ old c.self.view_is refl) (cut_twice items start (at + size) _ _ old c.self.view_is refl (omega arith)) (held_on (length items) _ old c.self.view_is refl) (c.with_front.ensures ∙ frame_is c.deref-in-Whole.result.now items start at size _ (start + at + size - (start + at)) _ old c.deref-in-Whole.ensures.value c.self.view_is refl refl (omega arith))), record { after = tt })

pub returns-in-Long : goal.returns-in-Long
returns-in-Long c =
    let items = c.self.inside.bytes.items in
    let start = c.self.inside.start in
    let old = c.args.self.now in
    let at = c.search-at.result.0 in
    let s = c.search-at.ensures in
    let e = kept_is c.deref.result.now items start _ old c.deref.ensures.value c.self.view_is refl in
    let f = moved _ old.kept at c.search-at.result.1 Long e c.in-Long.is s.inside s.skips s.found s.fits in
    ((refl, λ _. tt, exceeded old _ at f (passed_on c.self.inside.passed at _ old c.self.view_is refl) (cut_twice items start at _ _ old c.self.view_is refl refl) (held_on (length items) _ old c.self.view_is refl)), record { after = tt })

pub returns-in-Passed : goal.returns-in-Passed
returns-in-Passed c =
    let items = c.self.inside.bytes.items in
    let start = c.self.inside.start in
    let old = c.args.self.now in
    let at = c.search-at.result.0 in
    let s = c.search-at.ensures in
    let e = kept_is c.deref.result.now items start _ old c.deref.ensures.value c.self.view_is refl in
    let f : HasFound old.kept at Passed ⊎ HasFound old.kept at Unfinished = elim c.in-Passed.is [
      | inl p ↦ inl (moved _ old.kept at c.search-at.result.1 Passed e p s.inside s.skips s.found s.fits)
      | inr p ↦ inr (moved _ old.kept at c.search-at.result.1 Unfinished e p s.inside s.skips s.found s.fits)
    ] in
    ((refl, λ _. tt, waited old _ at f (passed_on c.self.inside.passed at _ old c.self.view_is refl) (cut_twice items start at _ _ old c.self.view_is refl refl) (held_on (length items) _ old c.self.view_is refl)), record { after = tt })
