use Rattle.std.proofs.Common.{◌≡◌, ◌+◌, ◌-◌, length, take, drop, ◌∙◌, ap, arith, length-drop}
use Rattle.std.proofs.lemmas.List.{take_all}
use Rattle.day_journal.specs.Disk.{overwritten}
use Rattle.day_journal.proofs.Rewritten.{part_torn, part_written}
use Rattle.day_journal.proofs.file_disk.write_all_at.Goals as goal

pub returns-in_err-count-clause-crash : goal.returns-in_err-count-clause-crash
returns-in_err-count-clause-crash g c honest =
    let i = c.loop-done.invariant in
    let old = g.C.FileCalls.told c.args.calls.now in
    let part = take (length c.args.bytes.now - c.loop-done.done) (drop c.loop-done.done c.args.bytes.now) in
    let is_part : part ≡ drop c.loop-done.done c.args.bytes.now = take_all _ (drop c.loop-done.done c.args.bytes.now) (omega (arith, length-drop c.loop-done.done c.args.bytes.now)) in
    let size : c.in-Some.place + length part ≡ c.args.at + length c.args.bytes.now =
    omega (arith, c.in-Some.ensures, ap length is_part, length-drop c.loop-done.done c.args.bytes.now, i.within) in
    part_torn old (g.C.FileCalls.told c.loop-done.calls) (g.C.FileCalls.told c.write_at.new.self) c.args.at (length c.args.bytes.now) c.in-Some.place (length part)
    (omega (arith, c.in-Some.ensures)) size
    (λ f may. g.met.C.FileCalls.counts_now c.loop-done.calls old.moment f (i.honest ∙ honest) (i.crash honest).later may)
    (i.crash honest) (c.write_at.ensures.crash (i.honest ∙ honest))

pub returns-then-count-eq0-clause-crash : goal.returns-then-count-eq0-clause-crash
returns-then-count-eq0-clause-crash g c honest =
    let i = c.loop-done.invariant in
    let old = g.C.FileCalls.told c.args.calls.now in
    let part = take (length c.args.bytes.now - c.loop-done.done) (drop c.loop-done.done c.args.bytes.now) in
    let is_part : part ≡ drop c.loop-done.done c.args.bytes.now = take_all _ (drop c.loop-done.done c.args.bytes.now) (omega (arith, length-drop c.loop-done.done c.args.bytes.now)) in
    let size : c.in-Some.place + length part ≡ c.args.at + length c.args.bytes.now =
    omega (arith, c.in-Some.ensures, ap length is_part, length-drop c.loop-done.done c.args.bytes.now, i.within) in
    part_torn old (g.C.FileCalls.told c.loop-done.calls) (g.C.FileCalls.told c.write_at.new.self) c.args.at (length c.args.bytes.now) c.in-Some.place (length part)
    (omega (arith, c.in-Some.ensures)) size
    (λ f may. g.met.C.FileCalls.counts_now c.loop-done.calls old.moment f (i.honest ∙ honest) (i.crash honest).later may)
    (i.crash honest) (c.write_at.ensures.crash (i.honest ∙ honest))

pub loop-done-preserved : goal.loop-done-preserved
loop-done-preserved g c =
    let i = c.loop-done.invariant in
    let old = g.C.FileCalls.told c.args.calls.now in
    let mid = g.C.FileCalls.told c.loop-done.calls in
    let new = g.C.FileCalls.told c.write_at.new.self in
    let bytes = c.args.bytes.now in
    let done = c.loop-done.done in
    let part = take (length bytes - done) (drop done bytes) in
    let is_part : part ≡ drop done bytes = take_all _ (drop done bytes) (omega (arith, length-drop done bytes)) in
    let place : c.in-Some.place ≡ c.args.at + done = omega (arith, c.in-Some.ensures) in
    let size : c.in-Some.place + length part ≡ c.args.at + length bytes = omega (arith, place, ap length is_part, length-drop done bytes, i.within) in
    record {
      within = omega (arith, c.in_ok-count.ensures.bound, ap length is_part, length-drop done bytes, i.within);
      hold = c.write_at.ensures.kept.0 ∙ i.hold;
      name = c.write_at.ensures.kept.1 ∙ i.name;
      honest = c.write_at.ensures.honest ∙ i.honest;
      written = λ honest.
          part_written old.seen mid.seen new.seen bytes c.args.at done c.in_ok-count.count (c.requires.at honest) i.within (i.written honest)
          (c.in_ok-count.ensures.written (i.honest ∙ honest) ∙ ap (λ k. overwritten mid.seen k (take c.in_ok-count.count part)) place
          ∙ ap (λ l. overwritten mid.seen (c.args.at + done) (take c.in_ok-count.count l)) is_part);
      crash = λ honest.
          part_torn old mid new c.args.at (length bytes) c.in-Some.place (length part) (omega (arith, place)) size
          (λ f may. g.met.C.FileCalls.counts_now c.loop-done.calls old.moment f (i.honest ∙ honest) (i.crash honest).later may)
          (i.crash honest) (c.write_at.ensures.crash (i.honest ∙ honest));
    }
