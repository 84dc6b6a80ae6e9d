-- Before the first field nothing has a value, and each field that is noted brings its remainder's place down to its own.
use Rattle.std.proofs.Common.{◌≡◌, ℕ, ◌+◌, ◌≤◌, ◌%◌, take, get_or, set, None, subst, sym, arith, rules, ap}
use Rattle.fix_fields.specs.declared.field.Field.{Field}
use Rattle.session_core.specs.Lookup.{value_of}
use Rattle.session_core.specs.Starts.{start_of}
use Rattle.session_core.proofs.Starting.{none_at_first, fit_at_first, lower, in_time_more, in_time_all}
use Rattle.session_core.proofs.message_fields.starts_of.Goals as goal

pub loop-place-init : goal.loop-place-init
loop-place-init c = record {
  in_time = λ tag count before first. none_at_first tag count c.args.fields.now first;
  fit = fit_at_first 64;
  remainders = search rules;
}

pub loop-place-preserved : goal.loop-place-preserved
loop-place-preserved c =
    let fields = c.args.fields.now in
    let place = c.loop-place.place in
    let starts = c.loop-place.starts in
    let noted = c.min.result in
    let field = c.index-fields-place.result in
    let tag : c.field.inside.tag ≡ field.tag = ap (λ (f : Field). f.tag) c.field.view_is in
    record {
      in_time =
          subst (λ (t : ℕ). (tag count : ℕ) → count ≤ start_of (set starts (t % 64) noted) tag → count ≤ place + 1 → value_of tag (take count fields) ≡ None) (sym tag)
          (in_time_more starts noted place fields field c.loop-place.invariant.remainders (omega arith) (sym c.index-fields-place.is)
          (subst (λ (t : ℕ). noted ≤ get_or starts (t % 64) 0) tag (omega arith)) (omega arith) c.loop-place.invariant.in_time);
      fit =
          λ k. omega (arith, c.loop-place.invariant.fit k, lower starts (c.field.inside.tag % 64) noted k (omega arith) (omega arith));
      remainders = search rules;
    }

pub returns : goal.returns
returns c =
    in_time_all c.loop-place.starts c.loop-place.place c.args.fields.now (omega arith) c.loop-place.invariant.fit c.loop-place.invariant.in_time
