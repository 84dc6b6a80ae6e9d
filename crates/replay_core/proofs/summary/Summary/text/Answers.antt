use Rattle.std.proofs.Common.{append_assoc, Result, Ok, Err, IfOk}
use Rattle.replay_core.specs.Summary.{summary_text}
use Rattle.replay_core.proofs.summary.Summary.text.Goals as goal

ok_map : {T E : Type 0} (r : Result T E) (P Q : T → Type 0) → ((x : T) → P x → Q x) → IfOk r P → IfOk r Q
ok_map (Ok x) P Q f p = f x p
ok_map (Err e) P Q f p = tt

pub returns : goal.returns
unfolding summary_text
returns c = ok_map c.format.result _ _ (λ text h. simp append_assoc at h) c.format.ensures.ok
