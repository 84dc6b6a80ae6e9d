-- Words that have no form, and want of memory before anything was done.
use Rattle.std.proofs.Common.{◌≡◌, ℕ, List, Option, Some, None, IfSome, IsSome, refl, ap, inl, inr, sym, ◌∙◌, arith}
use Rattle.io_edge.specs.Files.{Files}
use Rattle.program_words.specs.declared.WordFault.{WordFault}
use Rattle.program_words.specs.declared.WordFault.TheVariants as word
use Rattle.replay_core.specs.Causes.{script_in, script_named, bytes_named, script_told, LacksScript}
use Rattle.replay_core.specs.Loading.{summary, Loaded}
use Rattle.replay_core.specs.Plan.{Plan, plan_of}
use Rattle.replay_core.specs.Runs.{Ends}
use Rattle.replay_core.specs.Statuses.{refusal_of}
use Rattle.replay_core.specs.Telling.{Seen}
use Rattle.replay_core.specs.declared.status.Status.TheVariants.{BadWords, NoMemory}
use Rattle.replay_core.proofs.Outcomes.{no_room, prefix_none}

nothing_named : (told : Option Files) → bytes_named told None ≡ None
nothing_named None = refl
nothing_named (Some files) = refl

none_told : (o : Option (List ℕ)) (P : List ℕ → Type 0) → o ≡ None → IfSome o P
none_told None P e = tt
none_told (Some x) P e = absurd (cc)

none_some : (o : Option (List ℕ)) → o ≡ None → IsSome o → ⊥
none_some None e x = cc
none_some (Some x) e y = cc

-- words without a form lack no script
no_script : (told : Option Files) (words : List (List ℕ)) → plan_of words ≡ None → LacksScript told words → ⊥
no_script None words e x = x
no_script (Some files) words e x = none_some (script_named words) (ap script_in e) x.0

pub no_form : (told : Option Files) (words : List (List ℕ)) (left : Option (List ℕ)) (t : Seen) → plan_of words ≡ None
    → Ends told words left t t BadWords
no_form told words left t e = record {
  script = none_told (script_told told words) _ (ap (λ (p : Option Plan). bytes_named told (script_in p)) e ∙ nothing_named told);
  load = λ orders quotes plan. absurd (no_plan _ (sym e ∙ plan));
  bad_words = λ _. e;
  other_words = λ _. (inl refl, refl);
  missing = λ lacks. absurd (no_script told words e lacks);
}
  where
    no_plan : (p : Plan) → (let x : Option Plan = None in x) ≡ Some p → ⊥
    no_plan p e = cc

no_load : (orders quotes : ℕ) (t : Seen) → Loaded orders quotes t t NoMemory
no_load orders quotes t = record { outcome = prefix_none t.told (summary orders quotes); steps = omega arith }

pub no_memory : (told : Option Files) (words : List (List ℕ)) (left : Option (List ℕ)) (t : Seen) → Ends told words left t t NoMemory
no_memory told words left t = record {
  script = no_room (script_told told words) left t;
  load = λ orders quotes _. no_load orders quotes t;
  bad_words = λ e. absurd (cc);
  other_words = λ _. (inr refl, refl);
  missing = λ _. (inr refl, refl);
}

pub words_refused : (told : Option Files) (words : List (List ℕ)) (left : Option (List ℕ)) (t : Seen) (why : WordFault)
    → (why ≡ word.BadWords → plan_of words ≡ None) → Ends told words left t t (refusal_of why)
words_refused told words left t word.BadWords h = no_form told words left t (h refl)
words_refused told words left t word.NoMemory h = no_memory told words left t
