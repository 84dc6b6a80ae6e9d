-- What holds behind an error, and of files.
use Rattle.std.proofs.Common.{List, ℕ, Option, Some, None}
use Rattle.std.specs.Prelude.{Result, Ok, Err, IfErr, IfSome}
use Rattle.std.specs.Result.{IsErrAnd}
use Rattle.io_edge.specs.Files.{Files, file_named}
use Rattle.venue_words.specs.declared.config.Config.{Config}
use Rattle.audit_core.specs.Audited.{IsListing}
use Rattle.audit_core.specs.Telling.{ListsAndSays, Output, Telling}

pub if_at_err : {T E : Type 0} (S : E → Type 0) (r : Result T E) (Q : Type 0) → IsErrAnd r S → Q → IfErr r (λ _. Q)
if_at_err S (Ok x) Q is q = absurd is
if_at_err S (Err y) Q is q = q

pub if_err_map : {T E : Type 0} (r : Result T E) (P Q : Type 0) → (P → Q) → IfErr r (λ _. P) → IfErr r (λ _. Q)
if_err_map (Ok x) P Q f h = tt
if_err_map (Err e) P Q f h = f h

some_map : (file : Option (List ℕ)) (P Q : List ℕ → Type 0) → ((text : List ℕ) → P text → Q text) → IfSome file P → IfSome file Q
some_map None P Q f h = tt
some_map (Some text) P Q f h = f text h

pub files_map : (told : Option Files) (name : List ℕ) (P Q : List ℕ → Type 0) → ((text : List ℕ) → P text → Q text)
    → IfSome told (λ files. IfSome (file_named files name) P) → IfSome told (λ files. IfSome (file_named files name) Q)
files_map None name P Q f h = tt
files_map (Some files) name P Q f h = some_map (file_named files name) P Q f h

pub listing_of : (telling : Telling) (config : Config) (text : List ℕ) (a b : Output) → ListsAndSays telling config text a b → IsListing config text
listing_of telling config text a b x = record {
  parts = x.lists.parts;
  each = x.lists.each;
  made = x.lists.made;
  spelled = x.lists.spelled;
}
