-- What a table of an audited day has put.
use Rattle.std.specs.Prelude.{◌≡◌, ℕ, ◌+◌, List, ◌++◌, length, Some}
use Rattle.std.specs.Io.KnownBytes.{Appends}
use Rattle.io_edge.specs.Files.{Files, file_named}
use Rattle.venue_words.specs.declared.config.Config.{Config}
use Rattle.audit_core.specs.Audited.{HasConfig}
use Rattle.audit_core.specs.Differing.{AreLines, lines_text}
use Rattle.audit_core.specs.Fronts.{IsFront}
use Rattle.audit_core.specs.Telling.{Begins, Lists, Output, Telling}

-- behind what there was stands this text, and nothing is held
abbrev pub Puts : Output → Output → List ℕ → Type 0
Puts old new text = Appends old.told new.told (old.held ++ text)

-- the text lists journals, and the header and all that is told of these was put
pub record PutsListing (telling : Telling) (header : List ℕ) (config : Config) (text : List ℕ) (old new : Output) : Type 0 where
  pub told : List ℕ
  pub lists : Lists telling config text told
  pub put : Puts old new (header ++ told)

-- the header was put, and all that is told of the lines before the one of this number
pub record PutsBefore (telling : Telling) (header : List ℕ) (config : Config) (text : List ℕ) (line : ℕ) (old new : Output) : Type 0 where
  pub lines : List (List ℕ)
  pub rest : List ℕ
  pub told : List ℕ
  pub clear : AreLines lines
  pub place : line ≡ length lines + 1
  pub whole : text ≡ lines_text lines ++ rest
  pub front : IsFront telling config (lines_text lines) told
  pub put : Puts old new (header ++ told)

-- a beginning was put of the header and of what is told of some beginning of a listing
pub record PutsSome (telling : Telling) (header : List ℕ) (config : Config) (text : List ℕ) (old new : Output) : Type 0 where
  pub first : List ℕ
  pub rest : List ℕ
  pub told : List ℕ
  pub whole : text ≡ first ++ rest
  pub front : IsFront telling config first told
  pub begun : Begins old new (header ++ told)

-- one file says a config, and another lists journals of it, of which the table tells
pub record PutsDay (telling : Telling) (header : List ℕ) (files : Files) (config listing : List ℕ) (old new : Output) : Type 0 where
  pub of : Config
  pub says : HasConfig files config of
  pub text : List ℕ
  pub found : file_named files listing ≡ Some text
  pub puts : PutsListing telling header of text old new
