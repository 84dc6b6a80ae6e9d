-- What a table has put behind its header.
use Rattle.std.proofs.Common.{◌≡◌, ◌⊎◌, inl, inr, ℕ, true, false, List, [], ◌++◌, Option, Some, None, refl, sym, ◌∙◌, subst, append-nil}
use Rattle.std.specs.Prelude.{Result, Ok, Err, IfSome, IsErr, IsNone, OnOk, is_err}
use Rattle.io_edge.specs.Files.{Files, file_named}
use Rattle.venue_words.specs.declared.config.Config.{Config}
use Rattle.venue_words.specs.declared.limits.TheConstants.{MAX_CONFIG_BYTES}
use Rattle.line_reader.specs.ConfigFile.{config_file}
use Rattle.line_reader.specs.declared.config_file.ConfigFile.{ConfigFile}
use Rattle.listing.specs.Handing.{HandsOn}
use Rattle.listing.specs.Listing.{listing}
use Rattle.listing.proofs.Handed.{appends_none, hands_all, hands_none, hands_put, hands_trans, stops_after, stops_put}
use Rattle.audit_core.specs.declared.verdict.AuditFault.{AuditFault}
use Rattle.audit_core.specs.declared.verdict.AuditFault.TheVariants as audit_fault
use Rattle.audit_core.specs.declared.verdict.Verdict.{Verdict}
use Rattle.audit_core.specs.declared.verdict.Verdict.TheVariants.{Differs, Same}
use Rattle.audit_core.specs.Audited.{HasConfig, OfText}
use Rattle.audit_core.specs.Differing.{lines_text}
use Rattle.audit_core.specs.Fronts.{IsFront, SaysBefore, SaysSome}
use Rattle.audit_core.specs.Telling.{Begins, Lists, ListsAndSays, Output, Says, Telling, day_text}
use Rattle.audit_core.proofs.Erring.{files_map}
use Rattle.audit_core.proofs.Filing.{IsThere, at_text, says_config, text_of}
use Rattle.audit_tables.specs.Tables.{Puts, PutsBefore, PutsDay, PutsListing, PutsSome}

-- ---- beginnings of a listing

front_none : (telling : Telling) (config : Config) → IsFront telling config [] []
front_none telling config = record {
  parts = [];
  events = [];
  behind = [];
  made = tt;
  begins = inl (refl, refl);
  whole = refl;
  tells = refl;
}

-- the whole of it is one
front_whole : (telling : Telling) (config : Config) (text told : List ℕ) → Lists telling config text told → IsFront telling config text told
front_whole telling config text told lists = record {
  parts = lists.parts;
  events = [];
  behind = [];
  made = lists.made;
  begins = inl (refl, refl);
  whole = lists.spelled ∙ sym (append-nil (listing config lists.parts));
  tells = lists.tells ∙ sym (append-nil (day_text telling config lists.parts));
}

-- ---- more is held

pub held_on : {T E : Type 0} (told : Option (List ℕ)) (held more text : List ℕ) (r : Result T E) → OnOk r (more ≡ held ++ text)
    → HandsOn told told held more text r
held_on told held more text (Ok x) is = hands_none told held more text is
held_on told held more text (Err e) is = (0, appends_none told)

pub on_ok : {T E : Type 0} (r : Result T E) (Q : Type 0) → Q → OnOk r Q
on_ok (Ok x) Q q = q
on_ok (Err e) Q q = tt

pub says_pushed : (told : Option (List ℕ)) (held more text : List ℕ) (to : Output) → more ≡ held ++ text
    → Says (record { told = told; held = more }) to [] → Says (record { told = told; held = held }) to text
says_pushed told held more text to is put = hands_put told told to.told held more to.held text (hands_none told held more text is) put

pub begins_pushed : (told : Option (List ℕ)) (held more text : List ℕ) (to : Output) → more ≡ held ++ text
    → Begins (record { told = told; held = more }) to [] → Begins (record { told = told; held = held }) to text
begins_pushed told held more text to is put =
    subst (λ (t : List ℕ). Begins (record { told = told; held = held }) to t) (append-nil text)
    (stops_put told told to.told held more text [] (hands_none told held more text is) put)

-- ---- all was put

puts_all : (from begun said to : Output) (header told : List ℕ) → Says from begun header → Says begun said told → Says said to [] → to.held ≡ []
    → Puts from to (header ++ told)
puts_all from begun said to header told first second last none =
    let both = hands_trans from.told begun.told said.told from.held begun.held said.held header told first second in
    let put = hands_put from.told said.told to.told from.held said.held to.held (header ++ told) both last in
    hands_all from.told to.told from.held (header ++ told) (subst (λ (h : List ℕ). Says from (record { told = to.told; held = h }) (header ++ told)) none put)

pub put_listing : (telling : Telling) (header : List ℕ) (config : Config) (text : List ℕ) (from begun said to : Output) → Says from begun header
    → Says said to [] → to.held ≡ [] → ListsAndSays telling config text begun said → PutsListing telling header config text from to
put_listing telling header config text from begun said to first last none x = record {
  told = x.told;
  lists = x.lists;
  put = puts_all from begun said to header x.told first x.said last none;
}

pub put_before : (telling : Telling) (header : List ℕ) (config : Config) (text : List ℕ) (line : ℕ) (from begun said to : Output) → Says from begun header
    → Says said to [] → to.held ≡ [] → SaysBefore telling config text line begun said → PutsBefore telling header config text line from to
put_before telling header config text line from begun said to first last none x = record {
  lines = x.lines;
  rest = x.rest;
  told = x.told;
  clear = x.clear;
  place = x.place;
  whole = x.whole;
  front = x.front;
  put = puts_all from begun said to header x.told first x.said last none;
}

-- ---- a beginning was put

-- no more than some of the header
pub some_first : (telling : Telling) (header : List ℕ) (config : Config) (text : List ℕ) (from to : Output) → Begins from to header
    → PutsSome telling header config text from to
some_first telling header config text from to begun = record {
  first = [];
  rest = text;
  told = [];
  whole = refl;
  front = front_none telling config;
  begun = subst (λ (t : List ℕ). Begins from to t) (sym (append-nil header)) begun;
}

-- a beginning of what is told of some first lines
pub some_more : (telling : Telling) (header : List ℕ) (config : Config) (text : List ℕ) (from begun to : Output) → Says from begun header
    → SaysSome telling config text begun to → PutsSome telling header config text from to
some_more telling header config text from begun to first x = record {
  first = lines_text x.lines;
  rest = x.rest;
  told = x.told;
  whole = x.whole;
  front = x.front;
  begun = stops_after from.told begun.told to.told from.held begun.held header x.told first x.begun;
}

-- what is held was not put
begins_last : (from begun said to : Output) (header told : List ℕ) → Says from begun header → Says begun said told → Begins said to []
    → Begins from to (header ++ told)
begins_last from begun said to header told first second last =
    let both = hands_trans from.told begun.told said.told from.held begun.held said.held header told first second in
    subst (λ (t : List ℕ). Begins from to t) (append-nil (header ++ told))
    (stops_put from.told said.told to.told from.held said.held (header ++ told) [] both last)

some_whole : (telling : Telling) (header : List ℕ) (config : Config) (text : List ℕ) (from begun said to : Output) → Says from begun header
    → Begins said to [] → ListsAndSays telling config text begun said → PutsSome telling header config text from to
some_whole telling header config text from begun said to first last x = record {
  first = text;
  rest = [];
  told = x.told;
  whole = sym (append-nil text);
  front = front_whole telling config text x.told x.lists;
  begun = begins_last from begun said to header x.told first x.said last;
}

some_before : (telling : Telling) (header : List ℕ) (config : Config) (text : List ℕ) (line : ℕ) (from begun said to : Output) → Says from begun header
    → Begins said to [] → SaysBefore telling config text line begun said → PutsSome telling header config text from to
some_before telling header config text line from begun said to first last x = record {
  first = lines_text x.lines;
  rest = x.rest;
  told = x.told;
  whole = x.whole;
  front = x.front;
  begun = begins_last from begun said to header x.told first x.said last;
}

pub some_last : (telling : Telling) (header : List ℕ) (config : Config) (all : Option Files) (name : List ℕ) (verdict : Verdict)
    (from begun said to : Output) → Says from begun header → Begins said to []
    → (verdict ≡ Same → IfSome all (λ files. IfSome (file_named files name) (λ text. ListsAndSays telling config text begun said)))
    → ((line : ℕ) (expected : Option (List ℕ)) → verdict ≡ Differs line expected
    → IfSome all (λ files. IfSome (file_named files name) (λ text. SaysBefore telling config text line begun said)))
    → IfSome all (λ files. IfSome (file_named files name) (λ text. PutsSome telling header config text from to))
some_last telling header config all name Same from begun said to first last same differs =
    files_map all name (λ text. ListsAndSays telling config text begun said) (λ text. PutsSome telling header config text from to)
    (λ text x. some_whole telling header config text from begun said to first last x) (same refl)
some_last telling header config all name (Differs line expected) from begun said to first last same differs =
    files_map all name (λ text. SaysBefore telling config text line begun said) (λ text. PutsSome telling header config text from to)
    (λ text x. some_before telling header config text line from begun said to first last x) (differs line expected refl)

-- ---- files

some_text : (file : Option (List ℕ)) (P : List ℕ → Type 0) → ((text : List ℕ) → P text) → IfSome file P
some_text None P f = tt
some_text (Some text) P f = f text

pub some_any : (all : Option Files) (name : List ℕ) (P : List ℕ → Type 0) → ((text : List ℕ) → P text)
    → IfSome all (λ files. IfSome (file_named files name) P)
some_any None name P f = tt
some_any (Some files) name P f = some_text (file_named files name) P f

-- nothing was put
pub put_nothing : (telling : Telling) (header : List ℕ) (all : Option Files) (name listing : List ℕ) (out : Output)
    → IfSome all (λ files. (config : Config) → HasConfig files name config → OfText files listing (λ text. PutsSome telling header config text out out))
put_nothing telling header None name listing out = tt
put_nothing telling header (Some files) name listing out = λ config has.
    some_text (file_named files listing) (λ text. PutsSome telling header config text out out)
    (λ text. some_first telling header config text out out (0, appends_none out.told))

no_fault : (r : Result Verdict AuditFault) (verdict : Verdict) → r ≡ Ok verdict
    → (r ≡ Err audit_fault.ReadFault) ⊎ (r ≡ Err audit_fault.NoMemory) → ⊥
no_fault r verdict is (inl e) = cc
no_fault r verdict is (inr e) = cc

pub never_missing : (all : Option Files) (name : List ℕ) (r : Result Verdict AuditFault) (verdict : Verdict) (Q : Type 0) → r ≡ Ok verdict
    → IfSome all (λ files. IsNone (file_named files name) → (r ≡ Err audit_fault.ReadFault) ⊎ (r ≡ Err audit_fault.NoMemory))
    → IfSome all (λ files. IsNone (file_named files name) → Q)
never_missing None name r verdict Q is missing = tt
never_missing (Some files) name r verdict Q is missing = λ none. absurd (no_fault r verdict is (missing none))

pub listing_there : (all : Option Files) (name : List ℕ) (r : Result Verdict AuditFault) (verdict : Verdict) → r ≡ Ok verdict
    → IfSome all (λ files. IsNone (file_named files name) → IsErr r) → IsThere all name
listing_there None name r verdict is missing = tt
listing_there (Some files) name r verdict is missing = λ none.
    let e : false ≡ true = subst (λ (x : Result Verdict AuditFault). is_err x ≡ true) is (missing none) in cc

-- both files are there, and say what was put
pub put_day : (telling : Telling) (header : List ℕ) (all : Option Files) (name listing : List ℕ) (file : ConfigFile) (from to : Output)
    → IfSome all (λ files. IfSome (file_named files name) (λ text. config_file MAX_CONFIG_BYTES text ≡ Ok (file.config, file.bytes)))
    → IsThere all name → IsThere all listing
    → IfSome all (λ files. IfSome (file_named files listing) (λ text. PutsListing telling header file.config text from to))
    → IfSome all (λ files. PutsDay telling header files name listing from to)
put_day telling header None name listing file from to read here there puts = tt
put_day telling header (Some files) name listing file from to read here there puts =
    let text = text_of (file_named files listing) there in record {
      of = file.config;
      says = says_config files name file here read;
      text = text.0;
      found = text.1;
      puts = at_text (file_named files listing) (λ t. PutsListing telling header file.config t from to) text.0 text.1 puts;
    }
