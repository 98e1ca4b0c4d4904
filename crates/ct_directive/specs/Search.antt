-- Where an include is found.
use Rattle.std.specs.Prelude.{is_some, ◌≡◌, ◌⊎◌, ℕ, ◌&&◌, ◌||◌, not, Bool, true, false, List, [], ◌∷◌, ◌++◌, Option, Some, None, codes, length, drop, nat_eq, MatchOption, if◌then◌else◌}
use Rattle.std.specs.Bool.{MatchBool}
use Rattle.std.specs.List.{list_any, starts_with, ends_with}
use Rattle.std.specs.Option.{option_map}
use Rattle.std.specs.Str.{bytes_eq, is_utf8}
use Rattle.std.specs.FinMap.{get}
use Rattle.ct_outside.specs.Files.{Files, is_slash}
use Rattle.ct_outside.specs.Paths.{IsJoined}
use Rattle.ct_directive.specs.declared.heads.Head.{Head}
use Rattle.ct_directive.specs.declared.heads.Heads.{Heads}
use Rattle.ct_directive.specs.declared.forms.Header.{Header}
use Rattle.ct_directive.specs.declared.search.Target.{Target}
use Rattle.ct_directive.specs.Headers.{BuiltIn}

-- the folder of a file, as the path that leads there
abbrev pub folder_of : List ℕ → List ℕ
folder_of path = path ++ codes "/.."

-- a folder has a file of this name
abbrev pub IsAt : Files → List ℕ → List ℕ → Target → Type 0
IsAt files folder name target =
    IsJoined folder name target.path × (get files target.path ≡ Some target.text) × (target.built_in ≡ false)

abbrev pub IsNotAt : Files → List ℕ → List ℕ → Type 0
IsNotAt files folder name = (path : List ℕ) → IsJoined folder name path → get files path ≡ None

-- the file of this name in the first of these folders that has one
abbrev pub IsFound : Files → List (List ℕ) → List ℕ → Option Target → Type 0
IsFound files [] name found = found ≡ None
IsFound files (folder ∷ folders) name found =
    ((target : Target) × IsAt files folder name target × (found ≡ Some target))
    ⊎ (IsNotAt files folder name × IsFound files folders name found)

-- the built-in header of a name; its path is the name in angle brackets
abbrev pub text_in : List BuiltIn → List ℕ → Option (List ℕ)
text_in [] name = None
text_in (header ∷ headers) name = if bytes_eq name header.name then Some header.text else text_in headers name

abbrev pub built_in_named : List BuiltIn → List ℕ → Option Target
built_in_named headers name =
    option_map (λ text. record { path = (60 ∷ name) ++ 62 ∷ []; text = text; built_in = true }) (text_in headers name)

abbrev pub or_built_in : List BuiltIn → List ℕ → Option Target → Option Target
or_built_in headers name (Some target) = Some target
or_built_in headers name None = built_in_named headers name

-- `unity.h` and `cmock.h` always mean the built-in headers
abbrev pub is_own : List ℕ → Bool
is_own name = bytes_eq name (codes "unity.h") || bytes_eq name (codes "cmock.h")

-- The header that a mock head of this name is of. Each other name that begins with the prefix of mocks, has no slash and
-- ends in `.h` always means a mock head.
abbrev pub mocked : List ℕ → List ℕ → Option (List ℕ)
mocked prefix name =
    if not (is_own name) && starts_with nat_eq name prefix && not (list_any is_slash name) && ends_with nat_eq name (codes ".h")
    then Some (drop (length prefix) name) else None

-- the text that a head has in a list
abbrev pub text_named : List Head → List ℕ → Option (List ℕ)
text_named [] name = None
text_named (head ∷ heads) name = if bytes_eq head.name name then Some head.text else text_named heads name

-- ---- mock heads

-- some folder has the header that is mocked, which a name that is searched in no folder is not
abbrev pub IsThere : Files → List (List ℕ) → List ℕ → List ℕ → Bool → Type 0
IsThere files folders prefix name answer =
    MatchBool (is_own name || is_some (mocked prefix name)) (answer ≡ false)
    ((found : Option Target) × IsFound files folders name found × (answer ≡ is_some found))

-- in a scan a head is the include of its header, or empty where no folder has it
abbrev pub scan_text : List ℕ → Bool → List ℕ
scan_text name true = codes "#include \"" ++ name ++ codes "\"\n"
scan_text name false = []

abbrev pub head_target : List ℕ → List ℕ → List ℕ → Target
head_target folder name text = record { path = folder ++ (47 ∷ name); text = text; built_in = false }

abbrev pub IsHeadTarget : Files → List (List ℕ) → Heads → List ℕ → List ℕ → Option Target → Type 0
IsHeadTarget files folders heads name header target =
    MatchBool heads.scan
    ((there : Bool) × IsThere files folders heads.prefix header there × (target ≡ Some (head_target heads.folder name (scan_text header there))))
    (target ≡ option_map (head_target heads.folder name) (text_named heads.texts name))

-- ---- header names

-- a name in quotes is searched first in the folder of the file that includes it
abbrev pub places_of : List (List ℕ) → List ℕ → Bool → List (List ℕ)
places_of folders path true = folder_of path ∷ folders
places_of folders path false = folders

-- a name that is searched means a file, or else a built-in header
abbrev pub SearchMeans : Files → List (List ℕ) → List BuiltIn → List ℕ → Header → Option Target → Type 0
SearchMeans files folders headers path header target =
    (found : Option Target) × IsFound files (places_of folders path header.quoted) header.name found × (target ≡ or_built_in headers header.name found)

-- what a name in UTF-8 means in the file at this path, if it means anything
abbrev pub NameMeans : Files → List (List ℕ) → Heads → List BuiltIn → List ℕ → Header → Option Target → Type 0
NameMeans files folders heads headers path header target =
    MatchBool (is_own header.name) (target ≡ built_in_named headers header.name)
    (MatchOption (mocked heads.prefix header.name) (SearchMeans files folders headers path header target)
    (λ mocked_header. IsHeadTarget files folders heads header.name mocked_header target))

-- another name means nothing
abbrev pub Means : Files → List (List ℕ) → Heads → List BuiltIn → List ℕ → Header → Option Target → Type 0
Means files folders heads headers path header target =
    MatchBool (is_utf8 header.name) (NameMeans files folders heads headers path header target) (target ≡ None)
