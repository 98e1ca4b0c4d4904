-- The build root and the patterns of settings are paths.
use Rattle.std.proofs.Common.{◌≡◌, ℕ, Bool, true, false, cond, ◌&&◌, ◌||◌, List, [], ◌∷◌, Option, Some, None, Result, Ok, Err, refl, sym, ap, ◌∙◌, subst, ⊎_elim, inl, inr, codes, All, unwrap_or}
use Rattle.std.specs.Option.{option_and_then, option_map, ok_or}
use Rattle.std.specs.Str.{bytes_eq, is_utf8}
use Rattle.std.proofs.lemmas.List.Elements.{All-nil, All-cons}
use Rattle.std.proofs.lemmas.Bool.{and_parts, cases_Bool}
use Rattle.ct_yaml.specs.declared.node.Node.{Node}
use Rattle.ct_yaml.specs.declared.node.Node.TheOpen.{Node-F}
use Rattle.ct_settings.specs.declared.record.Pattern.{Pattern}
use Rattle.ct_settings.specs.declared.record.ProjectSettings.{ProjectSettings}
use Rattle.ct_settings.specs.declared.record.SettingKind.{SettingKind}
use Rattle.ct_settings.specs.declared.record.SettingKind.TheVariants.{BadValue}
use Rattle.ct_settings.specs.declared.table.Project.{Project}
use Rattle.ct_settings.specs.declared.table.Paths.{Paths}
use Rattle.ct_settings.specs.Paths.{is_path, IsFolderPath, without_start, without_end, checked, path_of, folder_of, pattern, signed, behind, pattern_of}
use Rattle.ct_settings.specs.Values.{Shape, each, one, many, many_of, texts_of}
use Rattle.ct_settings.specs.Names.{prefix_of}
use Rattle.ct_settings.specs.Rows.{Read, ◌>>=◌, Section, section, named, row, row_in, value_of}
use Rattle.ct_settings.specs.Table.{adding, project_of, paths_of, defines_of, cmock_of, settings_of, ArePaths}

-- ---- parts of what is read

option_map_parts : {A B : Type 0} (f : A → B) (o : Option A) (b : B) → option_map f o ≡ Some b → (a : A) × (o ≡ Some a) × (f a ≡ b)
option_map_parts f None b h = absurd (cc h)
option_map_parts f (Some a) b h = (a, refl, cc)

and_then_parts : {A B : Type 0} (f : A → Option B) (o : Option A) (b : B) → option_and_then f o ≡ Some b → (a : A) × (o ≡ Some a) × (f a ≡ Some b)
and_then_parts f None b h = absurd (cc h)
and_then_parts f (Some a) b h = (a, refl, h)

ok_or_some : {A : Type 0} (o : Option A) (kind : SettingKind) (a : A) → ok_or o kind ≡ Ok a → o ≡ Some a
ok_or_some None kind a h = absurd (cc h)
ok_or_some (Some b) kind a h = cc

bind_parts : {A B : Type 0} (m : Read A) (k : A → Read B) (b : B) → (m >>= k) ≡ Ok b → (a : A) × (m ≡ Ok a) × (k a ≡ Ok b)
bind_parts (Ok a) k b h = (a, refl, h)
bind_parts (Err fault) k b h = absurd (cc h)

named_ok : {A : Type 0} (place : Section) (key : List ℕ) (read : Result A SettingKind) (a : A) → named place key read ≡ Ok a → read ≡ Ok a
named_ok place key (Ok b) a h = cc
named_ok place key (Err kind) a h = absurd (cc h)

-- what holds of the default and of all that is read holds of a row's value
row_in_holds : {A : Type 0} (P : A → Type 0) (place : Section) (key : List ℕ) (read : Shape → Result A SettingKind) (default a : A) (value : Option Shape)
    → P default → ((shape : Shape) (b : A) → read shape ≡ Ok b → P b) → row_in place key read default value ≡ Ok a → P a
row_in_holds P place key read default a None base reads h = let e : default ≡ a = cc in subst P e base
row_in_holds P place key read default a (Some shape) base reads h = reads shape a (named_ok place key (read shape) a h)

row_holds : {A : Type 0} (P : A → Type 0) (place : Section) (key : List ℕ) (read : Shape → Result A SettingKind) (default a : A)
    → P default → ((shape : Shape) (b : A) → read shape ≡ Ok b → P b) → row place key read default ≡ Ok a → P a
unfolding row
row_holds P place key read default a base reads h = row_in_holds P place key read default a (value_of key place.entries) base reads h

-- ---- paths

checked_path : (path p : List ℕ) → checked path ≡ Some p → is_path p ≡ true
checked_path path p h =
    ⊎_elim
    (λ yes. let e : checked path ≡ Some path = ap (λ b. cond b (Some path) None) yes in
    let same : path ≡ p = cc in ap is_path (sym same) ∙ (and_parts (is_path path) (is_utf8 path) yes).0)
    (λ no. let e : checked path ≡ None = ap (λ b. cond b (Some path) None) no in absurd (cc e))
    (cases_Bool (is_path path && is_utf8 path))

path_is : (text p : List ℕ) → path_of text ≡ Some p → is_path p ≡ true
unfolding path_of
path_is text p h = checked_path (without_end (without_start text)) p h

one_path : (shape : Shape) (p : List ℕ) → one path_of shape ≡ Ok p → is_path p ≡ true
unfolding one
one_path (Node-F.Scalar text) p h = path_is text p (ok_or_some (path_of text) BadValue p h)
one_path (Node-F.List items) p h = absurd (cc h)
one_path (Node-F.Map entries) p h = absurd (cc h)

-- ---- patterns

is_root : List ℕ → Bool
is_root text = bytes_eq text (codes ".") || bytes_eq text (codes "./")

folder_is : (text p : List ℕ) → folder_of text ≡ Some p → IsFolderPath p
unfolding is_root
folder_is text p h =
    ⊎_elim
    (λ yes. let e : folder_of text ≡ Some [] = ap (λ b. cond b (Some []) (path_of text)) yes in
    let same : p ≡ [] = cc in inl same)
    (λ no. let e : folder_of text ≡ path_of text = ap (λ b. cond b (Some []) (path_of text)) no in
    let was : path_of text ≡ Some p = cc in inr (path_is text p was))
    (cases_Bool (is_root text))

abbrev IsFolderPattern : Pattern → Type 0
IsFolderPattern p = IsFolderPath p.path

pattern_path : (add : Bool) (text : List ℕ) (p : Pattern) → pattern add text ≡ Some p → IsFolderPattern p
pattern_path add text p h =
    let found = option_map_parts (λ path. record { add = add; path = path }) (folder_of text) p h in
    let same : found.0 ≡ p.path = ap (λ q. q.path) found.2 in
    subst IsFolderPath same (folder_is text found.0 found.1)

signed_path : (rest : Option (List ℕ)) (text : List ℕ) (p : Pattern) → signed rest text ≡ Some p → IsFolderPattern p
signed_path None text p h = pattern_path true (unwrap_or (behind (codes "+:") text) text) p h
signed_path (Some rest) text p h = pattern_path false rest p h

pattern_is : (text : List ℕ) (p : Pattern) → pattern_of text ≡ Some p → IsFolderPattern p
unfolding pattern_of
pattern_is text p h = signed_path (behind (codes "-:") text) text p h

patterns_are : (texts : List (List ℕ)) (ps : List Pattern) → each pattern_of texts ≡ Some ps → All IsFolderPattern ps
patterns_are [] ps h = let e : [] ≡ ps = cc in subst (All IsFolderPattern) e (All-nil IsFolderPattern)
patterns_are (text ∷ texts) ps h =
    let first = and_then_parts (λ first. option_map (λ rest. first ∷ rest) (each pattern_of texts)) (pattern_of text) ps h in
    let rest = option_map_parts (λ rest. first.0 ∷ rest) (each pattern_of texts) ps first.2 in
    subst (All IsFolderPattern) rest.2
    (All-cons IsFolderPattern first.0 rest.0 (pattern_is text first.0 first.1) (patterns_are texts rest.0 rest.1))

of_texts : (texts : Option (List (List ℕ))) (ps : List Pattern) → many_of pattern_of texts ≡ Ok ps → All IsFolderPattern ps
of_texts None ps h = absurd (cc h)
of_texts (Some texts) ps h = patterns_are texts ps (ok_or_some (each pattern_of texts) BadValue ps h)

many_patterns : (shape : Shape) (ps : List Pattern) → many pattern_of shape ≡ Ok ps → All IsFolderPattern ps
unfolding many
many_patterns shape ps h = of_texts (texts_of shape) ps h

adding_is : (path : List ℕ) → is_path path ≡ true → All IsFolderPattern (adding path)
adding_is path h = All-cons IsFolderPattern (record { add = true; path = path }) [] (inr h) (All-nil IsFolderPattern)

-- ---- the table

project_path : (node : Node) (p : Project) → project_of node ≡ Ok p → is_path p.build_root ≡ true
project_path node p h =
    let place = bind_parts (section (codes ":project") node) _ _ h in
    let root = bind_parts (row place.0 (codes ":build_root") (one path_of) (codes "build")) _ _ place.2 in
    let prefix = bind_parts (row place.0 (codes ":test_file_prefix") (one prefix_of) (codes "test_")) _ _ root.2 in
    let same : root.0 ≡ p.build_root = let e = prefix.2 in cc in
    ap is_path (sym same)
    ∙ row_holds (λ path. is_path path ≡ true) place.0 (codes ":build_root") (one path_of) (codes "build") root.0 refl one_path root.1

record AreFolders (paths : Paths) : Type 0 where
  test : All IsFolderPattern paths.test
  source : All IsFolderPattern paths.source
  include : All IsFolderPattern paths.include
  support : All IsFolderPattern paths.support

row_patterns : (place : Section) (key : List ℕ) (default ps : List Pattern) → All IsFolderPattern default
    → row place key (many pattern_of) default ≡ Ok ps → All IsFolderPattern ps
row_patterns place key default ps base h = row_holds (All IsFolderPattern) place key (many pattern_of) default ps base many_patterns h

paths_folders : (node : Node) (p : Paths) → paths_of node ≡ Ok p → AreFolders p
paths_folders node p h =
    let place = bind_parts (section (codes ":paths") node) _ _ h in
    let test = bind_parts (row place.0 (codes ":test") (many pattern_of) (adding (codes "test/**"))) _ _ place.2 in
    let source = bind_parts (row place.0 (codes ":source") (many pattern_of) (adding (codes "src/**"))) _ _ test.2 in
    let include = bind_parts (row place.0 (codes ":include") (many pattern_of) []) _ _ source.2 in
    let support = bind_parts (row place.0 (codes ":support") (many pattern_of) []) _ _ include.2 in
    let read : Paths = record { test = test.0; source = source.0; include = include.0; support = support.0 } in
    let same : read ≡ p = let e = support.2 in cc in
    subst AreFolders same (record {
      test = row_patterns place.0 (codes ":test") (adding (codes "test/**")) test.0 (adding_is (codes "test/**") refl) test.1;
      source = row_patterns place.0 (codes ":source") (adding (codes "src/**")) source.0 (adding_is (codes "src/**") refl) source.1;
      include = row_patterns place.0 (codes ":include") [] include.0 (All-nil IsFolderPattern) include.1;
      support = row_patterns place.0 (codes ":support") [] support.0 (All-nil IsFolderPattern) support.1;
    })

pub settings_paths : (node : Node) (settings : ProjectSettings) → settings_of node ≡ Ok settings → ArePaths settings
settings_paths node settings h =
    let project = bind_parts (project_of node) _ _ h in
    let paths = bind_parts (paths_of node) _ _ project.2 in
    let defines = bind_parts (defines_of node) _ _ paths.2 in
    let cmock = bind_parts (cmock_of node) _ _ defines.2 in
    let folders = paths_folders node paths.0 paths.1 in
    let read : ProjectSettings = record {
      build_root = project.0.build_root;
      test_prefix = project.0.test_prefix;
      test = paths.0.test;
      source = paths.0.source;
      include = paths.0.include;
      support = paths.0.support;
      defines = defines.0;
      cmock = cmock.0;
    } in
    let same : read ≡ settings = let e = cmock.2 in cc in
    subst ArePaths same (record {
      build_root = project_path node project.0 project.1;
      test = folders.test;
      source = folders.source;
      include = folders.include;
      support = folders.support;
    })
