-- The table of settings, applied to the tree of a project file.
use Rattle.std.specs.Prelude.{ℕ, true, false, List, [], ◌∷◌, ◌++◌, codes, Ok, All, IsTrue}
use Rattle.ct_yaml.specs.declared.node.Node.{Node}
use Rattle.ct_settings.specs.declared.record.Pattern.{Pattern}
use Rattle.ct_settings.specs.declared.record.Define.{Define}
use Rattle.ct_settings.specs.declared.record.Cmock.{Cmock}
use Rattle.ct_settings.specs.declared.record.WhenPtr.TheVariants.{Smart}
use Rattle.ct_settings.specs.declared.record.ProjectSettings.{ProjectSettings}
use Rattle.ct_settings.specs.declared.table.Project.{Project}
use Rattle.ct_settings.specs.declared.table.Paths.{Paths}
use Rattle.ct_settings.specs.Paths.{is_path, IsFolderPath, path_of, pattern_of}
use Rattle.ct_settings.specs.Names.{prefix_of, mock_prefix_of, define_of, last_defines, has_word, when_ptr_of}
use Rattle.ct_settings.specs.Values.{one, many, words, truth, untruth}
use Rattle.ct_settings.specs.Rows.{Read, ◌>>=◌, section, row}

abbrev pub adding : List ℕ → List Pattern
adding path = record { add = true; path = path } ∷ []

abbrev pub project_of : Node → Read Project
project_of node = do
  project ← section (codes ":project") node
  build_root ← row project (codes ":build_root") (one path_of) (codes "build")
  test_prefix ← row project (codes ":test_file_prefix") (one prefix_of) (codes "test_")
  Ok (record { build_root = build_root; test_prefix = test_prefix })

abbrev pub paths_of : Node → Read Paths
paths_of node = do
  paths ← section (codes ":paths") node
  test ← row paths (codes ":test") (many pattern_of) (adding (codes "test/**"))
  source ← row paths (codes ":source") (many pattern_of) (adding (codes "src/**"))
  include ← row paths (codes ":include") (many pattern_of) []
  support ← row paths (codes ":support") (many pattern_of) []
  Ok (record { test = test; source = source; include = include; support = support })

-- of a name that stands twice the last text counts
abbrev pub defines_of : Node → Read (List Define)
defines_of node = do
  defines ← section (codes ":defines") node
  common ← row defines (codes ":common") (many define_of) []
  test ← row defines (codes ":test") (many define_of) []
  Ok (last_defines (common ++ test))

abbrev pub cmock_of : Node → Read Cmock
cmock_of node = do
  cmock ← section (codes ":cmock") node
  mock_prefix ← row cmock (codes ":mock_prefix") (one mock_prefix_of) (codes "mock_")
  plugins ← row cmock (codes ":plugins") words []
  strict ← row cmock (codes ":enforce_strict_ordering") untruth false
  when_ptr ← row cmock (codes ":when_ptr") (one when_ptr_of) Smart
  callback_count ← row cmock (codes ":callback_include_count") truth true
  Ok (record {
    mock_prefix = mock_prefix;
    ignore = has_word (codes "ignore") plugins;
    ignore_arg = has_word (codes "ignore_arg") plugins;
    array = has_word (codes "array") plugins;
    callback = has_word (codes "callback") plugins;
    return_thru_ptr = has_word (codes "return_thru_ptr") plugins;
    expect_any_args = has_word (codes "expect_any_args") plugins;
    strict = strict;
    when_ptr = when_ptr;
    callback_count = callback_count;
  })

-- the settings of a tree, or the first refusal in the order of the table
abbrev pub settings_of : Node → Read ProjectSettings
settings_of node = do
  project ← project_of node
  paths ← paths_of node
  defines ← defines_of node
  cmock ← cmock_of node
  Ok (record {
    build_root = project.build_root;
    test_prefix = project.test_prefix;
    test = paths.test;
    source = paths.source;
    include = paths.include;
    support = paths.support;
    defines = defines;
    cmock = cmock;
  })

-- the build root is a path, and each pattern's path the root or a path
pub record ArePaths (settings : ProjectSettings) : Type 0 where
  pub build_root : IsTrue (is_path settings.build_root)
  pub test : All (λ pattern. IsFolderPath pattern.path) settings.test
  pub source : All (λ pattern. IsFolderPath pattern.path) settings.source
  pub include : All (λ pattern. IsFolderPath pattern.path) settings.include
  pub support : All (λ pattern. IsFolderPath pattern.path) settings.support
