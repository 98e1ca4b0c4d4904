-- What contracts see of a tree in memory.
use Rattle.std.specs.Prelude.{ℕ, List}
use Rattle.std.specs.Coded.{Coded, coded_ℕ, coded_list}
use Rattle.std.specs.FinMap.{code}
use Rattle.ct_outside.specs.Files.{Files}
use Rattle.ct_outside.specs.declared.mem_tree.TreeCall.{TreeCall}

pub record TreeState : Type 0 where
  -- the files, by their paths
  pub files : Files
  -- the calls that fail: the k-th call of a kind, the first being number 1
  pub failing : List (TreeCall × ℕ)
  -- how many lists, reads and writes there were
  pub lists : ℕ
  pub reads : ℕ
  pub writes : ℕ
  -- how many lists and reads failed, and how many writes
  pub read_faults : ℕ
  pub write_faults : ℕ

-- how a proof tells maps of files apart
abbrev pub files_code : Coded Files
files_code = code (coded_list coded_ℕ) (coded_list coded_ℕ)
