use Rattle.std.proofs.Common.{◌≤◌, ◌∙◌, length, subst, List, ℕ, sym, Ok, Err}
use Rattle.std.specs.Prelude.{reverse}
use Rattle.std.specs.List.{Contains}
use Rattle.ct_find.specs.Finding.{CountTells}
use Rattle.ct_find.specs.Limits.{most_files}
use Rattle.ct_find.specs.Rows.{AreThere, ReadsListedFiles}
use Rattle.ct_find.proofs.FindLemmas.{count_stops, found_is, kept_has, listed_by, read_fails}
use Rattle.ct_find.proofs.search.find_listed.Goals as goal

pub returns-in-Err-check_count-clause-told : goal.returns-in-Err-check_count-clause-told
returns-in-Err-check_count-clause-told g c files told =
    count_stops c.args.settings.now files c.in_ok-lists.lists c.in_ok-paths.paths c.in-Err-check_count.fail
    (listed_by c.args.settings.now files (reverse c.in_ok-left.left.items) c.in-Ok.listing c.in_ok-lists.lists c.in_ok-paths.paths c.in_ok-left.ensures
    (rw c.as_str.ensures at (c.in-Ok.ensures.told files told)) (rw c.as_slice.ensures at c.in_ok-lists.ensures) c.in_ok-paths.ensures)
    (subst (λ (ps : List (List ℕ)). CountTells ps (Err c.in-Err-check_count.fail)) c.as_slice-2.ensures c.in-Err-check_count.ensures.limit)

pub returns-in-Err-read_files-clause-told : goal.returns-in-Err-read_files-clause-told
returns-in-Err-read_files-clause-told g c files told =
    read_fails c.args.settings.now files c.in_ok-lists.lists c.in_ok-paths.paths c.in-Err-read_files.fail
    (listed_by c.args.settings.now files (reverse c.in_ok-left.left.items) c.in-Ok.listing c.in_ok-lists.lists c.in_ok-paths.paths c.in_ok-left.ensures
    (rw c.as_str.ensures at (c.in-Ok.ensures.told files told)) (rw c.as_slice.ensures at c.in_ok-lists.ensures) c.in_ok-paths.ensures)
    (subst (λ (ps : List (List ℕ)). length ps ≤ most_files) c.as_slice-2.ensures c.in_default.ensures.ok)
    (λ there. subst (λ (ps : List (List ℕ)). ReadsListedFiles files ps (Err c.in-Err-read_files.fail)) c.as_slice-3.ensures (c.in-Err-read_files.ensures.told files (c.in-Ok.ensures.same_files ∙ told) (subst (λ (ps : List (List ℕ)). AreThere files ps) (sym c.as_slice-3.ensures) there)))

pub returns-clause-told : goal.returns-clause-told
returns-clause-told g c files told =
    let listed = listed_by c.args.settings.now files (reverse c.in_ok-left.left.items) c.in-Ok.listing c.in_ok-lists.lists c.in_ok-paths.paths c.in_ok-left.ensures
    (rw c.as_str.ensures at (c.in-Ok.ensures.told files told)) (rw c.as_slice.ensures at c.in_ok-lists.ensures) c.in_ok-paths.ensures in (
      c.in_ok-lists.lists,
      c.in_ok-paths.paths,
      listed,
      (subst (λ (ps : List (List ℕ)). length ps ≤ most_files) c.as_slice-2.ensures c.in_default.ensures.ok),
      λ there.
          let reads = subst (λ (ps : List (List ℕ)). ReadsListedFiles files ps (Ok c.in-Ok-read_files.texts)) c.as_slice-3.ensures (c.in-Ok-read_files.ensures.told files (c.in-Ok.ensures.same_files ∙ told) (subst (λ (ps : List (List ℕ)). AreThere files ps) (sym c.as_slice-3.ensures) there)) in
          let same = found_is files c.in-Ok-read_files.texts c.in_ok-lists.lists c.in_ok-paths.paths c.in_ok-with_text.field-0 c.in_ok-with_text-2.field-0 c.in_ok-with_text-3.field-0 c.in_ok-paths.ensures there reads.1
          (rw c.as_slice-4.ensures at c.in_ok-with_text.ensures) (rw c.as_slice-5.ensures at c.in_ok-with_text-2.ensures) (rw c.as_slice-6.ensures at c.in_ok-with_text-3.ensures) in
          (reads, λ i. record { tests = same.0 i; sources = same.1 i; headers = same.2 i; folders = c.in_ok-lists.lists.folders; texts = c.in-Ok-read_files.texts }),
    )

pub returns-clause-texts : goal.returns-clause-texts
returns-clause-texts g c = record {
  tests = λ p m. kept_has c.in-Ok-read_files.texts c.as_slice-4.result.now p (subst (λ (ps : List (List ℕ)). Contains ps p) c.in_ok-with_text.ensures m);
  sources = λ p m. kept_has c.in-Ok-read_files.texts c.as_slice-5.result.now p (subst (λ (ps : List (List ℕ)). Contains ps p) c.in_ok-with_text-2.ensures m);
  headers = λ p m. kept_has c.in-Ok-read_files.texts c.as_slice-6.result.now p (subst (λ (ps : List (List ℕ)). Contains ps p) c.in_ok-with_text-3.ensures m);
}
