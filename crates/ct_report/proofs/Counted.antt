-- Counts of tests.
use Rattle.std.proofs.Common.{◌≡◌, ℕ, ◌+◌, ◌*◌, ◌≤◌, ◌^◌, Bool, ◌||◌, codes, if◌then◌else◌, true, false, cond, List, [], ◌∷◌, ◌++◌, refl, ◌∙◌, ap, append_assoc, arith, nat_lt}
use Rattle.std.proofs.lemmas.Bool.Decides.{nat_tests}
use Rattle.std.specs.List.{list_any, count_by}
use Rattle.std.proofs.lemmas.List.Sums.{sum_by-cons}
use Rattle.ct_report.specs.declared.counts.Counts.{Counts}
use Rattle.ct_report.specs.declared.logs.TestLine.{TestLine}
use Rattle.ct_report.specs.declared.logs.RunLog.{RunLog}
use Rattle.ct_report.specs.Report.{all_tests, is_failure, newline, count_line, word_line, footer_of, summary_of}
use Rattle.ct_report.specs.Counting.{counts_of, counts_text, word_after}

-- what each of so many files can add
pub record AreWithin (files : ℕ) (counts : Counts) : Type 0 where
  pub tests : counts.tests ≤ files * 2 ^ 63
  pub failures : counts.failures ≤ files * 2 ^ 63
  pub ignored : counts.ignored ≤ files * 2 ^ 63

-- an element passes the test exactly where their number is above 0
pub list_any-count_by : {X : Type 0} (p : X → Bool) (xs : List X) → list_any p xs ≡ nat_lt 0 (count_by p xs)
list_any-count_by p [] = refl
list_any-count_by p (x ∷ xs) = rw (sum_by-cons (λ y. cond (p y) 1 0) x xs) (step (p x) (list_any p xs) (count_by p xs) (list_any-count_by p xs)) where
  step : (b any : Bool) (n : ℕ) → any ≡ nat_lt 0 n → (b || any) ≡ nat_lt 0 (cond b 1 0 + n)
  step true any n is = grind (arith, nat_tests)
  step false any n is = grind (arith, nat_tests, is)

-- the word is the one behind the counts
pub word_line-counts_of : (tests : List TestLine) → word_line tests ≡ word_after (counts_of tests).failures ++ newline
word_line-counts_of tests = ap (λ b. (if b then codes "FAIL" else codes "OK") ++ newline) (list_any-count_by is_failure tests)

-- so the text of the counts is the line of the counts and the word
pub counts_text-counts_of : (tests : List TestLine) → counts_text (counts_of tests) ≡ count_line tests ++ word_line tests
counts_text-counts_of tests = rw word_line-counts_of (append_assoc (count_line tests) (word_after (counts_of tests).failures) newline)

-- a text that grew twice, with the parts of its second addition apart
regroup_two : (old head count word first new : List ℕ) → first ≡ old ++ head → new ≡ first ++ (count ++ word) → new ≡ old ++ ((head ++ count) ++ word)
regroup_two old head count word first new one two = two ∙ ap (λ front. front ++ (count ++ word)) one ∙ simp append_assoc

-- the same, with an end
regroup : (old head count word end first second new : List ℕ) → first ≡ old ++ head → second ≡ first ++ (count ++ word) → new ≡ second ++ end → new ≡ old ++ (((head ++ count) ++ word) ++ end)
regroup old head count word end first second new one two three =
    three ∙ ap (λ front. front ++ end) (regroup_two old head count word first second one two) ∙ append_assoc old ((head ++ count) ++ word) end

-- what the three steps of a footer append
pub appended_footer : (log : RunLog) (old first second new : List ℕ) → first ≡ old ++ (codes "-----------------------" ++ newline) → second ≡ first ++ counts_text (counts_of log.tests) → new ≡ second ++ newline → new ≡ old ++ footer_of log
appended_footer log old first second new one two three =
    regroup old (codes "-----------------------" ++ newline) (count_line log.tests) (word_line log.tests) newline first second new one (two ∙ ap (λ text. first ++ text) (counts_text-counts_of log.tests)) three

-- what the two steps of a summary append
pub appended_summary : (logs : List RunLog) (old first new : List ℕ) → first ≡ old ++ (codes "OVERALL" ++ newline) → new ≡ first ++ counts_text (counts_of (all_tests logs)) → new ≡ old ++ summary_of logs
appended_summary logs old first new one two =
    regroup_two old (codes "OVERALL" ++ newline) (count_line (all_tests logs)) (word_line (all_tests logs)) first new one (two ∙ ap (λ text. first ++ text) (counts_text-counts_of (all_tests logs)))

pub ruleset failing = (list_any-count_by)
