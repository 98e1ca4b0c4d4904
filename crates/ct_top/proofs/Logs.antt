-- The logs of the files that were run so far.
use Rattle.std.proofs.Common.{inl, inr, ◌≡◌, ℕ, zero, suc, ◌+◌, ◌<◌, List, [], ◌∷◌, ◌++◌, length, get_or, drop, refl, sym, ap, subst, append_assoc, append-nil, arith, add-one}
use Rattle.std.specs.Prelude.{Result, Ok, Err}
use Rattle.ct_base.specs.Answers.{IfFault, OnAnswer}
use Rattle.ct_base.specs.declared.memory.Fail.{Fail}
use Rattle.ct_base.specs.declared.memory.Fail.TheVariants.{Fault, OutOfMemory}
use Rattle.ct_base.specs.declared.refusals.Refusal.{Refusal}
use Rattle.ct_outside.specs.Files.{Files}
use Rattle.ct_report.specs.declared.logs.RunLog.{RunLog}
use Rattle.ct_top.specs.Meaning.{FileMeans}
use Rattle.ct_top.specs.Project.{FilesMean, LogsOrRefusal, text_at, with_log}

-- these logs stand before those of an outcome
abbrev pub behind : List RunLog → LogsOrRefusal → LogsOrRefusal
behind logs (Ok more) = Ok (logs ++ more)
behind logs (Err refusal) = Err refusal

pub behind-none : (o : LogsOrRefusal) → behind [] o ≡ o
behind-none (Ok more) = refl
behind-none (Err refusal) = refl

behind-with_log : (logs : List RunLog) (log : RunLog) (o : LogsOrRefusal) → behind logs (with_log log o) ≡ behind (logs ++ log ∷ []) o
behind-with_log logs log (Ok more) = ap Ok (sym (append_assoc logs (log ∷ []) more))
behind-with_log logs log (Err refusal) = refl

-- what follows an index begins with the element there
pub from_here : (paths : List (List ℕ)) (i : ℕ) (path : List ℕ) → i < length paths → path ≡ get_or paths i path → drop i paths ≡ path ∷ drop (i + 1) paths
from_here paths i path within is = rw add-one (go paths i within is)
  where
    go : (paths : List (List ℕ)) (i : ℕ) → i < length paths → path ≡ get_or paths i path → drop i paths ≡ path ∷ drop (suc i) paths
    go [] i within is = absurd (omega arith)
    go (p ∷ ps) zero within is = ap (λ q. q ∷ ps) (sym is)
    go (p ∷ ps) (suc i) within is = go ps i (omega arith) is

-- one more file was run
pub ran_one : (files : Files) (paths : List (List ℕ)) (i : ℕ) (path text : List ℕ) (logs : List RunLog) (log : RunLog) → i < length paths → path ≡ get_or paths i path
    → text ≡ text_at files path → FileMeans path text (Ok log)
    → ((o : LogsOrRefusal) → FilesMean files (drop i paths) o → FilesMean files paths (behind logs o))
    → (o : LogsOrRefusal) → FilesMean files (drop (i + 1) paths) o → FilesMean files paths (behind (logs ++ log ∷ []) o)
ran_one files paths i path text logs log within is reads means so_far o rest =
    let means_here : FileMeans path (text_at files path) (Ok log) = subst (λ t. FileMeans path t (Ok log)) reads means in
    let here : FilesMean files (path ∷ drop (i + 1) paths) (with_log log o) = inr (log, o, means_here, rest, refl) in
    subst (FilesMean files paths) (behind-with_log logs log o)
    (so_far (with_log log o) (subst (λ ps. FilesMean files ps (with_log log o)) (sym (from_here paths i path within is)) here))

-- the next file is refused
pub refused_here : (files : Files) (paths : List (List ℕ)) (i : ℕ) (path text : List ℕ) (logs : List RunLog) (refusal : Refusal) → i < length paths → path ≡ get_or paths i path
    → text ≡ text_at files path → FileMeans path text (Err refusal)
    → ((o : LogsOrRefusal) → FilesMean files (drop i paths) o → FilesMean files paths (behind logs o))
    → FilesMean files paths (Err refusal)
refused_here files paths i path text logs refusal within is reads means so_far =
    let means_here : FileMeans path (text_at files path) (Err refusal) = subst (λ t. FileMeans path t (Err refusal)) reads means in
    let here : FilesMean files (path ∷ drop (i + 1) paths) (Err refusal) = inl (refusal, means_here, refl) in
    so_far (Err refusal) (subst (λ ps. FilesMean files ps (Err refusal)) (sym (from_here paths i path within is)) here)

-- all were run
pub ran_all : (files : Files) (paths : List (List ℕ)) (i : ℕ) (logs : List RunLog) → drop i paths ≡ []
    → ((o : LogsOrRefusal) → FilesMean files (drop i paths) o → FilesMean files paths (behind logs o)) → FilesMean files paths (Ok logs)
ran_all files paths i logs end so_far =
    subst (λ ls. FilesMean files paths (Ok ls)) (append-nil logs) (so_far (Ok []) (subst (λ ps. FilesMean files ps (Ok [])) (sym end) refl))

-- what running a file says, by the file's own path
pub named_so : (path named text : List ℕ) (answer : Result RunLog Refusal) → named ≡ path → FileMeans named text answer → FileMeans path text answer
named_so path named text answer same means = subst (λ n. FileMeans n text answer) same means

-- running a file failed
pub failed_here : (T : Type 0) (files : Files) (paths : List (List ℕ)) (i : ℕ) (path named text : List ℕ) (logs : List RunLog) (f : Fail Refusal)
    → i < length paths → path ≡ get_or paths i path → named ≡ path → text ≡ text_at files path
    → OnAnswer {T = RunLog} (Err f) (FileMeans named text) → ((o : LogsOrRefusal) → FilesMean files (drop i paths) o → FilesMean files paths (behind logs o))
    → IfFault {T = T} (Err f) (λ refusal. FilesMean files paths (Err refusal))
failed_here T files paths i path named text logs (Fault refusal) within is same reads means so_far =
    refused_here files paths i path text logs refusal within is reads (subst (λ n. FileMeans n text (Err refusal)) same means) so_far
failed_here T files paths i path named text logs OutOfMemory within is same reads means so_far = tt
