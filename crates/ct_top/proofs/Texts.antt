-- The report so far.
use Rattle.std.proofs.Common.{◌≡◌, ℕ, ◌+◌, ◌<◌, List, [], ◌∷◌, ◌++◌, length, get_or, take, sym, ap, ◌∙◌, append_assoc, append-nil}
use Rattle.std.specs.Prelude.{flat_map}
use Rattle.std.proofs.lemmas.List.{take_more}
use Rattle.std.proofs.lemmas.Grind.{flat_map-append}
use Rattle.std.proofs.Math.Seq.{take-length}
use Rattle.ct_report.specs.declared.logs.RunLog.{RunLog}
use Rattle.ct_report.specs.Report.{footer_of, lines_of, report_of, summary_of}

abbrev pub block : RunLog → List ℕ
block log = lines_of log ++ footer_of log

-- one more log
pub block_more : (logs : List RunLog) (i : ℕ) (log : RunLog) (old middle new : List ℕ) → i < length logs → log ≡ get_or logs i log
    → old ≡ flat_map (λ l. lines_of l ++ footer_of l) (take i logs) → middle ≡ old ++ lines_of log → new ≡ middle ++ footer_of log
    → new ≡ flat_map (λ l. lines_of l ++ footer_of l) (take (i + 1) logs)
block_more logs i log old middle new within is so_far first second =
    let f : RunLog → List ℕ = λ l. lines_of l ++ footer_of l in
    let more : take (i + 1) logs ≡ take i logs ++ log ∷ [] = take_more logs i log within ∙ ap (λ l. take i logs ++ l ∷ []) (sym is) in
    let right : flat_map f (take (i + 1) logs) ≡ flat_map f (take i logs) ++ (lines_of log ++ footer_of log) =
    ap (flat_map f) more ∙ flat_map-append f (take i logs) (log ∷ []) ∙ ap (λ t. flat_map f (take i logs) ++ t) (append-nil (lines_of log ++ footer_of log)) in
    second ∙ ap (λ m. m ++ footer_of log) first ∙ append_assoc old (lines_of log) (footer_of log)
    ∙ ap (λ o. o ++ (lines_of log ++ footer_of log)) so_far ∙ sym right

-- the whole report
pub report_whole : (logs : List RunLog) (i : ℕ) (old new : List ℕ) → i ≡ length logs → old ≡ flat_map (λ l. lines_of l ++ footer_of l) (take i logs)
    → new ≡ old ++ summary_of logs → new ≡ report_of logs
report_whole logs i old new end so_far last =
    let all : take i logs ≡ logs = rw end (take-length logs) in
    last ∙ ap (λ o. o ++ summary_of logs) (so_far ∙ ap (flat_map (λ l. lines_of l ++ footer_of l)) all)
