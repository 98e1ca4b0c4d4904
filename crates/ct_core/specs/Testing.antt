-- How a test stands, and what fails it. The rules are this project's own, after Unity.
use Rattle.std.specs.Prelude.{ℕ, List, [], ◌++◌, Option, Some, None, unwrap_or, codes, decimal}
use Rattle.ct_base.specs.declared.faults.FaultKind.{FaultKind}
use Rattle.ct_base.specs.declared.faults.FaultKind.TheVariants.{NullPointer, DeadObject, OutOfBounds, Misaligned, WriteConst, Uninitialised, PointerBytes, SignedOverflow, DivideByZero, ShiftRange, PointerRange, PointerOrder, PointerDifference, BadCall, MissingReturn, Overlap, BadFree, CallDepth, StepBudget}
use Rattle.ct_report.specs.declared.logs.Verdict.{Verdict}
use Rattle.ct_report.specs.declared.logs.Verdict.TheVariants.{Pass, Fail}
use Rattle.ct_report.specs.declared.logs.TestLine.{TestLine}
use Rattle.ct_core.specs.declared.testing.TestState.{TestState}

-- a test that begins: it has no verdict
abbrev pub begun_test : List ℕ → List ℕ → ℕ → TestState
begun_test file name line = record { file = file; name = name; line = line; verdict = None; text = []; infos = [] }

-- The first verdict of a test stays, with its line and text. Until there is one, `line` is the test's own.
abbrev pub judged_by : Option Verdict → Verdict → ℕ → List ℕ → TestState → TestState
judged_by None verdict line text test = record test { verdict = Some verdict; line = line; text = text }
judged_by (Some earlier) verdict line text test = test

abbrev pub judged : Verdict → ℕ → List ℕ → TestState → TestState
judged verdict line text test = judged_by test.verdict verdict line text test

-- the line of the log; a test that ended without a verdict passed
abbrev pub finished : TestState → TestLine
finished test = record { name = test.name; line = test.line; verdict = unwrap_or test.verdict Pass; text = test.text; infos = test.infos }

abbrev pub fault_name : FaultKind → List ℕ
fault_name NullPointer = codes "NullPointer"
fault_name DeadObject = codes "DeadObject"
fault_name OutOfBounds = codes "OutOfBounds"
fault_name Misaligned = codes "Misaligned"
fault_name WriteConst = codes "WriteConst"
fault_name Uninitialised = codes "Uninitialised"
fault_name PointerBytes = codes "PointerBytes"
fault_name SignedOverflow = codes "SignedOverflow"
fault_name DivideByZero = codes "DivideByZero"
fault_name ShiftRange = codes "ShiftRange"
fault_name PointerRange = codes "PointerRange"
fault_name PointerOrder = codes "PointerOrder"
fault_name PointerDifference = codes "PointerDifference"
fault_name BadCall = codes "BadCall"
fault_name MissingReturn = codes "MissingReturn"
fault_name Overlap = codes "Overlap"
fault_name BadFree = codes "BadFree"
fault_name CallDepth = codes "CallDepth"
fault_name StepBudget = codes "StepBudget"

-- `Fault NAME at FILE:LINE`
abbrev pub fault_text : FaultKind → List ℕ → ℕ → List ℕ
fault_text fault file line = codes "Fault " ++ fault_name fault ++ codes " at " ++ file ++ codes ":" ++ decimal line

-- a fault at this place fails the test, at the test's own line
abbrev pub faulted : FaultKind → List ℕ → ℕ → TestState → TestState
faulted fault file line test = judged Fail test.line (fault_text fault file line) test
