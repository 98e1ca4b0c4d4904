-- How far an expansion has come, and what the rest of it gives. No public clause speaks of it.
use Rattle.std.specs.Prelude.{◌≡◌, ℕ, ◌+◌, ◌-◌, ◌*◌, List, [], ◌∷◌, ◌++◌, length}
use Rattle.ct_macro_call.specs.declared.definition.Macro.{Macro}
use Rattle.ct_macro_call.specs.declared.marked.Marked.{Marked}
use Rattle.ct_macro.specs.declared.reading.Step.{Step}
use Rattle.ct_macro.specs.declared.reading.Step.TheVariants as step
use Rattle.ct_macro.specs.declared.expander.Frame.{Frame}
use Rattle.ct_macro.specs.declared.expander.Expander.{Expander}
use Rattle.ct_macro.specs.Expansion.{Reading, kept, refused, replaced, ExpansionOutcome, done, stopped, led_all, Expands, ExpandsEach, Continues}

-- the code's answer for a token is this reading; what is left behind it
abbrev pub StepGives : Marked → List Marked → Step → List Marked → Reading → Type 0
StepGives first rest (step.Kept token) after reading = (reading ≡ kept) × (token ≡ first) × (after ≡ rest)
StepGives first rest (step.Refused kind name) after reading = (reading ≡ refused kind) × (name ≡ first)
StepGives first rest (step.Replaced call fulls) after reading = reading ≡ replaced call fulls after

module _ (macros : List Macro) (room : ℕ) where
  -- what the list becomes in which a call stands, once so many of its arguments are expanded
  pub record Finishes (frame : Frame) (fulls : List (List Marked)) (counted : ℕ) (whole : ExpansionOutcome (List Marked)) : Type 0 where
    pub more : ExpansionOutcome (List (List Marked))
    pub rest : ExpansionOutcome (List Marked)
    pub each : ExpandsEach macros room counted frame.waiting more
    pub continues : Continues macros room frame.condition frame.call frame.rest (led_all fulls more) rest
    pub whole_is : whole ≡ led_all frame.done rest

  -- the same, from what the argument that is being expanded becomes
  abbrev pub ResumesOne : Frame → ExpansionOutcome (List Marked) → ExpansionOutcome (List Marked) → Type 0
  ResumesOne frame (stopped fault) whole = whole ≡ stopped fault
  ResumesOne frame (done tokens counted) whole = Finishes frame (frame.fulls ++ tokens ∷ []) counted whole

  -- what the whole list becomes, from what the innermost one does
  abbrev pub Resumes : List Frame → ExpansionOutcome (List Marked) → ExpansionOutcome (List Marked) → Type 0
  Resumes [] inner outer = outer ≡ inner
  Resumes (frame ∷ frames) inner outer = (whole : ExpansionOutcome (List Marked)) × ResumesOne frame inner whole × Resumes frames whole outer

  abbrev pub GoesOn : Frame → ℕ → List Frame → ExpansionOutcome (List Marked) → Type 0
  GoesOn frame counted frames outer =
      (whole : ExpansionOutcome (List Marked)) × Finishes frame frame.fulls counted whole × Resumes frames whole outer

  abbrev pub Comes : Expander → ExpansionOutcome (List Marked) → Type 0
  Comes state outer =
      (inner : ExpansionOutcome (List Marked)) × Expands macros room state.condition state.counted state.rest inner × Resumes state.calls (led_all state.done inner) outer

-- ---- how much is still to be read

abbrev pub weight_each : List (List Marked) → ℕ
weight_each [] = 0
weight_each (tokens ∷ lists) = length tokens + 1 + weight_each lists

abbrev pub weight_frame : Frame → ℕ
weight_frame frame = weight_each frame.waiting + length frame.rest + 1

abbrev pub weight_frames : List Frame → ℕ
weight_frames [] = 0
weight_frames (frame ∷ frames) = weight_frame frame + weight_frames frames

abbrev pub weight : ℕ → Expander → ℕ
weight room state = 2 * (room - state.counted) + length state.rest + weight_frames state.calls
