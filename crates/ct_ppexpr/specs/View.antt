-- What the code holds, as the machine has it.
use Rattle.std.specs.Prelude.{◌≡◌, List, [], ◌∷◌, Option, Some, None}
use Rattle.ct_ppexpr.specs.declared.values.Value.{Value}
use Rattle.ct_ppexpr.specs.declared.open.Frame.{Frame}
use Rattle.ct_ppexpr.specs.declared.open.Frame.TheVariants as f
use Rattle.ct_ppexpr.specs.declared.open.Mode.{Mode}
use Rattle.ct_ppexpr.specs.declared.open.Mode.TheVariants as m
use Rattle.ct_ppexpr.specs.declared.open.Open.{Open}
use Rattle.ct_ppexpr.specs.Machine as machine

abbrev pub frame_of : Frame → machine.Frame Value
frame_of f.Paren = machine.InParen
frame_of (f.Prefix op) = machine.InPrefix op
frame_of (f.Between op left) = machine.InBetween op left
frame_of (f.First test) = machine.InYes test
frame_of (f.Second test one) = machine.InNo test one

abbrev pub mode_of : Mode → machine.Mode Value
mode_of m.Want = machine.Want
mode_of (m.Have x) = machine.Have x

-- the last is the innermost
abbrev pub stack_onto : List Frame → machine.Stack Value → machine.Stack Value
stack_onto [] s = s
stack_onto (f ∷ fs) s = stack_onto fs (frame_of f ∷ s)

abbrev pub stack : Open → machine.Stack Value
stack o = stack_onto o.frames.items []

-- what a step came to
abbrev pub Stepped : machine.Stack Value → Option Mode → machine.Step Value → Type 0
Stepped s None r = r ≡ None
Stepped s (Some mode) r = r ≡ Some (s, mode_of mode)
