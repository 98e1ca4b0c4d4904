-- Which productions the end of a statement ends.
use Rattle.std.specs.Prelude.{Bool, true, false}
use Rattle.ct_parser_state.specs.Code.{is_passed}
use Rattle.ct_parser_state.specs.declared.frames.Frame.{Frame}
use Rattle.ct_parser_state.specs.declared.frames.Frame.TheVariants.{Statement}
use Rattle.ct_parser_state.specs.declared.frames.StatementFrame.TheVariants as t

-- whether the end of its last part ends a production
abbrev pub is_ended : Frame → Bool
is_ended (Statement (t.Do at)) = false
is_ended (Statement x) = true
is_ended _ = false

-- whether an `else` behind its last part ends it too
abbrev pub is_closed : Frame → Bool
is_closed (Statement x) = is_passed x
is_closed _ = false
